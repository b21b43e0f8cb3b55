-- The release of a block where carriers don't migrate: by its carrier's owner, or on the way to it.
use Rattle.std.specs.Prelude.{◌≡◌, ℕ, Bool, true, false, ◌==◌, Option, None, Some}
use Rattle.std.specs.Option.{option_map_or}
use Rattle.std.proofs.Common.{refl, ap, ◌∙◌, arith}
use Rattle.std.proofs.lemmas.Bool.{eqb-true}
use Rattle.ea_model.specs.Content.{Content, is_vacant}
use Rattle.ea_model.specs.Employment.{dismissing, disowning}
use Rattle.ea_model.specs.Instance.{Instance, content_of, employed, owner_of, releasing_at}
use Rattle.ea_model.proofs.Rising.{item_at-key}
use Rattle.ea_laws.specs.Kept.{number_of}
use Rattle.ea_machine.specs.declared.nodes.Named.{Named}
use Rattle.ea_machine.specs.declared.tasks.Gone.{Gone}
use Rattle.ea_machine.specs.declared.tasks.Gone.TheVariants.{Here, Open}
use Rattle.ea_machine.specs.declared.tasks.Task.{Task}
use Rattle.ea_machine.specs.declared.tasks.Task.TheVariants.{Freeing, Moving}
use Rattle.ea_machine.specs.declared.tasks.Why.{Why}
use Rattle.ea_machine.specs.Actor.{Actor}
use Rattle.ea_machine.specs.Releases.{Turned, abandoned_if, after_release}
use Rattle.ea_machine.specs.Releases.{dismissed, leaving, leaving_by, lightened, owned_by, route_of}
use Rattle.ea_machine.specs.Releases.{routed}
use Rattle.ea_machine.specs.Setup.{Setup, migration}
use Rattle.ea_machine.specs.Tasks.{carried, task_over}
use Rattle.ea_sound.proofs.Unmoved.{due-unmoved}
use Rattle.ea_sound.specs.Releasing.{deallocated_if, freed_at}
use Rattle.ea_sound.specs.Walking.{sent}

-- what the log says doesn't depend on whether the block was there
pub task-open : (task : Task) (a : Actor) → task_over task Open a ≡ task_over task Here a
task-open (Freeing name) a = refl
task-open (Moving old fresh place) a = refl

-- what comes after the route is told that the block was released here
module _ (setup : Setup) (me : ℕ) (off : migration setup ≡ false) (why : Why)
    (over : Gone → Actor → Actor) (alike : (b : Actor) → over Open b ≡ over Here b) (a : Actor)
  where
    -- the scheduler with that instance, when the route is over
    abbrev done : Instance → Actor
    done i = over Here (record a { instance = i })

    abbrev comes : Turned → Actor
    comes t = carried why over t

    module _ (i : Instance) (x : Content) (mine : owner_of x.number ≡ me) where
      abbrev b : Actor
      b = record a { instance = i }

      -- an emptied carrier is deallocated
      leaves : comes (leaving setup me x Here (dismissed x.number b))
          ≡ done (disowning (dismissing i x.number) x.number)
      leaves =
          let c = dismissed x.number b in
          let own : (owner_of x.number == me) ≡ true = grind (arith, mine) in
          ap (λ own. comes (leaving_by setup me own (migration setup) x Here c)) own
          ∙ ap (λ on. comes (leaving_by setup me true on x Here c)) off

      lightens : (vacant : Bool) → comes (lightened setup me vacant x Here b)
          ≡ done (deallocated_if vacant i x.number)
      lightens true = leaves
      lightens false = ap (λ due. comes (abandoned_if due x Here b))
          (due-unmoved setup i.count i.contents x off)

    by-content : (i : Instance) (n : ℕ) → owner_of n ≡ me → (o : Option Content)
        → content_of (employed i) n ≡ o
        → comes (after_release setup me Open (record a { instance = i }) o)
        ≡ done (deallocated_if (option_map_or is_vacant o false) i n)
    by-content i n mine None none = alike (record a { instance = i })
    by-content i n mine (Some x) there =
        let number = item_at-key number_of n x (employed i) there in
        lightens i x (ap owner_of number ∙ mine) (is_vacant x)
        ∙ ap (λ m. done (deallocated_if (is_vacant x) i m)) number

    module _ (hand : Named) where
      abbrev n : ℕ
      n = hand.spot.carrier

      turns : (own : Bool) → (owner_of n == me) ≡ own
          → comes (route_of setup me hand a) ≡ comes (owned_by setup me own hand a)
      turns own is = ap (λ on. comes (routed setup me on hand a)) off
          ∙ ap (λ own. comes (owned_by setup me own hand a)) is

      -- its owner releases the block at once
      pub released-here : (owner_of n == me) ≡ true
          → comes (route_of setup me hand a) ≡ done (freed_at a.instance hand.spot)
      released-here own =
          let i = releasing_at a.instance hand.spot in
          turns true own
          ∙ by-content i n (eqb-true (owner_of n) me own) (content_of (employed i) n) refl

      -- another scheduler queues it to the owner
      pub released-away : (owner_of n == me) ≡ false
          → comes (route_of setup me hand a) ≡ sent hand why a
      released-away other = turns false other
