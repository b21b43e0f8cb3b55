-- What the local work of a scheduler keeps by itself, and where it leaves the scheduler; the state
-- that it comes to gives the rest.
use Rattle.std.specs.Prelude.{◌≡◌, ◌≢◌, ◌⊎◌, ℕ, ◌+◌, ◌≤◌, true, false, List, [], ◌∷◌, ◌++◌}
use Rattle.std.specs.Prelude.{Option, None, Some, Ok, AllPairs}
use Rattle.std.specs.List.{AllZip}
use Rattle.ea_model.specs.Entries.{Entry}
use Rattle.ea_model.specs.declared.operations.Op.{Op}
use Rattle.ea_model.specs.declared.operations.Op.TheVariants as op
use Rattle.ea_model.specs.Instance.{Instance, chosen_spot, plan, owner_of}
use Rattle.ea_model.specs.Keyed.{IsBelow}
use Rattle.ea_model.specs.Content.{Content}
use Rattle.ea_laws.specs.Kept.{Stands}
use Rattle.ea_machine.specs.Searches.{goes_on}
use Rattle.ea_machine.specs.declared.nodes.Node.{Node}
use Rattle.ea_machine.specs.declared.nodes.Node.TheVariants.{Block, Carrier}
use Rattle.ea_machine.specs.declared.owners.OwnerWord.TheVariants as word
use Rattle.ea_machine.specs.declared.stages.Stage.{Stage}
use Rattle.ea_machine.specs.declared.stages.Stage.TheVariants.{Begin, Routed, Collecting, Searching}
use Rattle.ea_machine.specs.declared.stages.Stage.TheVariants.{Fetching, Creating, Giving, Taking}
use Rattle.ea_machine.specs.declared.stages.Stage.TheVariants.{Ended, Ready}
use Rattle.ea_machine.specs.declared.stages.Route.{Route}
use Rattle.ea_machine.specs.declared.stages.Route.TheVariants.{Looking, Trying, Settling}
use Rattle.ea_machine.specs.declared.stages.Route.TheVariants.{Abandoning, Sending, Clearing}
use Rattle.ea_machine.specs.declared.stages.Route.TheVariants.{Pushing, Linking}
use Rattle.ea_machine.specs.Actor.{Actor}
use Rattle.ea_machine.specs.declared.tasks.Why.{Why}
use Rattle.ea_machine.specs.declared.asks.Ask.{Ask}
use Rattle.ea_machine.specs.Nodes.{first_node, named_at, name_of}
use Rattle.ea_machine.specs.declared.nodes.Named.{Named}
use Rattle.ea_machine.specs.Releases.{Turned}
use Rattle.ea_machine.specs.Setup.{Setup, is_scheduler, migration}
use Rattle.ea_machine.specs.Shared.{Shared}
use Rattle.ea_sound.specs.Listed.{LooksAt}
use Rattle.ea_sound.specs.Present.{HasLeft}
use Rattle.ea_sound.specs.Contents.{hand_sum, route_sum}
use Rattle.ea_sound.specs.Entries.{Makes}
use Rattle.ea_sound.specs.Names.{made_in, unplaced, unplaced_by}
use Rattle.ea_sound.specs.Blocks.{EmploysMain}
use Rattle.ea_sound.specs.Present.{FitsRoute, OfAsk, OfWhy, OldHeld}
use Rattle.ea_sound.specs.Rule.{Standing}
use Rattle.ea_sound.proofs.FewBlocks.{Counting, all_named, blocks_named}
use Rattle.ea_sound.proofs.KeyedWeights.{times}
use Rattle.ea_sound.proofs.Staying.{AllStay}

module _ (e : Setup) (s : Shared) (me : ℕ) where
  -- where a route may rest
  abbrev pub SuitsRoute : Route Content → Type 0
  SuitsRoute (Looking hand) = migration e ≡ true
  SuitsRoute (Trying hand seen) = FitsRoute e s me (Trying hand seen)
  SuitsRoute (Settling x) = FitsRoute e s me (Settling x)
  SuitsRoute (Abandoning x) = FitsRoute e s me (Abandoning x)
  SuitsRoute (Sending x) = FitsRoute e s me (Sending x)
  SuitsRoute (Clearing x) = FitsRoute e s me (Clearing x)
  SuitsRoute (Pushing (Block name spot) to) = (to ≢ me)
      × ((is_scheduler e to ≡ true) ⊎ ((migration e ≡ false) × (to ≡ owner_of spot.carrier)))
  SuitsRoute (Pushing (Carrier number) to) = FitsRoute e s me (Pushing (Carrier number) to)
  SuitsRoute (Linking node to) = Unit {0}

  -- what is asked for is the operation's
  abbrev pub Wants : Actor → Ask → Type 0
  Wants a ask = OfAsk ask a.todo × OldHeld ask.old a.held

  -- where a scheduler may be; R is what is known of one that is ready
  abbrev pub Suits : (Actor → Type 0) → Actor → Stage Content → Type 0
  Suits R a Begin = Unit {0}
  Suits R a (Routed route why gone) = SuitsRoute route × OfWhy why a.todo
  Suits R a (Collecting number) = Unit {0}
  Suits R a (Searching ask at part) = Wants a ask × HasLeft e part × (goes_on part ≡ true)
      × (chosen_spot a.instance ask.need ≡ None) × (migration e ≡ true)
      × LooksAt e a.lists at part
  Suits R a (Fetching ask at part seen) = Wants a ask × HasLeft e part
      × (chosen_spot a.instance ask.need ≡ None) × (migration e ≡ true)
      × ((i largest : ℕ) × (seen ≡ word.Pooled i largest) × (ask.need ≤ largest))
      × LooksAt e a.lists at part
  Suits R a (Creating ask p) = Wants a ask × (plan a.instance ask.need ≡ Ok p)
      × (migration e ≡ true) × ((p.single ≡ true) ⊎ (chosen_spot a.instance ask.need ≡ None))
  Suits R a (Giving given to) = (named_at given.name a.held ≡ Some given)
      × ((ops : List Op) × (a.todo ≡ op.Give given.name to ∷ ops))
  Suits R a (Taking name tries left) =
      (left ≤ tries) × ((ops : List Op) × (a.todo ≡ op.Take name tries ∷ ops))
  Suits R a Ended = a.todo ≡ []
  Suits R a Ready = R a

  module _ (home bound : Counting → ℕ) where
    -- of a scheduler by its parts: `left` are the operations whose names are still to be made, and
    -- x counts the blocks of a name in its hand. With those at home and those to be made the blocks
    -- of a name are within the bound
    pub record Core (left : List Op) (x : Counting → ℕ) (i : Instance) (held : List Named)
        (todo : List Op) (log : List Entry) (next : Option Node) : Type 0 where
      pub stay : AllStay me i
      pub history : (done : List Op) × (e.texts me ≡ done ++ todo) × AllZip Makes done log
      pub walking : next ≡ first_node (s.rests me)
      pub few : (n : Counting)
          → all_named n i + x n + home n + made_in n.name left ≤ bound n
      pub rising : AllPairs (IsBelow name_of) held
      pub names : (n : ℕ) → times name_of n held + made_in n left ≤ 1
      pub stands : migration e ≡ false → Stands i
      pub main : EmploysMain e me i

    abbrev pub nothing : Counting → ℕ
    nothing n = 0

    abbrev pub CoreOf : List Op → (Counting → ℕ) → Actor → Type 0
    CoreOf left x a = Core left x a.instance a.held a.todo a.log a.next

    -- and its instance is in order
    pub record Bare (left : List Op) (a : Actor) : Type 0 where
      pub core : CoreOf left nothing a
      pub own : Standing e me a.instance

    -- where the local work leaves a scheduler
    pub record Good (R : Actor → Type 0) (a : Actor) : Type 0 where
      pub core : CoreOf (unplaced a.stage a.todo)
          (λ n. hand_sum (blocks_named n) (blocks_named n) a.stage) a
      pub suits : Suits R a a.stage

    -- what a route leaves, where it goes on or is over
    abbrev pub RouteGood : Why → Actor → Option (Route Content) → Type 0
    RouteGood y a None = Bare (unplaced_by y a.todo) a × OfWhy y a.todo
    RouteGood y a (Some r) = CoreOf (unplaced_by y a.todo)
        (λ n. route_sum (blocks_named n) (blocks_named n) r) a
        × (SuitsRoute r × OfWhy y a.todo)

    abbrev pub TurnedGood : Why → Turned → Type 0
    TurnedGood y t = RouteGood y t.actor t.route
