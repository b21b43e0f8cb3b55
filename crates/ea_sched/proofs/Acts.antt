-- What the local work makes of an actor, by what it changes.
use Rattle.std.proofs.Common.{◌≡◌, ℕ, true, false, List, [], ◌∷◌}
use Rattle.std.proofs.Common.{◌+◌, ◌++◌, inl, inr, refl, sym, ap, ◌∙◌, subst}
use Rattle.std.specs.Prelude.{Option, None, Some, option_map, Result, Ok, Err, OnErr, OnOk}
use Rattle.std.specs.Result.{is_err}
use Rattle.std.proofs.lemmas.Bool.{cases_eq}
use Rattle.std.proofs.lemmas.Result.{on_err_weaker, on_ok_weaker}
use Rattle.ea_model.specs.declared.carriers.Place.{Place}
use Rattle.ea_model.specs.declared.carriers.Spot.{Spot}
use Rattle.ea_model.specs.Entries.{Entry}
use Rattle.ea_model.specs.declared.operations.Op.{Op}
use Rattle.ea_model.specs.Instance.{Instance, place_at, placing_at, resizing_at}
use Rattle.ea_model.specs.Keyed.{item_at}
use Rattle.ea_model.proofs.Rising.{item_at-gone, item_at-stays}
use Rattle.ea_model.specs.declared.entries.Entry.TheVariants as entry
use Rattle.ea_machine.specs.Reallocations.{resized_here, resized_place}
use Rattle.ea_instance.specs.Answers.{placing_if}
use Rattle.ea_machine.specs.Setup.{Setup}
use Rattle.ea_machine.specs.Nodes.{spot_named, with_name, without_name, name_of}
use Rattle.ea_machine.specs.Placements.{holding, placed_at, spot_of_place, stands}
use Rattle.ea_machine.specs.declared.asks.Ask.{Ask}
use Rattle.ea_sound.proofs.Asked.{unnamed-spot}
use Rattle.ea_machine.specs.declared.nodes.Named.{Named}
use Rattle.ea_machine.specs.declared.stages.Stage.TheVariants.{Begin}
use Rattle.ea_machine.specs.Actor.{Actor}
use Rattle.ea_machine.specs.Tasks.{later, logged}
use Rattle.ea_sched.specs.declared.state.Scheduler.{Scheduler}
use Rattle.ea_sched.specs.Creations.{HasPlanned, PlansFrom}

pub finished : (a : Actor) (x : Entry) (todo : List Op) (log : List Entry)
    → todo ≡ later a.todo → log ≡ a.log ++ x ∷ []
    → record a { stage = Begin; todo = todo; log = log } ≡ logged x a
finished a x todo log e f =
    ap (λ ops. record a { stage = Begin; todo = ops; log = log }) e
    ∙ ap (λ xs. record a { stage = Begin; todo = later a.todo; log = xs }) f

-- a name is let go, and its block released
pub handed : (f : Actor → Actor) (a : Actor) (i j : Instance) (h k : List Named) → i ≡ j → h ≡ k
    → f (record a { instance = i; held = h }) ≡ f (record a { instance = j; held = k })
handed f a i j h k e g =
    ap (λ x. f (record a { instance = x; held = h })) e
    ∙ ap (λ x. f (record a { instance = j; held = x })) g

-- where a block was placed
pub chosen-place : (i new : Instance) (o : Option Spot) (need name : ℕ) (p : Place)
    → option_map (λ spot. place_at i spot need) o ≡ Some p → new ≡ placing_if i o need name
    → (spot : Spot) × (o ≡ Some spot) × (p ≡ place_at i spot need)
    × (new ≡ placing_at i spot need name)
chosen-place i new None need name p e f = absurd cc
chosen-place i new (Some spot) need name p e f =
    let same : place_at i spot need ≡ p = cc in (spot, refl, sym same, f)

-- it was not placed
pub unplaced : (i new : Instance) (o : Option Spot) (need name : ℕ)
    → option_map (λ spot. place_at i spot need) o ≡ None → new ≡ placing_if i o need name
    → (o ≡ None) × (new ≡ i)
unplaced i new None need name e f = (refl, f)
unplaced i new (Some spot) need name e f = absurd cc

module _ (setup : Setup) (me : ℕ) (a : Actor) (ask : Ask) where
  -- a block that stands at its place, in the instance `new`
  abbrev pub stood : Place → Instance → Actor
  stood p new = stands setup me ask.name p ask.old
      (holding ask.name (spot_of_place p) (record a { instance = new }))

  pub stood-placed : (new : Instance) (spot : Spot) (p : Place)
      → p ≡ place_at a.instance spot ask.need
      → new ≡ placing_at a.instance spot ask.need ask.name
      → stood p new ≡ placed_at setup me ask a spot
  stood-placed new spot p e f = ap (λ q. stood q new) e
      ∙ ap (stood (place_at a.instance spot ask.need)) f

-- a name that isn't held, once another is let go
pub unheld-let_go : (n name : ℕ) (held : List Named) → spot_named n held ≡ None
    → spot_named n (without_name name held) ≡ None
unheld-let_go n name held e =
    let none = unnamed-spot n held e in
    elim (cases_eq n name) [
      | inl same ↦ ap (option_map (λ (x : Named). x.spot))
          (ap (item_at name_of (without_name name held)) same ∙ item_at-gone name_of name held)
      | inr other ↦ ap (option_map (λ (x : Named). x.spot))
          (item_at-stays name_of n name held other ∙ none)
    ]

-- a block that is reallocated in its place
module _ (a : Actor) (old : Named) (fresh need : ℕ) where
  abbrev pub kept_as : Place → Instance → List Named → Actor
  kept_as p i held = logged (entry.ReallocHere old.name fresh p)
      (record a { instance = i; held = held })

  pub kept-resized : (p : Place) (i : Instance) (held : List Named)
      → p ≡ resized_place a.instance old.spot need
      → i ≡ resizing_at a.instance old.spot need fresh
      → held ≡ with_name (record { name = fresh; spot = old.spot }) (without_name old.name a.held)
      → kept_as p i held ≡ resized_here old fresh need a
  kept-resized p i held e f g =
      ap (λ q. kept_as q i held) e
      ∙ ap (λ j. kept_as (resized_place a.instance old.spot need) j held) f
      ∙ ap (kept_as (resized_place a.instance old.spot need)
      (resizing_at a.instance old.spot need fresh)) g

-- a call that didn't fail
pub went : {T E P : Type 0} (r : Result T E) → OnOk r P → false ≡ is_err r → P
went (Ok x) h e = h
went (Err x) h e = absurd cc

-- what a call that may fail makes of an actor
pub made-as : {T E : Type 0} (r : Result T E) (b : Actor) {x y : Actor} → OnOk r (b ≡ x) → x ≡ y
    → OnOk r (b ≡ y)
made-as r b h e = on_ok_weaker r (λ is. is ∙ e) h

-- a call that failed
pub failed-so : {T E P : Type 0} (r : Result T E) → OnErr r P → true ≡ is_err r → P
failed-so (Ok x) h e = absurd cc
failed-so (Err x) h e = h

-- what holds at an exit for want of memory
pub at-exit : {T E P : Type 0} (r : Result T E) → P → OnErr r P
at-exit (Ok x) p = tt
at-exit (Err x) p = p

-- what it was to make plans a carrier
pub plans-as : {T E : Type 0} (r : Result T E) (s : Scheduler) {x y : Actor}
    → OnErr r (PlansFrom s x) → x ≡ y → OnErr r (PlansFrom s y)
plans-as r s h e = on_err_weaker r (subst (PlansFrom s) e) h

-- one that is planned is the next one of an instance that has created as many
pub planned-from : {e : Setup} {me : ℕ} (i j : Instance) (a : Actor) → i.created ≡ j.created
    → HasPlanned e me i a → HasPlanned e me j a
planned-from i j a same h = record {
  before = h.before;
  ask = h.ask;
  plan = h.plan;
  is_plan = h.is_plan;
  multi = h.multi;
  next = h.next ∙ ap (λ n. n + 1) same;
  is = h.is;
}
