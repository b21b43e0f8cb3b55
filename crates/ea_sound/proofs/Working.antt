-- What the moves of an operation keep, the operation itself keeps.
use Rattle.std.proofs.Common.{◌≡◌, ◌≢◌, ℕ, ◌%◌, ◌≤◌, List, [], ◌∷◌, Bool, true, false, refl}
use Rattle.std.proofs.Common.{sym, ◌∙◌, subst}
use Rattle.std.specs.Prelude.{Option, Some, None, Result, Ok, Err}
use Rattle.ea_model.specs.declared.carriers.CarrierPlan.{CarrierPlan}
use Rattle.ea_model.specs.declared.carriers.Place.{Place}
use Rattle.ea_model.specs.declared.carriers.Spot.{Spot}
use Rattle.ea_model.specs.declared.entries.Entry.TheVariants as entry
use Rattle.ea_model.specs.declared.entries.NoCarrier.{NoCarrier}
use Rattle.ea_model.specs.declared.operations.Op.{Op}
use Rattle.ea_model.specs.declared.operations.Op.TheVariants as op
use Rattle.ea_model.specs.declared.reallocation.Decision.{Decision}
use Rattle.ea_model.specs.declared.reallocation.Decision.TheVariants.{Stay, ShrinkHere, GrowHere}
use Rattle.ea_model.specs.declared.reallocation.Decision.TheVariants.{ShrinkCarrier, Move}
use Rattle.ea_model.specs.Instance.{chosen_spot, creating, decision_at, is_alone, place_at, plan}
use Rattle.ea_model.specs.Instance.{single_place}
use Rattle.ea_model.specs.Units.{need_of}
use Rattle.ea_model.proofs.Options.{some_value}
use Rattle.ea_model.proofs.Rising.{item_at-key}
use Rattle.ea_model.proofs.Needs.{need-even, need-least}
use Rattle.ea_model.specs.Content.{Content}
use Rattle.ea_laws.proofs.Keeping.{chosen-planned}
use Rattle.ea_machine.specs.Lists.{Lists}
use Rattle.ea_machine.specs.Placements.{search_on}
use Rattle.ea_machine.specs.Searches.{Search, goes_on, looked_in, new_search, passed}
use Rattle.ea_machine.specs.declared.parts.Part.{Part}
use Rattle.ea_machine.specs.declared.owners.OwnerWord.{OwnerWord}
use Rattle.ea_machine.specs.declared.stages.Stage.{Stage}
use Rattle.ea_machine.specs.declared.stages.Stage.TheVariants.{Begin, Searching, Fetching, Creating}
use Rattle.ea_machine.specs.declared.stages.Stage.TheVariants.{Giving, Taking, Ended}
use Rattle.ea_machine.specs.Actor.{Actor}
use Rattle.ea_machine.specs.declared.tasks.Task.TheVariants.{Freeing, Moving}
use Rattle.ea_machine.specs.declared.asks.Ask.{Ask}
use Rattle.ea_machine.specs.Nodes.{named_at, name_of}
use Rattle.ea_machine.specs.declared.nodes.Named.{Named}
use Rattle.ea_machine.specs.Operations.{freed, giving, itself}
use Rattle.ea_machine.specs.Placements.{chosen_by, created, failed, holding, making as making_by}
use Rattle.ea_machine.specs.Placements.{placed_at, placed_by, created_by, placed_in_choice}
use Rattle.ea_machine.specs.Placements.{new_carrier, new_carrier_by, saw_by, search_if}
use Rattle.ea_machine.specs.Placements.{searched_by, seek, seek_by, spot_of_place, stands}
use Rattle.ea_machine.specs.Reallocations.{reallocated, reallocated_by, resized_here}
use Rattle.ea_machine.specs.Setup.{Setup, greatest_number, migration}
use Rattle.ea_machine.specs.Shared.{Shared}
use Rattle.ea_machine.specs.State.{State}
use Rattle.ea_machine.specs.Statistics.{informed, observed}
use Rattle.ea_sound.specs.Leaves.{InOperation, IsFresh, Wanted, making, placing}
use Rattle.ea_sound.specs.Moments.{at}
use Rattle.ea_sound.specs.Present.{OldHeld}
use Rattle.ea_sound.proofs.Assembly.{Closed, hands-holds}
use Rattle.ea_machine.specs.Placements.{refills}

-- a stage of an operation with nothing in the hand
abbrev pub HasNoHand : Stage Content → Type 0
HasNoHand (Searching ask n part) = Unit {0}
HasNoHand (Fetching ask n part seen) = Unit {0}
HasNoHand (Creating ask p) = Unit {0}
HasNoHand (Giving given to) = Unit {0}
HasNoHand (Taking name tries left) = Unit {0}
HasNoHand Ended = Unit {0}
HasNoHand _ = ⊥

-- the moves of an operation
pub record ClosedOperation (e : Setup) (w : State) (s : Shared) (me : ℕ) : Type 0 where
  pub rest : (st : Stage Content) (a : Actor) → HasNoHand st → InOperation e w s me (at Begin a)
      → InOperation e w s me (at st a)
  pub inform : (a : Actor) → InOperation e w s me (at Begin a) → InOperation e w s me (informed a)
  pub observe : (a : Actor) → InOperation e w s me a → InOperation e w s me (observed a)
  pub place : (ask : Ask) (spot : Spot) (a : Actor) → Wanted e w s me a ask
      → chosen_spot a.instance ask.need ≡ Some spot → InOperation e w s me (at Begin a)
      → InOperation e w s me (at Begin (placing ask spot a))
  pub make : (ask : Ask) (p : CarrierPlan) (a : Actor) → Wanted e w s me a ask
      → plan a.instance ask.need ≡ Ok p → migration e ≡ false → InOperation e w s me (at Begin a)
      → InOperation e w s me (at Begin (making ask p a p.single))
  pub made : (ask : Ask) (p : CarrierPlan) (a : Actor) → Wanted e w s me a ask
      → Wanted e w s me (record a { instance = creating a.instance p }) ask
  pub listed : (ask : Ask) (l : Lists) (a : Actor) → Wanted e w s me a ask
      → Wanted e w s me (record a { lists = l }) ask
  pub refilled : (ask : Ask) (a : Actor) → Wanted e w s me a ask
      → Wanted e w s me (refills a) ask
  pub stays : (n : ℕ) (spot : Spot) (h : Named) (a : Actor) → named_at h.name a.held ≡ Some h
      → InOperation e w s me (at Begin (holding n spot a))
      → named_at h.name (holding n spot a).held ≡ Some h
  pub resize : (old : Named) (fresh need : ℕ) (a : Actor) → named_at old.name a.held ≡ Some old
      → IsFresh e w s me fresh (at Begin a) → 6 ≤ need → need % 2 ≡ 0
      → decision_at a.instance old.spot need ≢ Move → InOperation e w s me (at Begin a)
      → InOperation e w s me (resized_here old fresh need a)

-- a name that is found is the one that was looked for
itself-named : (n : ℕ) (a : Actor) (h : Named) → named_at n a.held ≡ Some h
    → named_at h.name a.held ≡ Some h
itself-named n a h is =
    subst (λ m. named_at m a.held ≡ Some h) (sym (item_at-key name_of n h a.held is)) is

module _ (e : Setup) (w : State) (s : Shared) (me : ℕ)
    (c : Closed e s me (InOperation e w s me)) (o : ClosedOperation e w s me) where
  abbrev G : Actor → Type 0
  G = InOperation e w s me

  stands-holds : (n : ℕ) (q : Place) (old : Option Named) (spot : Spot) (a : Actor)
      → OldHeld old a.held → G (at Begin (holding n spot a))
      → G (stands e me n q old (holding n spot a))
  stands-holds n q None spot a has g = c.log (entry.Alloc n q) (holding n spot a) g
  stands-holds n q (Some h) spot a has g =
      hands-holds e w s me G c (Moving h.name n q) h (holding n spot a) (o.stays n spot h a has g) g

  placed_at-holds : (ask : Ask) (a : Actor) (spot : Spot) → Wanted e w s me a ask
      → chosen_spot a.instance ask.need ≡ Some spot → G (at Begin a)
      → G (placed_at e me ask a spot)
  placed_at-holds ask a spot want is g =
      stands-holds ask.name (place_at a.instance spot ask.need) ask.old spot
      (record (placing ask spot a) { held = a.held }) want.old (o.place ask spot a want is g)

  pub placed-holds : (ask : Ask) (a : Actor) (spot : Spot) → Wanted e w s me a ask
      → chosen_spot a.instance ask.need ≡ Some spot → G (at Begin a)
      → G (placed_in_choice e me ask a)
  placed-holds ask a spot want is g =
      subst (λ x. G (placed_by e me ask a x)) (sym is) (placed_at-holds ask a spot want is g)

  created_by-holds : (ask : Ask) (p : CarrierPlan) (a : Actor) (b : Bool) → Wanted e w s me a ask
      → plan a.instance ask.need ≡ Ok p → G (at Begin (making ask p a b))
      → G (created_by e me ask p a b)
  created_by-holds ask p a true want is g =
      let place = single_place p ask.need in
      stands-holds ask.name place ask.old (spot_of_place place)
      (record (making ask p a true) { held = a.held }) want.old g
  created_by-holds ask p a false want is g =
      let t = some_value (chosen_spot (creating a.instance p) ask.need)
      (chosen-planned a.instance ask.need p is)
      in
      placed-holds ask (making ask p a false) t.0 (o.made ask p a want) t.1 g

  pub created-holds : (ask : Ask) (p : CarrierPlan) (a : Actor) → Wanted e w s me a ask
      → plan a.instance ask.need ≡ Ok p → G (at Begin (making ask p a p.single))
      → G (created e me ask p a)
  created-holds ask p a want is g = created_by-holds ask p a p.single want is g

  making-holds : (ask : Ask) (p : CarrierPlan) (a : Actor) (on : Bool) → migration e ≡ on
      → Wanted e w s me a ask → plan a.instance ask.need ≡ Ok p → G (at Begin a)
      → G (making_by e me ask p a on)
  making-holds ask p a true m want is g = o.rest (Creating ask p) a tt g
  making-holds ask p a false m want is g =
      created-holds ask p a want is (o.make ask p a want is m g)

  new_carrier_by-holds : (ask : Ask) (looked : ℕ) (a : Actor) (r : Result CarrierPlan NoCarrier)
      → plan a.instance ask.need ≡ r → Wanted e w s me a ask → G (at Begin a)
      → G (new_carrier_by e me ask looked a r)
  new_carrier_by-holds ask looked a (Ok p) is want g =
      making-holds ask p a (migration e) refl want is g
  new_carrier_by-holds ask looked a (Err why) is want g = c.log (failed ask looked why ask.old) a g

  planned-holds : (ask : Ask) (looked : ℕ) (a : Actor) → Wanted e w s me a ask → G (at Begin a)
      → G (new_carrier e me ask looked a)
  planned-holds ask looked a want g = new_carrier_by-holds ask looked a _ refl want g

  searched_by-holds : (ask : Ask) (x : Search) (a : Actor) (b : Bool) → Wanted e w s me a ask
      → G (at Begin a) → G (searched_by e me ask x a b)
  searched_by-holds ask x a true want g = o.rest (Searching ask x.at x.part) a tt g
  searched_by-holds ask x a false want g = planned-holds ask (looked_in x.part) a want g

  pub search-holds : (ask : Ask) (x : Search) (a : Actor) → Wanted e w s me a ask
      → G (at Begin a) → G (search_on e me ask x a)
  search-holds ask x a want g =
      searched_by-holds ask x (record a { lists = x.lists }) (goes_on x.part)
      (o.listed ask x.lists a want) (c.lists x.lists (at Begin a) (λ q. absurd cc) g)

  search_if-holds : (ask : Ask) (a : Actor) (on : Bool) → Wanted e w s me a ask → G (at Begin a)
      → G (search_if e me ask a on)
  search_if-holds ask a true want g =
      search-holds ask (new_search (greatest_number e) a.lists) a want g
  search_if-holds ask a false want g = planned-holds ask 0 a want g

  chosen-holds : (ask : Ask) (a : Actor) (x : Option Spot) → chosen_spot a.instance ask.need ≡ x
      → Wanted e w s me a ask → G (at Begin a) → G (chosen_by e me ask a x)
  chosen-holds ask a (Some spot) is want g = placed_at-holds ask a spot want is g
  chosen-holds ask a None is want g = search_if-holds ask (refills a) (migration e)
      (o.refilled ask a want) (c.refill (at Begin a) (λ q. absurd cc) g)

  seek_by-holds : (ask : Ask) (a : Actor) (b : Bool) → Wanted e w s me a ask → G (at Begin a)
      → G (seek_by e me ask a b)
  seek_by-holds ask a true want g = planned-holds ask 0 (refills a) (o.refilled ask a want)
      (c.refill (at Begin a) (λ q. absurd cc) g)
  seek_by-holds ask a false want g = chosen-holds ask a _ refl want g

  seek-holds : (ask : Ask) (a : Actor) → Wanted e w s me a ask → G (at Begin a)
      → G (seek e me ask a)
  seek-holds ask a want g = seek_by-holds ask a (is_alone a.instance ask.need) want g

  -- after a look of the search
  pub saw-holds : (ask : Ask) (n : ℕ) (part : Part) (a : Actor) (v : OwnerWord) (b : Bool)
      → Wanted e w s me a ask → G (at Begin a) → G (saw_by e me ask n part a v b)
  saw-holds ask n part a v true want g = o.rest (Fetching ask n part v) a tt g
  saw-holds ask n part a v false want g =
      search-holds ask (passed (greatest_number e) a.lists n part v) a want g

  -- a held block is released, given, or takes another size
  freed-holds : (n : ℕ) (a : Actor) (x : Option Named) → named_at n a.held ≡ x → G (at Begin a)
      → G (freed e me n a x)
  freed-holds n a None is g = c.log (entry.FreeSkipped n) a g
  freed-holds n a (Some h) is g = hands-holds e w s me G c (Freeing n) h a (itself-named n a h is) g

  giving-holds : (n to : ℕ) (a : Actor) (x : Option Named) → G (at Begin a)
      → G (giving n to a x)
  giving-holds n to a None g = c.log (entry.GiveSkipped n to) a g
  giving-holds n to a (Some h) g = o.rest (Giving h to) a tt g

  module _ (fresh bytes : ℕ) (old : Named) (a : Actor) (is : named_at old.name a.held ≡ Some old)
      (new : IsFresh e w s me fresh (at Begin a)) (g : G (at Begin a)) where
    resized-holds : decision_at a.instance old.spot (need_of bytes) ≢ Move
        → G (resized_here old fresh (need_of bytes) a)
    resized-holds stays =
        o.resize old fresh (need_of bytes) a is new (need-least bytes) (need-even bytes) stays g

    decided-holds : (d : Decision) → decision_at a.instance old.spot (need_of bytes) ≡ d
        → G (reallocated_by e me old fresh (need_of bytes) a d)
    decided-holds Move q =
        seek-holds (record { name = fresh; need = need_of bytes; old = Some old }) a
        (record { fresh = new; least = need-least bytes; even = need-even bytes; old = is }) g
    decided-holds Stay q = resized-holds (λ m. let t : Stay ≡ Move = sym q ∙ m in cc)
    decided-holds ShrinkHere q = resized-holds (λ m. let t : ShrinkHere ≡ Move = sym q ∙ m in cc)
    decided-holds GrowHere q = resized-holds (λ m. let t : GrowHere ≡ Move = sym q ∙ m in cc)
    decided-holds (ShrinkCarrier pages) q =
        resized-holds (λ m. let t : ShrinkCarrier pages ≡ Move = sym q ∙ m in cc)

  reallocated-holds : (o n bytes : ℕ) (a : Actor) (x : Option Named) → named_at o a.held ≡ x
      → IsFresh e w s me n (at Begin a) → G (at Begin a)
      → G (reallocated e me o n (need_of bytes) a x)
  reallocated-holds o n bytes a None is new g = c.log (entry.ReallocSkipped o n) a g
  reallocated-holds o n bytes a (Some old) is new g =
      decided-holds n bytes old a (itself-named o a old is) new g _ refl

  -- the name that the first of these operations makes stands nowhere
  abbrev pub FirstFresh : Actor → List Op → Type 0
  FirstFresh a (op.Alloc n bytes ∷ ops) = IsFresh e w s me n (at Begin a)
  FirstFresh a (op.Realloc old n bytes ∷ ops) = IsFresh e w s me n (at Begin a)
  FirstFresh a _ = Unit {0}

  pub itself-holds : (a : Actor) (ops : List Op) → FirstFresh a ops → G (at Begin a)
      → G (itself e me a ops)
  itself-holds a [] new g = o.rest Ended a tt g
  itself-holds a (op.Alloc n bytes ∷ ops) new g =
      seek-holds (record { name = n; need = need_of bytes; old = None }) a
      (record { fresh = new; least = need-least bytes; even = need-even bytes; old = tt }) g
  itself-holds a (op.Free n ∷ ops) new g = freed-holds n a _ refl g
  itself-holds a (op.Realloc old n bytes ∷ ops) new g =
      reallocated-holds old n bytes a _ refl new g
  itself-holds a (op.Give n to ∷ ops) new g = giving-holds n to a (named_at n a.held) g
  itself-holds a (op.Take n tries ∷ ops) new g = o.rest (Taking n tries tries) a tt g
  itself-holds a (op.Info ∷ ops) new g = o.inform a g
  itself-holds a (op.Idle ∷ ops) new g = c.log entry.Idle a g
