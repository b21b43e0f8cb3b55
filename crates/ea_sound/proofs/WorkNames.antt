-- What the work of a scheduler makes of the names that it holds: it leaves all but those of its
-- operation.
use Rattle.std.proofs.Common.{◌≡◌, ◌≢◌, ℕ, Bool, true, false, List, [], ◌∷◌, refl, sym}
use Rattle.std.proofs.Common.{ap, ◌∙◌, inl, inr}
use Rattle.std.specs.Prelude.{Option, None, Some, Result, Ok, Err}
use Rattle.ea_model.specs.declared.carriers.CarrierPlan.{CarrierPlan}
use Rattle.ea_model.specs.declared.carriers.Place.{Place}
use Rattle.ea_model.specs.declared.carriers.Spot.{Spot}
use Rattle.ea_model.specs.declared.entries.NoCarrier.{NoCarrier}
use Rattle.ea_model.specs.declared.operations.Op.{Op}
use Rattle.ea_model.specs.declared.operations.Op.TheVariants as op
use Rattle.ea_model.specs.declared.reallocation.Decision.{Decision}
use Rattle.ea_model.specs.declared.reallocation.Decision.TheVariants.{Stay, ShrinkHere, GrowHere}
use Rattle.ea_model.specs.declared.reallocation.Decision.TheVariants.{ShrinkCarrier, Move}
use Rattle.ea_model.specs.Content.{Content}
use Rattle.ea_model.specs.Instance.{chosen_spot, creating, creating_single, decision_at, is_alone}
use Rattle.ea_model.specs.Instance.{place_at, placing_at, plan, resizing_at, single_place}
use Rattle.ea_model.specs.Units.{need_of}
use Rattle.ea_model.proofs.Rising.{item_at-key, item_at-old, item_at-stays}
use Rattle.ea_machine.specs.Actor.{Actor}
use Rattle.ea_machine.specs.Nodes.{named_at, name_of}
use Rattle.ea_machine.specs.Operations.{freed, giving, itself}
use Rattle.ea_machine.specs.Placements.{chosen_by, created, created_by, fetched, fetches, holding}
use Rattle.ea_machine.specs.Placements.{making, new_carrier_by, pass, placed_at, placed_by}
use Rattle.ea_machine.specs.Placements.{saw_by, search_if, search_on, searched}
use Rattle.ea_machine.specs.Placements.{searched_by, seek, seek_by, spot_of_place, stands}
use Rattle.ea_machine.specs.Reallocations.{reallocated, reallocated_by, resized_here}
use Rattle.ea_machine.specs.Releases.{Turned, route_of}
use Rattle.ea_machine.specs.Rows.{Answer, Done, Got, Head, Home, Lost, Passes, Rests, Saw, Won}
use Rattle.ea_machine.specs.Searches.{Search, fits, goes_on, looked_in, new_search, passed}
use Rattle.ea_machine.specs.Searches.{with_counted}
use Rattle.ea_machine.specs.Setup.{Setup, greatest_number, migration}
use Rattle.ea_machine.specs.Tasks.{carried_by, hands_over, let_go, task_over}
use Rattle.ea_machine.specs.declared.asks.Ask.{Ask}
use Rattle.ea_machine.specs.declared.nodes.Named.{Named}
use Rattle.ea_machine.specs.declared.owners.OwnerWord.{OwnerWord}
use Rattle.ea_machine.specs.declared.parts.Part.{Part}
use Rattle.ea_machine.specs.declared.stages.Route.{Route}
use Rattle.ea_machine.specs.declared.stages.Stage.TheVariants.{Ready}
use Rattle.ea_machine.specs.declared.tasks.Gone.{Gone}
use Rattle.ea_machine.specs.declared.tasks.Task.{Task}
use Rattle.ea_machine.specs.declared.tasks.Task.TheVariants.{Freeing, Moving}
use Rattle.ea_machine.specs.declared.tasks.Why.TheVariants.{For}
use Rattle.ea_sound.specs.Heap.{FirstChanges}
use Rattle.ea_sound.proofs.ShortRoutes.{route-short}
use Rattle.ea_machine.specs.Placements.{refills}

module _ (e : Setup) (me n : ℕ) where
  -- b holds the name as a does
  abbrev pub HoldsAlike : Actor → Actor → Type 0
  HoldsAlike a b = named_at n b.held ≡ named_at n a.held

  -- and is in the middle of its operation
  abbrev pub Goes : Actor → Actor → Type 0
  Goes a b = HoldsAlike a b × (b.stage ≢ Ready)

  -- the old block that an ask may have has another name
  abbrev pub OldOther : Option Named → Type 0
  OldOther None = Unit {0}
  OldOther (Some h) = h.name ≢ n

  pub holding-alike : (m : ℕ) (spot : Spot) (a : Actor) → m ≢ n → HoldsAlike a (holding m spot a)
  holding-alike m spot a ne =
      item_at-old name_of n (record { name = m; spot = spot }) a.held (λ q. ne (sym q))

  pub let_go-alike : (m : ℕ) (a : Actor) → m ≢ n → HoldsAlike a (let_go m a)
  let_go-alike m a ne = item_at-stays name_of n m a.held (λ q. ne (sym q))

  pub carried-held : (task : Task) (gone : Gone) (a : Actor) (o : Option (Route Content))
      → (carried_by (For task) (task_over task) gone a o).held ≡ a.held
  carried-held task gone a None = refl
  carried-held task gone a (Some r) = refl

  pub carried-busy : (task : Task) (gone : Gone) (a : Actor) (o : Option (Route Content))
      → (carried_by (For task) (task_over task) gone a o).stage ≢ Ready
  carried-busy task gone a None = λ q. absurd cc
  carried-busy task gone a (Some r) = λ q. absurd cc

  handed-alike : (task : Task) (hand : Named) (a : Actor) → hand.name ≢ n
      → Goes a (hands_over e me task hand a)
  handed-alike task hand a ne =
      let t : Turned = route_of e me hand (let_go hand.name a) in (
        ap (named_at n) (carried-held task t.gone t.actor t.route
            ∙ (route-short e me hand (let_go hand.name a)).1.5) ∙ let_go-alike hand.name a ne,
        carried-busy task t.gone t.actor t.route,
      )

  stands-alike : (name : ℕ) (place : Place) (old : Option Named) (a : Actor) → OldOther old
      → Goes a (stands e me name place old a)
  stands-alike name place None a ne = (refl, λ q. absurd cc)
  stands-alike name place (Some old) a ne = handed-alike (Moving old.name name place) old a ne

  module _ (ask : Ask) (ne : ask.name ≢ n) (other : OldOther ask.old) where
    placed_at-alike : (a : Actor) (spot : Spot) → Goes a (placed_at e me ask a spot)
    placed_at-alike a spot =
        let t = stands-alike ask.name (place_at a.instance spot ask.need) ask.old
        (holding ask.name spot
        (record a { instance = placing_at a.instance spot ask.need ask.name })) other in
        (t.0 ∙ holding-alike ask.name spot a ne, t.1)

    placed-alike : (a : Actor) (o : Option Spot) → Goes a (placed_by e me ask a o)
    placed-alike a None = (refl, λ q. absurd cc)
    placed-alike a (Some spot) = placed_at-alike a spot

    created_by-alike : (p : CarrierPlan) (a : Actor) (single : Bool)
        → Goes a (created_by e me ask p a single)
    created_by-alike p a true =
        let spot = spot_of_place (single_place p ask.need) in
        let t = stands-alike ask.name (single_place p ask.need) ask.old
        (holding ask.name spot
        (record a { instance = creating_single a.instance p ask.need ask.name })) other in
        (t.0 ∙ holding-alike ask.name spot a ne, t.1)
    created_by-alike p a false = placed-alike (record a { instance = creating a.instance p })
        (chosen_spot (creating a.instance p) ask.need)

    pub created-alike : (p : CarrierPlan) (a : Actor) → Goes a (created e me ask p a)
    created-alike p a = created_by-alike p a p.single

    making-alike : (p : CarrierPlan) (a : Actor) (on : Bool)
        → Goes a (making e me ask p a on)
    making-alike p a true = (refl, λ q. absurd cc)
    making-alike p a false = created-alike p a

    planned-alike : (looked : ℕ) (a : Actor) (r : Result CarrierPlan NoCarrier)
        → Goes a (new_carrier_by e me ask looked a r)
    planned-alike looked a (Ok p) = making-alike p a (migration e)
    planned-alike looked a (Err why) = (refl, λ q. absurd cc)

    searched_by-alike : (x : Search) (a : Actor) (on : Bool)
        → Goes a (searched_by e me ask x a on)
    searched_by-alike x a true = (refl, λ q. absurd cc)
    searched_by-alike x a false = planned-alike (looked_in x.part) a (plan a.instance ask.need)

    search-alike : (x : Search) (a : Actor) → Goes a (search_on e me ask x a)
    search-alike x a = searched_by-alike x (record a { lists = x.lists }) (goes_on x.part)

    search_if-alike : (a : Actor) (on : Bool) → Goes a (search_if e me ask a on)
    search_if-alike a true = search-alike (new_search (greatest_number e) a.lists) a
    search_if-alike a false = planned-alike 0 a (plan a.instance ask.need)

    chosen-alike : (a : Actor) (o : Option Spot) → Goes a (chosen_by e me ask a o)
    chosen-alike a (Some spot) = placed_at-alike a spot
    chosen-alike a None = search_if-alike (refills a) (migration e)

    seek_by-alike : (a : Actor) (alone : Bool) → Goes a (seek_by e me ask a alone)
    seek_by-alike a true = planned-alike 0 (refills a) (plan (refills a).instance ask.need)
    seek_by-alike a false = chosen-alike a (chosen_spot a.instance ask.need)

    seek-alike : (a : Actor) → Goes a (seek e me ask a)
    seek-alike a = seek_by-alike a (is_alone a.instance ask.need)

    pass-alike : (at : ℕ) (part : Part) (a : Actor) (v : OwnerWord)
        → Goes a (pass e me ask at part a v)
    pass-alike at part a v = search-alike (passed (greatest_number e) a.lists at part v) a

    saw-alike : (at : ℕ) (part : Part) (a : Actor) (v : OwnerWord) (fit : Bool)
        → Goes a (saw_by e me ask at part a v fit)
    saw-alike at part a v true = (refl, λ q. absurd cc)
    saw-alike at part a v false = pass-alike at part a v

    -- after a look, and after a try to fetch
    pub searched-alike : (at : ℕ) (part : Part) (a : Actor) (r : Answer)
        → Goes a (searched e me ask at part a r)
    searched-alike at part a (Saw v) = saw-alike at (with_counted v part) a v (fits ask.need v)
    searched-alike at part a Done = (refl, λ q. absurd cc)
    searched-alike at part a (Head x) = (refl, λ q. absurd cc)
    searched-alike at part a Rests = (refl, λ q. absurd cc)
    searched-alike at part a (Passes x) = (refl, λ q. absurd cc)
    searched-alike at part a (Won x) = (refl, λ q. absurd cc)
    searched-alike at part a (Lost v) = (refl, λ q. absurd cc)
    searched-alike at part a (Home x) = (refl, λ q. absurd cc)
    searched-alike at part a (Got p) = (refl, λ q. absurd cc)

    pub fetched-alike : (at : ℕ) (part : Part) (a : Actor) (r : Answer)
        → Goes a (fetched e me ask at part a r)
    fetched-alike at part a (Won x) = placed-alike (fetches at x a)
        (chosen_spot (fetches at x a).instance ask.need)
    fetched-alike at part a (Lost v) = pass-alike at part a v
    fetched-alike at part a (Saw v) = (refl, λ q. absurd cc)
    fetched-alike at part a Done = (refl, λ q. absurd cc)
    fetched-alike at part a (Head x) = (refl, λ q. absurd cc)
    fetched-alike at part a Rests = (refl, λ q. absurd cc)
    fetched-alike at part a (Passes x) = (refl, λ q. absurd cc)
    fetched-alike at part a (Home x) = (refl, λ q. absurd cc)
    fetched-alike at part a (Got p) = (refl, λ q. absurd cc)

  -- the operation itself
  freed-alike : (m : ℕ) (a : Actor) (o : Option Named) → named_at m a.held ≡ o → m ≢ n
      → HoldsAlike a (freed e me m a o)
  freed-alike m a None is ne = refl
  freed-alike m a (Some hand) is ne =
      (handed-alike (Freeing m) hand a
      (λ q. ne (sym (item_at-key name_of m hand a.held is) ∙ q))).0

  giving-alike : (m to : ℕ) (a : Actor) (o : Option Named) → HoldsAlike a (giving m to a o)
  giving-alike m to a None = refl
  giving-alike m to a (Some given) = refl

  module _ (old : Named) (fresh need : ℕ) (a : Actor) (ne : fresh ≢ n) (other : old.name ≢ n) where
    resized-alike : HoldsAlike a (resized_here old fresh need a)
    resized-alike =
        holding-alike fresh old.spot (let_go old.name
        (record a { instance = resizing_at a.instance old.spot need fresh })) ne
        ∙ let_go-alike old.name a other

    decided-alike : (d : Decision) → HoldsAlike a (reallocated_by e me old fresh need a d)
    decided-alike Stay = resized-alike
    decided-alike ShrinkHere = resized-alike
    decided-alike GrowHere = resized-alike
    decided-alike (ShrinkCarrier pages) = resized-alike
    decided-alike Move =
        (seek-alike (record { name = fresh; need = need; old = Some old }) ne other a).0

  reallocated-alike : (m fresh need : ℕ) (a : Actor) (o : Option Named) → named_at m a.held ≡ o
      → fresh ≢ n → m ≢ n → HoldsAlike a (reallocated e me m fresh need a o)
  reallocated-alike m fresh need a None is ne other = refl
  reallocated-alike m fresh need a (Some old) is ne other =
      decided-alike old fresh need a ne
      (λ q. other (sym (item_at-key name_of m old a.held is) ∙ q))
      (decision_at a.instance old.spot need)

  pub itself-alike : (a : Actor) (ops : List Op) → (FirstChanges n ops → ⊥)
      → HoldsAlike a (itself e me a ops)
  itself-alike a [] not = refl
  itself-alike a (op.Alloc m bytes ∷ ops) not =
      (seek-alike (record { name = m; need = need_of bytes; old = None }) not tt a).0
  itself-alike a (op.Free m ∷ ops) not = freed-alike m a (named_at m a.held) refl not
  itself-alike a (op.Realloc m fresh bytes ∷ ops) not =
      reallocated-alike m fresh (need_of bytes) a (named_at m a.held) refl (λ q. not (inr q))
      (λ q. not (inl q))
  itself-alike a (op.Give m to ∷ ops) not = giving-alike m to a (named_at m a.held)
  itself-alike a (op.Take m tries ∷ ops) not = refl
  itself-alike a (op.Info ∷ ops) not = refl
  itself-alike a (op.Idle ∷ ops) not = refl
