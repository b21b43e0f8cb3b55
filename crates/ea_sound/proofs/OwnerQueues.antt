-- Where carriers don't migrate, a block that an operation releases goes by the owner of its
-- carrier.
use Rattle.std.proofs.Common.{◌≡◌, ℕ, List, [], ◌∷◌, ◌++◌, Bool, true, false, refl, sym}
use Rattle.std.proofs.Common.{ap, ◌∙◌, subst, inl, inr}
use Rattle.std.specs.Prelude.{Option, None, Some, Result, Ok, Err, ◌==◌}
use Rattle.std.proofs.lemmas.Bool.{eqb-false, eqb-true}
use Rattle.ea_model.specs.declared.carriers.CarrierPlan.{CarrierPlan}
use Rattle.ea_model.specs.declared.carriers.Place.{Place}
use Rattle.ea_model.specs.declared.carriers.Spot.{Spot}
use Rattle.ea_model.specs.Entries.{Entry}
use Rattle.ea_model.specs.declared.entries.Entry.TheVariants as entry
use Rattle.ea_model.specs.declared.entries.NoCarrier.{NoCarrier}
use Rattle.ea_model.specs.declared.operations.Op.{Op}
use Rattle.ea_model.specs.declared.operations.Op.TheVariants as op
use Rattle.ea_model.specs.declared.reallocation.Decision.{Decision}
use Rattle.ea_model.specs.declared.reallocation.Decision.TheVariants.{Stay, ShrinkHere, GrowHere}
use Rattle.ea_model.specs.declared.reallocation.Decision.TheVariants.{ShrinkCarrier, Move}
use Rattle.ea_model.specs.Instance.{chosen_spot, creating, creating_single, decision_at, is_alone}
use Rattle.ea_model.specs.Instance.{owner_of, place_at, placing_at, plan, resizing_at, single_place}
use Rattle.ea_model.specs.Units.{need_of}
use Rattle.ea_machine.specs.Actor.{Actor}
use Rattle.ea_machine.specs.Machine.{run}
use Rattle.ea_machine.specs.Nodes.{block_node}
use Rattle.ea_machine.specs.Operations.{freed, itself}
use Rattle.ea_machine.specs.Placements.{chosen_by, created_by, failed, holding, making}
use Rattle.ea_machine.specs.Placements.{new_carrier_by, placed_at, placed_by, search_if, seek_by}
use Rattle.ea_machine.specs.Placements.{spot_of_place, stands}
use Rattle.ea_machine.specs.Reallocations.{reallocated, reallocated_by, resized_here, resized_place}
use Rattle.ea_machine.specs.Releases.{owned_by, release_here, routed}
use Rattle.ea_machine.specs.Setup.{Setup, migration}
use Rattle.ea_machine.specs.Tasks.{carried, hands_over, let_go, logged, task_over}
use Rattle.ea_machine.specs.declared.asks.Ask.{Ask}
use Rattle.ea_machine.specs.declared.nodes.Named.{Named}
use Rattle.ea_machine.specs.declared.stages.Route.TheVariants.{Pushing}
use Rattle.ea_machine.specs.declared.tasks.Gone.TheVariants.{Open, Queued}
use Rattle.ea_machine.specs.declared.tasks.Task.{Task}
use Rattle.ea_machine.specs.declared.tasks.Task.TheVariants.{Freeing, Moving}
use Rattle.ea_machine.specs.declared.tasks.Why.TheVariants.{For}
use Rattle.ea_sound.specs.Entries.{IsOfBlock, QueuesByOwner, SaysByOwner, SaysStays}
use Rattle.ea_sound.specs.Present.{Rule}
use Rattle.ea_sound.specs.Turns.{begun, log_after}
use Rattle.ea_sound.proofs.Chronicled.{begun-log, begun-now}
use Rattle.ea_sound.proofs.Queueing.{Ends, Goes, Made, carried-goes, says-done, says-queued}
use Rattle.ea_sound.proofs.Queueing.{seen-goes, tells-on}
use Rattle.ea_sound.proofs.SettledRoutes.{IsSettled, here-released}
use Rattle.ea_sound.proofs.ShortRoutes.{here-short}
use Rattle.ea_machine.specs.Placements.{refills}

module _ (e : Setup) (rules : (L : List ℕ) → Rule e (run e L)) (off : migration e ≡ false) (s : ℕ)
    (named : Named) (log : List Entry) where
  abbrev owner : ℕ
  owner = owner_of named.spot.carrier

  abbrev Says : Entry → Type 0
  Says = SaysByOwner s owner

  -- what the entry will say goes by the owner
  abbrev G : Actor → Type 0
  G = Goes e rules s log Says

  -- the block stays
  stays-goes : (x : Entry) (a : Actor) → SaysStays x → a.log ≡ log → G (logged x a)
  stays-goes x a stays same = Made x [] (ap (λ l. l ++ x ∷ []) same) (inr (inr stays))

  -- or it goes its route
  module _ (task : Task) (a : Actor) (same : a.log ≡ log) where
    abbrev over : Actor
    over = let_go named.name a

    owned-goes : (own : Bool) → (owner == s) ≡ own
        → G (carried (For task) (task_over task) (owned_by e s own named over))
    owned-goes true q =
        let t = release_here e s named Open over in
        let is = eqb-true owner s q in
        let kept = (here-short e s named Open over).1.3 ∙ same in
        elim (here-released e s named over) [
          | inl here ↦ carried-goes e rules s log Says task t.gone t.actor t.route
              (inl (subst IsSettled (sym here) (λ now. refl)))
              (inl (is, says-done task t.gone (inl here))) kept
          | inr ended ↦ carried-goes e rules s log Says task t.gone t.actor t.route
              (inr ended.1) (inl (is, says-done task t.gone (inr ended.0))) kept
        ]
    owned-goes false q =
        carried-goes e rules s log Says task (Queued owner) over
        (Some (Pushing (block_node named) owner)) (inl (λ now. refl))
        (inr (inl (eqb-false owner s q, says-queued task owner))) same

    routed-goes : (on : Bool) → on ≡ false
        → G (carried (For task) (task_over task) (routed e s on named over))
    routed-goes true q = absurd cc
    routed-goes false q = owned-goes (owner == s) refl

    handed-goes : G (hands_over e s task named a)
    handed-goes = routed-goes (migration e) off

  -- a block that moves is placed first
  module _ (fresh need : ℕ) where
    abbrev ask : Ask
    ask = record { name = fresh; need = need; old = Some named }

    stands-goes : (place : Place) (a : Actor) → a.log ≡ log
        → G (stands e s fresh place (Some named) a)
    stands-goes place a same = handed-goes (Moving named.name fresh place) a same

    placed_at-goes : (a : Actor) (spot : Spot) → a.log ≡ log → G (placed_at e s ask a spot)
    placed_at-goes a spot same =
        stands-goes (place_at a.instance spot need)
        (holding fresh spot (record a { instance = placing_at a.instance spot need fresh })) same

    placed-goes : (a : Actor) (o : Option Spot) → a.log ≡ log → G (placed_by e s ask a o)
    placed-goes a None same = Ends refl same
    placed-goes a (Some spot) same = placed_at-goes a spot same

    created-goes : (p : CarrierPlan) (a : Actor) (single : Bool) → a.log ≡ log
        → G (created_by e s ask p a single)
    created-goes p a true same =
        stands-goes (single_place p need) (holding fresh (spot_of_place (single_place p need))
        (record a { instance = creating_single a.instance p need fresh })) same
    created-goes p a false same =
        placed-goes (record a { instance = creating a.instance p })
        (chosen_spot (creating a.instance p) need) same

    making-goes : (p : CarrierPlan) (a : Actor) (on : Bool) → on ≡ false → a.log ≡ log
        → G (making e s ask p a on)
    making-goes p a true q same = absurd cc
    making-goes p a false q same = created-goes p a p.single same

    planned-goes : (looked : ℕ) (a : Actor) (r : Result CarrierPlan NoCarrier) → a.log ≡ log
        → G (new_carrier_by e s ask looked a r)
    planned-goes looked a (Ok p) same = making-goes p a (migration e) off same
    planned-goes looked a (Err why) same =
        stays-goes (failed ask looked why (Some named)) a tt same

    search-goes : (a : Actor) (on : Bool) → on ≡ false → a.log ≡ log
        → G (search_if e s ask a on)
    search-goes a true q same = absurd cc
    search-goes a false q same = planned-goes 0 a (plan a.instance need) same

    chosen-goes : (a : Actor) (o : Option Spot) → a.log ≡ log → G (chosen_by e s ask a o)
    chosen-goes a (Some spot) same = placed_at-goes a spot same
    chosen-goes a None same = search-goes (refills a) (migration e) off same

    seek-goes : (a : Actor) (alone : Bool) → a.log ≡ log → G (seek_by e s ask a alone)
    seek-goes a true same = planned-goes 0 (refills a) (plan (refills a).instance need) same
    seek-goes a false same = chosen-goes a (chosen_spot a.instance need) same

    resized-goes : (a : Actor) → a.log ≡ log → G (resized_here named fresh need a)
    resized-goes a same =
        stays-goes (entry.ReallocHere named.name fresh (resized_place a.instance named.spot need))
        (holding fresh named.spot (let_go named.name
        (record a { instance = resizing_at a.instance named.spot need fresh }))) tt same

    decided-goes : (a : Actor) (d : Decision) → a.log ≡ log
        → G (reallocated_by e s named fresh need a d)
    decided-goes a Stay same = resized-goes a same
    decided-goes a ShrinkHere same = resized-goes a same
    decided-goes a GrowHere same = resized-goes a same
    decided-goes a (ShrinkCarrier pages) same = resized-goes a same
    decided-goes a Move same = seek-goes a (is_alone a.instance need) same

  -- the operation itself
  itself-goes : (a : Actor) (ops : List Op) → IsOfBlock a ops named → a.log ≡ log
      → G (itself e s a ops)
  itself-goes a (op.Free name ∷ ops) held same =
      subst (λ o. G (freed e s name a o)) (sym held) (handed-goes (Freeing name) a same)
  itself-goes a (op.Realloc old fresh bytes ∷ ops) held same =
      subst (λ o. G (reallocated e s old fresh (need_of bytes) a o)) (sym held)
      (decided-goes fresh (need_of bytes) a
      (decision_at a.instance named.spot (need_of bytes)) same)
  itself-goes a [] held same = absurd held
  itself-goes a (op.Alloc name bytes ∷ ops) held same = absurd held
  itself-goes a (op.Give name to ∷ ops) held same = absurd held
  itself-goes a (op.Take name tries ∷ ops) held same = absurd held
  itself-goes a (op.Info ∷ ops) held same = absurd held
  itself-goes a (op.Idle ∷ ops) held same = absurd held

pub queues-by_owner : (e : Setup) → ((L : List ℕ) → Rule e (run e L)) → QueuesByOwner e
queues-by_owner e rules off turns more s named begins held =
    let log = log_after e turns s in
    let mid = begun e turns s in
    let Says = SaysByOwner s (owner_of named.spot.carrier) in
    tells-on e rules s log Says turns more
    (subst (Goes e rules s log Says) (sym (begun-now e turns s begins))
    (seen-goes e rules s log Says (itself e s mid mid.todo)
    (itself-goes e rules off s named log mid mid.todo held (begun-log e rules turns s begins))))
