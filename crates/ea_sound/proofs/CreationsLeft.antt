-- An instance creates no more carriers than its scheduler has begun operations, beside its main
-- carrier: no step leaves more to create than it creates.
use Rattle.std.proofs.Common.{◌≡◌, ℕ, zero, suc, ◌+◌, ◌≤◌, List, [], ◌∷◌, Bool, true, ◌++◌, false}
use Rattle.std.proofs.Common.{refl, sym, ap, subst, inl, inr, arith}
use Rattle.std.specs.Prelude.{Option, Some, None, Result, Ok, Err, length}
use Rattle.std.proofs.lemmas.Bool.{cases_eq}
use Rattle.ea_model.specs.declared.carriers.CarrierPlan.{CarrierPlan}
use Rattle.ea_model.specs.declared.carriers.Place.{Place}
use Rattle.ea_model.specs.declared.carriers.Spot.{Spot}
use Rattle.ea_model.specs.Entries.{Entry}
use Rattle.ea_model.specs.declared.entries.Entry.TheVariants as entry
use Rattle.ea_model.specs.declared.entries.NoCarrier.{NoCarrier}
use Rattle.ea_model.specs.declared.operations.Op.{Op}
use Rattle.ea_model.specs.declared.operations.Op.TheVariants as op
use Rattle.ea_model.specs.declared.reallocation.Decision.{Decision}
use Rattle.ea_model.specs.declared.reallocation.Decision.TheVariants.{Stay, ShrinkHere, GrowHere}
use Rattle.ea_model.specs.declared.reallocation.Decision.TheVariants.{ShrinkCarrier, Move}
use Rattle.ea_model.specs.Instance.{Instance, chosen_spot, creating, creating_single, decision_at}
use Rattle.ea_model.specs.Instance.{is_alone, place_at, placing_at, plan, resized_to, resized_by}
use Rattle.ea_model.specs.Instance.{single_place}
use Rattle.ea_model.specs.Units.{need_of}
use Rattle.ea_model.specs.Content.{Content}
use Rattle.ea_model.specs.Employment.{employing}
use Rattle.ea_machine.specs.Placements.{fetches, search_on, chosen_by, created_by, failed, fetched}
use Rattle.ea_machine.specs.Placements.{holding, making, new_carrier, new_carrier_by, placed_by}
use Rattle.ea_machine.specs.Placements.{saw_by, search_if, searched, searched_by, seek, seek_by}
use Rattle.ea_machine.specs.Placements.{spot_of_place, stands}
use Rattle.ea_machine.specs.Releases.{struck, disowned, route_of, turned}
use Rattle.ea_machine.specs.Searches.{Search, goes_on, looked_in, new_search, passed, with_counted}
use Rattle.ea_machine.specs.Searches.{fits}
use Rattle.ea_machine.specs.declared.parts.Part.{Part}
use Rattle.ea_machine.specs.declared.nodes.Node.{Node}
use Rattle.ea_machine.specs.declared.nodes.Node.TheVariants.{Block, Carrier}
use Rattle.ea_machine.specs.declared.owners.OwnerWord.{OwnerWord}
use Rattle.ea_machine.specs.declared.stages.Stage.{Stage}
use Rattle.ea_machine.specs.declared.stages.Stage.TheVariants.{Begin, Routed, Collecting, Searching}
use Rattle.ea_machine.specs.declared.stages.Stage.TheVariants.{Fetching, Creating, Giving, Taking}
use Rattle.ea_machine.specs.declared.stages.Stage.TheVariants.{Ended, Ready}
use Rattle.ea_machine.specs.declared.stages.Route.{Route}
use Rattle.ea_machine.specs.Actor.{Actor}
use Rattle.ea_machine.specs.declared.tasks.Task.{Task}
use Rattle.ea_machine.specs.declared.tasks.Task.TheVariants.{Freeing, Moving}
use Rattle.ea_machine.specs.declared.tasks.Why.TheVariants.{Walk, For}
use Rattle.ea_machine.specs.declared.tasks.Gone.{Gone}
use Rattle.ea_machine.specs.declared.asks.Ask.{Ask}
use Rattle.ea_machine.specs.Machine.{after_row, first_stage, instance_by, onward, onward_at, run}
use Rattle.ea_machine.specs.Machine.{step}
use Rattle.ea_machine.specs.Nodes.{named_at}
use Rattle.ea_machine.specs.declared.nodes.Named.{Named}
use Rattle.ea_machine.specs.Operations.{freed, giving, itself, took, took_by}
use Rattle.ea_machine.specs.Reallocations.{reallocated, reallocated_by, resized_here}
use Rattle.ea_machine.specs.Rows.{Answer, Done, Head, Rests, Passes, Saw, Won, Lost, Home, Got}
use Rattle.ea_machine.specs.Setup.{Setup, greatest_number, is_scheduler, migration}
use Rattle.ea_machine.specs.State.{State}
use Rattle.ea_machine.specs.Tasks.{carried, entry_of, hands_over, later, let_go, logged, task_over}
use Rattle.ea_machine.specs.Walks.{after_route, begun, passed_on, taken, with_passed, worked_off}
use Rattle.ea_sound.specs.FewCreated.{CreatesFew, creations, creations_at, most_created}
use Rattle.ea_sound.specs.Present.{Fits, Rule}
use Rattle.ea_sound.specs.Turns.{advanced, answered}
use Rattle.ea_sound.proofs.Creations.{plan-birth}
use Rattle.ea_sound.proofs.ShortRoutes.{route-short, turned-short}
use Rattle.ea_sound.proofs.TurnLists.{by-turns, ended-or, run-snoc, step-ended, step-mine}
use Rattle.ea_sound.proofs.TurnLists.{step-other}
use Rattle.ea_machine.specs.Placements.{refills}

-- a plan counts one carrier more than the instance has created
abbrev IsPlanned : Actor → Stage Content → Type 0
IsPlanned a (Creating ask p) = plan a.instance ask.need ≡ Ok p
IsPlanned a stage = Unit {0}

-- a block that is resized creates no carrier
resized-created : (d : Decision) (i : Instance) (p : Spot) (size name : ℕ)
    → (resized_by d i p size name).created ≡ i.created
resized-created Stay i p size name = refl
resized-created ShrinkHere i p size name = refl
resized-created GrowHere i p size name = refl
resized-created (ShrinkCarrier pages) i p size name = refl
resized-created Move i p size name = refl

module _ (e : Setup) (me : ℕ) where
  -- what is created once the operation is over, if it creates none
  abbrev without_one : Actor → ℕ
  without_one a = a.instance.created + length (later a.todo)

  logged-births : (x : Entry) (a : Actor) → creations (logged x a) ≤ without_one a
  logged-births x a = omega arith

  carried-births : (task : Task) (r : Option (Route Content)) (g : Gone) (b : Actor)
      → creations (carried (For task) (task_over task) (record { actor = b; route = r; gone = g }))
      ≤ without_one b
  carried-births task None g b = logged-births (entry_of task g) b
  carried-births task (Some r) g b = omega arith

  task-births : (task : Task) (h : Named) (b : Actor)
      → creations (hands_over e me task h b) ≤ without_one b
  task-births task h b =
      let t = route_of e me h (let_go h.name b) in
      let s = (route-short e me h (let_go h.name b)).1 in
      omega (
        arith,
        carried-births task t.route t.gone t.actor,
        ap (λ ops. length (later ops)) s.2,
        s.6,
      )

  stands-births : (n : ℕ) (q : Place) (old : Option Named) (b : Actor)
      → creations (stands e me n q old b) ≤ without_one b
  stands-births n q None b = logged-births (entry.Alloc n q) b
  stands-births n q (Some h) b = task-births (Moving h.name n q) h b

  placed-births : (ask : Ask) (b : Actor) (o : Option Spot)
      → creations (placed_by e me ask b o) ≤ without_one b
  placed-births ask b None = omega arith
  placed-births ask b (Some spot) =
      stands-births ask.name (place_at b.instance spot ask.need) ask.old
      (holding ask.name spot
      (record b { instance = placing_at b.instance spot ask.need ask.name }))

  -- a carrier that is created counts as its plan says
  created-births : (ask : Ask) (p : CarrierPlan) (b : Actor) (t : Bool)
      → creations (created_by e me ask p b t) ≤ p.birth + length (later b.todo)
  created-births ask p b true = stands-births ask.name (single_place p ask.need) ask.old
      (holding ask.name (spot_of_place (single_place p ask.need))
      (record b { instance = creating_single b.instance p ask.need ask.name }))
  created-births ask p b false = placed-births ask (record b { instance = creating b.instance p })
      (chosen_spot (creating b.instance p) ask.need)

  making-births : (ask : Ask) (p : CarrierPlan) (b : Actor) (on : Bool)
      → plan b.instance ask.need ≡ Ok p → creations (making e me ask p b on) ≤ without_one b + 1
  making-births ask p b true q = omega arith
  making-births ask p b false q =
      omega (arith, created-births ask p b p.single, plan-birth b.instance ask.need p q)

  planned-births : (ask : Ask) (looked : ℕ) (b : Actor) (o : Result CarrierPlan NoCarrier)
      → plan b.instance ask.need ≡ o
      → creations (new_carrier_by e me ask looked b o) ≤ without_one b + 1
  planned-births ask looked b (Err why) q =
      omega (arith, logged-births (failed ask looked why ask.old) b)
  planned-births ask looked b (Ok p) q = making-births ask p b (migration e) q

  new_carrier-births : (ask : Ask) (looked : ℕ) (b : Actor)
      → creations (new_carrier e me ask looked b) ≤ without_one b + 1
  new_carrier-births ask looked b =
      planned-births ask looked b (plan b.instance ask.need) refl

  searched_by-births : (ask : Ask) (x : Search) (b : Actor) (t : Bool)
      → creations (searched_by e me ask x b t) ≤ without_one b + 1
  searched_by-births ask x b true = omega arith
  searched_by-births ask x b false = new_carrier-births ask (looked_in x.part) b

  search-births : (ask : Ask) (x : Search) (b : Actor)
      → creations (search_on e me ask x b) ≤ without_one b + 1
  search-births ask x b = searched_by-births ask x (record b { lists = x.lists }) (goes_on x.part)

  search_if-births : (ask : Ask) (a : Actor) (on : Bool)
      → creations (search_if e me ask a on) ≤ without_one a + 1
  search_if-births ask a true = search-births ask (new_search (greatest_number e) a.lists) a
  search_if-births ask a false = new_carrier-births ask 0 a

  chosen-births : (ask : Ask) (a : Actor) (o : Option Spot)
      → creations (chosen_by e me ask a o) ≤ without_one a + 1
  chosen-births ask a (Some spot) = omega (arith, placed-births ask a (Some spot))
  chosen-births ask a None = search_if-births ask (refills a) (migration e)

  seek_by-births : (ask : Ask) (a : Actor) (b : Bool)
      → creations (seek_by e me ask a b) ≤ without_one a + 1
  seek_by-births ask a true = new_carrier-births ask 0 (refills a)
  seek_by-births ask a false = chosen-births ask a (chosen_spot a.instance ask.need)

  seek-births : (ask : Ask) (a : Actor) → creations (seek e me ask a) ≤ without_one a + 1
  seek-births ask a = seek_by-births ask a (is_alone a.instance ask.need)

  resized-births : (h : Named) (fresh need : ℕ) (a : Actor)
      → creations (resized_here h fresh need a) ≤ without_one a + 1
  resized-births h fresh need a = omega (
    arith,
    resized-created (decision_at a.instance h.spot need) a.instance h.spot
        (resized_to a.instance h.spot need) fresh,
  )

  decided-births : (h : Named) (fresh need : ℕ) (a : Actor) (d : Decision)
      → creations (reallocated_by e me h fresh need a d) ≤ without_one a + 1
  decided-births h fresh need a Move =
      seek-births (record { name = fresh; need = need; old = Some h }) a
  decided-births h fresh need a Stay = resized-births h fresh need a
  decided-births h fresh need a ShrinkHere = resized-births h fresh need a
  decided-births h fresh need a GrowHere = resized-births h fresh need a
  decided-births h fresh need a (ShrinkCarrier pages) = resized-births h fresh need a

  realloc-births : (o fresh need : ℕ) (a : Actor) (h : Option Named)
      → creations (reallocated e me o fresh need a h) ≤ without_one a + 1
  realloc-births o fresh need a None =
      omega (arith, logged-births (entry.ReallocSkipped o fresh) a)
  realloc-births o fresh need a (Some h) =
      decided-births h fresh need a (decision_at a.instance h.spot need)

  free-births : (n : ℕ) (a : Actor) (h : Option Named)
      → creations (freed e me n a h) ≤ without_one a
  free-births n a None = logged-births (entry.FreeSkipped n) a
  free-births n a (Some h) = task-births (Freeing n) h a

  give-births : (n to : ℕ) (a : Actor) (h : Option Named)
      → creations (giving n to a h) ≤ without_one a
  give-births n to a None = logged-births (entry.GiveSkipped n to) a
  give-births n to a (Some h) = omega arith

  -- an operation creates one carrier at most
  itself-births : (a : Actor) (ops : List Op) → a.todo ≡ ops
      → creations (itself e me a ops) ≤ a.instance.created + length ops
  itself-births a [] q = omega arith
  itself-births a (op.Alloc n b ∷ ops) q = omega (
    arith,
    seek-births (record { name = n; need = need_of b; old = None }) a,
    ap (λ l. length (later l)) q,
  )
  itself-births a (op.Free n ∷ ops) q =
      omega (arith, free-births n a (named_at n a.held), ap (λ l. length (later l)) q)
  itself-births a (op.Realloc o n b ∷ ops) q = omega (
    arith,
    realloc-births o n (need_of b) a (named_at o a.held),
    ap (λ l. length (later l)) q,
  )
  itself-births a (op.Give n to ∷ ops) q =
      omega (arith, give-births n to a (named_at n a.held), ap (λ l. length (later l)) q)
  itself-births a (op.Take n tries ∷ ops) q = omega (arith, ap (λ l. length (later l)) q)
  itself-births a (op.Info ∷ ops) q = omega (arith, ap (λ l. length (later l)) q)
  itself-births a (op.Idle ∷ ops) q = omega (arith, ap (λ l. length (later l)) q)

  onward-by : (b : Actor) (st : Stage Content) → b.stage ≡ st
      → creations (onward_at e me b st) ≤ creations b
  onward-by b Ready q =
      omega (arith, itself-births b b.todo refl, ap (creations_at b.todo) q)
  onward-by b Begin q = omega arith
  onward-by b (Routed r y g) q = omega arith
  onward-by b (Collecting c) q = omega arith
  onward-by b (Searching ask n part) q = omega arith
  onward-by b (Fetching ask n part seen) q = omega arith
  onward-by b (Creating ask p) q = omega arith
  onward-by b (Giving g to) q = omega arith
  onward-by b (Taking n tries left) q = omega arith
  onward-by b Ended q = omega arith

  onward-births : (b : Actor) → creations (onward e me b) ≤ creations b
  onward-births b = onward-by b b.stage refl

  -- with all operations left
  abbrev with_all : Actor → ℕ
  with_all a = a.instance.created + length a.todo

  -- a walk creates none
  carried-walk : (over : Gone → Actor → Actor) (r : Option (Route Content)) (g : Gone) (b : Actor)
      → creations (over g b) ≤ with_all b
      → creations (carried Walk over (record { actor = b; route = r; gone = g })) ≤ with_all b
  carried-walk over None g b h = h
  carried-walk over (Some r) g b h = omega arith

  worked-births : (ns : List Node) (b : Actor) → creations (worked_off e me ns b) ≤ with_all b
  worked-births [] b = omega arith
  worked-births (Carrier c ∷ ns) b = omega arith
  worked-births (Block n p ∷ ns) b =
      let t = route_of e me (record { name = n; spot = p }) (record b { passed = ns }) in
      let s = (route-short e me (record { name = n; spot = p }) (record b { passed = ns })).1 in
      omega (
        arith,
        carried-walk (λ gone d. worked_off e me ns d) t.route t.gone t.actor
            (worked-births ns t.actor),
        ap (λ ops. length ops) s.2,
        s.6,
      )

  walk-route : (r : Route Content) (g : Gone) (a : Actor) (z : Answer)
      → creations (after_row e me a z (Routed r Walk g)) ≤ with_all a
  walk-route r g a z =
      let t = turned e me r g a z in
      let s = (turned-short e me r g a z).1 in
      omega (
        arith,
        carried-walk (after_route e me Walk) t.route t.gone t.actor
            (worked-births t.actor.passed t.actor),
        ap (λ ops. length ops) s.2,
        s.6,
      )

  task-route : (r : Route Content) (task : Task) (g : Gone) (a : Actor) (z : Answer)
      → creations (after_row e me a z (Routed r (For task) g)) ≤ without_one a
  task-route r task g a z =
      let t = turned e me r g a z in
      let s = (turned-short e me r g a z).1 in
      omega (
        arith,
        carried-births task t.route t.gone t.actor,
        ap (λ ops. length (later ops)) s.2,
        s.6,
      )

  saw-births : (ask : Ask) (n : ℕ) (part : Part) (a : Actor) (v : OwnerWord) (t : Bool)
      → creations (saw_by e me ask n part a v t) ≤ without_one a + 1
  saw-births ask n part a v true = omega arith
  saw-births ask n part a v false =
      search-births ask (passed (greatest_number e) a.lists n part v) a

  searched-births : (ask : Ask) (n : ℕ) (part : Part) (a : Actor) (r : Answer)
      → creations (searched e me ask n part a r) ≤ without_one a + 1
  searched-births ask n part a (Saw v) =
      saw-births ask n (with_counted v part) a v (fits ask.need v)
  searched-births ask n part a Done = omega arith
  searched-births ask n part a (Head x) = omega arith
  searched-births ask n part a Rests = omega arith
  searched-births ask n part a (Passes x) = omega arith
  searched-births ask n part a (Won x) = omega arith
  searched-births ask n part a (Lost x) = omega arith
  searched-births ask n part a (Home x) = omega arith
  searched-births ask n part a (Got x) = omega arith

  fetched-births : (ask : Ask) (n : ℕ) (part : Part) (a : Actor) (r : Answer)
      → creations (fetched e me ask n part a r) ≤ without_one a + 1
  fetched-births ask n part a (Won x) = omega (
    arith,
    placed-births ask (fetches n x a) (chosen_spot (employing a.instance x) ask.need),
  )
  fetched-births ask n part a (Lost u) =
      search-births ask (passed (greatest_number e) a.lists n part u) a
  fetched-births ask n part a Done = omega arith
  fetched-births ask n part a (Head x) = omega arith
  fetched-births ask n part a Rests = omega arith
  fetched-births ask n part a (Passes x) = omega arith
  fetched-births ask n part a (Saw x) = omega arith
  fetched-births ask n part a (Home x) = omega arith
  fetched-births ask n part a (Got x) = omega arith

  took_by-births : (n tries left : ℕ) (a : Actor) (o : Option Spot)
      → creations (took_by n tries left a o) ≤ without_one a
  took_by-births n tries left a (Some spot) = logged-births (entry.Take n) (holding n spot a)
  took_by-births n tries zero a None = logged-births (entry.TakeAbsent n tries) a
  took_by-births n tries (suc zero) a None = logged-births (entry.TakeAbsent n tries) a
  took_by-births n tries (suc (suc left)) a None = omega arith

  took-births : (n tries left : ℕ) (a : Actor) (r : Answer)
      → creations (took n tries left a r) ≤ without_one a
  took-births n tries left a (Got o) = took_by-births n tries left a o
  took-births n tries left a Done = omega arith
  took-births n tries left a (Head x) = omega arith
  took-births n tries left a Rests = omega arith
  took-births n tries left a (Passes x) = omega arith
  took-births n tries left a (Saw x) = omega arith
  took-births n tries left a (Won x) = omega arith
  took-births n tries left a (Lost x) = omega arith
  took-births n tries left a (Home x) = omega arith

  taken-births : (a : Actor) (o : Option Node) → creations (taken a o) ≤ with_all a
  taken-births a None = omega arith
  taken-births a (Some n) = omega arith

  passed-births : (a : Actor) (o : Option Node) → creations (passed_on e me a o) ≤ with_all a
  passed-births a None = worked-births (with_passed a.next a.passed) (record a { next = None })
  passed-births a (Some n) = omega arith

  begun-births : (a : Actor) (r : Answer) → creations (begun e me a r) ≤ with_all a
  begun-births a (Head o) = taken-births a o
  begun-births a Rests = omega arith
  begun-births a (Passes o) = passed-births a o
  begun-births a Done = omega arith
  begun-births a (Saw x) = omega arith
  begun-births a (Won x) = omega arith
  begun-births a (Lost x) = omega arith
  begun-births a (Home x) = omega arith
  begun-births a (Got x) = omega arith

  -- each row
  row-births : (a : Actor) (r : Answer) (st : Stage Content) → a.stage ≡ st → IsPlanned a st
      → creations (after_row e me a r st) ≤ creations a
  row-births a r Begin q h = omega (arith, begun-births a r, ap (creations_at a.todo) q)
  row-births a r (Routed route Walk g) q h =
      omega (arith, walk-route route g a r, ap (creations_at a.todo) q)
  row-births a r (Routed route (For task) g) q h =
      omega (arith, task-route route task g a r, ap (creations_at a.todo) q)
  row-births a r (Collecting c) q h =
      omega (arith, worked-births a.passed (disowned c (struck c a)), ap (creations_at a.todo) q)
  row-births a r (Searching ask n part) q h =
      omega (arith, searched-births ask n part a r, ap (creations_at a.todo) q)
  row-births a r (Fetching ask n part seen) q h =
      omega (arith, fetched-births ask n part a r, ap (creations_at a.todo) q)
  row-births a r (Creating ask p) q h = omega (
    arith,
    created-births ask p a p.single,
    plan-birth a.instance ask.need p h,
    ap (creations_at a.todo) q,
  )
  row-births a r (Giving h to) q n = omega (
    arith,
    logged-births (entry.Give h.name to) (let_go h.name a),
    ap (creations_at a.todo) q,
  )
  row-births a r (Taking n tries left) q h =
      omega (arith, took-births n tries left a r, ap (creations_at a.todo) q)
  row-births a r Ended q h = omega arith
  row-births a r Ready q h = omega arith

module _ (e : Setup) (w : State) (rule : Rule e w) (me : ℕ) where
  planned-at : (st : Stage Content) → Fits e w me (w.actors me) st → IsPlanned (w.actors me) st
  planned-at (Creating ask p) fit = fit.1
  planned-at Begin fit = tt
  planned-at (Routed r y g) fit = tt
  planned-at (Collecting c) fit = tt
  planned-at (Searching ask n part) fit = tt
  planned-at (Fetching ask n part seen) fit = tt
  planned-at (Giving g to) fit = tt
  planned-at (Taking n tries left) fit = tt
  planned-at Ended fit = tt
  planned-at Ready fit = tt

  -- the scheduler once its row is answered
  pub advanced-births : creations (advanced e w me) ≤ creations (w.actors me)
  advanced-births = row-births e me (w.actors me) (answered w me) (w.actors me).stage refl
      (planned-at (w.actors me).stage (rule.present.fits me))

  step-births : creations ((step e w me).actors me) ≤ creations (w.actors me)
  step-births = elim (ended-or (w.actors me).stage) [
    | inl q ↦ omega (arith, ap (λ (v : State). creations (v.actors me)) (step-ended e w me q))
    | inr goes ↦ omega (
      arith,
      ap creations (step-mine e w me goes),
      onward-births e me (advanced e w me),
      advanced-births,
    )
  ]

module _ (e : Setup) where
  first-births : CreatesFew e (run e [])
  first-births i = by (is_scheduler e i)
    where
      by : (b : Bool) → (instance_by e b i).created + creations_at (e.texts i) (first_stage e b)
          ≤ most_created e i
      by true = omega arith
      by false = omega arith

  pub creates-few : ((L : List ℕ) → Rule e (run e L)) → (turns : List ℕ)
      → CreatesFew e (run e turns)
  creates-few rules = by-turns (λ L. CreatesFew e (run e L)) next first-births
    where
      next : (L : List ℕ) (j : ℕ) → CreatesFew e (run e L) → CreatesFew e (run e (L ++ j ∷ []))
      next L j h i = elim (cases_eq j i) [
        | inl q ↦ subst (λ k. creations ((run e (L ++ k ∷ [])).actors i) ≤ most_created e i) (sym q)
            (omega (
              arith,
              h i,
              step-births e (run e L) (rules L) i,
              ap (λ (w : State). creations (w.actors i)) (run-snoc e L i),
            ))
        | inr ne ↦ omega (
          arith,
          h i,
          ap (λ (w : State). creations (w.actors i)) (run-snoc e L j),
          ap creations (step-other e (run e L) j i (λ q. ne (sym q))),
        )
      ]
