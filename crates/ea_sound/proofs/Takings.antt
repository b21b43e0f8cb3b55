-- No row that a scheduler does lets it take its queue more often, and where it takes the queue it
-- does so less often from then on.
use Rattle.std.proofs.Common.{◌≡◌, ◌≢◌, ℕ, zero, suc, ◌<◌, ◌≤◌, List, [], ◌∷◌, Bool, true}
use Rattle.std.proofs.Common.{false, refl, ap, arith}
use Rattle.std.specs.Prelude.{Option, Some, None, Result, Ok, Err, length}
use Rattle.ea_model.specs.declared.carriers.CarrierPlan.{CarrierPlan}
use Rattle.ea_model.specs.declared.carriers.Place.{Place}
use Rattle.ea_model.specs.declared.carriers.Spot.{Spot}
use Rattle.ea_model.specs.Entries.{Entry}
use Rattle.ea_model.specs.declared.entries.Entry.TheVariants as entry
use Rattle.ea_model.specs.declared.entries.NoCarrier.{NoCarrier}
use Rattle.ea_model.specs.declared.operations.Op.{Op}
use Rattle.ea_model.specs.declared.operations.Op.TheVariants as op
use Rattle.ea_model.specs.declared.reallocation.Decision.{Decision}
use Rattle.ea_model.specs.declared.reallocation.Decision.TheVariants.{Stay, ShrinkHere, GrowHere}
use Rattle.ea_model.specs.declared.reallocation.Decision.TheVariants.{ShrinkCarrier, Move}
use Rattle.ea_model.specs.Instance.{chosen_spot, creating, creating_single, decision_at, is_alone}
use Rattle.ea_model.specs.Instance.{place_at, placing_at, plan, single_place}
use Rattle.ea_model.specs.Units.{need_of}
use Rattle.ea_model.specs.Content.{Content}
use Rattle.ea_model.specs.Employment.{employing}
use Rattle.ea_machine.specs.Placements.{fetches, search_on}
use Rattle.ea_machine.specs.Releases.{struck}
use Rattle.ea_machine.specs.Searches.{Search, goes_on, looked_in, new_search, passed, with_counted}
use Rattle.ea_machine.specs.declared.parts.Part.{Part}
use Rattle.ea_machine.specs.declared.nodes.Node.{Node}
use Rattle.ea_machine.specs.declared.nodes.Node.TheVariants.{Block, Carrier}
use Rattle.ea_machine.specs.declared.owners.OwnerWord.{OwnerWord}
use Rattle.ea_machine.specs.declared.stages.Stage.{Stage}
use Rattle.ea_machine.specs.declared.stages.Stage.TheVariants.{Begin, Routed, Collecting, Searching}
use Rattle.ea_machine.specs.declared.stages.Stage.TheVariants.{Fetching, Creating, Giving, Taking}
use Rattle.ea_machine.specs.declared.stages.Stage.TheVariants.{Ended, Ready}
use Rattle.ea_machine.specs.declared.stages.Route.{Route}
use Rattle.ea_machine.specs.Actor.{Actor}
use Rattle.ea_machine.specs.declared.tasks.Task.{Task}
use Rattle.ea_machine.specs.declared.tasks.Task.TheVariants.{Freeing, Moving}
use Rattle.ea_machine.specs.declared.tasks.Why.TheVariants.{Walk, For}
use Rattle.ea_machine.specs.declared.tasks.Gone.{Gone}
use Rattle.ea_machine.specs.declared.asks.Ask.{Ask}
use Rattle.ea_machine.specs.Machine.{after_row, onward, onward_at, step, wants}
use Rattle.ea_machine.specs.Nodes.{named_at}
use Rattle.ea_machine.specs.declared.nodes.Named.{Named}
use Rattle.ea_machine.specs.Operations.{freed, giving, itself, took, took_by}
use Rattle.ea_machine.specs.Placements.{chosen_by, created_by, failed, fetched}
use Rattle.ea_machine.specs.Searches.{fits}
use Rattle.ea_machine.specs.Placements.{holding, making, new_carrier, new_carrier_by, placed_by}
use Rattle.ea_machine.specs.Placements.{saw_by, search_if, searched, searched_by, seek}
use Rattle.ea_machine.specs.Placements.{seek_by, spot_of_place, stands}
use Rattle.ea_machine.specs.Reallocations.{reallocated, reallocated_by, resized_here}
use Rattle.ea_machine.specs.Releases.{disowned, route_of, turned}
use Rattle.ea_machine.specs.Rows.{Answer, Done, Head, Rests, Passes, Saw, Won, Lost, Home, Got}
use Rattle.ea_machine.specs.Setup.{Setup, greatest_number, migration}
use Rattle.ea_machine.specs.State.{State}
use Rattle.ea_machine.specs.Table.{answer}
use Rattle.ea_machine.specs.Tasks.{carried, entry_of, hands_over, let_go, logged, task_over}
use Rattle.ea_machine.specs.Walks.{after_route, begun, passed_on, taken, with_passed, worked_off}
use Rattle.ea_sound.specs.Turns.{advanced}
use Rattle.ea_sound.specs.OwnWork.{begin_takings, later_takings, stage_takings, takings}
use Rattle.ea_sound.proofs.ShortRoutes.{route-short, turned-short}
use Rattle.ea_sound.proofs.TurnLists.{step-mine}
use Rattle.ea_machine.specs.Placements.{refills}

begin-most : (n : Option Node) → begin_takings n ≤ 1
begin-most None = omega arith
begin-most (Some n) = omega arith

module _ (e : Setup) (me : ℕ) where
  -- an operation, once its begin is over, takes the queue no more

  logged-few : (x : Entry) (a : Actor) → takings (logged x a) ≤ later_takings a.todo
  logged-few x a = omega (arith, begin-most a.next)

  carried-few : (task : Task) (r : Option (Route Content)) (g : Gone) (b : Actor)
      → takings (carried (For task) (task_over task) (record { actor = b; route = r; gone = g }))
      ≤ later_takings b.todo
  carried-few task None g b = logged-few (entry_of task g) b
  carried-few task (Some r) g b = omega arith

  task-few : (task : Task) (h : Named) (b : Actor)
      → takings (hands_over e me task h b) ≤ later_takings b.todo
  task-few task h b =
      let t = route_of e me h (let_go h.name b) in
      let s = (route-short e me h (let_go h.name b)).1 in
      omega (arith, carried-few task t.route t.gone t.actor, ap later_takings s.2)

  stands-few : (n : ℕ) (q : Place) (old : Option Named) (b : Actor)
      → takings (stands e me n q old b) ≤ later_takings b.todo
  stands-few n q None b = logged-few (entry.Alloc n q) b
  stands-few n q (Some h) b = task-few (Moving h.name n q) h b

  placed-few : (ask : Ask) (b : Actor) (o : Option Spot)
      → takings (placed_by e me ask b o) ≤ later_takings b.todo
  placed-few ask b None = omega arith
  placed-few ask b (Some spot) = stands-few ask.name (place_at b.instance spot ask.need) ask.old
      (holding ask.name spot
      (record b { instance = placing_at b.instance spot ask.need ask.name }))

  created-few : (ask : Ask) (p : CarrierPlan) (b : Actor) (t : Bool)
      → takings (created_by e me ask p b t) ≤ later_takings b.todo
  created-few ask p b true = stands-few ask.name (single_place p ask.need) ask.old
      (holding ask.name (spot_of_place (single_place p ask.need))
      (record b { instance = creating_single b.instance p ask.need ask.name }))
  created-few ask p b false = placed-few ask (record b { instance = creating b.instance p })
      (chosen_spot (creating b.instance p) ask.need)

  making-few : (ask : Ask) (p : CarrierPlan) (b : Actor) (on : Bool)
      → takings (making e me ask p b on) ≤ later_takings b.todo
  making-few ask p b true = omega arith
  making-few ask p b false = created-few ask p b p.single

  planned-few : (ask : Ask) (looked : ℕ) (b : Actor) (o : Result CarrierPlan NoCarrier)
      → takings (new_carrier_by e me ask looked b o) ≤ later_takings b.todo
  planned-few ask looked b (Err why) = logged-few (failed ask looked why ask.old) b
  planned-few ask looked b (Ok p) = making-few ask p b (migration e)

  new_carrier-few : (ask : Ask) (looked : ℕ) (b : Actor)
      → takings (new_carrier e me ask looked b) ≤ later_takings b.todo
  new_carrier-few ask looked b = planned-few ask looked b (plan b.instance ask.need)

  searched_by-few : (ask : Ask) (x : Search) (b : Actor) (t : Bool)
      → takings (searched_by e me ask x b t) ≤ later_takings b.todo
  searched_by-few ask x b true = omega arith
  searched_by-few ask x b false = new_carrier-few ask (looked_in x.part) b

  search-few : (ask : Ask) (x : Search) (b : Actor)
      → takings (search_on e me ask x b) ≤ later_takings b.todo
  search-few ask x b = searched_by-few ask x (record b { lists = x.lists }) (goes_on x.part)

  search_if-few : (ask : Ask) (a : Actor) (on : Bool)
      → takings (search_if e me ask a on) ≤ later_takings a.todo
  search_if-few ask a true = search-few ask (new_search (greatest_number e) a.lists) a
  search_if-few ask a false = new_carrier-few ask 0 a

  chosen-few : (ask : Ask) (a : Actor) (o : Option Spot)
      → takings (chosen_by e me ask a o) ≤ later_takings a.todo
  chosen-few ask a (Some spot) = placed-few ask a (Some spot)
  chosen-few ask a None = search_if-few ask (refills a) (migration e)

  seek_by-few : (ask : Ask) (a : Actor) (b : Bool)
      → takings (seek_by e me ask a b) ≤ later_takings a.todo
  seek_by-few ask a true = new_carrier-few ask 0 (refills a)
  seek_by-few ask a false = chosen-few ask a (chosen_spot a.instance ask.need)

  seek-few : (ask : Ask) (a : Actor) → takings (seek e me ask a) ≤ later_takings a.todo
  seek-few ask a = seek_by-few ask a (is_alone a.instance ask.need)

  resized-few : (h : Named) (fresh need : ℕ) (a : Actor)
      → takings (resized_here h fresh need a) ≤ later_takings a.todo
  resized-few h fresh need a = omega (arith, begin-most a.next)

  decided-few : (h : Named) (fresh need : ℕ) (a : Actor) (d : Decision)
      → takings (reallocated_by e me h fresh need a d) ≤ later_takings a.todo
  decided-few h fresh need a Move = seek-few (record { name = fresh; need = need; old = Some h }) a
  decided-few h fresh need a Stay = resized-few h fresh need a
  decided-few h fresh need a ShrinkHere = resized-few h fresh need a
  decided-few h fresh need a GrowHere = resized-few h fresh need a
  decided-few h fresh need a (ShrinkCarrier pages) = resized-few h fresh need a

  realloc-few : (o fresh need : ℕ) (a : Actor) (h : Option Named)
      → takings (reallocated e me o fresh need a h) ≤ later_takings a.todo
  realloc-few o fresh need a None = logged-few (entry.ReallocSkipped o fresh) a
  realloc-few o fresh need a (Some h) =
      decided-few h fresh need a (decision_at a.instance h.spot need)

  free-few : (n : ℕ) (a : Actor) (h : Option Named)
      → takings (freed e me n a h) ≤ later_takings a.todo
  free-few n a None = logged-few (entry.FreeSkipped n) a
  free-few n a (Some h) = task-few (Freeing n) h a

  give-few : (n to : ℕ) (a : Actor) (h : Option Named)
      → takings (giving n to a h) ≤ later_takings a.todo
  give-few n to a None = logged-few (entry.GiveSkipped n to) a
  give-few n to a (Some h) = omega arith

  itself-few : (a : Actor) (ops : List Op) → a.todo ≡ ops
      → takings (itself e me a ops) ≤ length ops
  itself-few a [] q = omega arith
  itself-few a (op.Alloc n b ∷ ops) q = omega (
    arith,
    seek-few (record { name = n; need = need_of b; old = None }) a,
    ap later_takings q,
  )
  itself-few a (op.Free n ∷ ops) q =
      omega (arith, free-few n a (named_at n a.held), ap later_takings q)
  itself-few a (op.Realloc o n b ∷ ops) q =
      omega (arith, realloc-few o n (need_of b) a (named_at o a.held), ap later_takings q)
  itself-few a (op.Give n to ∷ ops) q =
      omega (arith, give-few n to a (named_at n a.held), ap later_takings q)
  itself-few a (op.Take n tries ∷ ops) q = omega (arith, ap later_takings q)
  itself-few a (op.Info ∷ ops) q = omega (arith, begin-most a.next, ap later_takings q)
  itself-few a (op.Idle ∷ ops) q =
      omega (arith, logged-few entry.Idle a, ap later_takings q)

  onward-by : (b : Actor) (st : Stage Content) → b.stage ≡ st
      → takings (onward_at e me b st) ≤ takings b
  onward-by b Ready q =
      omega (arith, itself-few b b.todo refl, ap (stage_takings b.next b.todo) q)
  onward-by b Begin q = omega arith
  onward-by b (Routed r y g) q = omega arith
  onward-by b (Collecting c) q = omega arith
  onward-by b (Searching ask n part) q = omega arith
  onward-by b (Fetching ask n part seen) q = omega arith
  onward-by b (Creating ask p) q = omega arith
  onward-by b (Giving g to) q = omega arith
  onward-by b (Taking n tries left) q = omega arith
  onward-by b Ended q = omega arith

  pub onward-few : (b : Actor) → takings (onward e me b) ≤ takings b
  onward-few b = onward-by b b.stage refl

  -- a walk takes it no more until the operation is over

  carried-walk : (over : Gone → Actor → Actor) (r : Option (Route Content)) (g : Gone) (b : Actor)
      → takings (over g b) ≤ length b.todo
      → takings (carried Walk over (record { actor = b; route = r; gone = g })) ≤ length b.todo
  carried-walk over None g b h = h
  carried-walk over (Some r) g b h = omega arith

  worked-few : (ns : List Node) (b : Actor) → takings (worked_off e me ns b) ≤ length b.todo
  worked-few [] b = omega arith
  worked-few (Carrier c ∷ ns) b = omega arith
  worked-few (Block n p ∷ ns) b =
      let t = route_of e me (record { name = n; spot = p }) (record b { passed = ns }) in
      let s = (route-short e me (record { name = n; spot = p }) (record b { passed = ns })).1 in
      omega (
        arith,
        carried-walk (λ gone d. worked_off e me ns d) t.route t.gone t.actor
            (worked-few ns t.actor),
        ap (λ ops. length ops) s.2,
      )

  walk-route : (r : Route Content) (g : Gone) (a : Actor) (z : Answer)
      → takings (after_row e me a z (Routed r Walk g)) ≤ length a.todo
  walk-route r g a z =
      let t = turned e me r g a z in
      omega (
        arith,
        carried-walk (after_route e me Walk) t.route t.gone t.actor
            (worked-few t.actor.passed t.actor),
        ap (λ ops. length ops) (turned-short e me r g a z).1.2,
      )

  task-route : (r : Route Content) (task : Task) (g : Gone) (a : Actor) (z : Answer)
      → takings (after_row e me a z (Routed r (For task) g)) ≤ later_takings a.todo
  task-route r task g a z =
      let t = turned e me r g a z in
      omega (
        arith,
        carried-few task t.route t.gone t.actor,
        ap later_takings (turned-short e me r g a z).1.2,
      )

  saw-few : (ask : Ask) (n : ℕ) (part : Part) (a : Actor) (v : OwnerWord) (t : Bool)
      → takings (saw_by e me ask n part a v t) ≤ later_takings a.todo
  saw-few ask n part a v true = omega arith
  saw-few ask n part a v false =
      search-few ask (passed (greatest_number e) a.lists n part v) a

  searched-few : (ask : Ask) (n : ℕ) (part : Part) (a : Actor) (r : Answer)
      → takings (searched e me ask n part a r) ≤ later_takings a.todo
  searched-few ask n part a (Saw v) = saw-few ask n (with_counted v part) a v (fits ask.need v)
  searched-few ask n part a Done = omega arith
  searched-few ask n part a (Head x) = omega arith
  searched-few ask n part a Rests = omega arith
  searched-few ask n part a (Passes x) = omega arith
  searched-few ask n part a (Won x) = omega arith
  searched-few ask n part a (Lost x) = omega arith
  searched-few ask n part a (Home x) = omega arith
  searched-few ask n part a (Got x) = omega arith

  fetched-few : (ask : Ask) (n : ℕ) (part : Part) (a : Actor) (r : Answer)
      → takings (fetched e me ask n part a r) ≤ later_takings a.todo
  fetched-few ask n part a (Won x) =
      placed-few ask (fetches n x a)
      (chosen_spot (employing a.instance x) ask.need)
  fetched-few ask n part a (Lost u) =
      search-few ask (passed (greatest_number e) a.lists n part u) a
  fetched-few ask n part a Done = omega arith
  fetched-few ask n part a (Head x) = omega arith
  fetched-few ask n part a Rests = omega arith
  fetched-few ask n part a (Passes x) = omega arith
  fetched-few ask n part a (Saw x) = omega arith
  fetched-few ask n part a (Home x) = omega arith
  fetched-few ask n part a (Got x) = omega arith

  took_by-few : (n tries left : ℕ) (a : Actor) (o : Option Spot)
      → takings (took_by n tries left a o) ≤ later_takings a.todo
  took_by-few n tries left a (Some spot) = logged-few (entry.Take n) (holding n spot a)
  took_by-few n tries zero a None = logged-few (entry.TakeAbsent n tries) a
  took_by-few n tries (suc zero) a None = logged-few (entry.TakeAbsent n tries) a
  took_by-few n tries (suc (suc left)) a None = omega arith

  took-few : (n tries left : ℕ) (a : Actor) (r : Answer)
      → takings (took n tries left a r) ≤ later_takings a.todo
  took-few n tries left a (Got o) = took_by-few n tries left a o
  took-few n tries left a Done = omega arith
  took-few n tries left a (Head x) = omega arith
  took-few n tries left a Rests = omega arith
  took-few n tries left a (Passes x) = omega arith
  took-few n tries left a (Saw x) = omega arith
  took-few n tries left a (Won x) = omega arith
  took-few n tries left a (Lost x) = omega arith
  took-few n tries left a (Home x) = omega arith

  -- the begin, which has taken the queue or goes on with its walk

  taken-few : (a : Actor) (o : Option Node) → takings (taken a o) ≤ length a.todo
  taken-few a None = omega arith
  taken-few a (Some n) = omega arith

  passed-few : (a : Actor) (o : Option Node) → takings (passed_on e me a o) ≤ length a.todo
  passed-few a None = worked-few (with_passed a.next a.passed) (record a { next = None })
  passed-few a (Some n) = omega arith

  pub begun-few : (a : Actor) (r : Answer) → takings (begun e me a r) ≤ length a.todo
  begun-few a (Head o) = taken-few a o
  begun-few a Rests = omega arith
  begun-few a (Passes o) = passed-few a o
  begun-few a Done = omega arith
  begun-few a (Saw x) = omega arith
  begun-few a (Won x) = omega arith
  begun-few a (Lost x) = omega arith
  begun-few a (Home x) = omega arith
  begun-few a (Got x) = omega arith

  -- each row
  row-few : (a : Actor) (r : Answer) (st : Stage Content) → a.stage ≡ st
      → takings (after_row e me a r st) ≤ takings a
  row-few a r Begin q = omega (arith, begun-few a r, ap (stage_takings a.next a.todo) q)
  row-few a r (Routed route Walk g) q =
      omega (arith, walk-route route g a r, ap (stage_takings a.next a.todo) q)
  row-few a r (Routed route (For task) g) q =
      omega (arith, task-route route task g a r, ap (stage_takings a.next a.todo) q)
  row-few a r (Collecting c) q =
      omega (
        arith,
        worked-few a.passed (disowned c (struck c a)),
        ap
            (stage_takings a.next a.todo) q,
      )
  row-few a r (Searching ask n part) q =
      omega (arith, searched-few ask n part a r, ap (stage_takings a.next a.todo) q)
  row-few a r (Fetching ask n part seen) q =
      omega (arith, fetched-few ask n part a r, ap (stage_takings a.next a.todo) q)
  row-few a r (Creating ask p) q =
      omega (arith, created-few ask p a p.single, ap (stage_takings a.next a.todo) q)
  row-few a r (Giving h to) q = omega (
    arith,
    logged-few (entry.Give h.name to) (let_go h.name a),
    ap (stage_takings a.next a.todo) q,
  )
  row-few a r (Taking n tries left) q =
      omega (arith, took-few n tries left a r, ap (stage_takings a.next a.todo) q)
  row-few a r Ended q = omega arith
  row-few a r Ready q = omega arith

module _ (e : Setup) (w : State) (me : ℕ) (goes : (w.actors me).stage ≢ Ended) where
  stepped-few : takings ((step e w me).actors me) ≤ takings (advanced e w me)
  stepped-few = omega (arith, ap takings (step-mine e w me goes), onward-few e me (advanced e w me))

  -- a step of the scheduler
  pub step-few : takings ((step e w me).actors me) ≤ takings (w.actors me)
  step-few = omega (
    arith,
    stepped-few,
    row-few e me (w.actors me)
        (answer me (wants (w.actors me)) w.shared) (w.actors me).stage refl,
  )

  -- the one by which it takes its queue
  pub taking-fewer : (w.actors me).stage ≡ Begin → (w.actors me).next ≡ None
      → takings ((step e w me).actors me) < takings (w.actors me)
  taking-fewer begins none = omega (
    arith,
    stepped-few,
    begun-few e me (w.actors me) (answer me (wants (w.actors me)) w.shared),
    ap (λ st. takings (after_row e me (w.actors me)
        (answer me (wants (w.actors me)) w.shared) st)) begins,
    ap (stage_takings (w.actors me).next (w.actors me).todo) begins,
    ap begin_takings none,
  )
