-- Each row that a scheduler does leaves it less work.
use Rattle.std.proofs.Common.{◌≡◌, ℕ, zero, suc, ◌+◌, ◌*◌, ◌<◌, ◌≤◌, List, [], ◌∷◌, Bool, true}
use Rattle.std.proofs.Common.{false, refl, ap, arith}
use Rattle.std.specs.Prelude.{Option, Some, None, Result, Ok, Err}
use Rattle.std.proofs.lemmas.List.Sums.{sum_by-cons}
use Rattle.ea_model.specs.declared.carriers.CarrierPlan.{CarrierPlan}
use Rattle.ea_model.specs.declared.carriers.Place.{Place}
use Rattle.ea_model.specs.declared.carriers.Spot.{Spot}
use Rattle.ea_model.specs.Entries.{Entry}
use Rattle.ea_model.specs.declared.entries.Entry.TheVariants as entry
use Rattle.ea_model.specs.declared.entries.NoCarrier.{NoCarrier}
use Rattle.ea_model.specs.declared.operations.Op.{Op}
use Rattle.ea_model.specs.declared.operations.Op.TheVariants as op
use Rattle.ea_model.specs.declared.reallocation.Decision.{Decision}
use Rattle.ea_model.specs.declared.reallocation.Decision.TheVariants.{Stay, ShrinkHere, GrowHere}
use Rattle.ea_model.specs.declared.reallocation.Decision.TheVariants.{ShrinkCarrier, Move}
use Rattle.ea_model.specs.Instance.{chosen_spot, creating, creating_single, decision_at, is_alone}
use Rattle.ea_model.specs.Instance.{place_at, placing_at, plan, single_place}
use Rattle.ea_model.specs.Units.{need_of}
use Rattle.ea_model.specs.Content.{Content}
use Rattle.ea_model.specs.Employment.{employing}
use Rattle.ea_machine.specs.Completion.{looks_left}
use Rattle.ea_machine.specs.Placements.{fetches, search_on}
use Rattle.ea_machine.specs.Searches.{Search, goes_on, left_in, looked_in, new_search, passed}
use Rattle.ea_machine.specs.Searches.{with_counted}
use Rattle.ea_machine.specs.declared.parts.Part.{Part}
use Rattle.ea_machine.specs.declared.nodes.Node.{Node}
use Rattle.ea_machine.specs.declared.nodes.Node.TheVariants.{Block, Carrier}
use Rattle.ea_machine.specs.declared.owners.OwnerWord.{OwnerWord}
use Rattle.ea_machine.specs.declared.stages.Stage.{Stage}
use Rattle.ea_machine.specs.declared.stages.Stage.TheVariants.{Begin, Routed, Collecting, Searching}
use Rattle.ea_machine.specs.declared.stages.Stage.TheVariants.{Fetching, Creating, Giving, Taking}
use Rattle.ea_machine.specs.declared.stages.Stage.TheVariants.{Ended, Ready}
use Rattle.ea_machine.specs.declared.stages.Route.{Route}
use Rattle.ea_machine.specs.declared.stages.Route.TheVariants.{Looking, Trying, Settling}
use Rattle.ea_machine.specs.declared.stages.Route.TheVariants.{Abandoning, Sending, Clearing}
use Rattle.ea_machine.specs.declared.stages.Route.TheVariants.{Pushing, Linking}
use Rattle.ea_machine.specs.Actor.{Actor}
use Rattle.ea_machine.specs.declared.tasks.Task.{Task}
use Rattle.ea_machine.specs.declared.tasks.Task.TheVariants.{Freeing, Moving}
use Rattle.ea_machine.specs.declared.tasks.Why.TheVariants.{Walk, For}
use Rattle.ea_machine.specs.declared.tasks.Gone.{Gone}
use Rattle.ea_machine.specs.declared.asks.Ask.{Ask}
use Rattle.ea_machine.specs.Completion.{actor_rows, begin_rows, next_rows, operation_rows}
use Rattle.ea_machine.specs.Completion.{passed_rows, route_rows, search_rows, stage_rows, text_rows}
use Rattle.ea_machine.specs.Machine.{after_row, onward, onward_at}
use Rattle.ea_machine.specs.Nodes.{named_at}
use Rattle.ea_machine.specs.declared.nodes.Named.{Named}
use Rattle.ea_machine.specs.Operations.{freed, giving, itself, took}
use Rattle.ea_machine.specs.Placements.{chosen_by, created_by, failed, fetched}
use Rattle.ea_machine.specs.Searches.{fits}
use Rattle.ea_machine.specs.Placements.{holding, making, new_carrier, new_carrier_by, placed_by}
use Rattle.ea_machine.specs.Placements.{saw_by, search_if, searched, searched_by, seek}
use Rattle.ea_machine.specs.Placements.{seek_by, spot_of_place, stands}
use Rattle.ea_machine.specs.Reallocations.{reallocated, reallocated_by, resized_here}
use Rattle.ea_machine.specs.Releases.{looked, route_of, turned}
use Rattle.ea_machine.specs.Rows.{Answer, Done, Head, Rests, Passes, Saw, Won, Lost, Home, Got}
use Rattle.ea_machine.specs.Setup.{Setup, greatest_number, migration}
use Rattle.ea_machine.specs.Tasks.{carried, entry_of, hands_over, later, let_go, logged, task_over}
use Rattle.ea_machine.specs.Walks.{after_route, worked_off}
use Rattle.ea_sound.proofs.SearchParts.{counted-as_many, new-looks, passed-looks}
use Rattle.ea_sound.proofs.ShortRoutes.{Same, route-short, some_rows, turned-short}
use Rattle.ea_machine.specs.Placements.{refills}

module _ (e : Setup) (me : ℕ) where
  -- the work but for the operation and the stage
  abbrev pub walk_rows : Actor → ℕ
  walk_rows a = passed_rows a.passed + next_rows a.next

  -- with the operations after this one
  abbrev rest_rows : Actor → ℕ
  rest_rows a = walk_rows a + text_rows e (later a.todo)

  -- with all operations left
  abbrev pub whole_rows : Actor → ℕ
  whole_rows a = walk_rows a + text_rows e a.todo

  same-rest : (a b : Actor) → Same a b → rest_rows b ≡ rest_rows a
  same-rest a b s = omega (
    arith,
    ap passed_rows s.0,
    ap next_rows s.1,
    ap (λ ops. text_rows e (later ops)) s.2,
  )

  same-whole : (a b : Actor) → Same a b → whole_rows b ≡ whole_rows a
  same-whole a b s = omega (arith, ap passed_rows s.0, ap next_rows s.1, ap (text_rows e) s.2)

  begin-most : (n : Option Node) → begin_rows n ≤ 11
  begin-most None = omega arith
  begin-most (Some n) = omega arith

  pub logged-less : (x : Entry) (a : Actor) → actor_rows e (logged x a) ≤ rest_rows a + 11
  logged-less x a = omega (arith, begin-most a.next)

  carried-less : (task : Task) (r : Option (Route Content)) (g : Gone) (b : Actor) (k : ℕ)
      → some_rows r ≤ k
      → actor_rows e (carried (For task) (task_over task)
      (record { actor = b; route = r; gone = g })) ≤ rest_rows b + 12 + k
  carried-less task None g b k l = omega (arith, logged-less (entry_of task g) b)
  carried-less task (Some r) g b k l = omega (arith, l)

  task-less : (task : Task) (h : Named) (b : Actor)
      → actor_rows e (hands_over e me task h b) ≤ rest_rows b + 18
  task-less task h b =
      let t = route_of e me h (let_go h.name b) in let s = route-short e me h (let_go h.name b) in
      omega (
        arith,
        carried-less task t.route t.gone t.actor 6 s.0,
        same-rest (let_go h.name b) t.actor s.1,
      )

  stands-less : (n : ℕ) (q : Place) (old : Option Named) (b : Actor)
      → actor_rows e (stands e me n q old b) ≤ rest_rows b + 18
  stands-less n q None b = omega (arith, logged-less (entry.Alloc n q) b)
  stands-less n q (Some h) b = task-less (Moving h.name n q) h b

  placed-less : (ask : Ask) (b : Actor) (o : Option Spot)
      → actor_rows e (placed_by e me ask b o) ≤ rest_rows b + 18
  placed-less ask b None = omega arith
  placed-less ask b (Some spot) = stands-less ask.name (place_at b.instance spot ask.need) ask.old
      (holding ask.name spot
      (record b { instance = placing_at b.instance spot ask.need ask.name }))

  pub created-less : (ask : Ask) (p : CarrierPlan) (b : Actor) (t : Bool)
      → actor_rows e (created_by e me ask p b t) ≤ rest_rows b + 18
  created-less ask p b true = stands-less ask.name (single_place p ask.need) ask.old
      (holding ask.name (spot_of_place (single_place p ask.need))
      (record b { instance = creating_single b.instance p ask.need ask.name }))
  created-less ask p b false = placed-less ask (record b { instance = creating b.instance p })
      (chosen_spot (creating b.instance p) ask.need)

  making-less : (ask : Ask) (p : CarrierPlan) (b : Actor) (on : Bool)
      → actor_rows e (making e me ask p b on) ≤ rest_rows b + 20
  making-less ask p b true = omega arith
  making-less ask p b false = omega (arith, created-less ask p b p.single)

  planned-less : (ask : Ask) (looked : ℕ) (b : Actor) (o : Result CarrierPlan NoCarrier)
      → actor_rows e (new_carrier_by e me ask looked b o) ≤ rest_rows b + 20
  planned-less ask looked b (Err why) = omega (arith, logged-less (failed ask looked why ask.old) b)
  planned-less ask looked b (Ok p) = making-less ask p b (migration e)

  new_carrier-less : (ask : Ask) (looked : ℕ) (b : Actor)
      → actor_rows e (new_carrier e me ask looked b) ≤ rest_rows b + 20
  new_carrier-less ask looked b = planned-less ask looked b (plan b.instance ask.need)

  searched_by-less : (ask : Ask) (x : Search) (b : Actor) (t : Bool)
      → actor_rows e (searched_by e me ask x b t)
      ≤ rest_rows b + 12 + (2 * looks_left e x.part + 10)
  searched_by-less ask x b true = omega arith
  searched_by-less ask x b false = omega (arith, new_carrier-less ask (looked_in x.part) b)

  search-less : (ask : Ask) (x : Search) (b : Actor)
      → actor_rows e (search_on e me ask x b)
      ≤ rest_rows b + 12 + (2 * looks_left e x.part + 10)
  search-less ask x b = searched_by-less ask x (record b { lists = x.lists }) (goes_on x.part)

  -- before the next number
  search-next : (ask : Ask) (n : ℕ) (part : Part) (b : Actor) (v : OwnerWord) → 1 ≤ left_in part
      → actor_rows e (search_on e me ask (passed (greatest_number e) b.lists n part v) b)
      ≤ rest_rows b + 12 + (2 * looks_left e part + 8)
  search-next ask n part b v some =
      let x = passed (greatest_number e) b.lists n part v in
      omega (arith, search-less ask x b, passed-looks e b.lists n part v some)

  search_if-less : (ask : Ask) (a : Actor) (on : Bool)
      → actor_rows e (search_if e me ask a on) ≤ rest_rows a + 12 + search_rows e
  search_if-less ask a true =
      let x = new_search (greatest_number e) a.lists in
      omega (arith, search-less ask x a, new-looks e a.lists)
  search_if-less ask a false = omega (arith, new_carrier-less ask 0 a)

  chosen-less : (ask : Ask) (a : Actor) (o : Option Spot)
      → actor_rows e (chosen_by e me ask a o) ≤ rest_rows a + 12 + search_rows e
  chosen-less ask a (Some spot) = omega (arith, placed-less ask a (Some spot))
  chosen-less ask a None = search_if-less ask (refills a) (migration e)

  seek_by-less : (ask : Ask) (a : Actor) (b : Bool)
      → actor_rows e (seek_by e me ask a b) ≤ rest_rows a + 12 + search_rows e
  seek_by-less ask a true = omega (arith, new_carrier-less ask 0 (refills a))
  seek_by-less ask a false = chosen-less ask a (chosen_spot a.instance ask.need)

  seek-less : (ask : Ask) (a : Actor)
      → actor_rows e (seek e me ask a) ≤ rest_rows a + 12 + search_rows e
  seek-less ask a = seek_by-less ask a (is_alone a.instance ask.need)

  resized-less : (h : Named) (fresh need : ℕ) (a : Actor)
      → actor_rows e (resized_here h fresh need a) ≤ rest_rows a + 12 + search_rows e
  resized-less h fresh need a = omega (arith, begin-most a.next)

  decided-less : (h : Named) (fresh need : ℕ) (a : Actor) (d : Decision)
      → actor_rows e (reallocated_by e me h fresh need a d) ≤ rest_rows a + 12 + search_rows e
  decided-less h fresh need a Move =
      seek-less (record { name = fresh; need = need; old = Some h }) a
  decided-less h fresh need a Stay = resized-less h fresh need a
  decided-less h fresh need a ShrinkHere = resized-less h fresh need a
  decided-less h fresh need a GrowHere = resized-less h fresh need a
  decided-less h fresh need a (ShrinkCarrier pages) = resized-less h fresh need a

  realloc-less : (o fresh need : ℕ) (a : Actor) (h : Option Named)
      → actor_rows e (reallocated e me o fresh need a h) ≤ rest_rows a + 12 + search_rows e
  realloc-less o fresh need a None = omega (arith, logged-less (entry.ReallocSkipped o fresh) a)
  realloc-less o fresh need a (Some h) =
      decided-less h fresh need a (decision_at a.instance h.spot need)

  free-less : (n : ℕ) (a : Actor) (h : Option Named)
      → actor_rows e (freed e me n a h) ≤ rest_rows a + 18
  free-less n a None = omega (arith, logged-less (entry.FreeSkipped n) a)
  free-less n a (Some h) = task-less (Freeing n) h a

  give-less : (n to : ℕ) (a : Actor) (h : Option Named)
      → actor_rows e (giving n to a h) ≤ rest_rows a + 13
  give-less n to a None = omega (arith, logged-less (entry.GiveSkipped n to) a)
  give-less n to a (Some h) = omega arith

  -- the rows of a text, operation by operation
  text-cons : (a : Actor) (o : Op) (ops : List Op) → a.todo ≡ o ∷ ops
      → whole_rows a ≡ rest_rows a + operation_rows e o + 12
  text-cons a o ops q =
      let c = sum_by-cons (λ o. operation_rows e o + 12) o ops in
      omega (arith, ap (text_rows e) q, ap (λ os. text_rows e (later os)) q, c)

  -- the operation itself takes no more than is counted for it
  itself-less : (a : Actor) (ops : List Op) → a.todo ≡ ops
      → actor_rows e (itself e me a ops) ≤ whole_rows a
  itself-less a [] q = omega arith
  itself-less a (op.Alloc n b ∷ ops) q =
      omega (
        arith,
        seek-less (record { name = n; need = need_of b; old = None }) a,
        text-cons a (op.Alloc n b) ops q,
      )
  itself-less a (op.Free n ∷ ops) q =
      omega (arith, free-less n a (named_at n a.held), text-cons a (op.Free n) ops q)
  itself-less a (op.Realloc o n b ∷ ops) q =
      omega (
        arith,
        realloc-less o n (need_of b) a (named_at o a.held),
        text-cons a (op.Realloc o n b) ops q,
      )
  itself-less a (op.Give n to ∷ ops) q =
      omega (arith, give-less n to a (named_at n a.held), text-cons a (op.Give n to) ops q)
  itself-less a (op.Take n tries ∷ ops) q = omega (arith, text-cons a (op.Take n tries) ops q)
  itself-less a (op.Info ∷ ops) q =
      omega (arith, begin-most a.next, text-cons a op.Info ops q)
  itself-less a (op.Idle ∷ ops) q =
      omega (arith, logged-less entry.Idle a, text-cons a op.Idle ops q)

  onward-by : (b : Actor) (st : Stage Content) → b.stage ≡ st
      → actor_rows e (onward_at e me b st) ≤ actor_rows e b
  onward-by b Ready q =
      omega (arith, itself-less b b.todo refl, ap (stage_rows e b.next b.todo) q)
  onward-by b Begin q = omega arith
  onward-by b (Routed r y g) q = omega arith
  onward-by b (Collecting c) q = omega arith
  onward-by b (Searching ask n part) q = omega arith
  onward-by b (Fetching ask n part seen) q = omega arith
  onward-by b (Creating ask p) q = omega arith
  onward-by b (Giving g to) q = omega arith
  onward-by b (Taking n tries left) q = omega arith
  onward-by b Ended q = omega arith

  pub onward-less : (b : Actor) → actor_rows e (onward e me b) ≤ actor_rows e b
  onward-less b = onward-by b b.stage refl

  -- a walk
  carried-walk : (over : Gone → Actor → Actor) (r : Option (Route Content)) (g : Gone) (b : Actor)
      (k : ℕ) → some_rows r ≤ k → actor_rows e (over g b) ≤ whole_rows b
      → actor_rows e (carried Walk over (record { actor = b; route = r; gone = g }))
      ≤ whole_rows b + k
  carried-walk over None g b k l h = omega (arith, h)
  carried-walk over (Some r) g b k l h = omega (arith, l)

  pub worked-less : (ns : List Node) (b : Actor) → actor_rows e (worked_off e me ns b)
      ≤ passed_rows ns + next_rows b.next + text_rows e b.todo
  worked-less [] b = omega arith
  worked-less (Carrier c ∷ ns) b = omega arith
  worked-less (Block n p ∷ ns) b =
      let t = route_of e me (record { name = n; spot = p }) (record b { passed = ns }) in
      let s = route-short e me (record { name = n; spot = p }) (record b { passed = ns }) in
      omega (
        arith,
        carried-walk (λ gone d. worked_off e me ns d) t.route t.gone t.actor 6 s.0
            (omega (arith, worked-less ns t.actor, ap passed_rows s.1.0)),
        ap passed_rows s.1.0,
        ap next_rows s.1.1,
        ap (text_rows e) s.1.2,
      )

  route-some : (r : Route Content) → 1 ≤ route_rows r
  route-some (Looking h) = omega arith
  route-some (Trying h seen) = omega arith
  route-some (Settling x) = omega arith
  route-some (Abandoning x) = omega arith
  route-some (Sending x) = omega arith
  route-some (Clearing x) = omega arith
  route-some (Pushing node to) = omega arith
  route-some (Linking node to) = omega arith

  pub walk-route : (r : Route Content) (g : Gone) (a : Actor) (z : Answer)
      → actor_rows e (after_row e me a z (Routed r Walk g)) < whole_rows a + route_rows r
  walk-route r g a z =
      let t = turned e me r g a z in
      let s = turned-short e me r g a z in
      by t.route t.gone t.actor (omega (arith, s.0)) (worked-less t.actor.passed t.actor)
      (same-whole a t.actor s.1)
    where
      by : (o : Option (Route Content)) (h : Gone) (b : Actor) → some_rows o < route_rows r
          → actor_rows e (worked_off e me b.passed b)
          ≤ passed_rows b.passed + next_rows b.next + text_rows e b.todo
          → whole_rows b ≡ whole_rows a
          → actor_rows e (carried Walk (after_route e me Walk)
          (record { actor = b; route = o; gone = h })) < whole_rows a + route_rows r
      by None h b l k q = omega (arith, k, q, route-some r)
      by (Some o) h b l k q = omega (arith, l, q)

  pub task-route : (r : Route Content) (task : Task) (g : Gone) (a : Actor) (z : Answer)
      → actor_rows e (after_row e me a z (Routed r (For task) g))
      < rest_rows a + 12 + route_rows r
  task-route r task g a z =
      let t = turned e me r g a z in
      let s = turned-short e me r g a z in
      by t.route t.gone t.actor (omega (arith, s.0)) (same-rest a t.actor s.1)
    where
      by : (o : Option (Route Content)) (h : Gone) (b : Actor) → some_rows o < route_rows r
          → rest_rows b ≡ rest_rows a
          → actor_rows e (carried (For task) (task_over task)
          (record { actor = b; route = o; gone = h })) < rest_rows a + 12 + route_rows r
      by None h b l q = omega (arith, logged-less (entry_of task h) b, q, route-some r)
      by (Some o) h b l q = omega (arith, l, q)

  saw-less : (ask : Ask) (n : ℕ) (part : Part) (a : Actor) (v : OwnerWord) (t : Bool)
      → 1 ≤ left_in part
      → actor_rows e (saw_by e me ask n part a v t)
      < rest_rows a + 12 + (2 * looks_left e part + 10)
  saw-less ask n part a v true some = omega arith
  saw-less ask n part a v false some = omega (arith, search-next ask n part a v some)

  pub searched-less : (ask : Ask) (n : ℕ) (part : Part) (a : Actor) (r : Answer) → 1 ≤ left_in part
      → actor_rows e (searched e me ask n part a r)
      < rest_rows a + 12 + (2 * looks_left e part + 10)
  searched-less ask n part a (Saw v) some = omega (
    arith,
    saw-less ask n (with_counted v part) a v (fits ask.need v)
        (omega (arith, some, counted-as_many e part v)),
    counted-as_many e part v,
  )
  searched-less ask n part a Done some = omega arith
  searched-less ask n part a (Head x) some = omega arith
  searched-less ask n part a Rests some = omega arith
  searched-less ask n part a (Passes x) some = omega arith
  searched-less ask n part a (Won x) some = omega arith
  searched-less ask n part a (Lost x) some = omega arith
  searched-less ask n part a (Home x) some = omega arith
  searched-less ask n part a (Got x) some = omega arith

  pub fetched-less : (ask : Ask) (n : ℕ) (part : Part) (a : Actor) (r : Answer) → 1 ≤ left_in part
      → actor_rows e (fetched e me ask n part a r)
      < rest_rows a + 12 + (2 * looks_left e part + 9)
  fetched-less ask n part a (Won x) some =
      omega (
        arith,
        placed-less ask (fetches n x a) (chosen_spot (employing a.instance x) ask.need),
      )
  fetched-less ask n part a (Lost u) some = omega (arith, search-next ask n part a u some)
  fetched-less ask n part a Done some = omega arith
  fetched-less ask n part a (Head x) some = omega arith
  fetched-less ask n part a Rests some = omega arith
  fetched-less ask n part a (Passes x) some = omega arith
  fetched-less ask n part a (Saw x) some = omega arith
  fetched-less ask n part a (Home x) some = omega arith
  fetched-less ask n part a (Got x) some = omega arith

  pub took-less : (n tries left : ℕ) (a : Actor) (r : Answer)
      → actor_rows e (took n tries left a r) < rest_rows a + 12 + left
  took-less n tries left a (Got (Some spot)) =
      omega (arith, logged-less (entry.Take n) (holding n spot a))
  took-less n tries zero a (Got None) = omega (arith, logged-less (entry.TakeAbsent n tries) a)
  took-less n tries (suc zero) a (Got None) =
      omega (arith, logged-less (entry.TakeAbsent n tries) a)
  took-less n tries (suc (suc left)) a (Got None) = omega arith
  took-less n tries left a Done = omega arith
  took-less n tries left a (Head x) = omega arith
  took-less n tries left a Rests = omega arith
  took-less n tries left a (Passes x) = omega arith
  took-less n tries left a (Saw x) = omega arith
  took-less n tries left a (Won x) = omega arith
  took-less n tries left a (Lost x) = omega arith
  took-less n tries left a (Home x) = omega arith
