-- What the work of a scheduler between two rows leaves of the names that stand with it: it loses
-- none but those that are let go for good, each with a weight; a name that a block takes in its
-- place is in the log.
use Rattle.std.proofs.Common.{◌≡◌, ℕ, ◌+◌, ◌≤◌, Bool, true, false, List, [], ◌∷◌}
use Rattle.std.proofs.Common.{◌++◌, refl, ap, ◌∙◌, arith}
use Rattle.std.specs.Prelude.{Option, None, Some, Result, Ok, Err, if◌then◌else◌, flat_map, not}
use Rattle.ea_model.specs.declared.carriers.CarrierPlan.{CarrierPlan}
use Rattle.ea_model.specs.declared.carriers.Figures.{Figures}
use Rattle.ea_model.specs.declared.carriers.Place.{Place}
use Rattle.ea_model.specs.declared.carriers.Spot.{Spot}
use Rattle.ea_model.specs.declared.entries.Entry.TheVariants as entry
use Rattle.ea_model.specs.declared.entries.NoCarrier.{NoCarrier}
use Rattle.ea_model.specs.declared.operations.Op.{Op}
use Rattle.ea_model.specs.declared.operations.Op.TheVariants as op
use Rattle.ea_model.specs.declared.reallocation.Decision.{Decision}
use Rattle.ea_model.specs.declared.reallocation.Decision.TheVariants.{Stay, ShrinkHere, GrowHere}
use Rattle.ea_model.specs.declared.reallocation.Decision.TheVariants.{ShrinkCarrier, Move}
use Rattle.ea_model.specs.Content.{Content}
use Rattle.ea_model.specs.Entries.{Entry}
use Rattle.ea_model.specs.Instance.{chosen_spot, creating, creating_single, decision_at, figures}
use Rattle.ea_model.specs.Instance.{is_alone}
use Rattle.ea_model.specs.Instance.{place_at, placing_at, plan, refilled, resizing_at}
use Rattle.ea_model.specs.Instance.{single_place}
use Rattle.ea_model.specs.Keyed.{has_key, without}
use Rattle.ea_model.specs.Units.{need_of}
use Rattle.ea_model.proofs.Rising.{item_at-key}
use Rattle.ea_machine.specs.Actor.{Actor}
use Rattle.ea_machine.specs.Nodes.{named_at, name_of, with_name, without_name}
use Rattle.ea_machine.specs.Operations.{freed, giving, itself}
use Rattle.ea_machine.specs.Placements.{chosen_by, created, created_by, fetched, fetches, holding}
use Rattle.ea_machine.specs.Placements.{making, new_carrier_by, pass, placed_at, placed_by}
use Rattle.ea_machine.specs.Placements.{failed, refills, saw_by, search_if, search_on, searched}
use Rattle.ea_machine.specs.Placements.{searched_by, seek, seek_by, spot_of_place, stands}
use Rattle.ea_machine.specs.Reallocations.{reallocated, reallocated_by, resized_here, resized_place}
use Rattle.ea_machine.specs.Releases.{Turned, route_of, routed}
use Rattle.ea_machine.specs.Rows.{Answer, Done, Got, Head, Home, Lost, Passes, Rests, Saw, Won}
use Rattle.ea_machine.specs.Searches.{Search, fits, goes_on, looked_in, new_search, passed}
use Rattle.ea_machine.specs.Searches.{with_counted}
use Rattle.ea_machine.specs.Setup.{Setup, greatest_number, migration}
use Rattle.ea_machine.specs.Statistics.{employed_multis, employed_singles, observed, report}
use Rattle.ea_machine.specs.Statistics.{reported}
use Rattle.ea_machine.specs.Sums.{sum_over}
use Rattle.ea_machine.specs.Tasks.{carried_by, entry_of, hands_over, let_go, logged, task_over}
use Rattle.ea_machine.specs.Walks.{after_route, worked_off}
use Rattle.ea_machine.specs.declared.asks.Ask.{Ask}
use Rattle.ea_machine.specs.declared.nodes.Named.{Named}
use Rattle.ea_machine.specs.declared.nodes.Node.{Node}
use Rattle.ea_machine.specs.declared.nodes.Node.TheVariants.{Block, Carrier}
use Rattle.ea_machine.specs.declared.owners.OwnerWord.{OwnerWord}
use Rattle.ea_machine.specs.declared.parts.Part.{Part}
use Rattle.ea_machine.specs.declared.stages.Route.{Route}
use Rattle.ea_machine.specs.declared.tasks.Gone.{Gone}
use Rattle.ea_machine.specs.declared.tasks.Task.{Task}
use Rattle.ea_machine.specs.declared.tasks.Task.TheVariants.{Freeing, Moving}
use Rattle.ea_machine.specs.declared.tasks.Why.TheVariants.{Walk, For}
use Rattle.ea_sound.specs.Names.{of_hand, of_named, of_node, of_route}
use Rattle.ea_sound.specs.Present.{OldHeld}
use Rattle.ea_sound.proofs.KeyedWeights.{sum-entered, sum-without, times}
use Rattle.ea_sound.proofs.ShortRoutes.{Same, route-short}
use Rattle.ea_sound.proofs.Weights.{sum-append}
use Rattle.ea_steps.specs.Touched.{as_list, first_freed}

-- each name is held once
abbrev pub HeldOnce : List Named → Type 0
HeldOnce held = (m : ℕ) → times name_of m held ≤ 1

-- what those weigh whose key is another
abbrev unless : {A : Type 0} → (A → ℕ) → ℕ → (A → ℕ) → A → ℕ
unless key_of key f x = if has_key key_of key x then 0 else f x

sum-unless : {A : Type 0} (key_of : A → ℕ) (key : ℕ) (f : A → ℕ) (xs : List A)
    → sum_over f (without key_of key xs) ≡ sum_over (unless key_of key f) xs
sum-unless key_of key f [] = refl
sum-unless key_of key f (x ∷ xs) = by (has_key key_of key x) (sum-unless key_of key f xs) where
  by : (b : Bool) → sum_over f (without key_of key xs) ≡ sum_over (unless key_of key f) xs
      → sum_over f (if not b then x ∷ without key_of key xs else without key_of key xs)
      ≡ (if b then 0 else f x) + sum_over (unless key_of key f) xs
  by true h = omega (arith, h)
  by false h = omega (arith, h)

-- one more name, before one goes, makes it no less
without-entered : (f : Named → ℕ) (key : ℕ) (x : Named) (held : List Named)
    → sum_over f (without_name key held) ≤ sum_over f (without_name key (with_name x held))
without-entered f key x held = omega (
  arith,
  sum-unless name_of key f held,
  sum-unless name_of key f (with_name x held),
  sum-entered name_of (unless name_of key f) x held,
)

-- f weighs names, and g entries of the log: that a block took another name in its place weighs as
-- much as its old name
module _ (e : Setup) (me : ℕ) (f : ℕ → Spot → ℕ) (g : Entry → ℕ)
    (covers : (old : Named) (fresh : ℕ) (place : Place)
    → of_named f old ≤ g (entry.ReallocHere old.name fresh place)) where
  abbrev pub weight : List Named → ℕ
  weight hands = sum_over (of_named f) hands

  -- all but the hand of a scheduler
  abbrev pub beside : Actor → ℕ
  beside a = sum_over (of_named f) a.held + sum_over (of_node f) a.passed + sum_over g a.log

  abbrev pub stays : Actor → ℕ
  stays a = beside a + of_hand f a.stage

  -- of the block in the hand where a route goes on
  abbrev pub of_some : Option (Route Content) → ℕ
  of_some None = 0
  of_some (Some r) = of_route f r

  pub same-beside : (a b : Actor) → Same a b → beside b ≡ beside a
  same-beside a b s = omega (
    arith,
    ap (sum_over (of_named f)) s.5,
    ap (sum_over (of_node f)) s.0,
    ap (sum_over g) s.3,
  )

  -- an operation is over
  pub logged-stays : (x : Entry) (a : Actor) → beside a + g x ≤ stays (logged x a)
  logged-stays x a = omega (arith, sum-append g a.log (x ∷ []))

  pub over-stays : (task : Task) (gone : Gone) (a : Actor)
      → beside a ≤ stays (task_over task gone a)
  over-stays task gone a = omega (arith, logged-stays (entry_of task gone) a)

  pub task-stays : (task : Task) (gone : Gone) (a : Actor) (o : Option (Route Content))
      → beside a + of_some o ≤ stays (carried_by (For task) (task_over task) gone a o)
  task-stays task gone a None = omega (arith, over-stays task gone a)
  task-stays task gone a (Some r) = omega arith

  -- a block comes into the hand: it may be lost only where carriers don't migrate
  abbrev pub lost : Bool → Named → ℕ
  lost true hand = 0
  lost false hand = of_named f hand

  routed-stays : (on : Bool) (hand : Named) (a : Actor)
      → of_named f hand ≤ of_some (routed e me on hand a).route + lost on hand
  routed-stays true hand a = omega arith
  routed-stays false hand a = omega arith

  pub route-stays : (hand : Named) (a : Actor)
      → of_named f hand ≤ of_some (route_of e me hand a).route + lost (migration e) hand
  route-stays hand a = routed-stays (migration e) hand a

  -- a held name comes into the hand
  handed-stays : (task : Task) (hand : Named) (a : Actor) (k : ℕ)
      → k ≤ sum_over (of_named f) (without_name hand.name a.held) + of_named f hand
      → k + sum_over (of_node f) a.passed + sum_over g a.log
      ≤ stays (hands_over e me task hand a) + lost (migration e) hand
  handed-stays task hand a k less =
      let t : Turned = route_of e me hand (let_go hand.name a) in
      omega (
        arith,
        less,
        task-stays task t.gone t.actor t.route,
        same-beside (let_go hand.name a) t.actor (route-short e me hand (let_go hand.name a)).1,
        route-stays hand (let_go hand.name a),
      )

  -- the nodes of a walk are worked off
  abbrev pub node_lost : Bool → Node → ℕ
  node_lost on (Block m p) = lost on (record { name = m; spot = p })
  node_lost on (Carrier c) = 0

  abbrev pub nodes_lost : Bool → List Node → ℕ
  nodes_lost on ns = sum_over (node_lost on) ns

  pub worked-stays : (ns : List Node) (a : Actor)
      → sum_over (of_named f) a.held + sum_over (of_node f) ns + sum_over g a.log
      ≤ stays (worked_off e me ns a) + nodes_lost (migration e) ns
  worked-stays [] a = omega arith
  worked-stays (Carrier c ∷ ns) a = omega arith
  worked-stays (Block m p ∷ ns) a =
      let hand : Named = record { name = m; spot = p } in
      let b : Actor = record a { passed = ns } in
      let t : Turned = route_of e me hand b in
      by hand b refl t.gone t.actor t.route (route-short e me hand b).1 (route-stays hand b)
      (worked-stays ns t.actor) where
        by : (hand : Named) (b : Actor) → b.passed ≡ ns → (gone : Gone) (c : Actor)
            (o : Option (Route Content))
            → Same b c → of_named f hand ≤ of_some o + lost (migration e) hand
            → sum_over (of_named f) c.held + sum_over (of_node f) ns + sum_over g c.log
            ≤ stays (worked_off e me ns c) + nodes_lost (migration e) ns
            → sum_over (of_named f) b.held + (of_named f hand + sum_over (of_node f) ns)
            + sum_over g b.log
            ≤ stays (carried_by Walk (λ gone d. worked_off e me ns d) gone c o)
            + (lost (migration e) hand + nodes_lost (migration e) ns)
        by hand b is gone c None same less later = omega (
          arith,
          less,
          later,
          ap (sum_over (of_named f)) same.5,
          ap (sum_over g) same.3,
        )
        by hand b is gone c (Some r) same less later = omega (
          arith,
          less,
          same-beside b c same,
          ap (sum_over (of_node f)) is,
        )

  -- a route of a walk is over, or goes on
  abbrev pub over_lost : List Node → Option (Route Content) → ℕ
  over_lost ns None = nodes_lost (migration e) ns
  over_lost ns (Some r) = 0

  pub walk-stays : (a : Actor) (gone : Gone) (c : Actor) (o : Option (Route Content)) → Same a c
      → beside a + of_some o
      ≤ stays (carried_by Walk (after_route e me Walk) gone c o) + over_lost a.passed o
  walk-stays a gone c None same = omega (
    arith,
    same-beside a c same,
    worked-stays c.passed c,
    ap (nodes_lost (migration e)) same.0,
  )
  walk-stays a gone c (Some r) same = omega (arith, same-beside a c same)

  -- a block is placed: what comes of the old one that an ask may have
  abbrev pub old_lost : Option Named → ℕ
  old_lost None = 0
  old_lost (Some old) = lost (migration e) old

  abbrev OldStays : Option Named → List Named → ℕ → Type 0
  OldStays None held k = k ≤ sum_over (of_named f) held
  OldStays (Some old) held k =
      k ≤ sum_over (of_named f) (without_name old.name held) + of_named f old

  old-stays : (x : Named) (old : Option Named) (held : List Named) → OldHeld old held
      → HeldOnce held → OldStays old (with_name x held) (sum_over (of_named f) held)
  old-stays x None held is once = omega (arith, sum-entered name_of (of_named f) x held)
  old-stays x (Some old) held is once = omega (
    arith,
    without-entered (of_named f) old.name x held,
    sum-without name_of (of_named f) old.name old held (once old.name) is,
  )

  stands-stays : (name : ℕ) (place : Place) (old : Option Named) (a : Actor) (k : ℕ)
      → OldStays old a.held k
      → k + sum_over (of_node f) a.passed + sum_over g a.log
      ≤ stays (stands e me name place old a) + old_lost old
  stands-stays name place None a k less =
      omega (arith, less, logged-stays (entry.Alloc name place) a)
  stands-stays name place (Some old) a k less =
      handed-stays (Moving old.name name place) old a k less

  module _ (ask : Ask) where
    abbrev Stays : Actor → Actor → Type 0
    Stays a b = beside a ≤ stays b + old_lost ask.old

    abbrev Asks : Actor → Type 0
    Asks a = OldHeld ask.old a.held × HeldOnce a.held

    placed_at-stays : (a : Actor) (spot : Spot) → Asks a → Stays a (placed_at e me ask a spot)
    placed_at-stays a spot is =
        stands-stays ask.name (place_at a.instance spot ask.need) ask.old
        (holding ask.name spot
        (record a { instance = placing_at a.instance spot ask.need ask.name }))
        (sum_over (of_named f) a.held)
        (old-stays (record { name = ask.name; spot = spot }) ask.old a.held is.0 is.1)

    placed-stays : (a : Actor) (o : Option Spot) → Asks a → Stays a (placed_by e me ask a o)
    placed-stays a None is = omega arith
    placed-stays a (Some spot) is = placed_at-stays a spot is

    created_by-stays : (p : CarrierPlan) (a : Actor) (single : Bool) → Asks a
        → Stays a (created_by e me ask p a single)
    created_by-stays p a true is =
        let spot = spot_of_place (single_place p ask.need) in
        stands-stays ask.name (single_place p ask.need) ask.old
        (holding ask.name spot
        (record a { instance = creating_single a.instance p ask.need ask.name }))
        (sum_over (of_named f) a.held)
        (old-stays (record { name = ask.name; spot = spot }) ask.old a.held is.0 is.1)
    created_by-stays p a false is = placed-stays (record a { instance = creating a.instance p })
        (chosen_spot (creating a.instance p) ask.need) is

    pub created-stays : (p : CarrierPlan) (a : Actor) → Asks a → Stays a (created e me ask p a)
    created-stays p a is = created_by-stays p a p.single is

    making-stays : (p : CarrierPlan) (a : Actor) (on : Bool) → Asks a
        → Stays a (making e me ask p a on)
    making-stays p a true is = omega arith
    making-stays p a false is = created-stays p a is

    planned-stays : (looked : ℕ) (a : Actor) (r : Result CarrierPlan NoCarrier) → Asks a
        → Stays a (new_carrier_by e me ask looked a r)
    planned-stays looked a (Ok p) is = making-stays p a (migration e) is
    planned-stays looked a (Err why) is =
        omega (arith, logged-stays (failed ask looked why ask.old) a)

    searched_by-stays : (x : Search) (a : Actor) (on : Bool) → Asks a
        → Stays a (searched_by e me ask x a on)
    searched_by-stays x a true is = omega arith
    searched_by-stays x a false is =
        planned-stays (looked_in x.part) a (plan a.instance ask.need) is

    search-stays : (x : Search) (a : Actor) → Asks a → Stays a (search_on e me ask x a)
    search-stays x a is = searched_by-stays x (record a { lists = x.lists }) (goes_on x.part) is

    search_if-stays : (a : Actor) (on : Bool) → Asks a → Stays a (search_if e me ask a on)
    search_if-stays a true is = search-stays (new_search (greatest_number e) a.lists) a is
    search_if-stays a false is = planned-stays 0 a (plan a.instance ask.need) is

    chosen-stays : (a : Actor) (o : Option Spot) → Asks a → Stays a (chosen_by e me ask a o)
    chosen-stays a (Some spot) is = placed_at-stays a spot is
    chosen-stays a None is = search_if-stays (refills a) (migration e) is

    seek_by-stays : (a : Actor) (alone : Bool) → Asks a → Stays a (seek_by e me ask a alone)
    seek_by-stays a true is =
        planned-stays 0 (refills a) (plan (refilled a.instance) ask.need) is
    seek_by-stays a false is = chosen-stays a (chosen_spot a.instance ask.need) is

    seek-stays : (a : Actor) → Asks a → Stays a (seek e me ask a)
    seek-stays a is = seek_by-stays a (is_alone a.instance ask.need) is

    pass-stays : (at : ℕ) (part : Part) (a : Actor) (v : OwnerWord) → Asks a
        → Stays a (pass e me ask at part a v)
    pass-stays at part a v is =
        search-stays (passed (greatest_number e) a.lists at part v) a is

    saw-stays : (at : ℕ) (part : Part) (a : Actor) (v : OwnerWord) (fit : Bool) → Asks a
        → Stays a (saw_by e me ask at part a v fit)
    saw-stays at part a v true is = omega arith
    saw-stays at part a v false is = pass-stays at part a v is

    -- after a look, and after a try to fetch
    pub searched-stays : (at : ℕ) (part : Part) (a : Actor) (r : Answer) → Asks a
        → Stays a (searched e me ask at part a r)
    searched-stays at part a (Saw v) is =
        saw-stays at (with_counted v part) a v (fits ask.need v) is
    searched-stays at part a Done is = omega arith
    searched-stays at part a (Head x) is = omega arith
    searched-stays at part a Rests is = omega arith
    searched-stays at part a (Passes x) is = omega arith
    searched-stays at part a (Won x) is = omega arith
    searched-stays at part a (Lost v) is = omega arith
    searched-stays at part a (Home x) is = omega arith
    searched-stays at part a (Got p) is = omega arith

    pub fetched-stays : (at : ℕ) (part : Part) (a : Actor) (r : Answer) → Asks a
        → Stays a (fetched e me ask at part a r)
    fetched-stays at part a (Won x) is = placed-stays (fetches at x a)
        (chosen_spot (fetches at x a).instance ask.need) is
    fetched-stays at part a (Lost v) is = pass-stays at part a v is
    fetched-stays at part a (Saw v) is = omega arith
    fetched-stays at part a Done is = omega arith
    fetched-stays at part a (Head x) is = omega arith
    fetched-stays at part a Rests is = omega arith
    fetched-stays at part a (Passes x) is = omega arith
    fetched-stays at part a (Home x) is = omega arith
    fetched-stays at part a (Got p) is = omega arith

  -- the block takes another name in its place
  module _ (old : Named) (fresh need : ℕ) (a : Actor) (once : HeldOnce a.held)
      (is : named_at old.name a.held ≡ Some old) where
    resized-stays : beside a ≤ stays (resized_here old fresh need a)
    resized-stays =
        let place = resized_place a.instance old.spot need in
        let x : Named = record { name = fresh; spot = old.spot } in
        let b : Actor = holding fresh old.spot (let_go old.name
        (record a { instance = resizing_at a.instance old.spot need fresh })) in
        omega (
          arith,
          covers old fresh place,
          logged-stays (entry.ReallocHere old.name fresh place) b,
          sum-entered name_of (of_named f) x (without_name old.name a.held),
          sum-without name_of (of_named f) old.name old a.held (once old.name) is,
        )

    decided-stays : (d : Decision)
        → beside a ≤ stays (reallocated_by e me old fresh need a d) + lost (migration e) old
    decided-stays Stay = omega (arith, resized-stays)
    decided-stays ShrinkHere = omega (arith, resized-stays)
    decided-stays GrowHere = omega (arith, resized-stays)
    decided-stays (ShrinkCarrier pages) = omega (arith, resized-stays)
    decided-stays Move =
        seek-stays (record { name = fresh; need = need; old = Some old }) a (is, once)

  -- the operation itself: what it loses is the block that it releases
  abbrev pub found_lost : Bool → Option Named → ℕ
  found_lost true o = 0
  found_lost false o = weight (as_list o ++ [])

  abbrev pub next_lost : Bool → List Op → List Named → ℕ
  next_lost true ops held = 0
  next_lost false ops held =
      weight (flat_map (λ name. as_list (named_at name held)) (first_freed ops))

  found-lost : (on : Bool) (hand : Named) → lost on hand ≡ found_lost on (Some hand)
  found-lost true hand = refl
  found-lost false hand = omega arith

  freed-stays : (m : ℕ) (a : Actor) (o : Option Named) → named_at m a.held ≡ o
      → HeldOnce a.held
      → beside a ≤ stays (freed e me m a o) + found_lost (migration e) o
  freed-stays m a None is once = omega (arith, logged-stays (entry.FreeSkipped m) a)
  freed-stays m a (Some hand) is once =
      let key : hand.name ≡ m = item_at-key name_of m hand a.held is in
      omega (
        arith,
        found-lost (migration e) hand,
        handed-stays (Freeing m) hand a (sum_over (of_named f) a.held) (omega (
          arith,
          sum-without name_of (of_named f) hand.name hand a.held (once hand.name)
              (ap (λ k. named_at k a.held) key ∙ is),
        )),
      )

  reallocated-stays : (m fresh need : ℕ) (a : Actor) (o : Option Named) → named_at m a.held ≡ o
      → HeldOnce a.held
      → beside a ≤ stays (reallocated e me m fresh need a o) + found_lost (migration e) o
  reallocated-stays m fresh need a None is once =
      omega (arith, logged-stays (entry.ReallocSkipped m fresh) a)
  reallocated-stays m fresh need a (Some old) is once =
      let key : old.name ≡ m = item_at-key name_of m old a.held is in
      omega (
        arith,
        found-lost (migration e) old,
        decided-stays old fresh need a once (ap (λ k. named_at k a.held) key ∙ is)
            (decision_at a.instance old.spot need),
      )

  giving-stays : (m to : ℕ) (a : Actor) (o : Option Named)
      → beside a ≤ stays (giving m to a o)
  giving-stays m to a None = omega (arith, logged-stays (entry.GiveSkipped m to) a)
  giving-stays m to a (Some given) = omega arith

  free-lost : (on : Bool) (m : ℕ) (ops : List Op) (held : List Named)
      → found_lost on (named_at m held) ≡ next_lost on (op.Free m ∷ ops) held
  free-lost true m ops held = refl
  free-lost false m ops held = refl

  realloc-lost : (on : Bool) (m fresh bytes : ℕ) (ops : List Op) (held : List Named)
      → found_lost on (named_at m held) ≡ next_lost on (op.Realloc m fresh bytes ∷ ops) held
  realloc-lost true m fresh bytes ops held = refl
  realloc-lost false m fresh bytes ops held = refl

  informed-stays : (mbcs sbcs : Figures) (a : Actor) → beside a ≤ stays (reported mbcs sbcs a)
  informed-stays mbcs sbcs a =
      let x : Entry = entry.Info
      (record { mbcs = report mbcs a.mbcs; sbcs = report sbcs a.sbcs }) in
      omega (arith, sum-append g a.log (x ∷ []))

  pub itself-stays : (a : Actor) (ops : List Op) → HeldOnce a.held
      → beside a ≤ stays (itself e me a ops) + next_lost (migration e) ops a.held
  itself-stays a [] once = omega arith
  itself-stays a (op.Alloc m bytes ∷ ops) once = omega (
    arith,
    seek-stays (record { name = m; need = need_of bytes; old = None }) a (tt, once),
  )
  itself-stays a (op.Free m ∷ ops) once = omega (
    arith,
    free-lost (migration e) m ops a.held,
    freed-stays m a (named_at m a.held) refl once,
  )
  itself-stays a (op.Realloc m fresh bytes ∷ ops) once = omega (
    arith,
    realloc-lost (migration e) m fresh bytes ops a.held,
    reallocated-stays m fresh (need_of bytes) a (named_at m a.held) refl once,
  )
  itself-stays a (op.Give m to ∷ ops) once =
      omega (arith, giving-stays m to a (named_at m a.held))
  itself-stays a (op.Take m tries ∷ ops) once = omega arith
  itself-stays a (op.Info ∷ ops) once = omega (
    arith,
    informed-stays (figures (employed_multis a)) (figures (employed_singles a)) (observed a),
  )
  itself-stays a (op.Idle ∷ ops) once = omega (arith, logged-stays entry.Idle a)
