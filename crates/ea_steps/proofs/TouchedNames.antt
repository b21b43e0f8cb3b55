-- What a step leaves of the names that stand: of those that its scheduler has, and of those that
-- stand outside, it loses at most the names of the blocks that it touches. A name that a block
-- takes in its place is in the log.
use Rattle.std.proofs.Common.{◌≡◌, ◌≢◌, ◌⊎◌, ℕ, zero, suc, ◌+◌, ◌<◌, ◌≤◌, Bool, true, false, List}
use Rattle.std.proofs.Common.{[], ◌∷◌, ◌++◌, refl, sym, ap, ◌∙◌, subst, inl, inr, arith}
use Rattle.std.specs.Prelude.{Option, None, Some}
use Rattle.std.proofs.lemmas.Bool.{cases_Bool, false≢true}
use Rattle.ea_model.specs.declared.carriers.Place.{Place}
use Rattle.ea_model.specs.declared.carriers.Spot.{Spot}
use Rattle.ea_model.specs.declared.entries.Entry.TheVariants as entry
use Rattle.ea_model.specs.declared.operations.Op.{Op}
use Rattle.ea_model.specs.Content.{Content}
use Rattle.ea_model.specs.Entries.{Entry}
use Rattle.ea_model.specs.Instance.{owner_of}
use Rattle.ea_machine.specs.Actor.{Actor, on_route}
use Rattle.ea_machine.specs.Machine.{after_row, begins, onward, onward_at, wants_at, wants_on}
use Rattle.ea_machine.specs.Nodes.{Mark, first_node, name_of, named_at, spot_named}
use Rattle.ea_machine.specs.Operations.{took_by}
use Rattle.ea_machine.specs.Owners.{CarrierAt, Absent, Busy, Employed}
use Rattle.ea_machine.specs.Owners.{word_of}
use Rattle.ea_machine.specs.Placements.{holding}
use Rattle.ea_machine.specs.Releases.{Turned, disowned}
use Rattle.ea_machine.specs.Releases.{struck, turned}
use Rattle.ea_machine.specs.Rows.{Answer, Done, Got, Head, Home, Lost, Passes, Rests, Row, Saw, Won}
use Rattle.ea_machine.specs.Rows.{Clear, Create, FetchTry, Give, Look, TakeAll, TakeLink, TakeTry}
use Rattle.ea_machine.specs.Setup.{Setup, is_scheduler, migration}
use Rattle.ea_machine.specs.Shared.{Shared}
use Rattle.ea_machine.specs.State.{State}
use Rattle.ea_machine.specs.Sums.{sum_over}
use Rattle.ea_machine.specs.Table.{answer, effect, link_answer, link_read, moved_if, rest_after}
use Rattle.ea_machine.specs.Table.{rest_by, tried_at}
use Rattle.ea_machine.specs.Tasks.{let_go}
use Rattle.ea_machine.specs.Walks.{begun, with_passed}
use Rattle.ea_machine.specs.declared.asks.Ask.{Ask}
use Rattle.ea_machine.specs.declared.nodes.Named.{Named}
use Rattle.ea_machine.specs.declared.nodes.Node.{Node}
use Rattle.ea_machine.specs.declared.nodes.Node.TheVariants.{Block, Carrier}
use Rattle.ea_machine.specs.declared.owners.OwnerWord.{OwnerWord}
use Rattle.ea_machine.specs.declared.owners.OwnerWord.TheVariants as word
use Rattle.ea_machine.specs.declared.stages.Route.{Route}
use Rattle.ea_machine.specs.declared.stages.Route.TheVariants.{Looking, Trying, Settling}
use Rattle.ea_machine.specs.declared.stages.Route.TheVariants.{Abandoning, Sending, Clearing}
use Rattle.ea_machine.specs.declared.stages.Route.TheVariants.{Pushing, Linking}
use Rattle.ea_machine.specs.declared.stages.Stage.{Stage}
use Rattle.ea_machine.specs.declared.stages.Stage.TheVariants.{Begin, Routed, Collecting, Searching}
use Rattle.ea_machine.specs.declared.stages.Stage.TheVariants.{Fetching, Creating, Giving, Taking}
use Rattle.ea_machine.specs.declared.stages.Stage.TheVariants.{Ended, Ready}
use Rattle.ea_machine.specs.declared.tasks.Gone.{Gone}
use Rattle.ea_machine.specs.declared.tasks.Task.{Task}
use Rattle.ea_machine.specs.declared.tasks.Why.{Why}
use Rattle.ea_machine.specs.declared.tasks.Why.TheVariants.{Walk, For}
use Rattle.ea_sound.specs.Contents.{seats}
use Rattle.ea_sound.specs.Names.{of_hand, of_mark, of_named, of_node, of_route}
use Rattle.ea_sound.specs.Present.{Fits, FitsRoute, HasOther, OldHeld, Rule, StillPooled}
use Rattle.ea_sound.specs.Rule.{Kept}
use Rattle.ea_sound.specs.Turns.{answered}
use Rattle.ea_sound.proofs.Asked.{named-spot, unnamed-spot}
use Rattle.ea_sound.proofs.BeginTurns.{walks}
use Rattle.ea_sound.proofs.KeyedWeights.{sum-entered, sum-without, times-once, without-missing}
use Rattle.ea_sound.proofs.MarkRows.{marks-linked, marks-push, marks-take_all, marks-with_rest}
use Rattle.ea_sound.proofs.MarkRows.{with_rest}
use Rattle.ea_sound.proofs.NameRows.{names_outside}
use Rattle.ea_sound.proofs.NodeSeats.{collecting-home, linking-seat, pushing-returning}
use Rattle.ea_sound.proofs.NodeSeats.{returning-on, returning-scheduler}
use Rattle.ea_sound.proofs.Numbered.{scheduler-seat}
use Rattle.ea_sound.proofs.RowLeaves.{no_first}
use Rattle.ea_sound.proofs.ShortRoutes.{turned-short}
use Rattle.ea_sound.proofs.Weights.{sum-append}
use Rattle.ea_sound.proofs.WorkNames.{OldOther, carried-busy, created-alike, fetched-alike}
use Rattle.ea_sound.proofs.WorkNames.{searched-alike}
use Rattle.ea_steps.specs.Touched.{at_stage, blocks_of, hand_on, of_operation, touched}
use Rattle.ea_steps.proofs.WorkedNames.{HeldOnce, beside, created-stays, fetched-stays}
use Rattle.ea_steps.proofs.WorkedNames.{itself-stays, logged-stays, lost, next_lost, nodes_lost}
use Rattle.ea_steps.proofs.WorkedNames.{of_some, old_lost, over_lost}
use Rattle.ea_steps.proofs.WorkedNames.{same-beside, searched-stays, stays, task-stays, walk-stays}
use Rattle.ea_steps.proofs.WorkedNames.{worked-stays}

-- a name that an ask has nothing to do with
abbrev old_name : Option Named → ℕ
old_name None = 0
old_name (Some old) = old.name

abbrev other_name : Ask → ℕ
other_name ask = suc (ask.name + old_name ask.old)

other-fresh : (ask : Ask) → ask.name ≢ other_name ask
other-fresh ask q = omega (arith, q)

other-old : (e : Setup) (me m : ℕ) (o : Option Named) → OldOther e me (suc (m + old_name o)) o
other-old e me m None = tt
other-old e me m (Some old) = λ q. omega (arith, q)

module _ (e : Setup) (f : ℕ → Spot → ℕ) where
  abbrev pub outside : Shared → ℕ
  outside s = names_outside e f s

  module _ (me : ℕ) (s : Shared) where
    abbrev SameOutside : Row → Type 0
    SameOutside row = outside (effect me row s) ≡ outside s

    tried-outside : (r : Answer) (c : ℕ) (p : CarrierAt) → outside (moved_if r c p s) ≡ outside s
    tried-outside (Won x) c p = refl
    tried-outside (Lost v) c p = refl
    tried-outside Done c p = refl
    tried-outside (Head n) c p = refl
    tried-outside Rests c p = refl
    tried-outside (Passes n) c p = refl
    tried-outside (Saw v) c p = refl
    tried-outside (Home x) c p = refl
    tried-outside (Got o) c p = refl

    look-outside : (c : ℕ) → SameOutside (Look c)
    unfolding effect
    look-outside c = refl

    clear-outside : (c : ℕ) → SameOutside (Clear c)
    unfolding effect
    clear-outside c = refl

    create-outside : (c : ℕ) → SameOutside (Create c)
    unfolding effect
    create-outside c = refl

    fetch-outside : (c : ℕ) (seen : OwnerWord) → SameOutside (FetchTry c seen)
    unfolding effect
    fetch-outside c seen = tried-outside (tried_at seen (s.places c)) c (Employed me)

    give-outside : (given : Named)
        → outside (effect me (Give given) s) ≡ outside s + of_named f given
    unfolding effect
    give-outside given = omega (arith, sum-entered name_of (of_named f) given s.given)

    take-outside : (given : Named) → HeldOnce s.given → named_at given.name s.given ≡ Some given
        → outside (effect me (TakeTry given.name) s) + of_named f given ≡ outside s
    unfolding effect
    take-outside given once there = omega (
      arith,
      sum-without name_of (of_named f) given.name given s.given (once given.name) there,
    )

    missed-outside : (name : ℕ) → named_at name s.given ≡ None → SameOutside (TakeTry name)
    unfolding effect
    missed-outside name none =
        omega (arith, ap (sum_over (of_named f)) (without-missing name_of name s.given none))

    take_all-outside : me < seats e → s.rests me ≡ [] → SameOutside TakeAll
    unfolding effect
    take_all-outside seat none =
        omega (arith, marks-take_all e s (λ i. of_mark f) me seat none)

    -- rows of a route: a pushed node stands outside then
    abbrev pushed_in : Route Content → ℕ
    pushed_in (Pushing node to) = of_node f node
    pushed_in r = 0

    route-outside : (r : Route Content)
        → ((node : Node) (to : ℕ) → r ≡ Pushing node to → to < seats e)
        → ((node : Node) (to : ℕ) → r ≡ Linking node to → to < seats e)
        → outside (effect me (wants_on r) s) ≡ outside s + pushed_in r
    unfolding effect
    route-outside (Looking h) push link = omega arith
    route-outside (Trying h seen) push link = omega (
      arith,
      tried-outside (tried_at seen (s.places h.spot.carrier)) h.spot.carrier (Busy me),
    )
    route-outside (Settling x) push link = omega arith
    route-outside (Abandoning x) push link = omega arith
    route-outside (Sending x) push link = omega arith
    route-outside (Clearing x) push link = omega arith
    route-outside (Pushing node to) push link =
        omega (arith, marks-push e s (λ i. of_mark f) me to node (push node to refl))
    route-outside (Linking node to) push link =
        omega (arith, marks-linked e s (λ i. of_node f) me to node (link node to refl))

module _ (e : Setup) (w : State) (me : ℕ) (is : is_scheduler e me ≡ true) (rule : Rule e w)
    (f : ℕ → Spot → ℕ) (g : Entry → ℕ)
    (covers : (old : Named) (fresh : ℕ) (place : Place)
    → of_named f old ≤ g (entry.ReallocHere old.name fresh place)) where
  abbrev a : Actor
  a = w.actors me

  k : Kept e w
  k = rule.kept

  seat : me < seats e
  seat = scheduler-seat e me is

  fits : (st : Stage Content) → a.stage ≡ st → Fits e w me a st
  fits st now = subst (Fits e w me a) now (rule.present.fits me)

  once : HeldOnce a.held
  once m = times-once name_of m a.held (rule.present.held me)

  given-once : HeldOnce w.shared.given
  given-once m = times-once name_of m w.shared.given rule.present.given

  abbrev stay : Actor → ℕ
  stay b = stays e me f g covers b

  abbrev out : Shared → ℕ
  out s = outside e f s

  abbrev weighs : List Named → ℕ
  weighs hands = sum_over (of_named f) hands

  -- what is answered at the stage, and the scheduler after it
  abbrev heard : Stage Content → Answer
  heard st = answer me (wants_at a.next st) w.shared

  abbrev next : Stage Content → Actor
  next st = after_row e me a (heard st) st

  abbrev touched_at : Bool → Stage Content → Answer → List Named
  touched_at true st r = on_route [] hand_on st
  touched_at false st r = at_stage a r st

  abbrev Remains : Stage Content → Type 0
  Remains st = stay a + out w.shared ≤ stay (onward e me (next st))
      + out (effect me (wants_at a.next st) w.shared)
      + weighs (touched_at (migration e) st (heard st))

  -- the operation itself follows where the scheduler is ready
  abbrev ready_lost : Stage Content → List Op → List Named → ℕ
  ready_lost Ready ops held = next_lost e me f g covers (migration e) ops held
  ready_lost st ops held = 0

  onward-at : (c : Actor) (st : Stage Content) → c.stage ≡ st → HeldOnce c.held
      → stay c ≤ stay (onward_at e me c st) + ready_lost st c.todo c.held
  onward-at c Ready now only = omega (
    arith,
    ap (of_hand f) now,
    itself-stays e me f g covers c c.todo only,
  )
  onward-at c Begin now only = omega arith
  onward-at c (Routed r y gone) now only = omega arith
  onward-at c (Collecting x) now only = omega arith
  onward-at c (Searching ask at part) now only = omega arith
  onward-at c (Fetching ask at part seen) now only = omega arith
  onward-at c (Creating ask p) now only = omega arith
  onward-at c (Giving x to) now only = omega arith
  onward-at c (Taking m tries left) now only = omega arith
  onward-at c Ended now only = omega arith

  onward-busy : (c : Actor) (st : Stage Content) → c.stage ≡ st → c.stage ≢ Ready
      → stay c ≤ stay (onward_at e me c st)
  onward-busy c Ready now busy = absurd (busy now)
  onward-busy c Begin now busy = omega arith
  onward-busy c (Routed r y gone) now busy = omega arith
  onward-busy c (Collecting x) now busy = omega arith
  onward-busy c (Searching ask at part) now busy = omega arith
  onward-busy c (Fetching ask at part seen) now busy = omega arith
  onward-busy c (Creating ask p) now busy = omega arith
  onward-busy c (Giving x to) now busy = omega arith
  onward-busy c (Taking m tries left) now busy = omega arith
  onward-busy c Ended now busy = omega arith

  -- where carriers migrate nothing is lost but in the hand
  module _ (on : migration e ≡ true) where
    none-lost : (hand : Named) → lost e me f g covers (migration e) hand ≡ 0
    none-lost hand = ap (λ b. lost e me f g covers b hand) on

    none-old : (o : Option Named) → old_lost e me f g covers o ≡ 0
    none-old None = refl
    none-old (Some old) = none-lost old

    none-next : (ops : List Op) (held : List Named)
        → next_lost e me f g covers (migration e) ops held ≡ 0
    none-next ops held = ap (λ b. next_lost e me f g covers b ops held) on

    none-ready : (st : Stage Content) (ops : List Op) (held : List Named)
        → ready_lost st ops held ≡ 0
    none-ready Ready ops held = none-next ops held
    none-ready Begin ops held = refl
    none-ready (Routed r y gone) ops held = refl
    none-ready (Collecting x) ops held = refl
    none-ready (Searching ask at part) ops held = refl
    none-ready (Fetching ask at part seen) ops held = refl
    none-ready (Creating ask p) ops held = refl
    none-ready (Giving x to) ops held = refl
    none-ready (Taking m tries left) ops held = refl
    none-ready Ended ops held = refl

    none-nodes-on : (ns : List Node) → nodes_lost e me f g covers true ns ≡ 0
    none-nodes-on [] = refl
    none-nodes-on (Block m p ∷ ns) = omega (arith, none-nodes-on ns)
    none-nodes-on (Carrier c ∷ ns) = omega (arith, none-nodes-on ns)

    none-nodes : (ns : List Node) → nodes_lost e me f g covers (migration e) ns ≡ 0
    none-nodes ns = ap (λ b. nodes_lost e me f g covers b ns) on ∙ none-nodes-on ns

    none-over : (ns : List Node) (o : Option (Route Content)) → over_lost e me f g covers ns o ≡ 0
    none-over ns None = none-nodes ns
    none-over ns (Some r) = refl

  -- where they don't, blocks of nodes are
  nodes-off : (ns : List Node) → nodes_lost e me f g covers false ns ≡ weighs (blocks_of ns)
  nodes-off [] = refl
  nodes-off (Block m p ∷ ns) = omega (arith, nodes-off ns)
  nodes-off (Carrier c ∷ ns) = omega (arith, nodes-off ns)

  -- stages of an operation that asks for a place
  asked : (ask : Ask) (st : Stage Content) → a.stage ≡ st → OldHeld ask.old a.held
      → migration e ≡ true → of_hand f st ≡ 0
      → out (effect me (wants_at a.next st) w.shared) ≡ out w.shared
      → beside e me f g covers a ≤ stay (next st) + old_lost e me f g covers ask.old
      → (next st).stage ≢ Ready → Remains st
  asked ask st now old on bare same left busy = omega (
    arith,
    left,
    same,
    none-old on ask.old,
    bare,
    ap (of_hand f) now,
    onward-busy (next st) (next st).stage refl busy,
  )

  searching : (ask : Ask) (at : ℕ) (part : _) → a.stage ≡ Searching ask at part
      → Remains (Searching ask at part)
  searching ask at part now =
      let st = Searching ask at part in
      let fit = fits st now in
      asked ask st now fit.0.old fit.4 refl (look-outside e f me w.shared at)
      (searched-stays e me f g covers ask at part a (heard st) (fit.0.old, once))
      (searched-alike e me (other_name ask) ask (other-fresh ask)
      (other-old e me ask.name ask.old) at part a (heard st)).1

  fetching : (ask : Ask) (at : ℕ) (part : _) (seen : OwnerWord)
      → a.stage ≡ Fetching ask at part seen → Remains (Fetching ask at part seen)
  fetching ask at part seen now =
      let st = Fetching ask at part seen in
      let fit = fits st now in
      asked ask st now fit.0.old fit.3 refl (fetch-outside e f me w.shared at seen)
      (fetched-stays e me f g covers ask at part a (heard st) (fit.0.old, once))
      (fetched-alike e me (other_name ask) ask (other-fresh ask)
      (other-old e me ask.name ask.old) at part a (heard st)).1

  creating : (ask : Ask) (p : _) → a.stage ≡ Creating ask p → Remains (Creating ask p)
  creating ask p now =
      let st = Creating ask p in
      let fit = fits st now in
      asked ask st now fit.0.old fit.2 refl (create-outside e f me w.shared p.number)
      (created-stays e me f g covers ask p a (fit.0.old, once))
      (created-alike e me (other_name ask) ask (other-fresh ask)
      (other-old e me ask.name ask.old) p a).1

  giving : (given : Named) (to : ℕ) → a.stage ≡ Giving given to → Remains (Giving given to)
  giving given to now =
      let st = Giving given to in
      let fit = fits st now in
      omega (
        arith,
        ap (of_hand f) now,
        give-outside e f me w.shared given,
        logged-stays e me f g covers (entry.Give given.name to) (let_go given.name a),
        sum-without name_of (of_named f) given.name given a.held (once given.name) fit.0,
      )

  module _ (m tries left : ℕ) (now : a.stage ≡ Taking m tries left) where
    abbrev taking_stage : Stage Content
    taking_stage = Taking m tries left

    got : answer me (TakeTry m) w.shared ≡ Got (spot_named m w.shared.given)
    unfolding answer
    got = refl

    missed : (left : ℕ) → beside e me f g covers a
        ≤ stay (onward e me (took_by m tries left a None))
    missed zero = omega (arith, logged-stays e me f g covers (entry.TakeAbsent m tries) a)
    missed (suc zero) = omega (arith, logged-stays e me f g covers (entry.TakeAbsent m tries) a)
    missed (suc (suc left)) = omega arith

    takes-by : (o : Option Spot) → spot_named m w.shared.given ≡ o
        → stay a + out w.shared
        ≤ stay (onward e me (took_by m tries left a o)) + out (effect me (TakeTry m) w.shared)
    takes-by None none = omega (
      arith,
      ap (of_hand f) now,
      missed left,
      missed-outside e f me w.shared m (unnamed-spot m w.shared.given none),
    )
    takes-by (Some spot) there =
        let given : Named = record { name = m; spot = spot } in
        omega (
          arith,
          ap (of_hand f) now,
          logged-stays e me f g covers (entry.Take m) (holding m spot a),
          sum-entered name_of (of_named f) given a.held,
          take-outside e f me w.shared given given-once (named-spot m spot w.shared.given there),
        )

    taking : Remains (Taking m tries left)
    taking = omega (
      arith,
      takes-by (spot_named m w.shared.given) refl,
      ap (λ r. stay (onward e me (after_row e me a r taking_stage))) got,
    )

  collecting : (c : ℕ) → a.stage ≡ Collecting c → Remains (Collecting c)
  collecting c now =
      let st = Collecting c in
      let home = collecting-home e w k me seat c now in
      let on = returning-on e w k c me home.0 home.1 in
      let t = walks e me a st (heard st) tt (λ q. absurd cc) (λ q. absurd cc) in
      omega (
        arith,
        ap (of_hand f) now,
        clear-outside e f me w.shared c,
        worked-stays e me f g covers a.passed (disowned c (struck c a)),
        none-nodes on a.passed,
        onward-at (next st) (next st).stage refl (subst HeldOnce (sym t.2) once),
        none-ready on (next st).stage (next st).todo (next st).held,
      )

  -- the nodes of a walk that are worked off, and the block of the operation that follows
  abbrev worked_at : Bool → List Node → List Named
  worked_at true ns = []
  worked_at false ns = blocks_of ns ++ of_operation a

  worked-lost : (on : Bool) (ns : List Node)
      → nodes_lost e me f g covers on ns + next_lost e me f g covers on a.todo a.held
      ≡ weighs (worked_at on ns)
  worked-lost true ns = omega (arith, none-on ns) where
    none-on : (ns : List Node) → nodes_lost e me f g covers true ns ≡ 0
    none-on [] = refl
    none-on (Block m p ∷ ns) = omega (arith, none-on ns)
    none-on (Carrier c ∷ ns) = omega (arith, none-on ns)
  worked-lost false ns = omega (
    arith,
    nodes-off ns,
    sum-append (of_named f) (blocks_of ns) (of_operation a),
  )

  -- a scheduler in a walk, or after it
  in-walk : (c : Actor) → c.todo ≡ a.todo → c.held ≡ a.held
      → stay c ≤ stay (onward e me c) + next_lost e me f g covers (migration e) a.todo a.held
  in-walk c todo held = omega (
    arith,
    onward-at c c.stage refl (subst HeldOnce (sym held) once),
    by c.stage,
  ) where
    by : (st : Stage Content)
        → ready_lost st c.todo c.held ≤ next_lost e me f g covers (migration e) a.todo a.held
    by Ready = omega (
      arith,
      ap (λ ops. next_lost e me f g covers (migration e) ops c.held) todo,
      ap (next_lost e me f g covers (migration e) a.todo) held,
    )
    by Begin = omega arith
    by (Routed r y gone) = omega arith
    by (Collecting x) = omega arith
    by (Searching ask at part) = omega arith
    by (Fetching ask at part seen) = omega arith
    by (Creating ask p) = omega arith
    by (Giving x to) = omega arith
    by (Taking m tries left) = omega arith
    by Ended = omega arith

  module _ (now : a.stage ≡ Begin) where
    -- the begin is over
    abbrev begun_by : Answer → Actor
    begun_by r = onward e me (begun e me a r)

    abbrev begin_touched : Answer → ℕ
    begin_touched r = weighs (touched_at (migration e) Begin r)

    head-lost : (on : Bool) → next_lost e me f g covers on a.todo a.held
        ≡ weighs (touched_at on Begin (Head None))
    head-lost true = refl
    head-lost false = refl

    rests-lost : (on : Bool) → next_lost e me f g covers on a.todo a.held
        ≡ weighs (touched_at on Begin Rests)
    rests-lost true = refl
    rests-lost false = refl

    passes-lost : (on : Bool) → weighs (worked_at on (with_passed a.next a.passed))
        ≡ weighs (touched_at on Begin (Passes None))
    passes-lost true = refl
    passes-lost false = refl

    ready-begun : beside e me f g covers a ≤ stay (onward e me (record a { stage = Ready }))
        + next_lost e me f g covers (migration e) a.todo a.held
    ready-begun = itself-stays e me f g covers (record a { stage = Ready }) a.todo once

    head-begun : (o : Option Node)
        → beside e me f g covers a ≤ stay (begun_by (Head o)) + begin_touched (Head o)
    head-begun None = omega (arith, ready-begun, head-lost (migration e))
    head-begun (Some node) = omega arith

    rests-begun : beside e me f g covers a ≤ stay (begun_by Rests) + begin_touched Rests
    rests-begun = omega (arith, ready-begun, rests-lost (migration e))

    abbrev passed_on : List Node
    passed_on = with_passed a.next a.passed

    passes-begun : (o : Option Node)
        → sum_over (of_named f) a.held + sum_over (of_node f) passed_on + sum_over g a.log
        ≤ stay (begun_by (Passes o)) + begin_touched (Passes o)
    passes-begun (Some node) = omega arith
    passes-begun None =
        let c = begun e me a (Passes None) in
        let t = walks e me a Begin (Passes None) tt (λ q. absurd cc) (λ q. absurd cc) in
        omega (
          arith,
          worked-stays e me f g covers passed_on (record a { next = None }),
          in-walk c t.0.1 t.2,
          worked-lost (migration e) passed_on,
          passes-lost (migration e),
        )

    abbrev Begins : Shared → Answer → Type 0
    Begins s r = stay a + out w.shared ≤ stay (begun_by r) + out s + begin_touched r

    taking_all : a.next ≡ None → Begins (effect me TakeAll w.shared) (answer me TakeAll w.shared)
    unfolding answer
    taking_all none = omega (
      arith,
      ap (of_hand f) now,
      head-begun (first_node (w.shared.queues me)),
      take_all-outside e f me w.shared seat
          (no_first (w.shared.rests me) (sym (rule.present.walking me) ∙ none)),
    )

    link-by : (node : Node) → a.next ≡ Some node → (ms : List Mark) → w.shared.rests me ≡ ms
        → Begins (with_rest me (rest_after ms) w.shared) (link_answer ms)
    link-by node next [] rest =
        absurd (let never : None ≡ Some node =
        sym (rule.present.walking me ∙ ap first_node rest) ∙ next in cc)
    link-by node next (m ∷ ms) rest = by m.linked where
      is_next : a.next ≡ Some m.node
      is_next = rule.present.walking me ∙ ap first_node rest

      by : (b : Bool) → Begins (with_rest me (rest_by b m ms) w.shared) (link_read b ms)
      by true = omega (
        arith,
        ap (of_hand f) now,
        passes-begun (first_node ms),
        marks-with_rest e w.shared (λ i. of_mark f) me ms seat,
        ap (sum_over (of_mark f)) rest,
        ap (λ o. sum_over (of_node f) (with_passed o a.passed)) is_next,
      )
      by false = omega (
        arith,
        ap (of_hand f) now,
        rests-begun,
        marks-with_rest e w.shared (λ i. of_mark f) me (m ∷ ms) seat,
        ap (sum_over (of_mark f)) rest,
      )

    taking_link : (node : Node) → a.next ≡ Some node
        → Begins (effect me TakeLink w.shared) (answer me TakeLink w.shared)
    unfolding effect answer
    taking_link node next = link-by node next (w.shared.rests me) refl

    begin-by : (o : Option Node) → a.next ≡ o
        → Begins (effect me (begins o) w.shared) (answer me (begins o) w.shared)
    begin-by None next = taking_all next
    begin-by (Some node) next = taking_link node next

    beginning : Remains Begin
    beginning = begin-by a.next refl

  -- routes
  abbrev HandStays : Gone → Route Content → Answer → Type 0
  HandStays gone r z = of_route f r ≤ of_some e me f g covers (turned e me r gone a z).route
      + pushed_in e f me w.shared r + weighs (hand_on r)

  hand-stays : (r : Route Content) (gone : Gone) (z : Answer) → HandStays gone r z
  hand-stays (Looking hand) gone z = omega arith
  hand-stays (Trying hand seen) gone z = omega arith
  hand-stays (Settling x) gone z = omega arith
  hand-stays (Abandoning x) gone z = omega arith
  hand-stays (Sending x) gone z = omega arith
  hand-stays (Clearing x) gone z = omega arith
  hand-stays (Pushing node to) gone z = omega arith
  hand-stays (Linking node to) gone z = omega arith

  module _ (why : Why) (gone : Gone) where
    push-seat : (node : Node) (to : ℕ) → a.stage ≡ Routed (Pushing node to) why gone
        → to < seats e
    push-seat (Block m p) to now =
        scheduler-seat e to (fits (Routed (Pushing (Block m p) to) why gone) now).0.1
    push-seat (Carrier c) to now =
        let r = pushing-returning e w k me seat why gone c to now in
        subst (λ i. i < seats e)
        (sym (fits (Routed (Pushing (Carrier c) to) why gone) now).0.0)
        (scheduler-seat e (owner_of c) (returning-scheduler e w k c r.0 r.1 r.2))

    route-out : (r : Route Content) → a.stage ≡ Routed r why gone
        → out (effect me (wants_on r) w.shared) ≡ out w.shared + pushed_in e f me w.shared r
    route-out r now = route-outside e f me w.shared r
        (λ node to q. push-seat node to (now ∙ ap (λ z. Routed z why gone) q))
        (λ node to q. linking-seat e w k me seat why gone node to
        (now ∙ ap (λ z. Routed z why gone) q))

  -- where carriers don't migrate a node is pushed or linked
  module _ (off : migration e ≡ false) where
    not_on : migration e ≡ true → ⊥
    not_on on = false≢true (sym off ∙ on)

    off-place : (c : ℕ) → w.shared.places c ≡ Absent
    off-place c = k.placed.off off c

    off-try : (seen : OwnerWord) (p : CarrierAt) → p ≡ Absent
        → StillPooled me seen p ⊎ HasOther me p → ⊥
    off-try seen p absent still = elim still [
      | inl same ↦ absurd (let never : word.Absent ≡ word.Pooled me same.1.0 =
          sym (ap word_of absent) ∙ same.0 ∙ same.1.1 in cc)
      | inr other ↦ subst (HasOther me) absent other
    ]

    off-hand : (r : Route Content) → FitsRoute e w.shared me r → weighs (hand_on r) ≡ 0
    off-hand (Looking hand) fit = absurd (not_on fit.1)
    off-hand (Trying hand seen) fit = absurd (off-try seen
        (w.shared.places hand.spot.carrier) (off-place hand.spot.carrier) fit)
    off-hand (Settling x) fit = refl
    off-hand (Abandoning x) fit = refl
    off-hand (Sending x) fit = refl
    off-hand (Clearing x) fit = refl
    off-hand (Pushing node to) fit = refl
    off-hand (Linking node to) fit = refl

  touched-least : (on : Bool) → migration e ≡ on → (r : Route Content) (why : Why) (gone : Gone)
      (z : Answer) → FitsRoute e w.shared me r
      → weighs (hand_on r) ≤ weighs (touched_at on (Routed r why gone) z)
  touched-least true is r why gone z fit = omega arith
  touched-least false is r why gone z fit = omega (arith, off-hand is r fit)

  tasking : (r : Route Content) (task : Task) (gone : Gone) → a.stage ≡ Routed r (For task) gone
      → Remains (Routed r (For task) gone)
  tasking r task gone now =
      let st = Routed r (For task) gone in
      let z = heard st in
      let t : Turned = turned e me r gone a z in
      omega (
        arith,
        ap (of_hand f) now,
        task-stays e me f g covers task t.gone t.actor t.route,
        same-beside e me f g covers a t.actor (turned-short e me r gone a z).1,
        hand-stays r gone z,
        route-out (For task) gone r now,
        touched-least (migration e) refl r (For task) gone z (fits st now).0,
        onward-busy (next st) (next st).stage refl
            (carried-busy e me 0 task t.gone t.actor t.route),
      )

  -- a route of a walk
  walking-on : migration e ≡ true → (r : Route Content) (gone : Gone)
      → a.stage ≡ Routed r Walk gone → Remains (Routed r Walk gone)
  walking-on on r gone now =
      let st = Routed r Walk gone in
      let z = heard st in
      let t : Turned = turned e me r gone a z in
      let c = walks e me a st z tt (λ q. absurd cc) (λ q. absurd cc) in
      omega (
        arith,
        ap (of_hand f) now,
        walk-stays e me f g covers a t.gone t.actor t.route (turned-short e me r gone a z).1,
        none-over on a.passed t.route,
        hand-stays r gone z,
        route-out Walk gone r now,
        touched-least (migration e) refl r Walk gone z (fits st now).0,
        in-walk (next st) c.0.1 c.2,
        none-next on a.todo a.held,
      )

  walked-lost : (on : Bool) → migration e ≡ on → on ≡ false → (node : Node) (to : ℕ) (gone : Gone)
      (z : Answer) → weighs (worked_at (migration e) a.passed)
      ≡ weighs (touched_at (migration e) (Routed (Linking node to) Walk gone) z)
  walked-lost on is off node to gone z =
      ap (λ b. weighs (worked_at b a.passed)) (is ∙ off)
      ∙ sym (ap (λ b. weighs (touched_at b (Routed (Linking node to) Walk gone) z)) (is ∙ off))

  walking-off : migration e ≡ false → (r : Route Content) (gone : Gone)
      → a.stage ≡ Routed r Walk gone → FitsRoute e w.shared me r → Remains (Routed r Walk gone)
  walking-off off (Pushing node to) gone now fit =
      omega (arith, ap (of_hand f) now, route-out Walk gone (Pushing node to) now)
  walking-off off (Linking node to) gone now fit =
      let st = Routed (Linking node to) Walk gone in
      let z = heard st in
      let c = walks e me a st z tt (λ q. absurd cc) (λ q. absurd cc) in
      omega (
        arith,
        ap (of_hand f) now,
        route-out Walk gone (Linking node to) now,
        worked-stays e me f g covers a.passed a,
        in-walk (next st) c.0.1 c.2,
        worked-lost (migration e) a.passed,
        walked-lost false off refl node to gone z,
      )
  walking-off off (Looking hand) gone now fit = absurd (not_on off fit.1)
  walking-off off (Trying hand seen) gone now fit = absurd (off-try off seen
      (w.shared.places hand.spot.carrier) (off-place off hand.spot.carrier) fit)
  walking-off off (Settling x) gone now fit = absurd (not_on off fit.1)
  walking-off off (Abandoning x) gone now fit = absurd (not_on off fit.2)
  walking-off off (Sending x) gone now fit = absurd (not_on off fit.3)
  walking-off off (Clearing x) gone now fit = absurd (not_on off fit.3)

  walking : (r : Route Content) (gone : Gone) → a.stage ≡ Routed r Walk gone
      → Remains (Routed r Walk gone)
  walking r gone now = elim (cases_Bool (migration e)) [
    | inl on ↦ walking-on on r gone now
    | inr off ↦ walking-off off r gone now (fits (Routed r Walk gone) now).0
  ]

  -- at each stage
  by-stage : (st : Stage Content) → a.stage ≡ st → st ≢ Ended → Remains st
  by-stage Begin now works = beginning now
  by-stage (Routed r Walk gone) now works = walking r gone now
  by-stage (Routed r (For task) gone) now works = tasking r task gone now
  by-stage (Collecting c) now works = collecting c now
  by-stage (Searching ask at part) now works = searching ask at part now
  by-stage (Fetching ask at part seen) now works = fetching ask at part seen now
  by-stage (Creating ask p) now works = creating ask p now
  by-stage (Giving given to) now works = giving given to now
  by-stage (Taking m tries left) now works = taking m tries left now
  by-stage Ended now works = absurd (works refl)
  by-stage Ready now works = absurd (fits Ready now)

  same-touched : (on : Bool)
      → touched_at on a.stage (answered w me) ≡ touched on a (answered w me)
  same-touched true = refl
  same-touched false = refl

  -- what a step leaves of the names that its scheduler has, and of those that stand outside
  pub names-remain : a.stage ≢ Ended
      → stays e me f g covers a + names_outside e f w.shared
      ≤ stays e me f g covers (onward e me (after_row e me a (answered w me) a.stage))
      + names_outside e f (effect me (wants_at a.next a.stage) w.shared)
      + sum_over (of_named f) (touched (migration e) a (answered w me))
  names-remain works = omega (
    arith,
    by-stage a.stage refl works,
    ap weighs (same-touched (migration e)),
  )
