-- What a scheduler's work of a whole step does to carriers: none was made, or one, by the operation
-- that began in it or by its own row.
use Rattle.std.proofs.Common.{◌≡◌, ◌≢◌, ℕ, zero, suc, List, true, false, refl, sym}
use Rattle.std.proofs.Common.{◌∙◌, subst, arith}
use Rattle.std.specs.Prelude.{Option, None, Some, Ok}
use Rattle.std.proofs.lemmas.Bool.{true≢false}
use Rattle.ea_model.specs.declared.carriers.CarrierPlan.{CarrierPlan}
use Rattle.ea_model.specs.declared.carriers.Spot.{Spot}
use Rattle.ea_model.specs.Content.{Content}
use Rattle.ea_model.specs.Entries.{Entry}
use Rattle.ea_model.specs.Instance.{Instance, plan}
use Rattle.ea_machine.specs.declared.asks.Ask.{Ask}
use Rattle.ea_machine.specs.declared.nodes.Named.{Named}
use Rattle.ea_machine.specs.declared.stages.Route.{Route}
use Rattle.ea_machine.specs.declared.stages.Stage.{Stage}
use Rattle.ea_machine.specs.declared.stages.Stage.TheVariants.{Begin, Routed, Collecting, Searching}
use Rattle.ea_machine.specs.declared.stages.Stage.TheVariants.{Fetching, Creating, Giving, Taking}
use Rattle.ea_machine.specs.declared.stages.Stage.TheVariants.{Ended, Ready}
use Rattle.ea_machine.specs.declared.tasks.Gone.{Gone}
use Rattle.ea_machine.specs.declared.tasks.Task.{Task}
use Rattle.ea_machine.specs.declared.tasks.Why.TheVariants.{Walk, For}
use Rattle.ea_machine.specs.Actor.{Actor}
use Rattle.ea_machine.specs.Machine.{after_row, onward, onward_at}
use Rattle.ea_machine.specs.Operations.{itself, took, took_by}
use Rattle.ea_machine.specs.Releases.{disowned, struck, turned}
use Rattle.ea_machine.specs.Rows.{Answer, Done, Head, Rests, Passes, Saw, Won, Lost, Home, Got}
use Rattle.ea_machine.specs.Setup.{Setup, migration}
use Rattle.ea_machine.specs.Statistics.{observed}
use Rattle.ea_machine.specs.Tasks.{halted, task_over}
use Rattle.ea_machine.specs.Walks.{after_route, begun, with_passed, worked_off}
use Rattle.ea_sound.proofs.BeginTurns.{IsInBegin, walks}
use Rattle.ea_sound.proofs.WorkNames.{carried-busy}
use Rattle.ea_steps.proofs.KeptCarriers.{AllMayGo, Comes, Hand, MayGo, RouteMayGo}
use Rattle.ea_steps.proofs.KeptCarriers.{carried-keeps, fetched_by, hand_of, keeps-disowned}
use Rattle.ea_steps.proofs.KeptCarriers.{keeps-itself}
use Rattle.ea_steps.proofs.KeptCarriers.{keeps-less, keeps-on, left_on, nothing}
use Rattle.ea_steps.proofs.KeptCarriers.{turned-keeps, worked-keeps}
use Rattle.ea_steps.proofs.MadeCarriers.{Any, Goes, Grows, OldGoing, OpGoing, Same, More}
use Rattle.ea_steps.proofs.MadeCarriers.{created-grows, fetched-goes, itself-goes}
use Rattle.ea_steps.proofs.MadeCarriers.{searched-goes}

-- what a row leaves in the hand for the work after it
abbrev pub left_at : Stage Content → Answer → Hand
left_at Begin r = nothing
left_at (Routed z why gone) r = left_on z r
left_at (Collecting n) r = nothing
left_at (Searching ask n part) r = nothing
left_at (Fetching ask n part seen) r = fetched_by r
left_at (Creating ask p) r = nothing
left_at (Giving given to) r = nothing
left_at (Taking n tries left) r = nothing
left_at Ended r = nothing
left_at Ready r = nothing

module _ (e : Setup) (me : ℕ) (Going : Named → Type 0) (Cut Cleared : ℕ → Type 0)
    (may : (h : Named) → Going h → MayGo Any Cut Cleared e me h.spot.carrier) where
  abbrev From : Actor → Stage Content → Answer → Actor → Type 1
  From a st r b = Comes Any Cut Cleared a.instance (left_at st r) b

  -- which carriers may go once the row is answered
  abbrev pub BeginMayGo : Actor → Answer → Type 0
  BeginMayGo a (Passes None) = AllMayGo Any Cut Cleared e me (with_passed a.next a.passed)
  BeginMayGo a r = Unit {0}

  abbrev pub RowMayGo : Actor → Answer → Stage Content → Type 0
  RowMayGo a r Begin = BeginMayGo a r
  RowMayGo a r (Routed z Walk gone) = RouteMayGo Any Cut Cleared e me z
      × ((turned e me z gone a r).route ≡ None
      → AllMayGo Any Cut Cleared e me (turned e me z gone a r).actor.passed)
  RowMayGo a r (Routed z (For task) gone) = RouteMayGo Any Cut Cleared e me z
  RowMayGo a r (Collecting n) = Cleared n × AllMayGo Any Cut Cleared e me a.passed
  RowMayGo a r (Searching ask n part) = OldGoing e me Going ask.old × (migration e ≡ true)
  RowMayGo a r (Fetching ask n part seen) = OldGoing e me Going ask.old × (migration e ≡ true)
  RowMayGo a r (Creating ask p) = OldGoing e me Going ask.old × (plan a.instance ask.need ≡ Ok p)
  RowMayGo a r (Giving given to) = Unit {0}
  RowMayGo a r (Taking n tries left) = Unit {0}
  RowMayGo a r Ended = ⊥
  RowMayGo a r Ready = ⊥

  -- no carrier was made in the step; or one was, by the operation that began in it; or by its row
  pub data Does (a : Actor) (r : Answer) (st : Stage Content) (b : Actor) : Type 1 where
    Unmade : (stays : From a st r b) → Does a r st b
    Begun : (off : migration e ≡ false) (ready : (after_row e me a r st).stage ≡ Ready)
        (held : (after_row e me a r st).held ≡ a.held)
        (before : From a st r (after_row e me a r st)) (plan : CarrierPlan)
        (grows : Grows e me Going (after_row e me a r st).instance a.log plan b) → Does a r st b
    Created : (ask : Ask) (plan : CarrierPlan) (at : st ≡ Creating ask plan)
        (grows : Grows e me Going a.instance a.log plan b) → Does a r st b

  begun-keeps : (a : Actor) (r : Answer) → BeginMayGo a r
      → Comes Any Cut Cleared a.instance nothing (begun e me a r)
  begun-keeps a (Head None) m = keeps-itself Any Cut Cleared a.instance nothing
  begun-keeps a (Head (Some n)) m = keeps-itself Any Cut Cleared a.instance nothing
  begun-keeps a Rests m = keeps-itself Any Cut Cleared a.instance nothing
  begun-keeps a (Passes (Some n)) m = keeps-itself Any Cut Cleared a.instance nothing
  begun-keeps a (Passes None) m = worked-keeps Any Cut Cleared e me (with_passed a.next a.passed)
      (record a { next = None }) m
  begun-keeps a Done m = keeps-itself Any Cut Cleared a.instance nothing
  begun-keeps a (Saw v) m = keeps-itself Any Cut Cleared a.instance nothing
  begun-keeps a (Won x) m = keeps-itself Any Cut Cleared a.instance nothing
  begun-keeps a (Lost v) m = keeps-itself Any Cut Cleared a.instance nothing
  begun-keeps a (Home o) m = keeps-itself Any Cut Cleared a.instance nothing
  begun-keeps a (Got o) m = keeps-itself Any Cut Cleared a.instance nothing

  module _ (a : Actor) (r : Answer) where
    -- the begin of an operation
    walk-keeps : (st : Stage Content) → IsInBegin st → RowMayGo a r st
        → From a st r (after_row e me a r st)
    walk-keeps Begin is m = begun-keeps a r m
    walk-keeps (Routed z Walk g) is m =
        let t = turned e me z g a r in
        carried-keeps Any Cut Cleared e me Walk (after_route e me Walk) a.instance (left_on z r) t
        (turned-keeps Any Cut Cleared e me z g a r m.0)
        (λ over. worked-keeps Any Cut Cleared e me t.actor.passed t.actor (m.1 over))
    walk-keeps (Routed z (For task) g) is m = absurd is
    walk-keeps (Collecting n) is m =
        let c = disowned n (struck n a) in
        let b = worked_off e me a.passed c in
        keeps-on Any Cut Cleared a.instance c.instance b.instance nothing nothing (hand_of b)
        (keeps-disowned Any Cut Cleared a.instance nothing nothing n m.0 (λ f. omega arith))
        (worked-keeps Any Cut Cleared e me a.passed c m.1)
    walk-keeps (Searching ask n part) is m = absurd is
    walk-keeps (Fetching ask n part seen) is m = absurd is
    walk-keeps (Creating ask p) is m = absurd is
    walk-keeps (Giving given to) is m = absurd is
    walk-keeps (Taking n tries left) is m = absurd is
    walk-keeps Ended is m = absurd m
    walk-keeps Ready is m = absurd m

    module _ (st : Stage Content) where
      abbrev b : Actor
      b = after_row e me a r st

      -- the operation itself, where it begins in this step
      operation-does : b.stage ≡ Ready → From a st r b → b.log ≡ a.log → b.held ≡ a.held
          → Goes e me Going Cut Cleared may b.instance nothing b.log (itself e me b b.todo)
          → Does a r st (itself e me b b.todo)
      operation-does ready before same held (Same stays busy) =
          let c = itself e me b b.todo in
          Unmade (keeps-on Any Cut Cleared a.instance b.instance c.instance (left_at st r)
          (hand_of b) (hand_of c) before
          (keeps-on Any Cut Cleared b.instance b.instance c.instance (hand_of b) nothing
          (hand_of c) (keeps-less Any Cut Cleared b.instance (hand_of b) nothing
          (λ f. omega arith)) stays))
      operation-does ready before same held (More off plan grows) =
          Begun off ready held before plan
          (subst (λ log. Grows e me Going b.instance log plan (itself e me b b.todo)) same grows)

      walk-does : From a st r b → b.log ≡ a.log → b.held ≡ a.held
          → (b.stage ≡ Ready → OpGoing e me Going Cut Cleared may b b.todo)
          → (at : Stage Content) → b.stage ≡ at → Does a r st (onward_at e me b at)
      walk-does before same held going Ready q =
          operation-does q before same held
          (itself-goes e me Going Cut Cleared may b b.todo (going q))
      walk-does before same held going Begin q = Unmade before
      walk-does before same held going (Routed z y g) q = Unmade before
      walk-does before same held going (Collecting n) q = Unmade before
      walk-does before same held going (Searching ask n part) q = Unmade before
      walk-does before same held going (Fetching ask n part seen) q = Unmade before
      walk-does before same held going (Creating ask p) q = Unmade before
      walk-does before same held going (Giving given to) q = Unmade before
      walk-does before same held going (Taking n tries left) q = Unmade before
      walk-does before same held going Ended q = Unmade before

      -- who isn't ready goes on with nothing
      still-does : Does a r st b → (at : Stage Content) → at ≢ Ready
          → Does a r st (onward_at e me b at)
      still-does d Ready n = absurd (n refl)
      still-does d Begin n = d
      still-does d (Routed z y g) n = d
      still-does d (Collecting c) n = d
      still-does d (Searching ask c part) n = d
      still-does d (Fetching ask c part seen) n = d
      still-does d (Creating ask p) n = d
      still-does d (Giving given to) n = d
      still-does d (Taking c tries left) n = d
      still-does d Ended n = d

      goes-does : migration e ≡ true
          → Goes e me Going Cut Cleared may a.instance (left_at st r) a.log b
          → Does a r st (onward e me b)
      goes-does on (Same stays busy) = still-does (Unmade stays) b.stage busy
      goes-does on (More off plan grows) = absurd (true≢false (sym on ∙ off))

      stays-does : From a st r b → b.stage ≢ Ready → Does a r st (onward e me b)
      stays-does stays busy = still-does (Unmade stays) b.stage busy

    halted-does : Comes Any Cut Cleared a.instance nothing (halted a)
        × ((halted a).stage ≢ Ready)
    halted-does = (keeps-itself Any Cut Cleared a.instance nothing, λ q. absurd cc)

    -- a try to take a name
    took_by-busy : (n tries left : ℕ) (o : Option Spot) → (took_by n tries left a o).stage ≢ Ready
    took_by-busy n tries left (Some spot) = λ q. absurd cc
    took_by-busy n tries zero None = λ q. absurd cc
    took_by-busy n tries (suc zero) None = λ q. absurd cc
    took_by-busy n tries (suc (suc left)) None = λ q. absurd cc

    took_by-keeps : (n tries left : ℕ) (o : Option Spot)
        → Comes Any Cut Cleared a.instance nothing (took_by n tries left a o)
    took_by-keeps n tries left (Some spot) = keeps-itself Any Cut Cleared a.instance nothing
    took_by-keeps n tries zero None = keeps-itself Any Cut Cleared a.instance nothing
    took_by-keeps n tries (suc zero) None = keeps-itself Any Cut Cleared a.instance nothing
    took_by-keeps n tries (suc (suc left)) None = keeps-itself Any Cut Cleared a.instance nothing

    took-does : (n tries left : ℕ) (z : Answer)
        → Comes Any Cut Cleared a.instance nothing (took n tries left a z)
        × ((took n tries left a z).stage ≢ Ready)
    took-does n tries left (Got o) = (took_by-keeps n tries left o, took_by-busy n tries left o)
    took-does n tries left Done = halted-does
    took-does n tries left (Head o) = halted-does
    took-does n tries left Rests = halted-does
    took-does n tries left (Passes o) = halted-does
    took-does n tries left (Saw v) = halted-does
    took-does n tries left (Won x) = halted-does
    took-does n tries left (Lost v) = halted-does
    took-does n tries left (Home o) = halted-does

    -- an operation that releases a block
    task-does : (z : Route Content) (task : Task) (g : Gone)
        → RouteMayGo Any Cut Cleared e me z
        → Does a r (Routed z (For task) g)
        (onward e me (after_row e me a r (Routed z (For task) g)))
    task-does z task g m =
        let t = turned e me z g a r in
        stays-does (Routed z (For task) g)
        (carried-keeps Any Cut Cleared e me (For task) (task_over task) a.instance (left_on z r) t
        (turned-keeps Any Cut Cleared e me z g a r m)
        (λ over. keeps-itself Any Cut Cleared t.actor.instance nothing))
        (carried-busy e me 0 task t.gone t.actor t.route)

    -- the carrier of a plan is created by its own row
    created-does : (ask : Ask) (p : CarrierPlan) → OldGoing e me Going ask.old
        → plan a.instance ask.need ≡ Ok p
        → Does a r (Creating ask p) (onward e me (after_row e me a r (Creating ask p)))
    created-does ask p going is =
        let grows = created-grows e me Going ask p a is going in
        still-does (Creating ask p) (Created ask p refl grows)
        (after_row e me a r (Creating ask p)).stage grows.busy

    -- each row; the operation that begins in the step has a block that goes
    module _ (begins : (st : Stage Content) → a.stage ≡ st → IsInBegin st → st ≢ Ended
        → st ≢ Ready → (after_row e me a r st).stage ≡ Ready
        → OpGoing e me Going Cut Cleared may (after_row e me a r st) (after_row e me a r st).todo)
      where
        walked-does : (st : Stage Content) → a.stage ≡ st → IsInBegin st → st ≢ Ended → st ≢ Ready
            → RowMayGo a r st → Does a r st (onward e me (after_row e me a r st))
        walked-does st q is ne nr m =
            let b = after_row e me a r st in
            walk-does st (walk-keeps st is m) (walks e me a st r is ne nr).0.0
            (walks e me a st r is ne nr).2
            (begins st q is ne nr) b.stage refl

        row-does : (st : Stage Content) → a.stage ≡ st → RowMayGo a r st
            → Does a r st (onward e me (after_row e me a r st))
        row-does Begin q m = walked-does Begin q tt (λ z. absurd cc) (λ z. absurd cc) m
        row-does (Routed z Walk g) q m =
            walked-does (Routed z Walk g) q tt (λ x. absurd cc) (λ x. absurd cc) m
        row-does (Routed z (For task) g) q m = task-does z task g m
        row-does (Collecting n) q m =
            walked-does (Collecting n) q tt (λ z. absurd cc) (λ z. absurd cc) m
        row-does (Searching ask n part) q m = goes-does (Searching ask n part) m.1
            (searched-goes e me Going Cut Cleared may ask n part a r m.0)
        row-does (Fetching ask n part seen) q m = goes-does (Fetching ask n part seen) m.1
            (fetched-goes e me Going Cut Cleared may ask n part a r m.0)
        row-does (Creating ask p) q m = created-does ask p m.0 m.1
        row-does (Giving given to) q m = stays-does (Giving given to)
            (keeps-itself Any Cut Cleared a.instance nothing) (λ z. absurd cc)
        row-does (Taking n tries left) q m =
            let t = took-does n tries left r in stays-does (Taking n tries left) t.0 t.1
        row-does Ended q m = absurd m
        row-does Ready q m = absurd m

  -- figures that are observed change no carrier
  observed-grows : (i : Instance) (log : List Entry) (p : CarrierPlan) (b : Actor)
      → Grows e me Going i log p b → Grows e me Going i log p (observed b)
  observed-grows i log p b grows = record {
    need = grows.need;
    planned = grows.planned;
    new = grows.new;
    number = grows.number;
    birth = grows.birth;
    with_new = grows.with_new;
    sums = grows.sums;
    owns = grows.owns;
    counted = grows.counted;
    place = grows.place;
    told = grows.told;
    within = grows.within;
    keeps = grows.keeps;
    busy = grows.busy;
  }

  observed-does : (a : Actor) (r : Answer) (st : Stage Content) (b : Actor) → Does a r st b
      → Does a r st (observed b)
  observed-does a r st b (Unmade stays) = Unmade stays
  observed-does a r st b (Begun off ready held before p grows) = Begun off ready held before p
      (observed-grows (after_row e me a r st).instance a.log p b grows)
  observed-does a r st b (Created ask p at grows) =
      Created ask p at (observed-grows a.instance a.log p b grows)

  pub step-does : (a : Actor) (r : Answer)
      → ((st : Stage Content) → a.stage ≡ st → IsInBegin st → st ≢ Ended → st ≢ Ready
      → (after_row e me a r st).stage ≡ Ready
      → OpGoing e me Going Cut Cleared may (after_row e me a r st) (after_row e me a r st).todo)
      → (st : Stage Content) → a.stage ≡ st → RowMayGo a r st
      → Does a r st (observed (onward e me (after_row e me a r st)))
  step-does a r begins st q m = observed-does a r st (onward e me (after_row e me a r st))
      (row-does a r begins st q m)
