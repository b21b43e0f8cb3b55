-- The turns until a scheduler has ended, whatever others do in between. Nodes that others push to
-- its queue count when it takes the queue: it does so in some of its begins alone, and finds no
-- more nodes there than a queue can have. Nor does its walk pass more. `own_work` is the number of
-- those turns at most, and counts 9 for each node, as `work` does. `PassesFew` says that a walk
-- passes no more nodes than a queue has. Words of proofs: no clause of `run` names them.
use Rattle.std.specs.Prelude.{◌≡◌, ℕ, ◌+◌, ◌*◌, ◌<◌, ◌≤◌, List, Option, None, Some, length}
use Rattle.ea_model.specs.declared.operations.Op.{Op}
use Rattle.ea_model.specs.declared.settings.Config.{Config}
use Rattle.ea_model.specs.declared.trace.Trace.{Trace}
use Rattle.ea_model.specs.declared.units.TheConstants.{MAX_NAME, MAX_SCHEDULERS, NUMBERS}
use Rattle.ea_model.specs.Content.{Content}
use Rattle.ea_machine.specs.declared.nodes.Node.{Node}
use Rattle.ea_machine.specs.declared.tasks.Why.TheVariants.{Walk, For}
use Rattle.ea_machine.specs.declared.stages.Stage.{Stage}
use Rattle.ea_machine.specs.declared.stages.Stage.TheVariants.{Begin, Routed, Collecting, Searching}
use Rattle.ea_machine.specs.declared.stages.Stage.TheVariants.{Fetching, Creating, Giving, Taking}
use Rattle.ea_machine.specs.declared.stages.Stage.TheVariants.{Ended, Ready}
use Rattle.ea_machine.specs.Actor.{Actor}
use Rattle.ea_machine.specs.Completion.{actor_rows}
use Rattle.ea_machine.specs.Machine.{IsReached}
use Rattle.ea_machine.specs.Setup.{greatest_number, setup_of}
use Rattle.ea_machine.specs.State.{State}
use Rattle.ea_machine.specs.Tasks.{later}

-- how often a begin takes the queue: not where it goes on with a walk
abbrev pub begin_takings : Option Node → ℕ
begin_takings None = 1
begin_takings (Some node) = 0

-- how often the queue is taken for the operations after the present one, and by the begin that
-- follows it, at most
abbrev pub later_takings : List Op → ℕ
later_takings ops = length (later ops) + 1

-- how often it is taken for the operations left, by where the scheduler is in the present one, at
-- most
abbrev pub stage_takings : Option Node → List Op → Stage Content → ℕ
stage_takings next ops Begin = length ops + begin_takings next
stage_takings next ops (Routed r Walk gone) = length ops
stage_takings next ops (Routed r (For task) gone) = later_takings ops
stage_takings next ops (Collecting number) = length ops
stage_takings next ops (Searching ask at part) = later_takings ops
stage_takings next ops (Fetching ask at part seen) = later_takings ops
stage_takings next ops (Creating ask p) = later_takings ops
stage_takings next ops (Giving given to) = later_takings ops
stage_takings next ops (Taking name tries left) = later_takings ops
stage_takings next ops Ended = 0
stage_takings next ops Ready = length ops

-- how often a scheduler takes its queue until it has ended, at most
abbrev pub takings : Actor → ℕ
takings a = stage_takings a.next a.todo a.stage

-- the most nodes that a queue can have: one for each name up to the greatest, and for each carrier
-- number
abbrev pub most_queued : Config → Trace → ℕ
most_queued c t = t.greatest + greatest_number (setup_of c t)

-- the steps that a scheduler takes until it has ended, at most, whatever other ones do in between,
-- where that many nodes are left of its walk
abbrev pub own_work : Config → Trace → Actor → ℕ → ℕ
own_work c t a rest = actor_rows (setup_of c t) a + 9 * rest + 9 * (most_queued c t * takings a)

-- in each reached state of the trace's run a walk that has a next node has passed fewer nodes than
-- a queue can have, and that is no more than all names and carrier numbers that any run may have
pub record PassesFew (c : Config) (t : Trace) : Type 0 where
  pub passes : (w : State) → IsReached (setup_of c t) w → (i : ℕ) (node : Node)
      → (w.actors i).next ≡ Some node → length (w.actors i).passed < most_queued c t
  pub few : most_queued c t ≤ MAX_NAME + NUMBERS * MAX_SCHEDULERS
