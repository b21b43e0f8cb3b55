use Rattle.std.proofs.Common.{ℕ}
use Rattle.std.specs.Prelude.{Option}
use Rattle.ea_model.specs.declared.settings.Config.{Config}
use Rattle.ea_model.specs.declared.trace.Trace.{Trace}
use Rattle.ea_machine.specs.Completion.{finishing}
use Rattle.ea_machine.specs.Machine.{run_on}
use Rattle.ea_machine.specs.Setup.{setup_of}
use Rattle.ea_machine.specs.State.{State}
use Rattle.ea_given.specs.Running.{LeadsTo, SharesAt, StandsAt, work_left}
use Rattle.ea_given.proofs.turns.run_out.Given as goal

abbrev pub invariant-loop-alloc : goal.invariant-loop-alloc
invariant-loop-alloc l = (c : Config) (t : Trace) (me : ℕ) (steps : Option ℕ) (state : State)
    → SharesAt c t l.initial.shared state → StandsAt c t me steps l.initial.scheduler state
    → (now : State) × (left : Option ℕ) × SharesAt c t l.shared now
    × StandsAt c t me left l.scheduler now × LeadsTo (setup_of c t) me left
    (run_on (setup_of c t) state (finishing (setup_of c t) state steps me)) now

abbrev pub decreases-loop-alloc : goal.decreases-loop-alloc
decreases-loop-alloc l = work_left l.scheduler l.shared
