use Rattle.std.proofs.Common.{ℕ}
use Rattle.std.specs.Prelude.{Option}
use Rattle.ea_model.specs.declared.settings.Config.{Config}
use Rattle.ea_model.specs.declared.trace.Trace.{Trace}
use Rattle.ea_machine.specs.Completion.{completing}
use Rattle.ea_machine.specs.Machine.{run_on}
use Rattle.ea_machine.specs.Setup.{setup_of}
use Rattle.ea_machine.specs.State.{State}
use Rattle.ea_given.specs.Running.{AllStandAt, CompletesTo, IsAfter, SharesAt}
use Rattle.ea_given.proofs.run.complete.Given as goal

abbrev pub invariant-loop-scheduler : goal.invariant-loop-scheduler
invariant-loop-scheduler l = (c : Config) (t : Trace) (steps : ℕ → Option ℕ) (state : State)
    → SharesAt c t l.initial.shared state → AllStandAt c t steps l.initial.schedulers state
    → (now : State) × (left : (ℕ → Option ℕ)) × IsAfter steps l.scheduler-index left
    × SharesAt c t l.shared now × AllStandAt c t left l.schedulers now
    × CompletesTo (setup_of c t) steps l.scheduler-index
    (run_on (setup_of c t) state (completing (setup_of c t) steps c.schedulers 1 state)) now
