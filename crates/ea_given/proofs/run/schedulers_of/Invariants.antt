use Rattle.std.proofs.Common.{◌≡◌, ◌+◌, ℕ, ◌<◌, length, get_or}
use Rattle.ea_machine.specs.Machine.{start}
use Rattle.ea_machine.specs.Setup.{setup_of}
use Rattle.ea_sched.specs.declared.state.Scheduler.{Scheduler}
use Rattle.ea_given.specs.Running.{StandsAt}
use Rattle.ea_given.proofs.run.schedulers_of.Given as goal

abbrev pub invariant-loop-before : goal.invariant-loop-before
invariant-loop-before l = (length l.schedulers.items ≡ l.before)
    × ((k : ℕ) (d : Scheduler) → k < length l.schedulers.items
    → StandsAt l.config l.trace (k + 1) ((setup_of l.config l.trace).stops (k + 1))
    (get_or l.schedulers.items k d)
    (start (setup_of l.config l.trace)))
