use Rattle.std.proofs.Common.{◌≡◌, ◌++◌, map}
use Rattle.ea_sched.specs.Acting.{stop_line}
use Rattle.ea_outcome.proofs.outcome.logs_of.Given as goal

abbrev pub invariant-loop-scheduler : goal.invariant-loop-scheduler
invariant-loop-scheduler l = map (λ log. log.items) l.logs.items
    ≡ map (λ s. s.log.items ++ stop_line s) l.yielded
