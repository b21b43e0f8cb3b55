use Rattle.ea_given.specs.Runs.{left_in}
use Rattle.ea_recorded.proofs.Operating.{IsInLine}
use Rattle.ea_recorded.proofs.order.run_line.Given as goal

abbrev pub invariant-loop-alloc : goal.invariant-loop-alloc
invariant-loop-alloc l = IsInLine l.me l.done l.initial.run l.run

abbrev pub decreases-loop-alloc : goal.decreases-loop-alloc
decreases-loop-alloc l = left_in l.me l.run
