use Rattle.std.specs.Prelude.{drop}
use Rattle.ea_recorded.proofs.Operating.{IsInOrder}
use Rattle.ea_recorded.proofs.order.run_lines.Given as goal

abbrev pub invariant-loop-me : goal.invariant-loop-me
invariant-loop-me l = IsInOrder l.order (drop l.me-index l.order) l.initial.run l.run
