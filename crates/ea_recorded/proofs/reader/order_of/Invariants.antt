use Rattle.std.proofs.Common.{◌≡◌, map, take}
use Rattle.ea_recorded.proofs.reader.order_of.Given as goal

abbrev pub invariant-loop-line : goal.invariant-loop-line
invariant-loop-line l = l.order.items ≡ map (λ o. o.scheduler) (take l.line-index l.lines)
