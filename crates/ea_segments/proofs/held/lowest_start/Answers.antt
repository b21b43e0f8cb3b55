use Rattle.std.proofs.Common.{arith}
use Rattle.ea_laws.proofs.Segments.{Laid-end}
use Rattle.ea_segments.proofs.Holding.{laid-next}
use Rattle.ea_segments.proofs.held.lowest_start.Goals as goal

pub overflow_add-at : goal.overflow_add-at
overflow_add-at c =
    let t = laid-next _ _ _ _ c.loop-segment-test.true c.loop-segment.invariant.laid in
    omega (arith, Laid-end _ _ _ t.2)
