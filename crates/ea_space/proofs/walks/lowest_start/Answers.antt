use Rattle.std.proofs.Common.{arith}
use Rattle.ea_laws.proofs.Segments.{Laid-end}
use Rattle.ea_space.proofs.Indices.{Laid-next}
use Rattle.ea_space.proofs.walks.lowest_start.Goals as goal

pub overflow_add-at : goal.overflow_add-at
overflow_add-at c =
    let t = Laid-next _ _ _ _ c.loop-segment-test.true c.loop-segment.invariant.laid in
    omega (arith, Laid-end _ _ _ t.2)
