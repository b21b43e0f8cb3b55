use Rattle.std.proofs.Common.{arith}
use Rattle.ea_laws.proofs.Segments.{Laid-end}
use Rattle.ea_segments.proofs.Holding.{laid-next}
use Rattle.ea_segments.proofs.held.pages_of.Goals as goal

pub overflow_add-pages : goal.overflow_add-pages
overflow_add-pages c =
    let (at, le, laid) = c.loop-segment.invariant.laid in
    let t = laid-next at _ _ _ c.loop-segment-test.true laid in
    omega (arith, le, t.0, Laid-end _ _ _ t.2)
