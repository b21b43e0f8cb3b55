use Rattle.std.proofs.Common.{◌-◌, ◌≤◌, arith, mul-le-mul_right}
use Rattle.ea_gen.proofs.section.Section.base.Goals as goal

pub overflow_mul-result : goal.overflow_mul-result
overflow_mul-result c =
    let s = c.args.self in
    let earlier : s.scheduler - 1 ≤ s.schedulers = omega arith in
    omega (arith, mul-le-mul_right s.count earlier)
