use Rattle.std.proofs.Common.{◌+◌, ◌++◌, sym, subst, arith}
use Rattle.ea_types.specs.Courses.{types_of}
use Rattle.ea_types.specs.Given.{StandsAfter}
use Rattle.ea_types.specs.Turning.{complete, finishing, stands_after}
use Rattle.ea_types.proofs.Completions.{completes-first, completes-last, completes-next}
use Rattle.ea_types.proofs.given.TypedRun.complete.Goals as goal

pub loop-before-init : goal.loop-before-init
loop-before-init c = λ d other traces parts turns at.
    (turns, at, completes-first (types_of d other traces parts) turns)

pub finish-requires-clause-stands : goal.finish-requires-clause-stands
finish-requires-clause-stands c =
    let (d, other, traces, parts, turns, at) = c.requires in
    let (now, then, comes) = c.loop-before.invariant d other traces parts turns at in
    (d, other, traces, parts, now, then)

pub finish-requires-clause-scheduler : goal.finish-requires-clause-scheduler
finish-requires-clause-scheduler c =
    let (d, other, traces, parts, turns, at) = c.requires in
    let (now, then, comes) = c.loop-before.invariant d other traces parts turns at in
    (omega arith, omega (arith, c.loop-before-test.true, at.schedulers, then.schedulers))

pub loop-before-preserved : goal.loop-before-preserved
loop-before-preserved c = λ d other traces parts turns at.
    let (now, then, comes) = c.loop-before.invariant d other traces parts turns at in
    let t = types_of d other traces parts in
    let k = c.loop-before.before in (
      now ++ finishing t (stands_after t now) (k + 1),
      c.in_ok-finish.ensures d other traces parts now then,
      completes-next t (complete t turns) now k comes
          (omega (arith, c.loop-before-test.true, at.schedulers)),
    )

pub returns : goal.returns
returns c = λ d other traces parts turns at.
    let (now, then, comes) = c.loop-before.invariant d other traces parts turns at in
    let t = types_of d other traces parts in
    subst (λ js. StandsAfter d other traces parts js c.loop-before.self)
    (sym (completes-last t (complete t turns) now c.loop-before.before comes
    (omega (arith, c.loop-before-test.false, at.schedulers)))) then
