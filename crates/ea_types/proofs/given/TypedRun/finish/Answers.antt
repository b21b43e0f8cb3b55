use Rattle.std.proofs.Common.{◌++◌, refl, sym, ap, subst, arith}
use Rattle.std.specs.Prelude.{replicate}
use Rattle.ea_types.specs.Courses.{types_of}
use Rattle.ea_types.specs.Given.{StandsAfter}
use Rattle.ea_types.specs.Turning.{Standing, all_work, finishing, stands_after}
use Rattle.ea_types.proofs.Completions.{leads-first, leads-last, leads-next, left-is, stays-has}
use Rattle.ea_types.proofs.Standings.{after-append}
use Rattle.ea_types.proofs.given.TypedRun.finish.Goals as goal

pub loop-next-init : goal.loop-next-init
loop-next-init c = λ d other traces parts turns at.
    (turns, at, leads-first (types_of d other traces parts) c.args.me turns)

pub next-requires-clause-stands : goal.next-requires-clause-stands
next-requires-clause-stands c =
    let (d, other, traces, parts, turns, at) = c.requires.stands in
    let (now, then, leads) = c.loop-next.invariant d other traces parts turns at in
    (d, other, traces, parts, now, then)

pub next-requires-clause-scheduler : goal.next-requires-clause-scheduler
next-requires-clause-scheduler c =
    let (d, other, traces, parts, turns, at) = c.requires.stands in
    let (now, then, leads) = c.loop-next.invariant d other traces parts turns at in
    stays-has d other traces parts turns now c.args.self.now c.loop-next.self c.args.me at then
    c.requires.scheduler

pub go-requires-clause-stands : goal.go-requires-clause-stands
go-requires-clause-stands c =
    let (d, other, traces, parts, turns, at) = c.requires.stands in
    let (now, then, leads) = c.loop-next.invariant d other traces parts turns at in
    (d, other, traces, parts, now, then)

pub go-requires-clause-scheduler : goal.go-requires-clause-scheduler
go-requires-clause-scheduler c =
    let (d, other, traces, parts, turns, at) = c.requires.stands in
    let (now, then, leads) = c.loop-next.invariant d other traces parts turns at in
    stays-has d other traces parts turns now c.args.self.now c.loop-next.self c.args.me at then
    c.requires.scheduler

pub loop-next-smaller : goal.loop-next-smaller
loop-next-smaller c =
    let (d, other, traces, parts, turns, at) = c.requires.stands in
    let (now, then, leads) = c.loop-next.invariant d other traces parts turns at in
    let t = types_of d other traces parts in
    let me = c.args.me in
    let js = replicate c.in_ok-go.field-0 me in
    let gone = c.in_ok-go.ensures.taken d other traces parts now then in
    let p = stands_after t now in
    let has = stays-has d other traces parts turns now c.args.self.now c.loop-next.self me at then
    c.requires.scheduler in
    let less = (c.in_ok-go.ensures.ending d other traces parts now then (all_work t p me)
    (omega arith)).0 in
    omega (
      arith,
      less,
      left-is d other traces parts now c.loop-next.self then me has,
      left-is d other traces parts (now ++ js) c.go.new.self gone me
          (stays-has d other traces parts now (now ++ js) c.loop-next.self c.go.new.self me then
          gone has),
      ap (λ (s : Standing). all_work t s me) (after-append t now js),
    )

pub loop-next-preserved : goal.loop-next-preserved
loop-next-preserved c = λ d other traces parts turns at.
    let (now, then, leads) = c.loop-next.invariant d other traces parts turns at in
    let t = types_of d other traces parts in
    let me = c.args.me in
    let k = c.in_ok-go.field-0 in (
      now ++ replicate k me,
      c.in_ok-go.ensures.taken d other traces parts now then,
      leads-next t me (turns ++ finishing t (stands_after t turns) me) now k leads
          (c.in_ok-go.ensures.ending d other traces parts now then),
    )

pub returns : goal.returns
returns c = λ d other traces parts turns at.
    let (now, then, leads) = c.loop-next.invariant d other traces parts turns at in
    let t = types_of d other traces parts in
    let me = c.args.me in
    subst (λ js. StandsAfter d other traces parts js c.loop-next.self)
    (sym (leads-last t me (turns ++ finishing t (stands_after t turns) me) now leads
    (c.in_default.ensures.none refl d other traces parts now then))) then
