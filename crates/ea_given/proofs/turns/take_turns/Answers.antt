use Rattle.std.proofs.Common.{◌+◌, ◌-◌, arith, sym, ◌∙◌}
use Rattle.ea_given.proofs.Running.{took-all, took-count, took-more, took-none, took-stands}
use Rattle.ea_given.proofs.turns.take_turns.Goals as goal

pub loop-left-init : goal.loop-left-init
loop-left-init c = (
  omega arith,
  took-none c.args.scheduler.now c.args.shared.now (c.args.count - c.args.count) (omega arith),
)

pub returns-then-rests : goal.returns-then-rests
returns-then-rests c = took-all c.args.scheduler.now c.loop-left.scheduler c.args.shared.now
    c.loop-left.shared (c.args.count - c.loop-left.left) c.args.count (omega arith)
    (sym c.rests.ensures ∙ c.if-rests.true) c.loop-left.invariant.1

pub step_some-requires-clause-stands : goal.step_some-requires-clause-stands
step_some-requires-clause-stands c = took-stands c.args.scheduler.now c.loop-left.scheduler
    c.args.shared.now c.loop-left.shared (c.args.count - c.loop-left.left) c.requires
    c.loop-left.invariant.1

pub loop-left-preserved : goal.loop-left-preserved
loop-left-preserved c =
    let before = c.args.count - c.loop-left.left in
    let now = c.in_ok-left.field-0 in
    let few = c.in_ok-left.ensures.few in (
      omega (arith, c.loop-left.invariant.0),
      took-count c.args.scheduler.now c.step_some.new.scheduler c.args.shared.now
          c.step_some.new.shared (before + now) (c.args.count - (c.loop-left.left - now))
          (omega (arith, c.loop-left.invariant.0, few.1))
          (took-more c.args.scheduler.now c.loop-left.scheduler c.args.shared.now
          c.loop-left.shared before now c.step_some.new.scheduler c.step_some.new.shared
          c.loop-left.invariant.1 c.in_ok-left.ensures.took),
    )

pub returns : goal.returns
returns c = took-count c.args.scheduler.now c.loop-left.scheduler c.args.shared.now
    c.loop-left.shared (c.args.count - c.loop-left.left) c.args.count
    (omega (arith, c.loop-left-test.false)) c.loop-left.invariant.1
