use Rattle.ea_recorded.proofs.Operating.{line-first, line-has, line-last, line-less, line-next}
use Rattle.ea_recorded.proofs.Operating.{line-run}
use Rattle.ea_recorded.proofs.order.run_line.Goals as goal

pub done-done-requires-clause-stands : goal.done-done-requires-clause-stands
done-done-requires-clause-stands c = c.requires.stands.is

pub loop-alloc-init : goal.loop-alloc-init
loop-alloc-init c = line-first c.args.run.now c.requires.stands c.args.me c.requires.scheduler
    c.done-done.result c.done-done.ensures

pub is_over-requires-clause-stands : goal.is_over-requires-clause-stands
is_over-requires-clause-stands c = line-run c.args.run.now c.requires.stands c.args.me
    c.requires.scheduler c.done-done.result c.loop-alloc.run c.loop-alloc.invariant

pub is_over-requires-clause-scheduler : goal.is_over-requires-clause-scheduler
is_over-requires-clause-scheduler c = line-has c.args.run.now c.requires.stands c.args.me
    c.requires.scheduler c.done-done.result c.loop-alloc.run c.loop-alloc.invariant

pub turns-requires-clause-stands : goal.turns-requires-clause-stands
turns-requires-clause-stands c = line-run c.args.run.now c.requires.stands c.args.me
    c.requires.scheduler c.done-done.result c.loop-alloc.run c.loop-alloc.invariant

pub turns-requires-clause-scheduler : goal.turns-requires-clause-scheduler
turns-requires-clause-scheduler c = line-has c.args.run.now c.requires.stands c.args.me
    c.requires.scheduler c.done-done.result c.loop-alloc.run c.loop-alloc.invariant

pub loop-alloc-smaller : goal.loop-alloc-smaller
loop-alloc-smaller c = line-less c.args.run.now c.requires.stands c.args.me c.requires.scheduler
    c.done-done.result c.loop-alloc.run c.loop-alloc.invariant c.is_over.result c.is_over.ensures
    c.loop-alloc-test.true c.turns.new.self c.in_ok-turns.field-0 c.in_ok-turns.ensures.few.0
    c.in_ok-turns.ensures.taken c.in_ok-turns.ensures.looks

pub loop-alloc-preserved : goal.loop-alloc-preserved
loop-alloc-preserved c = line-next c.args.run.now c.requires.stands c.args.me c.requires.scheduler
    c.done-done.result c.loop-alloc.run c.loop-alloc.invariant c.is_over.result c.is_over.ensures
    c.loop-alloc-test.true c.turns.new.self c.in_ok-turns.field-0 c.in_ok-turns.ensures.few.0
    c.in_ok-turns.ensures.taken c.in_ok-turns.ensures.looks

pub returns : goal.returns
returns c = line-last c.args.run.now c.requires.stands c.args.me c.requires.scheduler
    c.done-done.result c.loop-alloc.run c.loop-alloc.invariant c.is_over.result c.is_over.ensures
    c.loop-alloc-test.false
