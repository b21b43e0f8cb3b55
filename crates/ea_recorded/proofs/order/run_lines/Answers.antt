use Rattle.std.proofs.Common.{◌+◌, drop}
use Rattle.std.specs.Prelude.{get_or}
use Rattle.std.proofs.lemmas.List.{drop_all, drop_more}
use Rattle.ea_recorded.proofs.Operating.{order-first, order-has, order-last, order-next}
use Rattle.ea_recorded.proofs.Operating.{order-unstopped}
use Rattle.ea_recorded.proofs.order.run_lines.Goals as goal

pub loop-me-init : goal.loop-me-init
loop-me-init c = order-first c.args.order.now c.args.run.now

pub run_line-requires-clause-stands : goal.run_line-requires-clause-stands
run_line-requires-clause-stands c =
    order-unstopped c.args.order.now (drop c.loop-me.me-index c.args.order.now) c.args.run.now
    c.loop-me.run c.loop-me.invariant c.requires.stands

pub run_line-requires-clause-scheduler : goal.run_line-requires-clause-scheduler
run_line-requires-clause-scheduler c =
    order-has c.args.order.now (drop c.loop-me.me-index c.args.order.now) c.args.run.now
    c.loop-me.run c.loop-me.invariant _ c.requires.stands
    (c.requires.theirs c.loop-me.me-index 0 c.loop-me-test.true)

pub loop-me-preserved : goal.loop-me-preserved
loop-me-preserved c =
    let order = c.args.order.now in
    let k = c.loop-me.me-index in
    order-next order (drop k order) c.args.run.now c.loop-me.run c.loop-me.invariant
    (get_or order k 0) (drop (k + 1) order) c.run_line.new.run
    (drop_more order k 0 c.loop-me-test.true) c.in_ok-run_line.ensures

pub returns : goal.returns
returns c =
    let order = c.args.order.now in
    let k = c.loop-me.me-index in
    order-last order (drop k order) c.args.run.now c.loop-me.run c.loop-me.invariant
    (drop_all k order c.loop-me-test.false)
