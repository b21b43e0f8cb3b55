use Rattle.std.proofs.Common.{◌+◌, arith}
use Rattle.ea_given.proofs.Ends.{first-stands, one-more-stands}
use Rattle.ea_given.proofs.run.schedulers_of.Goals as goal

pub loop-before-preserved : goal.loop-before-preserved
loop-before-preserved c =
    let xs = c.loop-before.schedulers.items in
    let s = c.in_ok-new.field-0 in
    let e = c.in_ok-new.ensures in
    one-more-stands c.args.config c.args.trace.now c.loop-before.before xs c.loop-before.invariant.0
    c.loop-before.invariant.1 s
    (first-stands c.args.config c.args.trace.now (c.loop-before.before + 1) s e.config e.trace
    e.number e.failed e.left e.actor) c.push.new.self.items c.in_ok-push.ensures.items

pub returns : goal.returns
returns c = record {
  all = omega (
    arith,
    c.loop-before.invariant.0,
    c.loop-before-test.false,
    c.loop-before.auto.before-end,
  );
  each = c.loop-before.invariant.1;
}
