use Rattle.std.proofs.Common.{arith}
use Rattle.ea_machine.specs.Setup.{setup_of}
use Rattle.ea_steps.specs.LookedUp.{found_in}
use Rattle.ea_steps.proofs.ToldChanges.{all-gone, more-gone}
use Rattle.ea_steps.proofs.changes.put_all_gone.Goals as goal

pub loop-number-preserved : goal.loop-number-preserved
loop-number-preserved c = λ d t turns at.
    more-gone c.loop-number.text.items _ c.args.made (found_in (setup_of d t) turns)
    c.loop-number.last c.args.numbers.now c.loop-number.number-index
    (c.loop-number.invariant d t turns at) c.put_gone_if.new.text.items c.loop-number-test.true
    (c.in_ok-put_gone_if.ensures d t turns at)

pub returns : goal.returns
returns c = λ d t turns at.
    all-gone c.loop-number.text.items _ c.args.made (found_in (setup_of d t) turns)
    c.loop-number.last c.args.numbers.now c.loop-number.number-index
    (c.loop-number.invariant d t turns at) (omega (arith, c.loop-number-test.false))
