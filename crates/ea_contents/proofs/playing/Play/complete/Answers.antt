use Rattle.ea_contents.proofs.Played.{completing-first, completing-has, completing-is}
use Rattle.ea_contents.proofs.Played.{completing-last, completing-next}
use Rattle.ea_contents.proofs.playing.Play.complete.Goals as goal

pub loop-before-init : goal.loop-before-init
loop-before-init c = completing-first c.args.self.now

pub run_out-requires-clause-stands : goal.run_out-requires-clause-stands
run_out-requires-clause-stands c = completing-is c.args.schedulers c.loop-before.before
    c.args.self.now c.loop-before.self c.requires.stands c.requires.all c.loop-before.invariant

pub run_out-requires-clause-scheduler : goal.run_out-requires-clause-scheduler
run_out-requires-clause-scheduler c = completing-has c.args.schedulers c.loop-before.before
    c.args.self.now c.loop-before.self c.requires.stands c.requires.all c.loop-before.invariant
    c.loop-before-test.true

pub loop-before-preserved : goal.loop-before-preserved
loop-before-preserved c = completing-next c.args.schedulers c.loop-before.before
    c.args.self.now c.loop-before.self c.requires.stands c.requires.all c.loop-before.invariant
    c.run_out.new.self c.loop-before-test.true c.in_ok-run_out.ensures

pub returns : goal.returns
returns c = completing-last c.args.schedulers c.loop-before.before c.args.self.now
    c.loop-before.self c.requires.stands c.requires.all c.loop-before.invariant
    c.loop-before-test.false
