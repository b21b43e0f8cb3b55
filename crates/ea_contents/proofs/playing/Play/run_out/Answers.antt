use Rattle.ea_contents.proofs.Played.{ended-told, ending-first, ending-has, ending-is, ending-last}
use Rattle.ea_contents.proofs.Played.{ending-less, ending-next, session-is}
use Rattle.ea_contents.proofs.playing.Play.run_out.Goals as goal

pub loop-alloc-init : goal.loop-alloc-init
loop-alloc-init c = ending-first c.args.me c.args.self.now

pub ended-requires-clause-stands : goal.ended-requires-clause-stands
ended-requires-clause-stands c = session-is c.loop-alloc.self (ending-is c.args.me c.args.self.now
    c.loop-alloc.self c.requires.stands c.requires.scheduler c.loop-alloc.invariant)

pub ended-requires-clause-scheduler : goal.ended-requires-clause-scheduler
ended-requires-clause-scheduler c = ending-has c.args.me c.args.self.now c.loop-alloc.self
    c.requires.stands c.requires.scheduler c.loop-alloc.invariant

pub turn-requires-clause-stands : goal.turn-requires-clause-stands
turn-requires-clause-stands c = ending-is c.args.me c.args.self.now c.loop-alloc.self
    c.requires.stands c.requires.scheduler c.loop-alloc.invariant

pub turn-requires-clause-scheduler : goal.turn-requires-clause-scheduler
turn-requires-clause-scheduler c = ending-has c.args.me c.args.self.now c.loop-alloc.self
    c.requires.stands c.requires.scheduler c.loop-alloc.invariant

pub loop-alloc-smaller : goal.loop-alloc-smaller
loop-alloc-smaller c = ending-less c.args.me c.args.self.now c.loop-alloc.self c.requires.stands
    c.requires.scheduler c.loop-alloc.invariant c.ended.result
    (ended-told c.loop-alloc.self c.args.me c.ended.result c.ended.ensures) c.turn.new.self
    c.loop-alloc-test.true c.in_ok-turn.ensures

pub loop-alloc-preserved : goal.loop-alloc-preserved
loop-alloc-preserved c = ending-next c.args.me c.args.self.now c.loop-alloc.self
    c.requires.stands c.requires.scheduler c.loop-alloc.invariant c.ended.result
    (ended-told c.loop-alloc.self c.args.me c.ended.result c.ended.ensures) c.turn.new.self
    c.loop-alloc-test.true c.in_ok-turn.ensures

pub returns : goal.returns
returns c = ending-last c.args.me c.args.self.now c.loop-alloc.self c.requires.stands
    c.requires.scheduler c.loop-alloc.invariant c.ended.result
    (ended-told c.loop-alloc.self c.args.me c.ended.result c.ended.ensures)
    c.loop-alloc-test.false
