use Rattle.std.proofs.Common.{◌+◌, ◌-◌, arith}
use Rattle.std.specs.Prelude.{replicate}
use Rattle.ea_contents.proofs.Played.{goes-has, goes-is, taken-count, taken-more, taken-none}
use Rattle.ea_contents.proofs.Played.{taken-rest}
use Rattle.ea_contents.proofs.playing.Play.take.Goals as goal

pub loop-left-init : goal.loop-left-init
loop-left-init c = (
  omega arith,
  taken-none c.args.self.now (c.args.count - c.args.count) c.args.me (omega arith),
)

pub rests-requires-clause-stands : goal.rests-requires-clause-stands
rests-requires-clause-stands c = goes-is c.args.self.now c.loop-left.self
    (λ setup script m. replicate (c.args.count - c.loop-left.left) c.args.me) c.requires.stands
    c.loop-left.invariant.1

pub rests-requires-clause-scheduler : goal.rests-requires-clause-scheduler
rests-requires-clause-scheduler c = goes-has c.args.self.now c.loop-left.self
    (λ setup script m. replicate (c.args.count - c.loop-left.left) c.args.me) c.requires.stands
    c.loop-left.invariant.1 c.args.me c.requires.scheduler

pub returns-then-rests : goal.returns-then-rests
returns-then-rests c = taken-rest c.args.self.now c.loop-left.self c.args.me
    (c.args.count - c.loop-left.left) c.args.count (omega arith)
    (goes-has c.args.self.now c.loop-left.self
    (λ setup script m. replicate (c.args.count - c.loop-left.left) c.args.me) c.requires.stands
    c.loop-left.invariant.1 c.args.me c.requires.scheduler) c.rests.result c.if-rests.true c.rests.ensures
    c.loop-left.invariant.1

pub turn-requires-clause-stands : goal.turn-requires-clause-stands
turn-requires-clause-stands c = goes-is c.args.self.now c.loop-left.self
    (λ setup script m. replicate (c.args.count - c.loop-left.left) c.args.me) c.requires.stands
    c.loop-left.invariant.1

pub turn-requires-clause-scheduler : goal.turn-requires-clause-scheduler
turn-requires-clause-scheduler c = goes-has c.args.self.now c.loop-left.self
    (λ setup script m. replicate (c.args.count - c.loop-left.left) c.args.me) c.requires.stands
    c.loop-left.invariant.1 c.args.me c.requires.scheduler

pub loop-left-preserved : goal.loop-left-preserved
loop-left-preserved c =
    let before = c.args.count - c.loop-left.left in (
      omega (arith, c.loop-left.invariant.0),
      taken-count c.args.self.now c.turn.new.self c.args.me (before + 1)
          (c.args.count - (c.loop-left.left - 1))
          (omega (arith, c.loop-left.invariant.0, c.loop-left-test.true))
          (taken-more c.args.self.now c.loop-left.self c.turn.new.self c.args.me before
          c.loop-left.invariant.1 c.in_ok-turn.ensures),
    )

pub returns : goal.returns
returns c = taken-count c.args.self.now c.loop-left.self c.args.me
    (c.args.count - c.loop-left.left) c.args.count (omega (arith, c.loop-left-test.false))
    c.loop-left.invariant.1
