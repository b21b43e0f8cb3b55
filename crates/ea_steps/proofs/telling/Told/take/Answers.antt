use Rattle.std.proofs.Common.{◌≡◌, ◌+◌, ◌-◌, sym, refl, ◌∙◌, arith}
use Rattle.std.specs.Prelude.{replicate}
use Rattle.std.proofs.lemmas.Result.{on_ok_weaker}
use Rattle.ea_steps.proofs.ToldRuns.{counts-taken, has-taken, run-taken, taken-more, taken-none}
use Rattle.ea_steps.proofs.ToldRuns.{takes-step, tells-more, tells-none, tells-rest}
use Rattle.ea_steps.proofs.telling.Told.take.Goals as goal

pub loop-left-init : goal.loop-left-init
loop-left-init c = (
  omega arith,
  taken-none c.args.run.now c.args.me (c.args.turns - c.args.turns) (omega arith),
  tells-none c.args.run.now c.args.self.now c.args.me (c.args.turns - c.args.turns) (omega arith),
  c.requires.counts,
)

pub at-requires-clause-stands : goal.at-requires-clause-stands
at-requires-clause-stands c = run-taken c.args.run.now c.loop-left.run
    (replicate (c.args.turns - c.loop-left.left) c.args.me) c.requires.stands
    c.loop-left.invariant.1

pub at-requires-clause-scheduler : goal.at-requires-clause-scheduler
at-requires-clause-scheduler c = has-taken c.args.run.now c.loop-left.run
    (replicate (c.args.turns - c.loop-left.left) c.args.me) c.args.me c.requires.stands
    c.loop-left.invariant.1 c.requires.scheduler

pub take_turns-requires-clause-stands : goal.take_turns-requires-clause-stands
take_turns-requires-clause-stands c = run-taken c.args.run.now c.loop-left.run
    (replicate (c.args.turns - c.loop-left.left) c.args.me) c.requires.stands
    c.loop-left.invariant.1

pub take_turns-requires-clause-scheduler : goal.take_turns-requires-clause-scheduler
take_turns-requires-clause-scheduler c = has-taken c.args.run.now c.loop-left.run
    (replicate (c.args.turns - c.loop-left.left) c.args.me) c.args.me c.requires.stands
    c.loop-left.invariant.1 c.requires.scheduler

pub returns-then-rests-clause-taken : goal.returns-then-rests-clause-taken
returns-then-rests-clause-taken c = on_ok_weaker c.take_turns.result
    (taken-more c.args.run.now c.loop-left.run c.take_turns.new.self c.args.me
    (c.args.turns - c.loop-left.left) c.loop-left.left c.args.turns
    (omega (arith, c.loop-left.invariant.0)) c.loop-left.invariant.1) c.take_turns.ensures

pub returns-then-rests-clause-told : goal.returns-then-rests-clause-told
returns-then-rests-clause-told c = on_ok_weaker c.take_turns.result
    (λ took. tells-more c.args.run.now c.loop-left.run c.take_turns.new.self c.args.me
    (c.args.turns - c.loop-left.left) c.loop-left.left c.args.turns
    (omega (arith, c.loop-left.invariant.0)) c.loop-left.invariant.1 c.args.self.now
    c.loop-left.self c.loop-left.self c.loop-left.invariant.2
    (tells-rest c.loop-left.run c.args.me c.at.result.now c.at.ensures
    (sym c.rests.ensures ∙ c.if-rests.true) c.loop-left.left c.loop-left.self))
    c.take_turns.ensures

pub returns-then-rests-clause-counts : goal.returns-then-rests-clause-counts
returns-then-rests-clause-counts c = on_ok_weaker c.take_turns.result
    (λ took. counts-taken c.loop-left.run c.take_turns.new.self
    (replicate c.loop-left.left c.args.me) (run-taken c.args.run.now c.loop-left.run
    (replicate (c.args.turns - c.loop-left.left) c.args.me) c.requires.stands
    c.loop-left.invariant.1) took c.loop-left.self c.loop-left.invariant.3) c.take_turns.ensures

pub take_some-requires-clause-stands : goal.take_some-requires-clause-stands
take_some-requires-clause-stands c = run-taken c.args.run.now c.loop-left.run
    (replicate (c.args.turns - c.loop-left.left) c.args.me) c.requires.stands
    c.loop-left.invariant.1

pub take_some-requires-clause-scheduler : goal.take_some-requires-clause-scheduler
take_some-requires-clause-scheduler c = has-taken c.args.run.now c.loop-left.run
    (replicate (c.args.turns - c.loop-left.left) c.args.me) c.args.me c.requires.stands
    c.loop-left.invariant.1 c.requires.scheduler

pub take_some-requires-clause-takes : goal.take_some-requires-clause-takes
take_some-requires-clause-takes c = takes-step c.loop-left.run c.args.me c.at.result.now
    c.at.ensures (sym c.rests.ensures ∙ c.if-rests.false)

pub loop-left-preserved : goal.loop-left-preserved
loop-left-preserved c =
    let n = c.in_ok-left.field-0 in
    let sum : (c.args.turns - c.loop-left.left) + n ≡ c.args.turns - (c.loop-left.left - n) =
    omega (arith, c.loop-left.invariant.0, c.in_ok-left.ensures.few) in (
      omega (arith, c.loop-left.invariant.0),
      taken-more c.args.run.now c.loop-left.run c.take_some.new.run c.args.me
          (c.args.turns - c.loop-left.left) n (c.args.turns - (c.loop-left.left - n)) sum
          c.loop-left.invariant.1 c.in_ok-left.ensures.taken,
      tells-more c.args.run.now c.loop-left.run c.take_some.new.run c.args.me
          (c.args.turns - c.loop-left.left) n (c.args.turns - (c.loop-left.left - n)) sum
          c.loop-left.invariant.1 c.args.self.now c.loop-left.self c.take_some.new.self
          c.loop-left.invariant.2 c.in_ok-left.ensures.told,
      c.in_ok-left.ensures.counts,
    )

pub returns-clause-taken : goal.returns-clause-taken
returns-clause-taken c = taken-more c.args.run.now c.loop-left.run c.loop-left.run c.args.me
    (c.args.turns - c.loop-left.left) 0 c.args.turns
    (omega (arith, c.loop-left.invariant.0, c.loop-left-test.false)) c.loop-left.invariant.1
    (taken-none c.loop-left.run c.args.me 0 refl)

pub returns-clause-told : goal.returns-clause-told
returns-clause-told c = tells-more c.args.run.now c.loop-left.run c.loop-left.run c.args.me
    (c.args.turns - c.loop-left.left) 0 c.args.turns
    (omega (arith, c.loop-left.invariant.0, c.loop-left-test.false)) c.loop-left.invariant.1
    c.args.self.now c.loop-left.self c.loop-left.self c.loop-left.invariant.2
    (tells-none c.loop-left.run c.loop-left.self c.args.me 0 refl)
