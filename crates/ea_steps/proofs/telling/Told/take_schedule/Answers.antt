use Rattle.std.proofs.Common.{List, subst, get_or, take}
use Rattle.std.proofs.lemmas.List.{take_all}
use Rattle.ea_model.specs.declared.trace.Turns.{Turns}
use Rattle.ea_sound.proofs.Schedules.{turns_from}
use Rattle.ea_given.specs.Runs.{HasTaken}
use Rattle.ea_steps.specs.Told.{TellsMore}
use Rattle.ea_steps.proofs.ToldRuns.{has-taken, run-taken, schedule-taken, schedule-told}
use Rattle.ea_steps.proofs.ToldRuns.{taken-nothing, tells-nothing}
use Rattle.ea_steps.proofs.telling.Told.take_schedule.Goals as goal

pub loop-turns-init : goal.loop-turns-init
loop-turns-init c = (
  taken-nothing c.args.run.now,
  tells-nothing c.args.run.now c.args.self.now,
  c.requires.counts,
)

pub take-requires-clause-stands : goal.take-requires-clause-stands
take-requires-clause-stands c = run-taken c.args.run.now c.loop-turns.run
    (turns_from (take c.loop-turns.turns-index c.args.schedule.now)) c.requires.stands
    c.loop-turns.invariant.0

pub take-requires-clause-scheduler : goal.take-requires-clause-scheduler
take-requires-clause-scheduler c =
    let d : Turns = record { scheduler = 0; count = 0 } in
    let i = c.loop-turns.turns-index in
    has-taken c.args.run.now c.loop-turns.run (turns_from (take i c.args.schedule.now))
    (get_or c.args.schedule.now i d).scheduler c.requires.stands c.loop-turns.invariant.0
    (c.requires.theirs i d c.loop-turns-test.true)

pub loop-turns-preserved : goal.loop-turns-preserved
loop-turns-preserved c =
    let d : Turns = record { scheduler = 0; count = 0 } in
    let i = c.loop-turns.turns-index in (
      schedule-taken c.args.run.now c.loop-turns.run c.take.new.run c.args.schedule.now i d
          c.loop-turns-test.true c.loop-turns.invariant.0 c.in_ok-take.ensures.taken,
      schedule-told c.args.run.now c.loop-turns.run c.take.new.run c.args.schedule.now i d
          c.loop-turns-test.true c.loop-turns.invariant.0 c.args.self.now c.loop-turns.self
          c.take.new.self c.loop-turns.invariant.1 c.in_ok-take.ensures.told,
      c.in_ok-take.ensures.counts,
    )

pub returns-clause-taken : goal.returns-clause-taken
returns-clause-taken c =
    subst (λ (xs : List Turns). HasTaken (turns_from xs) c.args.run.now c.loop-turns.run)
    (take_all c.loop-turns.turns-index c.args.schedule.now c.loop-turns-test.false)
    c.loop-turns.invariant.0

pub returns-clause-told : goal.returns-clause-told
returns-clause-told c =
    subst (λ (xs : List Turns). TellsMore (turns_from xs) c.args.run.now c.args.self.now
    c.loop-turns.self)
    (take_all c.loop-turns.turns-index c.args.schedule.now c.loop-turns-test.false)
    c.loop-turns.invariant.1
