use Rattle.std.proofs.Common.{List, subst, take}
use Rattle.std.proofs.lemmas.List.{take_all}
use Rattle.ea_model.specs.declared.trace.Turns.{Turns}
use Rattle.ea_sound.proofs.Schedules.{turns_from}
use Rattle.ea_types.specs.Given.{HasTaken}
use Rattle.ea_types.proofs.Completions.{schedule-more, taken-has, taken-none, taken-run}
use Rattle.ea_types.proofs.given.TypedRun.take_all.Goals as goal

pub loop-turns-init : goal.loop-turns-init
loop-turns-init c = taken-none c.args.self.now

pub take-requires-clause-stands : goal.take-requires-clause-stands
take-requires-clause-stands c = taken-run c.args.self.now c.loop-turns.self
    (turns_from (take c.loop-turns.turns-index c.args.schedule.now)) c.requires.stands
    c.loop-turns.invariant

pub take-requires-clause-scheduler : goal.take-requires-clause-scheduler
take-requires-clause-scheduler c = taken-has c.args.self.now c.loop-turns.self
    (turns_from (take c.loop-turns.turns-index c.args.schedule.now)) _ c.requires.stands
    c.loop-turns.invariant (c.requires.theirs c.loop-turns.turns-index
    (record { scheduler = 0; count = 0 }) c.loop-turns-test.true)

pub loop-turns-preserved : goal.loop-turns-preserved
loop-turns-preserved c = schedule-more c.args.self.now c.loop-turns.self c.take.new.self
    c.args.schedule.now c.loop-turns.turns-index (record { scheduler = 0; count = 0 })
    c.loop-turns-test.true c.loop-turns.invariant c.in_ok-take.ensures

pub returns : goal.returns
returns c =
    subst (λ (xs : List Turns). HasTaken (turns_from xs) c.args.self.now c.loop-turns.self)
    (take_all c.loop-turns.turns-index c.args.schedule.now c.loop-turns-test.false)
    c.loop-turns.invariant
