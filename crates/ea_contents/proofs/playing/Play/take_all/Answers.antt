use Rattle.std.proofs.Common.{take}
use Rattle.ea_sound.proofs.Schedules.{turns_from}
use Rattle.ea_contents.proofs.Played.{goes-has, goes-is, schedule-all, schedule-more}
use Rattle.ea_contents.proofs.playing.Play.take_all.Goals as goal

pub loop-turns-init : goal.loop-turns-init
loop-turns-init c = λ d t ss m at. at

pub take-requires-clause-stands : goal.take-requires-clause-stands
take-requires-clause-stands c = goes-is c.args.self.now c.loop-turns.self
    (λ setup script m. turns_from (take c.loop-turns.turns-index c.args.schedule.now))
    c.requires.stands c.loop-turns.invariant

pub take-requires-clause-scheduler : goal.take-requires-clause-scheduler
take-requires-clause-scheduler c = goes-has c.args.self.now c.loop-turns.self
    (λ setup script m. turns_from (take c.loop-turns.turns-index c.args.schedule.now))
    c.requires.stands c.loop-turns.invariant _ (c.requires.theirs c.loop-turns.turns-index
    (record { scheduler = 0; count = 0 }) c.loop-turns-test.true)

pub loop-turns-preserved : goal.loop-turns-preserved
loop-turns-preserved c = schedule-more c.args.self.now c.loop-turns.self c.take.new.self
    c.args.schedule.now c.loop-turns.turns-index (record { scheduler = 0; count = 0 })
    c.loop-turns-test.true c.loop-turns.invariant c.in_ok-take.ensures

pub returns : goal.returns
returns c = schedule-all c.args.self.now c.loop-turns.self c.args.schedule.now
    c.loop-turns.turns-index c.loop-turns-test.false c.loop-turns.invariant
