use Rattle.std.proofs.Common.{◌-◌, List, subst, arith, get_or, take}
use Rattle.std.proofs.lemmas.List.{take_all}
use Rattle.ea_model.specs.declared.trace.Turns.{Turns}
use Rattle.ea_sound.proofs.Schedules.{turns_from}
use Rattle.ea_given.specs.Running.{AllTook}
use Rattle.ea_given.proofs.Ends.{all-stand-one, all-took-stand, none-taken, schedule-more}
use Rattle.ea_given.proofs.run.run_schedule.Goals as goal

pub loop-turns-init : goal.loop-turns-init
loop-turns-init c = none-taken c.args.schedulers.now c.args.shared.now

pub take_turns-requires : goal.take_turns-requires
take_turns-requires c =
    let ss = c.args.schedulers.now in
    let us = c.loop-turns.schedulers in
    let m = c.args.shared.now in
    let n = c.loop-turns.shared in
    let i = c.loop-turns.turns-index in
    let d : Turns = record { scheduler = 0; count = 0 } in
    let x = get_or c.args.schedule.now i d in
    let is = c.requires.theirs i d c.loop-turns-test.true in
    all-stand-one ss us m n (x.scheduler - 1) c.index-schedulers-index.result
    (omega (arith, is.0, is.1, c.loop-turns.auto.schedulers))
    (all-took-stand ss us m n (turns_from (take i c.args.schedule.now)) c.requires.stand
    c.loop-turns.invariant)

pub loop-turns-preserved : goal.loop-turns-preserved
loop-turns-preserved c =
    let i = c.loop-turns.turns-index in
    let d : Turns = record { scheduler = 0; count = 0 } in
    let is = c.requires.theirs i d c.loop-turns-test.true in
    schedule-more c.args.schedulers.now c.loop-turns.schedulers c.args.shared.now
    c.loop-turns.shared c.args.schedule.now i d c.loop-turns-test.true is.0
    (omega (arith, is.1, c.loop-turns.auto.schedulers)) c.index-schedulers-index.result
    c.take_turns.new.scheduler c.take_turns.new.shared c.loop-turns.invariant
    c.in_ok-take_turns.ensures

pub returns : goal.returns
returns c =
    subst (λ (xs : List Turns). AllTook (turns_from xs) c.args.schedulers.now
    c.args.shared.now c.loop-turns.schedulers c.loop-turns.shared)
    (take_all c.loop-turns.turns-index c.args.schedule.now c.loop-turns-test.false)
    c.loop-turns.invariant
