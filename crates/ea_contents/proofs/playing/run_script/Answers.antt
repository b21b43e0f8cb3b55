use Rattle.std.proofs.Common.{List, subst, sym, ap, ◌∙◌}
use Rattle.std.specs.Prelude.{All, map}
use Rattle.std.proofs.lemmas.Result.{IfOk-weaker}
use Rattle.ea_model.specs.declared.trace.Turns.{Turns}
use Rattle.ea_model.specs.Lists.{Items}
use Rattle.ea_model.specs.Outcome.{plain_outcome}
use Rattle.ea_model.specs.Trace.{IsScheduler}
use Rattle.ea_machine.specs.Setup.{setup_of}
use Rattle.ea_sound.proofs.Schedules.{turns-theirs, turns_from}
use Rattle.ea_contents.specs.declared.access.AccessEntry.{AccessEntry}
use Rattle.ea_contents.specs.Model.{completing, opening}
use Rattle.ea_contents.specs.Playing.{outcome_played, shown_played}
use Rattle.ea_contents.specs.Script.{script_of, sections_of}
use Rattle.ea_contents.proofs.Plays.{is-has}
use Rattle.ea_contents.proofs.Played.{all-outcome, all-shown, goes-is, same-many}
use Rattle.ea_contents.proofs.playing.run_script.Goals as goal

pub take_all-requires-clause-stands : goal.take_all-requires-clause-stands
take_all-requires-clause-stands c =
    let d = c.args.config in
    let t = c.args.input.now.trace in
    (d, t, sections_of c.args.input.now, opening (setup_of d t), c.in_ok-play.ensures)

pub take_all-requires-clause-theirs : goal.take_all-requires-clause-theirs
take_all-requires-clause-theirs c = λ k x below.
    let d = c.args.config in
    let t = c.args.input.now.trace in
    let theirs = subst (λ (xs : List Turns). All (λ y. IsScheduler d.schedulers y.scheduler) xs)
    (sym c.turns_of.ensures) (turns-theirs d t c.requires.trace) in
    is-has d t (sections_of c.args.input.now) (opening (setup_of d t)) c.in_ok-play.play
    c.in_ok-play.ensures _ (theirs k x below)

pub complete-requires-clause-stands : goal.complete-requires-clause-stands
complete-requires-clause-stands c =
    let d = c.args.config in
    let t = c.args.input.now.trace in
    goes-is c.in_ok-play.play c.take_all.new.self
    (λ setup script m. turns_from c.turns_of.result.now)
    (d, t, sections_of c.args.input.now, opening (setup_of d t), c.in_ok-play.ensures)
    c.in_ok-take_all.ensures

pub complete-requires-clause-all : goal.complete-requires-clause-all
complete-requires-clause-all c =
    let d = c.args.config in
    let t = c.args.input.now.trace in
    same-many d c.take_all.new.self t (sections_of c.args.input.now) _
    (c.in_ok-take_all.ensures d t (sections_of c.args.input.now) (opening (setup_of d t))
    c.in_ok-play.ensures)

pub outcome-requires : goal.outcome-requires
outcome-requires c =
    let d = c.args.config in
    let t = c.args.input.now.trace in
    goes-is c.take_all.new.self c.complete.new.self
    (λ setup script m. completing setup script setup.schedulers 1 m)
    (goes-is c.in_ok-play.play c.take_all.new.self
    (λ setup script m. turns_from c.turns_of.result.now)
    (d, t, sections_of c.args.input.now, opening (setup_of d t), c.in_ok-play.ensures)
    c.in_ok-take_all.ensures) c.in_ok-complete.ensures

pub returns-clause-outcome : goal.returns-clause-outcome
returns-clause-outcome c =
    let d = c.args.config in
    let t = c.args.input.now.trace in
    let ss = sections_of c.args.input.now in
    IfOk-weaker c.outcome.result _ _ (λ r told. all-outcome d t ss c.in_ok-play.play
    c.take_all.new.self c.complete.new.self c.turns_of.result.now c.in_ok-play.ensures
    c.in_ok-take_all.ensures c.in_ok-complete.ensures (plain_outcome r.outcome) told
    ∙ ap (λ (xs : List Turns). outcome_played (setup_of d t) (script_of ss) (turns_from xs))
    c.turns_of.ensures) c.outcome.ensures.steps

pub returns-clause-shown : goal.returns-clause-shown
returns-clause-shown c =
    let d = c.args.config in
    let t = c.args.input.now.trace in
    let ss = sections_of c.args.input.now in
    IfOk-weaker c.outcome.result _ _ (λ r told. all-shown d t ss c.in_ok-play.play
    c.take_all.new.self c.complete.new.self c.turns_of.result.now c.in_ok-play.ensures
    c.in_ok-take_all.ensures c.in_ok-complete.ensures
    (map (λ (s : Items AccessEntry). s.items) r.shown.items) told
    ∙ ap (λ (xs : List Turns). shown_played (setup_of d t) (script_of ss) (turns_from xs))
    c.turns_of.ensures) c.outcome.ensures.shown
