use Rattle.std.proofs.Common.{[], List, sym, ap, subst}
use Rattle.std.specs.Prelude.{All}
use Rattle.ea_model.specs.declared.settings.Config.{Config}
use Rattle.ea_model.specs.declared.trace.Turns.{Turns}
use Rattle.ea_model.specs.Trace.{IsScheduler}
use Rattle.ea_machine.specs.Completion.{complete}
use Rattle.ea_machine.specs.Setup.{setup_of}
use Rattle.ea_sound.proofs.Schedules.{turns-theirs, turns_from}
use Rattle.ea_given.specs.Runs.{StandsAfter}
use Rattle.ea_given.proofs.run.run_to_end.Goals as goal

pub take-requires-clause-theirs : goal.take-requires-clause-theirs
take-requires-clause-theirs c =
    let d = c.args.config in
    let t = c.args.trace.now in
    subst (λ n. All (λ y. IsScheduler n y.scheduler) c.turns_of.result.now)
    (sym (ap (λ (x : Config). x.schedulers) c.in_ok-run.ensures.config))
    (subst (λ (xs : List Turns). All (λ y. IsScheduler d.schedulers y.scheduler) xs)
    (sym c.turns_of.ensures) (turns-theirs d t c.requires.trace))

pub complete-requires : goal.complete-requires
complete-requires c =
    let d = c.args.config in
    let t = c.args.trace.now in
    (d, t, turns_from c.turns_of.result.now, c.in_ok-take.ensures d t [] c.in_ok-run.ensures)

pub returns : goal.returns
returns c =
    let d = c.args.config in
    let t = c.args.trace.now in
    subst (λ ts. StandsAfter d t (complete (setup_of d t) (turns_from ts)) c.complete.new.self)
    c.turns_of.ensures (c.in_ok-complete.ensures d t (turns_from c.turns_of.result.now)
    (c.in_ok-take.ensures d t [] c.in_ok-run.ensures))
