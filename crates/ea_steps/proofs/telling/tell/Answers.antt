use Rattle.std.proofs.Common.{◌≡◌, [], ◌++◌, List, ap, flat_map, subst, sym, ◌∙◌}
use Rattle.std.specs.Prelude.{All}
use Rattle.ea_model.specs.declared.carriers.CarrierLine.{CarrierLine}
use Rattle.ea_model.specs.declared.settings.Config.{Config}
use Rattle.ea_model.specs.declared.trace.Turns.{Turns}
use Rattle.ea_model.specs.Trace.{IsScheduler}
use Rattle.ea_machine.specs.Completion.{complete}
use Rattle.ea_machine.specs.Setup.{setup_of}
use Rattle.ea_machine.specs.Stops.{cut}
use Rattle.ea_report.specs.Text.{carrier_text}
use Rattle.ea_sound.proofs.Schedules.{scheduled-texts, turns-theirs, turns_from}
use Rattle.ea_steps.specs.Fronts.{front_of}
use Rattle.ea_steps.specs.Taking.{taken_steps}
use Rattle.ea_steps.proofs.ToldRuns.{counts-first, told-first, whole-text}
use Rattle.ea_steps.proofs.telling.tell.Goals as goal

pub new-requires-clause-texts : goal.new-requires-clause-texts
new-requires-clause-texts c =
    scheduled-texts c.args.config.schedulers c.args.trace.now c.requires.schedule c.requires.trace

pub take_schedule-requires-clause-counts : goal.take_schedule-requires-clause-counts
take_schedule-requires-clause-counts c = counts-first c.args.config c.args.trace.now [] _
    c.in_ok-run.ensures c.in_ok-told.told c.in_ok-told.ensures.owns

pub take_schedule-requires-clause-theirs : goal.take_schedule-requires-clause-theirs
take_schedule-requires-clause-theirs c =
    let d = c.args.config in
    let t = c.args.trace.now in
    subst (λ n. All (λ y. IsScheduler n y.scheduler) c.turns_of.result.now)
    (sym (ap (λ (x : Config). x.schedulers) c.in_ok-run.ensures.config))
    (subst (λ (xs : List Turns). All (λ y. IsScheduler d.schedulers y.scheduler) xs)
    (sym c.turns_of.ensures) (turns-theirs d t c.requires.trace))

pub complete-requires-clause-stands : goal.complete-requires-clause-stands
complete-requires-clause-stands c =
    let d = c.args.config in
    let t = c.args.trace.now in (
      d,
      t,
      turns_from c.turns_of.result.now,
      c.in_ok-take_schedule.ensures.taken d t [] c.in_ok-run.ensures,
    )

pub complete-requires-clause-all : goal.complete-requires-clause-all
complete-requires-clause-all c =
    let stands = c.in_ok-take_schedule.ensures.taken c.args.config c.args.trace.now []
    c.in_ok-run.ensures in
    sym (ap (λ (x : Config). x.schedulers) stands.config)

pub outcome-requires : goal.outcome-requires
outcome-requires c =
    let d = c.args.config in
    let t = c.args.trace.now in
    let first = told-first d t c.in_ok-told.told (c.in_ok-told.ensures.front (setup_of d t))
    c.in_ok-told.ensures.all c.in_ok-told.ensures.owns in
    let (taken, after, told, completes) = c.in_ok-complete.ensures d t
    (turns_from c.turns_of.result.now)
    (c.in_ok-take_schedule.ensures.taken d t [] c.in_ok-run.ensures)
    (c.in_ok-take_schedule.ensures.told d t [] c.in_ok-run.ensures first) in
    (d, t, taken, after)

pub returns : goal.returns
returns c =
    let d = c.args.config in
    let t = c.args.trace.now in
    let e = setup_of d t in
    let first = told-first d t c.in_ok-told.told (c.in_ok-told.ensures.front e)
    c.in_ok-told.ensures.all c.in_ok-told.ensures.owns in
    let (taken, after, told, completes) = c.in_ok-complete.ensures d t
    (turns_from c.turns_of.result.now)
    (c.in_ok-take_schedule.ensures.taken d t [] c.in_ok-run.ensures)
    (c.in_ok-take_schedule.ensures.told d t [] c.in_ok-run.ensures first) in
    whole-text d t taken
    (subst (λ (xs : List Turns). complete e (turns_from xs) ≡ cut e.stops taken) c.turns_of.ensures
    completes)
    c.in_ok-text.text.items c.put_carriers.new.text.items c.put_totals.new.text.items
    c.in_ok-outcome.outcome
    (c.in_ok-text.ensures e (front_of e (taken_steps e taken)) told.shows)
    (c.in_ok-outcome.ensures d t taken after)
    (c.in_ok-put_carriers.ensures
    ∙ ap (λ (xs : List CarrierLine). c.in_ok-text.text.items ++ flat_map carrier_text xs)
    c.as_slice.ensures) c.in_ok-put_totals.ensures
