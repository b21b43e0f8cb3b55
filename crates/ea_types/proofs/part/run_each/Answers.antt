use Rattle.std.proofs.Common.{◌≡◌, Some, length, map, sym, ap, subst, ◌∙◌}
use Rattle.std.specs.Prelude.{slice_get}
use Rattle.std.specs.Option.{option_copied}
use Rattle.std.specs.List.{AllZip}
use Rattle.std.proofs.lemmas.List.{length-map}
use Rattle.std.proofs.lemmas.Result.{IfOk-weaker}
use Rattle.ea_model.specs.declared.trace.Trace.{Trace}
use Rattle.ea_model.specs.Outcome.{plain_outcome}
use Rattle.ea_table.specs.Threads.{IsOfRun}
use Rattle.ea_types.specs.Given.{parts_in}
use Rattle.ea_types.specs.Input.{AreGiven}
use Rattle.ea_types.specs.Output.{AreOutcomes, asked_in}
use Rattle.ea_types.proofs.Outcomes.{PrintedBy, all-parts, first-given, scheduled-all}
use Rattle.ea_types.proofs.Outcomes.{threaded-all}
use Rattle.ea_types.proofs.part.run_each.Goals as goal

pub run_scheduled-requires-clause-all : goal.run_scheduled-requires-clause-all
run_scheduled-requires-clause-all g c =
    let i = c.args.input.now in
    let found = sym c.first.ensures.value ∙ ap option_copied c.in-Some.is in
    ap length c.as_slice-parts.ensures ∙ sym (length-map i.parts.items (λ part. part.items))
    ∙ all-parts c.args.config.schedulers i.traces.items c.in-Some.first.now
    (map (λ part. part.items) i.parts.items)
    (subst (λ ts. slice_get ts 0 ≡ Some c.in-Some.first.now) c.as_slice-traces.ensures found)
    c.requires.texts c.requires.counts

pub run_typed_threads-requires-clause-given : goal.run_typed_threads-requires-clause-given
run_typed_threads-requires-clause-given g c κs within =
    subst AreGiven (sym c.as_slice-traces.ensures) c.requires.not_generated

pub unreachable-requires : goal.unreachable-requires
unreachable-requires g c =
    let i = c.args.input.now in
    let found = sym c.first.ensures.value ∙ ap option_copied c.in-Some.is in
    first-given i.traces.items c.in-Some.first.now
    (subst (λ ts. slice_get ts 0 ≡ Some c.in-Some.first.now) c.as_slice-traces.ensures found)
    c.requires.not_generated c.in-Generated.seed c.in-Generated.count c.in-Generated.is

pub returns-in-Threads : goal.returns-in-Threads
returns-in-Threads g c =
    let i = c.args.input.now in
    let ts = c.as_slice-traces.result.now in
    let found = sym c.first.ensures.value ∙ ap option_copied c.in-Some.is in
    IfOk-weaker c.run_typed_threads.result (λ os. AllZip (IsOfRun c.args.config) ts os.items)
    (λ os. AreOutcomes c.args.config (asked_in i) (map plain_outcome os.items))
    (λ os ran. threaded-all c.args.config i c.in-Some.first.now os.items ts
    c.as_slice-traces.ensures found c.requires.modes c.in-Threads.is ran)
    c.run_typed_threads.ensures

pub returns-in-Schedule : goal.returns-in-Schedule
returns-in-Schedule g c =
    let i = c.args.input.now in
    let ts = c.as_slice-traces.result.now in
    let parts = c.as_slice-parts.result.now in
    let schedule = c.as_slice.result.now in
    let found = sym c.first.ensures.value ∙ ap option_copied c.in-Some.is in
    IfOk-weaker c.run_scheduled.result
    (λ os. PrintedBy c.args.config os.items ts (parts_in parts) schedule)
    (λ os. AreOutcomes c.args.config (asked_in i) (map plain_outcome os.items))
    (λ os printed. scheduled-all c.args.config i c.in-Some.first.now c.in-Schedule.turns os.items
    ts parts schedule c.as_slice-traces.ensures c.as_slice-parts.ensures c.as_slice.ensures found
    c.requires.modes c.in-Schedule.is printed) c.run_scheduled.ensures
