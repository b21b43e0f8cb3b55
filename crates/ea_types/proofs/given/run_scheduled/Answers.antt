use Rattle.std.proofs.Common.{[], arith}
use Rattle.std.proofs.lemmas.Result.{IfOk-weaker}
use Rattle.ea_sound.proofs.Schedules.{turns_from}
use Rattle.ea_types.specs.Courses.{types_of}
use Rattle.ea_types.specs.Given.{parts_in}
use Rattle.ea_types.specs.Turning.{complete}
use Rattle.ea_types.proofs.Finds.{no-trace}
use Rattle.ea_types.proofs.given.run_scheduled.Goals as goal

pub take_all-requires-clause-stands : goal.take_all-requires-clause-stands
take_all-requires-clause-stands c = (
  c.args.config,
  no-trace,
  c.args.traces.now,
  parts_in c.args.parts.now,
  [],
  c.in_ok-run.ensures no-trace,
)

pub take_all-requires-clause-theirs : goal.take_all-requires-clause-theirs
take_all-requires-clause-theirs c = λ k d below.
    let theirs = c.requires.theirs k d below in
    (theirs.0, omega (arith, theirs.1, (c.in_ok-run.ensures no-trace).schedulers))

pub complete-requires : goal.complete-requires
complete-requires c =
    let parts = parts_in c.args.parts.now in (
      c.args.config,
      no-trace,
      c.args.traces.now,
      parts,
      turns_from c.args.schedule.now,
      c.in_ok-take_all.ensures c.args.config no-trace c.args.traces.now parts []
          (c.in_ok-run.ensures no-trace),
    )

pub outcomes-requires : goal.outcomes-requires
outcomes-requires c =
    let d = c.args.config in
    let traces = c.args.traces.now in
    let parts = parts_in c.args.parts.now in
    let turns = turns_from c.args.schedule.now in (
      d,
      no-trace,
      traces,
      parts,
      complete (types_of d no-trace traces parts) turns,
      c.in_ok-complete.ensures d no-trace traces parts turns
          (c.in_ok-take_all.ensures d no-trace traces parts [] (c.in_ok-run.ensures no-trace)),
    )

pub returns : goal.returns
returns c =
    let d = c.args.config in
    let traces = c.args.traces.now in
    let parts = parts_in c.args.parts.now in
    let turns = turns_from c.args.schedule.now in
    IfOk-weaker c.outcomes.result _ _ (λ outcomes printed. λ other.
    printed d other traces parts (complete (types_of d other traces parts) turns)
    (c.in_ok-complete.ensures d other traces parts turns
    (c.in_ok-take_all.ensures d other traces parts [] (c.in_ok-run.ensures other))))
    c.outcomes.ensures
