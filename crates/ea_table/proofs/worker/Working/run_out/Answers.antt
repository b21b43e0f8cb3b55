use Rattle.std.proofs.Common.{◌∙◌}
use Rattle.ea_table.proofs.worker.Working.run_out.Goals as goal

pub step-requires : goal.step-requires
step-requires g c =
    let (z, t, id, i, at) = c.requires.works in
    record { works = (z, t, id, i, c.loop.invariant.works z t id i at) }

pub returns-in_err-step-clause-works : goal.returns-in_err-step-clause-works
returns-in_err-step-clause-works g c = λ z t id i at.
    c.step.ensures.works z t id i (c.loop.invariant.works z t id i at)

pub returns-clause-works : goal.returns-clause-works
returns-clause-works g c = λ z t id i at.
    c.step.ensures.works z t id i (c.loop.invariant.works z t id i at)

pub loop-preserved : goal.loop-preserved
loop-preserved g c = record {
  works = λ z t id i at. c.step.ensures.works z t id i (c.loop.invariant.works z t id i at);
  trace = c.step.ensures.trace ∙ c.loop.invariant.trace;
}
