use Rattle.std.proofs.Common.{◌≡◌, [], length, subst, ap, ◌∙◌, arith}
use Rattle.std.proofs.lemmas.List.{get_or_default}
use Rattle.ea_given.specs.Runs as one
use Rattle.ea_types.proofs.Finds.{starts-more}
use Rattle.ea_types.proofs.given.runs_of.Goals as goal

pub loop-trace-init : goal.loop-trace-init
loop-trace-init c = (
  ap length c.new-runs.ensures.items,
  λ x t r below. absurd (omega (arith, below)),
)

pub loop-trace-preserved : goal.loop-trace-preserved
loop-trace-preserved c =
    let ts = c.args.traces.now in
    let i = c.loop-trace.trace-index in
    starts-more c.args.config ts c.loop-trace.runs.items c.push.new.self.items i
    c.in_ok-new.field-0 c.loop-trace.invariant.0 c.loop-trace.invariant.1
    (λ t. subst (λ x. one.StandsAfter c.args.config x [] c.in_ok-new.field-0)
    (c.trace-item.is ∙ get_or_default ts i c.trace-item.result t c.loop-trace-test.true)
    c.in_ok-new.ensures) c.in_ok-push.ensures.items

pub returns : goal.returns
returns c =
    let same : c.loop-trace.trace-index ≡ length c.args.traces.now =
    omega (arith, c.loop-trace-test.false, c.loop-trace.auto.trace-index-end) in (
      c.loop-trace.invariant.0 ∙ same,
      λ x t r below. c.loop-trace.invariant.1 x t r
          (omega (arith, below, same)),
    )
