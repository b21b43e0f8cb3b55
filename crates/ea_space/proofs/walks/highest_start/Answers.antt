use Rattle.std.proofs.Common.{◌≡◌, sym, ap, ◌∙◌, subst, arith}
use Rattle.ea_model.specs.Region.{highest_end, runs, Laid}
use Rattle.ea_space.proofs.Highest.{highest-here, highest-left, highest-past, Laid-last}
use Rattle.ea_space.proofs.Highest.{none_left, stretch-holds, stretch-not}
use Rattle.ea_space.proofs.walks.highest_start.Goals as goal

pub loop-segment-init : goal.loop-segment-init
loop-segment-init c =
    let all : c.into_iter-segment-iterator.result.iter.rest.now ≡ c.args.taken.now =
    ap (λ r. r.iter.rest.now) c.into_iter-segment-iterator.ensures.into_iter_gives
    ∙ ap (λ i. i.rest.now) c.rev-segment-items.ensures.source ∙ c.iter.ensures.rest in
    record {
      laid = subst (Laid c.args.first c.args.end) (sym all) c.requires;
      before = omega arith;
      rest = ap (λ ss. highest_end c.args.pages (runs c.args.first c.args.end ss)) all;
    }

pub overflow_add-from : goal.overflow_add-from
overflow_add-from c =
    let t = Laid-last c.args.first c.loop-segment.upto c.loop-segment.segment-iterator.iter.rest.now
    c.next.new.self.iter.rest.now c.in-Some.segment.now c.in-Some.ensures.steps
    c.loop-segment.invariant.laid in
    omega (arith, t.1, c.loop-segment.invariant.before, c.ranges.end)

pub holds-requires : goal.holds-requires
holds-requires c = (Laid-last c.args.first c.loop-segment.upto c.loop-segment.segment-iterator.iter.rest.now
    c.next.new.self.iter.rest.now c.in-Some.segment.now c.in-Some.ensures.steps
    c.loop-segment.invariant.laid).1

pub returns-then-holds : goal.returns-then-holds
returns-then-holds c =
    sym (highest-here c.args.pages c.args.first c.loop-segment.upto c.next.new.self.iter.rest.now
    c.in-Some.segment.now (sym c.holds.ensures ∙ c.if-holds.true))
    ∙ ap (λ ss. highest_end c.args.pages (runs c.args.first c.loop-segment.upto ss))
    (sym c.in-Some.ensures.steps)
    ∙ c.loop-segment.invariant.rest

pub loop-segment-preserved : goal.loop-segment-preserved
loop-segment-preserved c =
    let t = Laid-last c.args.first c.loop-segment.upto c.loop-segment.segment-iterator.iter.rest.now
    c.next.new.self.iter.rest.now c.in-Some.segment.now c.in-Some.ensures.steps
    c.loop-segment.invariant.laid in record {
      laid = t.0;
      before = omega (arith, t.1, c.loop-segment.invariant.before);
      rest = sym (highest-past c.args.pages c.args.first c.loop-segment.upto
          c.next.new.self.iter.rest.now c.in-Some.segment.now (sym c.holds.ensures ∙ c.if-holds.false))
          ∙ ap (λ ss. highest_end c.args.pages (runs c.args.first c.loop-segment.upto ss))
          (sym c.in-Some.ensures.steps)
          ∙ c.loop-segment.invariant.rest;
    }

pub holds-requires-2 : goal.holds-requires-2
holds-requires-2 c =
    subst (Laid c.args.first c.loop-segment.upto)
    (none_left c.loop-segment.segment-iterator.iter.rest.now c.in-None.ensures.steps.0)
    c.loop-segment.invariant.laid

pub returns-then-holds-2 : goal.returns-then-holds-2
returns-then-holds-2 c =
    sym (stretch-holds c.args.pages c.args.first c.loop-segment.upto
    (sym c.holds-2.ensures ∙ c.if-holds-2.true))
    ∙ highest-left c.args.pages c.args.first c.loop-segment.upto
    c.loop-segment.segment-iterator.iter.rest.now _ c.in-None.ensures.steps.0
    c.loop-segment.invariant.rest

pub returns-else-holds-2 : goal.returns-else-holds-2
returns-else-holds-2 c =
    sym (stretch-not c.args.pages c.args.first c.loop-segment.upto
    (sym c.holds-2.ensures ∙ c.if-holds-2.false))
    ∙ highest-left c.args.pages c.args.first c.loop-segment.upto
    c.loop-segment.segment-iterator.iter.rest.now _ c.in-None.ensures.steps.0
    c.loop-segment.invariant.rest
