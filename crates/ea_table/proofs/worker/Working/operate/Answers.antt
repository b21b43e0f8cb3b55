use Rattle.std.proofs.Common.{◌≡◌, length, sym, ap, ◌∙◌, arith}
use Rattle.ea_model.specs.Entries.{Entry}
use Rattle.ea_model.specs.Lists.{Items}
use Rattle.ea_table.specs.Working.{entries}
use Rattle.ea_table.proofs.worker.Working.operate.Goals as goal

pub step-requires : goal.step-requires
step-requires g c =
    let (z, t, id, i, at) = c.requires.works in
    record { works = (z, t, id, i, c.loop-alloc.invariant.works z t id i at) }

pub returns-in_err-step-clause-works : goal.returns-in_err-step-clause-works
returns-in_err-step-clause-works g c = λ z t id i at.
    c.step.ensures.works z t id i (c.loop-alloc.invariant.works z t id i at)

pub returns-then-not-branch-clause-works : goal.returns-then-not-branch-clause-works
returns-then-not-branch-clause-works g c = λ z t id i at.
    c.step.ensures.works z t id i (c.loop-alloc.invariant.works z t id i at)

pub loop-alloc-preserved : goal.loop-alloc-preserved
loop-alloc-preserved g c =
    let i = c.loop-alloc.invariant in
    let e = c.in_ok-step.ensures.entry c.if-not-branch.false in
    let here : entries c.loop-alloc.self ≡ entries c.args.self.now =
    ap (λ (l : Items Entry). length l.items) (sym c.log-in-loop-alloc.ensures)
    ∙ sym c.len.ensures ∙ c.loop-alloc-test.true ∙ i.before in
    record {
      works = λ z t id j at. c.step.ensures.works z t id j (i.works z t id j at);
      before = i.before;
      from = omega (arith, e.0, i.from);
      to = omega (arith, e.1, here);
      goes = λ more. c.in_ok-step.ensures.goes;
    }
