use Rattle.std.proofs.Common.{sym, ap, ◌∙◌, refl, subst, ◌↔◌, arith}
use Rattle.std.specs.Prelude.{IsTrue, IsSome, not}
use Rattle.ea_model.specs.Content.{block_at}
use Rattle.ea_mbc.specs.Layout.{Layout}
use Rattle.ea_mbc.proofs.Walking.{walk-start, walk-step, find-step, find-here, find-end}
use Rattle.ea_mbc.proofs.Walking.{none-iff}
use Rattle.ea_mbc.proofs.units.CarrierUnits.has_header.Goals as goal

pub loop-at-init : goal.loop-at-init
loop-at-init c = walk-start _ _ _ _ _ c.self.invariant.coded.0 refl

pub returns-then-at-offset : goal.returns-then-at-offset
returns-then-at-offset c =
    subst (λ (l : Layout). IsTrue (not c.header-header.result.this_free)
    ↔ IsSome (block_at l.blocks c.args.offset)) c.self.view_is
    (find-here _ _ _ _ c.args.offset _ c.header-header.result c.loop-at.invariant
    c.loop-at-test.true c.header-header.ensures.word c.if-at-offset.true)

pub overflow_add-at : goal.overflow_add-at
overflow_add-at c =
    let s = walk-step _ _ _ _ _ c.header-header.result c.loop-at.invariant c.loop-at-test.true
    c.header-header.ensures.word in
    omega (arith, s.within, c.self.invariant.coded.1)

pub loop-at-smaller : goal.loop-at-smaller
loop-at-smaller c =
    let s = walk-step _ _ _ _ _ c.header-header.result c.loop-at.invariant c.loop-at-test.true
    c.header-header.ensures.word in
    omega (arith, s.within, s.least, c.loop-at-test.true)

pub loop-at-preserved : goal.loop-at-preserved
loop-at-preserved c =
    find-step _ _ _ _ c.args.offset _ c.header-header.result c.loop-at.invariant
    c.loop-at-test.true c.header-header.ensures.word c.if-at-offset.false

pub returns : goal.returns
returns c =
    none-iff _ (sym (ap (λ (l : Layout). block_at l.blocks c.args.offset) c.self.view_is)
    ∙ find-end _ _ _ _ c.args.offset _ c.loop-at.invariant (omega (arith, c.loop-at-test.false)))
