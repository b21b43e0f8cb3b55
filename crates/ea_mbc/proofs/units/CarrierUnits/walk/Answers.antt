use Rattle.std.proofs.Common.{◌+◌, fold, ap, ◌∙◌, refl, arith}
use Rattle.ea_model.specs.Content.{gap, gaps}
use Rattle.ea_model.specs.Choice.{before, better, fitting, choice}
use Rattle.ea_mbc.specs.Layout.{Layout}
use Rattle.ea_mbc.proofs.Walking.{walk-start, walk-step, choose-step, choose-end}
use Rattle.ea_mbc.proofs.units.CarrierUnits.walk.Goals as goal

pub loop-at-init : goal.loop-at-init
loop-at-init c = walk-start _ _ _ _ _ c.self.invariant.coded.0 refl

pub overflow_add-at : goal.overflow_add-at
overflow_add-at c =
    let s = walk-step _ _ _ _ _ c.header-header.result c.loop-at.invariant c.loop-at-test.true
    c.header-header.ensures.word in
    omega (arith, s.within, c.self.invariant.coded.1)

pub loop-at-smaller : goal.loop-at-smaller
loop-at-smaller c =
    let s = walk-step _ _ _ _ _ c.header-header.result c.loop-at.invariant c.loop-at-test.true
    c.header-header.ensures.word in
    omega (arith, s.within, s.least, c.loop-at-test.true)

pub loop-at-preserved : goal.loop-at-preserved
loop-at-preserved c =
    choose-step _ _ _ _ c.args.need c.args.inner _ c.better_of-best.result _ c.header-header.result
    c.loop-at.invariant c.loop-at-test.true c.header-header.ensures.word
    (c.better_of-best.ensures
    ∙ ap (λ n. fold (better (before c.args.inner)) c.loop-at.best
    (fitting c.args.need (gap c.loop-at.at (c.loop-at.at + n)))) c.free_units.ensures)

pub returns : goal.returns
returns c =
    choose-end _ _ _ _ c.args.need c.args.inner _ _ c.loop-at.invariant
    (omega (arith, c.loop-at-test.false))
    ∙ ap (λ (l : Layout). choice c.args.inner c.args.need (gaps 8 l.end l.blocks)) c.self.view_is
