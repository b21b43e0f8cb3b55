use Rattle.std.proofs.Common.{◌∙◌, ap, arith}
use Rattle.ea_model.specs.Content.{block_at}
use Rattle.ea_model.proofs.Rising.{item_at-gone, item_at-stays}
use Rattle.ea_laws.proofs.BlockLists.{offset_of}
use Rattle.ea_mbc.proofs.Figures.{known, block-known, block-among, Releasing, releasing}
use Rattle.ea_mbc.proofs.Figures.{releasing-figures, before-known, released-most}
use Rattle.ea_mbc.proofs.carrier.Mbc.release.Goals as goal

pub overflow_sub-start : goal.overflow_sub-start
overflow_sub-start c =
    let k = known _ _ _ _ _ _ _ _ c.args.self.now c.self.view_is c.self.invariant in
    let g = before-known _ _ _ c.args.offset c.gap_before-before.result _ c.args.self.now k
    c.requires c.gap_before-before.ensures in
    g.1

pub overflow_add-stop : goal.overflow_add-stop
overflow_add-stop c =
    let k = known _ _ _ _ _ _ _ _ c.args.self.now c.self.view_is c.self.invariant in
    let b = block-known _ _ _ c.args.offset c.size-size.result c.gap_behind-after.result _
    c.args.self.now k c.requires c.size-size.ensures c.gap_behind-after.ensures in
    omega (arith, b.size, b.is.within, k.small)

pub overflow_add-stop-2 : goal.overflow_add-stop-2
overflow_add-stop-2 c =
    let k = known _ _ _ _ _ _ _ _ c.args.self.now c.self.view_is c.self.invariant in
    let b = block-known _ _ _ c.args.offset c.size-size.result c.gap_behind-after.result _
    c.args.self.now k c.requires c.size-size.ensures c.gap_behind-after.ensures in
    omega (arith, b.size, b.behind, b.is.within, k.small)

pub leave-requires-clause-start : goal.leave-requires-clause-start
leave-requires-clause-start c =
    let k = known _ _ _ _ _ _ _ _ c.args.self.now c.self.view_is c.self.invariant in
    let g = before-known _ _ _ c.args.offset c.gap_before-before.result _ c.args.self.now k
    c.requires c.gap_before-before.ensures in
    omega (arith, g.1, c.gap_before-before.ensures)

pub overflow_sub-self : goal.overflow_sub-self
overflow_sub-self c =
    let k = known _ _ _ _ _ _ _ _ c.args.self.now c.self.view_is c.self.invariant in
    let b = block-known _ _ _ c.args.offset c.size-size.result c.gap_behind-after.result _
    c.args.self.now k c.requires c.size-size.ensures c.gap_behind-after.ensures in
    (block-among _ _ _ c.args.offset _ _ _ c.args.self.now k b).0

left : (c : goal.After-self-3-1)
    → Releasing c.args.self.now c.leave.new.self c.args.offset c.size-size.result
left c =
    let k = known _ _ _ _ _ _ _ _ c.args.self.now c.self.view_is c.self.invariant in
    let b = block-known _ _ _ c.args.offset c.size-size.result c.gap_behind-after.result _
    c.args.self.now k c.requires c.size-size.ensures c.gap_behind-after.ensures in
    releasing _ _ _ c.args.offset c.size-size.result c.gap_behind-after.result _ c.leave.new.self
    c.args.self.now k b c.leave.ensures.end c.leave.ensures.blocks

pub invariant_of-self : goal.invariant_of-self
invariant_of-self c =
    let k = known _ _ _ _ _ _ _ _ c.args.self.now c.self.view_is c.self.invariant in
    let b = block-known _ _ _ c.args.offset c.size-size.result c.gap_behind-after.result _
    c.args.self.now k c.requires c.size-size.ensures c.gap_behind-after.ensures in
    let g = before-known _ _ _ c.args.offset c.gap_before-before.result _ c.args.self.now k
    c.requires c.gap_before-before.ensures in
    releasing-figures _ _ _ _ c.args.offset _ c.gap_before-before.result _ _ _ c.args.self.now k b
    (left c) g.0
    (c.max-self-inside.ensures
    ∙ released-most _ c.args.offset c.gap_before-before.result c.size-size.result _ g.1)

pub returns-clause-largest : goal.returns-clause-largest
returns-clause-largest c = (invariant_of-self c).greatest

pub returns-clause-gone : goal.returns-clause-gone
returns-clause-gone c = ap (λ bs. block_at bs c.args.offset) (left c).blocks
    ∙ item_at-gone offset_of c.args.offset c.args.self.now.blocks

pub returns-clause-others : goal.returns-clause-others
returns-clause-others c = λ at n.
    ap (λ bs. block_at bs at) (left c).blocks
    ∙ item_at-stays offset_of at c.args.offset c.args.self.now.blocks n

pub returns-clause-gaps_joined : goal.returns-clause-gaps_joined
returns-clause-gaps_joined c = (left c).joined
