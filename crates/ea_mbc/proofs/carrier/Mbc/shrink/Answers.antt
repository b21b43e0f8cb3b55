use Rattle.std.proofs.Common.{◌∙◌, ap, arith}
use Rattle.ea_model.specs.Content.{size_of}
use Rattle.ea_mbc.proofs.Figures.{known, block-known, block-among, Resizing, resizing}
use Rattle.ea_mbc.proofs.Figures.{resizing-figures, shrinking-largest, shrunk-most}
use Rattle.ea_mbc.proofs.Resizing.{shrunk-kept}
use Rattle.ea_mbc.proofs.carrier.Mbc.shrink.Goals as goal

pub overflow_add-stop : goal.overflow_add-stop
overflow_add-stop c =
    let k = known _ _ _ _ _ _ _ _ c.args.self.now c.self.view_is c.self.invariant in
    let b = block-known _ _ _ c.args.offset c.size-was.result c.gap_behind-after.result _
    c.args.self.now k c.requires.begins c.size-was.ensures c.gap_behind-after.ensures in
    omega (arith, b.size, b.is.within, k.small)

pub overflow_add-stop-2 : goal.overflow_add-stop-2
overflow_add-stop-2 c =
    let k = known _ _ _ _ _ _ _ _ c.args.self.now c.self.view_is c.self.invariant in
    let b = block-known _ _ _ c.args.offset c.size-was.result c.gap_behind-after.result _
    c.args.self.now k c.requires.begins c.size-was.ensures c.gap_behind-after.ensures in
    omega (arith, b.size, b.behind, b.is.within, k.small)

pub refit-requires-clause-tiled : goal.refit-requires-clause-tiled
refit-requires-clause-tiled c =
    shrunk-kept _ c.args.self.now c.args.offset c.args.need c.args.name c.self.view_is
    c.self.invariant.tiled c.requires.begins c.requires.fewer c.requires.even c.requires.least

pub overflow_sub-self : goal.overflow_sub-self
overflow_sub-self c =
    let k = known _ _ _ _ _ _ _ _ c.args.self.now c.self.view_is c.self.invariant in
    let b = block-known _ _ _ c.args.offset c.size-was.result c.gap_behind-after.result _
    c.args.self.now k c.requires.begins c.size-was.ensures c.gap_behind-after.ensures in
    (block-among _ _ _ c.args.offset _ _ _ c.args.self.now k b).0

pub overflow_add-offset : goal.overflow_add-offset
overflow_add-offset c =
    let k = known _ _ _ _ _ _ _ _ c.args.self.now c.self.view_is c.self.invariant in
    let b = block-known _ _ _ c.args.offset c.size-was.result c.gap_behind-after.result _
    c.args.self.now k c.requires.begins c.size-was.ensures c.gap_behind-after.ensures in
    omega (arith, b.size, b.is.within, k.small, c.requires.fewer, ap size_of b.found)

refitted : (c : goal.After-self-2-1)
    → Resizing c.args.self.now c.refit.new.self c.args.offset c.size-was.result c.args.need
    c.args.name
refitted c =
    let k = known _ _ _ _ _ _ _ _ c.args.self.now c.self.view_is c.self.invariant in
    let b = block-known _ _ _ c.args.offset c.size-was.result c.gap_behind-after.result _
    c.args.self.now k c.requires.begins c.size-was.ensures c.gap_behind-after.ensures in
    let kept = shrunk-kept _ c.args.self.now c.args.offset c.args.need c.args.name c.self.view_is
    c.self.invariant.tiled c.requires.begins c.requires.fewer c.requires.even c.requires.least in
    resizing _ _ _ c.args.offset c.size-was.result _ c.args.need c.args.name _ c.refit.new.self
    c.args.self.now k b c.refit.ensures.end c.refit.ensures.blocks kept

pub returns-clause-largest : goal.returns-clause-largest
returns-clause-largest c =
    let k = known _ _ _ _ _ _ _ _ c.args.self.now c.self.view_is c.self.invariant in
    let b = block-known _ _ _ c.args.offset c.size-was.result c.gap_behind-after.result _
    c.args.self.now k c.requires.begins c.size-was.ensures c.gap_behind-after.ensures in
    shrinking-largest _ _ _ _ c.args.offset _ _ _ c.args.name _ _ c.args.self.now k b (refitted c)
    (omega (arith, c.requires.fewer, b.size, ap size_of b.found))
    (c.max-self-inside.ensures
    ∙ shrunk-most _ c.args.offset c.size-was.result c.gap_behind-after.result c.args.need)

pub invariant_of-self : goal.invariant_of-self
invariant_of-self c =
    let k = known _ _ _ _ _ _ _ _ c.args.self.now c.self.view_is c.self.invariant in
    let b = block-known _ _ _ c.args.offset c.size-was.result c.gap_behind-after.result _
    c.args.self.now k c.requires.begins c.size-was.ensures c.gap_behind-after.ensures in
    resizing-figures _ _ _ _ _ c.args.offset _ _ _ c.args.name _ _ c.args.self.now k b (refitted c)
    (omega arith) (returns-clause-largest c)

pub returns-clause-begins : goal.returns-clause-begins
returns-clause-begins c = (refitted c).begins

pub returns-clause-others : goal.returns-clause-others
returns-clause-others c = (refitted c).others

pub returns-clause-gap_resized : goal.returns-clause-gap_resized
returns-clause-gap_resized c = (refitted c).known_gap
