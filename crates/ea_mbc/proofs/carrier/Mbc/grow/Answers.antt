use Rattle.std.proofs.Common.{arith}
use Rattle.ea_mbc.proofs.Figures.{known, block-known, block-among, Grown, grown-fits, Resizing}
use Rattle.ea_mbc.proofs.Figures.{resizing, resizing-figures, growing-largest}
use Rattle.ea_mbc.proofs.carrier.Mbc.grow.Goals as goal

pub overflow_add-room : goal.overflow_add-room
overflow_add-room c =
    let k = known _ _ _ _ _ _ _ _ c.args.self.now c.self.view_is c.self.invariant in
    let b = block-known _ _ _ c.args.offset c.size-was.result c.gap_behind-after.result _
    c.args.self.now k c.requires.begins c.size-was.ensures c.gap_behind-after.ensures in
    omega (arith, b.size, b.behind, b.is.within, k.small)

pub overflow_add-stop : goal.overflow_add-stop
overflow_add-stop c =
    let k = known _ _ _ _ _ _ _ _ c.args.self.now c.self.view_is c.self.invariant in
    let b = block-known _ _ _ c.args.offset c.size-was.result c.gap_behind-after.result _
    c.args.self.now k c.requires.begins c.size-was.ensures c.gap_behind-after.ensures in
    omega (arith, b.size, b.behind, b.is.within, k.small)

grown : (c : goal.After-refit-arg-1)
    → Grown c.self.inside.units.end c.self.inside.allocated c.size-was.result c.taken-size.result
    c.args.offset c.args.name c.self.inside.units.blocks
grown c =
    let k = known _ _ _ _ _ _ _ _ c.args.self.now c.self.view_is c.self.invariant in
    let b = block-known _ _ _ c.args.offset c.size-was.result c.gap_behind-after.result _
    c.args.self.now k c.requires.begins c.size-was.ensures c.gap_behind-after.ensures in
    grown-fits _ _ _ c.args.self.now c.args.offset c.args.need c.args.name c.size-was.result
    c.gap_behind-after.result c.taken-size.result _ c.self.view_is c.self.invariant.tiled k b
    c.requires.more c.requires.even c.if-room-need.false c.taken-size.ensures

pub refit-requires-clause-least : goal.refit-requires-clause-least
refit-requires-clause-least c =
    let k = known _ _ _ _ _ _ _ _ c.args.self.now c.self.view_is c.self.invariant in
    let b = block-known _ _ _ c.args.offset c.size-was.result c.gap_behind-after.result _
    c.args.self.now k c.requires.begins c.size-was.ensures c.gap_behind-after.ensures in
    omega (arith, (grown c).more, b.size, b.is.least)

pub refit-requires-clause-even : goal.refit-requires-clause-even
refit-requires-clause-even c = (grown c).even

pub refit-requires-clause-tiled : goal.refit-requires-clause-tiled
refit-requires-clause-tiled c = (grown c).tiled

pub overflow_sub-self : goal.overflow_sub-self
overflow_sub-self c =
    let k = known _ _ _ _ _ _ _ _ c.args.self.now c.self.view_is c.self.invariant in
    let b = block-known _ _ _ c.args.offset c.size-was.result c.gap_behind-after.result _
    c.args.self.now k c.requires.begins c.size-was.ensures c.gap_behind-after.ensures in
    (block-among _ _ _ c.args.offset _ _ _ c.args.self.now k b).0

pub overflow_add-self : goal.overflow_add-self
overflow_add-self c =
    let k = known _ _ _ _ _ _ _ _ c.args.self.now c.self.view_is c.self.invariant in
    let b = block-known _ _ _ c.args.offset c.size-was.result c.gap_behind-after.result _
    c.args.self.now k c.requires.begins c.size-was.ensures c.gap_behind-after.ensures in
    let grown = grown-fits _ _ _ c.args.self.now c.args.offset c.args.need c.args.name
    c.size-was.result c.gap_behind-after.result c.taken-size.result _ c.self.view_is
    c.self.invariant.tiled k b c.requires.more c.requires.even c.if-room-need.false
    c.taken-size.ensures in
    let among = block-among _ _ _ c.args.offset _ _ _ c.args.self.now k b in
    omega (arith, among.0, grown.sum, k.end, k.small)

pub largest_after-self-inside-requires : goal.largest_after-self-inside-requires
largest_after-self-inside-requires c =
    let k = known _ _ _ _ _ _ _ _ c.args.self.now c.self.view_is c.self.invariant in
    let b = block-known _ _ _ c.args.offset c.size-was.result c.gap_behind-after.result _
    c.args.self.now k c.requires.begins c.size-was.ensures c.gap_behind-after.ensures in
    let grown = grown-fits _ _ _ c.args.self.now c.args.offset c.args.need c.args.name
    c.size-was.result c.gap_behind-after.result c.taken-size.result _ c.self.view_is
    c.self.invariant.tiled k b c.requires.more c.requires.even c.if-room-need.false
    c.taken-size.ensures in
    let r = resizing _ _ _ c.args.offset c.size-was.result _ c.taken-size.result c.args.name _
    c.refit.new.self c.args.self.now k b c.refit.ensures.end c.refit.ensures.blocks grown.tiled in
    λ lt. growing-largest _ _ _ c.args.offset _ _ _ c.args.name _ _ c.args.self.now k b r grown.more
    lt

refitted : (c : goal.After-self-2-1)
    → Resizing c.args.self.now c.refit.new.self c.args.offset c.size-was.result
    c.taken-size.result c.args.name
refitted c =
    let k = known _ _ _ _ _ _ _ _ c.args.self.now c.self.view_is c.self.invariant in
    let b = block-known _ _ _ c.args.offset c.size-was.result c.gap_behind-after.result _
    c.args.self.now k c.requires.begins c.size-was.ensures c.gap_behind-after.ensures in
    let grown = grown-fits _ _ _ c.args.self.now c.args.offset c.args.need c.args.name
    c.size-was.result c.gap_behind-after.result c.taken-size.result _ c.self.view_is
    c.self.invariant.tiled k b c.requires.more c.requires.even c.if-room-need.false
    c.taken-size.ensures in
    resizing _ _ _ c.args.offset c.size-was.result _ c.taken-size.result c.args.name _
    c.refit.new.self c.args.self.now k b c.refit.ensures.end c.refit.ensures.blocks grown.tiled

pub invariant_of-self : goal.invariant_of-self
invariant_of-self c =
    let k = known _ _ _ _ _ _ _ _ c.args.self.now c.self.view_is c.self.invariant in
    let b = block-known _ _ _ c.args.offset c.size-was.result c.gap_behind-after.result _
    c.args.self.now k c.requires.begins c.size-was.ensures c.gap_behind-after.ensures in
    resizing-figures _ _ _ _ _ c.args.offset _ _ _ c.args.name _ _ c.args.self.now k b (refitted c)
    (omega arith) c.largest_after-self-inside.ensures

pub returns-clause-begins : goal.returns-clause-begins
returns-clause-begins c = (refitted c).begins

pub returns-clause-others : goal.returns-clause-others
returns-clause-others c = (refitted c).others

pub returns-clause-gap_resized : goal.returns-clause-gap_resized
returns-clause-gap_resized c = (refitted c).gap
