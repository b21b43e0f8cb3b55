use Rattle.std.proofs.Common.{◌≤◌, sym, ◌∙◌, ap, subst, arith}
use Rattle.ea_model.specs.Content.{block_at}
use Rattle.ea_model.proofs.Rising.{item_at-new, item_at-old, none-other}
use Rattle.ea_laws.proofs.BlockLists.{IsFront, IsFront-gap, offset_of}
use Rattle.ea_mbc.proofs.Figures.{known, taken-enters, Placing, placing, placing-fits}
use Rattle.ea_mbc.proofs.Figures.{placing-figures, placing-largest}
use Rattle.ea_mbc.proofs.carrier.Mbc.place.Goals as goal

pub enter-requires-clause-even : goal.enter-requires-clause-even
enter-requires-clause-even c =
    let k = known _ _ _ _ _ _ _ _ c.args.self.now c.self.view_is c.self.invariant in
    let into = taken-enters c.args.self.now c.args.name c.args.gap.offset c.args.gap.size
    c.args.need c.taken-size.result k.tiled c.requires.gap c.requires.fits c.requires.even
    c.requires.least c.taken-size.ensures in
    into.even

pub enter-requires-clause-rest : goal.enter-requires-clause-rest
enter-requires-clause-rest c =
    let k = known _ _ _ _ _ _ _ _ c.args.self.now c.self.view_is c.self.invariant in
    let into = taken-enters c.args.self.now c.args.name c.args.gap.offset c.args.gap.size
    c.args.need c.taken-size.result k.tiled c.requires.gap c.requires.fits c.requires.even
    c.requires.least c.taken-size.ensures in
    into.rest

pub overflow_add-self : goal.overflow_add-self
overflow_add-self c =
    let k = known _ _ _ _ _ _ _ _ c.args.self.now c.self.view_is c.self.invariant in
    let into = taken-enters c.args.self.now c.args.name c.args.gap.offset c.args.gap.size
    c.args.need c.taken-size.result k.tiled c.requires.gap c.requires.fits c.requires.even
    c.requires.least c.taken-size.ensures in
    let p = placing _ _ _ c.args.gap.size _ c.enter.new.self c.args.self.now _ k
    c.enter.ensures.end c.enter.ensures.blocks c.requires.gap into in
    omega (arith, (placing-fits _ _ _ _ c.enter.new.self c.args.self.now _ k p.enters).0)

pub overflow_add-self-2 : goal.overflow_add-self-2
overflow_add-self-2 c =
    let k = known _ _ _ _ _ _ _ _ c.args.self.now c.self.view_is c.self.invariant in
    let into = taken-enters c.args.self.now c.args.name c.args.gap.offset c.args.gap.size
    c.args.need c.taken-size.result k.tiled c.requires.gap c.requires.fits c.requires.even
    c.requires.least c.taken-size.ensures in
    let p = placing _ _ _ c.args.gap.size _ c.enter.new.self c.args.self.now _ k
    c.enter.ensures.end c.enter.ensures.blocks c.requires.gap into in
    omega (arith, (placing-fits _ _ _ _ c.enter.new.self c.args.self.now _ k p.enters).1)

pub largest_after-self-inside-requires : goal.largest_after-self-inside-requires
largest_after-self-inside-requires c =
    let k = known _ _ _ _ _ _ _ _ c.args.self.now c.self.view_is c.self.invariant in
    let into = taken-enters c.args.self.now c.args.name c.args.gap.offset c.args.gap.size
    c.args.need c.taken-size.result k.tiled c.requires.gap c.requires.fits c.requires.even
    c.requires.least c.taken-size.ensures in
    let p = placing _ _ _ c.args.gap.size _ c.enter.new.self c.args.self.now _ k
    c.enter.ensures.end c.enter.ensures.blocks c.requires.gap into in
    λ lt. placing-largest _ _ _ c.args.gap.size _ _ c.args.self.now _ k p c.requires.gap lt

entered : (c : goal.After-self-3-1)
    → Placing c.args.self.now c.enter.new.self (record {
      name = c.args.name;
      offset = c.args.gap.offset;
      size = c.taken-size.result;
    })
entered c =
    let k = known _ _ _ _ _ _ _ _ c.args.self.now c.self.view_is c.self.invariant in
    let into = taken-enters c.args.self.now c.args.name c.args.gap.offset c.args.gap.size
    c.args.need c.taken-size.result k.tiled c.requires.gap c.requires.fits c.requires.even
    c.requires.least c.taken-size.ensures in
    placing _ _ _ c.args.gap.size _ c.enter.new.self c.args.self.now _ k c.enter.ensures.end
    c.enter.ensures.blocks c.requires.gap into

front : (c : goal.After-self-3-1) → IsFront c.args.self.now c.args.gap.offset
front c =
    let k = known _ _ _ _ _ _ _ _ c.args.self.now c.self.view_is c.self.invariant in
    IsFront-gap c.args.self.now c.args.gap.offset c.args.need k.tiled
    (subst (λ n. c.args.need ≤ n) (sym c.requires.gap) c.requires.fits) c.requires.least

pub invariant_of-self : goal.invariant_of-self
invariant_of-self c =
    let k = known _ _ _ _ _ _ _ _ c.args.self.now c.self.view_is c.self.invariant in
    placing-figures _ _ _ _ _ _ c.args.self.now _ k (entered c) c.largest_after-self-inside.ensures

pub returns-clause-behind_header : goal.returns-clause-behind_header
returns-clause-behind_header c = (front c).behind_header

pub returns-clause-fresh : goal.returns-clause-fresh
returns-clause-fresh c = (front c).fresh

pub returns-clause-begins : goal.returns-clause-begins
returns-clause-begins c =
    ap (λ bs. block_at bs c.args.gap.offset) (entered c).blocks
    ∙ item_at-new offset_of _ c.args.self.now.blocks
    (none-other offset_of c.args.gap.offset c.args.self.now.blocks (front c).fresh)

pub returns-clause-others : goal.returns-clause-others
returns-clause-others c = λ at n.
    ap (λ bs. block_at bs at) (entered c).blocks
    ∙ item_at-old offset_of at _ c.args.self.now.blocks n

pub returns-clause-gap_taken : goal.returns-clause-gap_taken
returns-clause-gap_taken c = (entered c).taken
