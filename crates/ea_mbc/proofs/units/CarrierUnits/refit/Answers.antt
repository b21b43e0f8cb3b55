use Rattle.std.proofs.Common.{ℕ, ◌+◌, ◌-◌, sym, ap, ◌∙◌, subst, arith}
use Rattle.ea_laws.proofs.Resized.{with_block}
use Rattle.ea_mbc.specs.Coding.{IsCoded}
use Rattle.ea_mbc.specs.Layout.{Layout}
use Rattle.ea_mbc.specs.Named.{AreNamed}
use Rattle.ea_mbc.proofs.Naming.{named-changed}
use Rattle.ea_mbc.proofs.Reading.{blocks_of-coded, IsCoded-read}
use Rattle.ea_mbc.proofs.Seen.{seen, block-read, header-read, stop-read, left-even, refitted}
use Rattle.ea_mbc.specs.Indexed.{HasSlot, put_in}
use Rattle.ea_mbc.proofs.Slotted.{stands, refitting, slots-made}
use Rattle.ea_mbc.proofs.units.CarrierUnits.refit.Goals as goal

pub header-was-requires : goal.header-was-requires
header-was-requires c =
    let s = seen _ _ _ c.args.self.now c.self.view_is c.self.invariant.coded in
    (block-read _ _ _ _ c.args.block.offset s c.requires.begins).inside

pub lay-requires-clause-whole : goal.lay-requires-clause-whole
lay-requires-clause-whole c =
    let s = seen _ _ _ c.args.self.now c.self.view_is c.self.invariant.coded in
    let r = block-read _ _ _ _ c.args.block.offset s c.requires.begins in
    left-even _ _ _ _ c.args.block.offset c.args.block.size c.args.stop s r c.requires.stop
    c.requires.even

pub lay-requires-clause-within : goal.lay-requires-clause-within
lay-requires-clause-within c =
    let s = seen _ _ _ c.args.self.now c.self.view_is c.self.invariant.coded in
    let r = block-read _ _ _ _ c.args.block.offset s c.requires.begins in
    let ends = stop-read _ _ _ _ c.args.block.offset c.args.stop s r c.requires.stop in
    omega (arith, ends, s.same)

pub overflow_add-behind : goal.overflow_add-behind
overflow_add-behind c =
    let s = seen _ _ _ c.args.self.now c.self.view_is c.self.invariant.coded in
    let r = block-read _ _ _ _ c.args.block.offset s c.requires.begins in
    let was = header-read _ _ _ _ c.args.block.offset c.header-was.result s r
    c.header-was.ensures.word in
    omega (arith, was.0, r.there.within, s.few)

pub overflow_sub-stop : goal.overflow_sub-stop
overflow_sub-stop c =
    let s = seen _ _ _ c.args.self.now c.self.view_is c.self.invariant.coded in
    let r = block-read _ _ _ _ c.args.block.offset s c.requires.begins in
    let was = header-read _ _ _ _ c.args.block.offset c.header-was.result s r
    c.header-was.ensures.word in
    omega (arith, was.0, r.size, c.requires.stop)

pub take-requires : goal.take-requires
take-requires c =
    let h = stands _ _ _ c.args.self.now c.self.inside.index c.self.view_is c.self.invariant.coded.0
    c.self.invariant.indexed in
    let s = seen _ _ _ c.args.self.now c.self.view_is c.self.invariant.coded in
    let r = block-read _ _ _ _ c.args.block.offset s c.requires.begins in
    let was = header-read _ _ _ _ c.args.block.offset c.header-was.result s r
    c.header-was.ensures.word in
    let l = refitting _ _ c.args.self.now c.args.block.offset c.header-was.result.size
    c.args.block.size c.args.stop c.args.block.name c.self.inside.index h r was.0 c.requires.stop
    c.requires.fits c.requires.tiled in
    l.held

pub put-requires : goal.put-requires
put-requires c =
    let h = stands _ _ _ c.args.self.now c.self.inside.index c.self.view_is c.self.invariant.coded.0
    c.self.invariant.indexed in
    let s = seen _ _ _ c.args.self.now c.self.view_is c.self.invariant.coded in
    let r = block-read _ _ _ _ c.args.block.offset s c.requires.begins in
    let was = header-read _ _ _ _ c.args.block.offset c.header-was.result s r
    c.header-was.ensures.word in
    let l = refitting _ _ c.args.self.now c.args.block.offset c.header-was.result.size
    c.args.block.size c.args.stop c.args.block.name c.self.inside.index h r was.0 c.requires.stop
    c.requires.fits c.requires.tiled in
    let at : ℕ = c.args.block.offset + c.args.block.size in
    subst (HasSlot at (c.args.stop - at)) (sym c.take.ensures) l.slot

coded : (c : goal.After-put)
    → IsCoded c.lay.new.tags c.lay.new.names c.self.inside.end
    (with_block c.args.block.offset c.args.block.size c.args.block.name c.args.self.now.blocks)
coded c =
    let s = seen _ _ _ c.args.self.now c.self.view_is c.self.invariant.coded in
    let r = block-read _ _ _ _ c.args.block.offset s c.requires.begins in
    let h = header-read _ _ _ _ c.args.block.offset c.header-was.result s r
    c.header-was.ensures.word in
    refitted _ _ _ _ c.self.inside.end c.args.block.offset c.args.block.size c.args.stop
    c.args.block.name c.header-was.result.prev_free c.args.self.now s r c.requires.stop
    c.requires.least c.requires.fits c.requires.tiled h.2 c.lay.ensures

pub invariant_of-self : goal.invariant_of-self
invariant_of-self c =
    let h = stands _ _ _ c.args.self.now c.self.inside.index c.self.view_is c.self.invariant.coded.0
    c.self.invariant.indexed in
    let s = seen _ _ _ c.args.self.now c.self.view_is c.self.invariant.coded in
    let r = block-read _ _ _ _ c.args.block.offset s c.requires.begins in
    let was = header-read _ _ _ _ c.args.block.offset c.header-was.result s r
    c.header-was.ensures.word in
    let l = refitting _ _ c.args.self.now c.args.block.offset c.header-was.result.size
    c.args.block.size c.args.stop c.args.block.name c.self.inside.index h r was.0 c.requires.stop
    c.requires.fits c.requires.tiled in
    let at : ℕ = c.args.block.offset + c.args.block.size in
    record {
      coded = (IsCoded-read _ _ _ _ (coded c), c.self.invariant.coded.1);
      indexed = slots-made _ _ _ c.args.self.now _ _ s.same (blocks_of-coded _ _ _ _ (coded c))
          (c.put.ensures ∙ ap (put_in at (c.args.stop - at)) c.take.ensures) l.indexed;
      named = subst (AreNamed c.named_with-self-inside.result) (sym (blocks_of-coded _ _ _ _ (coded c)))
          (named-changed c.named_with-self-inside.result c.self.inside.all_named c.args.block.offset
          c.args.block.size c.args.block.name c.args.self.now.blocks c.named_with-self-inside.ensures (subst (AreNamed c.self.inside.all_named)
          (ap (λ (l : Layout). l.blocks) c.self.view_is) c.self.invariant.named));
    }

pub returns-clause-blocks : goal.returns-clause-blocks
returns-clause-blocks c = blocks_of-coded _ _ _ _ (coded c)
