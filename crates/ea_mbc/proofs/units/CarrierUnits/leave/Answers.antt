use Rattle.std.proofs.Common.{ℕ, ◌+◌, ◌-◌, sym, ap, ◌∙◌, subst, arith}
use Rattle.ea_model.specs.Keyed.{without}
use Rattle.ea_laws.proofs.BlockLists.{offset_of}
use Rattle.ea_mbc.specs.Coding.{IsCoded}
use Rattle.ea_mbc.specs.Layout.{Layout}
use Rattle.ea_mbc.specs.Named.{AreNamed}
use Rattle.ea_mbc.proofs.Naming.{named-without}
use Rattle.ea_mbc.proofs.Reading.{blocks_of-coded, IsCoded-read}
use Rattle.ea_mbc.specs.Indexed.{IsHeld, HasSlot, taken_out, put_in}
use Rattle.ea_mbc.proofs.Seen.{seen, block-read, header-read, stop-read, left}
use Rattle.ea_mbc.proofs.Slotted.{stands, leaving, slots-made}
use Rattle.ea_mbc.proofs.units.CarrierUnits.leave.Goals as goal

pub header-requires : goal.header-requires
header-requires c =
    let s = seen _ _ _ c.args.self.now c.self.view_is c.self.invariant.coded in
    (block-read _ _ _ _ c.args.offset s c.requires.begins).inside

pub overflow_add-behind : goal.overflow_add-behind
overflow_add-behind c =
    let s = seen _ _ _ c.args.self.now c.self.view_is c.self.invariant.coded in
    let r = block-read _ _ _ _ c.args.offset s c.requires.begins in
    let size = header-read _ _ _ _ c.args.offset c.header.result s r c.header.ensures.word in
    omega (arith, size.0, r.there.within, s.few)

pub clear-requires-clause-order : goal.clear-requires-clause-order
clear-requires-clause-order c =
    let s = seen _ _ _ c.args.self.now c.self.view_is c.self.invariant.coded in
    let r = block-read _ _ _ _ c.args.offset s c.requires.begins in (
      omega (arith, c.requires.start),
      omega (arith, c.requires.stop, r.size, r.there.least),
    )

pub clear-requires-clause-whole : goal.clear-requires-clause-whole
clear-requires-clause-whole c =
    let s = seen _ _ _ c.args.self.now c.self.view_is c.self.invariant.coded in
    let r = block-read _ _ _ _ c.args.offset s c.requires.begins in
    omega (arith, c.requires.start, c.requires.stop, r.size, r.there.least)

pub clear-requires-clause-within : goal.clear-requires-clause-within
clear-requires-clause-within c =
    let s = seen _ _ _ c.args.self.now c.self.view_is c.self.invariant.coded in
    let r = block-read _ _ _ _ c.args.offset s c.requires.begins in
    let ends = stop-read _ _ _ _ c.args.offset c.args.stop s r c.requires.stop in
    omega (arith, ends, s.same)

pub take-requires : goal.take-requires
take-requires c =
    let h = stands _ _ _ c.args.self.now c.self.inside.index c.self.view_is c.self.invariant.coded.0
    c.self.invariant.indexed in
    let s = seen _ _ _ c.args.self.now c.self.view_is c.self.invariant.coded in
    let r = block-read _ _ _ _ c.args.offset s c.requires.begins in
    let size = header-read _ _ _ _ c.args.offset c.header.result s r c.header.ensures.word in
    let l = leaving _ _ c.args.self.now c.args.offset c.header.result.size c.args.start c.args.stop
    c.self.inside.index h r size.0 c.requires.start c.requires.stop in
    l.held_before

pub overflow_sub-stop : goal.overflow_sub-stop
overflow_sub-stop c =
    let s = seen _ _ _ c.args.self.now c.self.view_is c.self.invariant.coded in
    let r = block-read _ _ _ _ c.args.offset s c.requires.begins in
    let size = header-read _ _ _ _ c.args.offset c.header.result s r c.header.ensures.word in
    omega (arith, size.0, r.size, c.requires.stop)

pub take-requires-2 : goal.take-requires-2
take-requires-2 c =
    let h = stands _ _ _ c.args.self.now c.self.inside.index c.self.view_is c.self.invariant.coded.0
    c.self.invariant.indexed in
    let s = seen _ _ _ c.args.self.now c.self.view_is c.self.invariant.coded in
    let r = block-read _ _ _ _ c.args.offset s c.requires.begins in
    let size = header-read _ _ _ _ c.args.offset c.header.result s r c.header.ensures.word in
    let l = leaving _ _ c.args.self.now c.args.offset c.header.result.size c.args.start c.args.stop
    c.self.inside.index h r size.0 c.requires.start c.requires.stop in
    subst (IsHeld (c.args.offset + c.header.result.size)
    (c.args.stop - (c.args.offset + c.header.result.size))) (sym c.take.ensures) l.held_after

pub put-requires : goal.put-requires
put-requires c =
    let h = stands _ _ _ c.args.self.now c.self.inside.index c.self.view_is c.self.invariant.coded.0
    c.self.invariant.indexed in
    let s = seen _ _ _ c.args.self.now c.self.view_is c.self.invariant.coded in
    let r = block-read _ _ _ _ c.args.offset s c.requires.begins in
    let size = header-read _ _ _ _ c.args.offset c.header.result s r c.header.ensures.word in
    let l = leaving _ _ c.args.self.now c.args.offset c.header.result.size c.args.start c.args.stop
    c.self.inside.index h r size.0 c.requires.start c.requires.stop in
    let at : ℕ = c.args.offset + c.header.result.size in
    subst (HasSlot c.args.start (c.args.stop - c.args.start))
    (sym (c.take-2.ensures ∙ ap (taken_out at (c.args.stop - at)) c.take.ensures)) l.slot

coded : (c : goal.After-put)
    → IsCoded c.clear.new.tags c.clear.new.names c.self.inside.end
    (without offset_of c.args.offset c.args.self.now.blocks)
coded c =
    let s = seen _ _ _ c.args.self.now c.self.view_is c.self.invariant.coded in
    left _ _ _ _ c.self.inside.end c.args.start c.args.offset c.args.stop c.args.self.now s
    (block-read _ _ _ _ c.args.offset s c.requires.begins) c.requires.start c.requires.stop
    c.clear.ensures

pub invariant_of-self : goal.invariant_of-self
invariant_of-self c =
    let h = stands _ _ _ c.args.self.now c.self.inside.index c.self.view_is c.self.invariant.coded.0
    c.self.invariant.indexed in
    let s = seen _ _ _ c.args.self.now c.self.view_is c.self.invariant.coded in
    let r = block-read _ _ _ _ c.args.offset s c.requires.begins in
    let size = header-read _ _ _ _ c.args.offset c.header.result s r c.header.ensures.word in
    let l = leaving _ _ c.args.self.now c.args.offset c.header.result.size c.args.start c.args.stop
    c.self.inside.index h r size.0 c.requires.start c.requires.stop in
    let at : ℕ = c.args.offset + c.header.result.size in
    record {
      coded = (IsCoded-read _ _ _ _ (coded c), c.self.invariant.coded.1);
      indexed = slots-made _ _ _ c.args.self.now _ _ s.same (blocks_of-coded _ _ _ _ (coded c))
          (c.put.ensures ∙ ap (put_in c.args.start (c.args.stop - c.args.start))
          (c.take-2.ensures ∙ ap (taken_out at (c.args.stop - at)) c.take.ensures)) l.indexed;
      named = subst (AreNamed c.self.inside.all_named) (sym (blocks_of-coded _ _ _ _ (coded c)))
          (named-without c.self.inside.all_named c.args.offset c.args.self.now.blocks (subst (AreNamed c.self.inside.all_named)
          (ap (λ (l : Layout). l.blocks) c.self.view_is) c.self.invariant.named));
    }

pub returns-clause-blocks : goal.returns-clause-blocks
returns-clause-blocks c = blocks_of-coded _ _ _ _ (coded c)
