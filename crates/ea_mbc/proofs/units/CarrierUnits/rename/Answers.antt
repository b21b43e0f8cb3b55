use Rattle.std.proofs.Common.{refl, sym, ap, subst, arith}
use Rattle.ea_model.specs.Content.{block_at, size_of}
use Rattle.ea_laws.proofs.Resized.{with_block}
use Rattle.ea_mbc.specs.Coding.{IsCoded}
use Rattle.ea_mbc.specs.Layout.{Layout}
use Rattle.ea_mbc.specs.Named.{AreNamed}
use Rattle.ea_mbc.proofs.Naming.{named-changed}
use Rattle.ea_mbc.proofs.Reading.{blocks_of-coded, IsCoded-read}
use Rattle.ea_mbc.proofs.Seen.{seen, block-read, renamed}
use Rattle.ea_mbc.proofs.Slotted.{stands, renaming, slots-made}
use Rattle.ea_mbc.proofs.units.CarrierUnits.rename.Goals as goal

pub set-requires : goal.set-requires
set-requires c =
    let s = seen _ _ _ c.args.self.now c.self.view_is c.self.invariant.coded in
    omega (arith, (block-read _ _ _ _ c.args.offset s c.requires).half)

coded : (c : goal.After-set)
    → IsCoded c.self.inside.tags c.set.new.self c.self.inside.end
    (with_block c.args.offset (size_of (block_at c.args.self.now.blocks c.args.offset)) c.args.name
    c.args.self.now.blocks)
coded c =
    let s = seen _ _ _ c.args.self.now c.self.view_is c.self.invariant.coded in
    renamed _ _ _ c.self.inside.end c.args.offset c.args.name c.args.self.now s
    (block-read _ _ _ _ c.args.offset s c.requires) c.set.ensures

pub invariant_of-self : goal.invariant_of-self
invariant_of-self c =
    let h = stands _ _ _ c.args.self.now c.self.inside.index c.self.view_is
    c.self.invariant.coded.0 c.self.invariant.indexed in
    let s = seen _ _ _ c.args.self.now c.self.view_is c.self.invariant.coded in
    record {
      coded = (IsCoded-read _ _ _ _ (coded c), c.self.invariant.coded.1);
      indexed = slots-made _ _ _ c.args.self.now _ _ s.same (blocks_of-coded _ _ _ _ (coded c)) refl
          (renaming c.args.self.now c.args.offset c.args.name _ h c.requires);
      named = subst (AreNamed c.named_with-self-inside.result) (sym (blocks_of-coded _ _ _ _ (coded c)))
          (named-changed c.named_with-self-inside.result c.self.inside.all_named c.args.offset _ c.args.name
          c.args.self.now.blocks c.named_with-self-inside.ensures (subst (AreNamed c.self.inside.all_named)
          (ap (λ (l : Layout). l.blocks) c.self.view_is) c.self.invariant.named));
    }

pub returns-clause-blocks : goal.returns-clause-blocks
returns-clause-blocks c = blocks_of-coded _ _ _ _ (coded c)
