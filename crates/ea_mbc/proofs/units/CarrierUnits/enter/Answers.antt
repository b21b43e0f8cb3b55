use Rattle.std.proofs.Common.{◌+◌, ◌-◌, sym, ap, ◌∙◌, subst, arith}
use Rattle.ea_model.specs.Content.{inserted}
use Rattle.ea_mbc.specs.Coding.{IsCoded}
use Rattle.ea_mbc.specs.Layout.{Layout}
use Rattle.ea_mbc.specs.Named.{AreNamed}
use Rattle.ea_mbc.proofs.Naming.{named-inserted}
use Rattle.ea_mbc.proofs.Reading.{blocks_of-coded, IsCoded-read}
use Rattle.ea_mbc.proofs.Seen.{seen, gap-end, entered}
use Rattle.ea_mbc.specs.Indexed.{HasSlot, put_in}
use Rattle.ea_mbc.proofs.Slotted.{stands, entering, slots-made}
use Rattle.ea_mbc.proofs.units.CarrierUnits.enter.Goals as goal

pub overflow_add-stop : goal.overflow_add-stop
overflow_add-stop c =
    let s = seen _ _ _ c.args.self.now c.self.view_is c.self.invariant.coded in
    let g = gap-end _ _ _ _ c.args.block.offset c.args.gap s
    (omega (arith, c.requires.fits, c.requires.least)) c.requires.gap in
    omega (arith, g, s.few)

pub lay-requires-clause-within : goal.lay-requires-clause-within
lay-requires-clause-within c =
    let s = seen _ _ _ c.args.self.now c.self.view_is c.self.invariant.coded in
    let g = gap-end _ _ _ _ c.args.block.offset c.args.gap s
    (omega (arith, c.requires.fits, c.requires.least)) c.requires.gap in
    omega (arith, g, s.same)

pub take-requires : goal.take-requires
take-requires c =
    let h = stands _ _ _ c.args.self.now c.self.inside.index c.self.view_is c.self.invariant.coded.0
    c.self.invariant.indexed in
    let e = entering _ _ c.args.self.now c.args.block c.args.gap c.self.inside.index h c.requires.gap
    (record {
      fits = c.requires.fits;
      least = c.requires.least;
      even = c.requires.even;
      rest = c.requires.rest;
    }) in
    e.held

pub overflow_add-block : goal.overflow_add-block
overflow_add-block c =
    let s = seen _ _ _ c.args.self.now c.self.view_is c.self.invariant.coded in
    let g = gap-end _ _ _ _ c.args.block.offset c.args.gap s
    (omega (arith, c.requires.fits, c.requires.least)) c.requires.gap in
    omega (arith, g, s.few, c.requires.fits)

pub put-requires : goal.put-requires
put-requires c =
    let h = stands _ _ _ c.args.self.now c.self.inside.index c.self.view_is c.self.invariant.coded.0
    c.self.invariant.indexed in
    let e = entering _ _ c.args.self.now c.args.block c.args.gap c.self.inside.index h c.requires.gap
    (record {
      fits = c.requires.fits;
      least = c.requires.least;
      even = c.requires.even;
      rest = c.requires.rest;
    }) in
    subst (HasSlot (c.args.block.offset + c.args.block.size) (c.args.gap - c.args.block.size))
    (sym c.take.ensures) e.slot

coded : (c : goal.After-put)
    → IsCoded c.lay.new.tags c.lay.new.names c.self.inside.end
    (inserted c.args.block c.args.self.now.blocks)
coded c =
    entered _ _ _ _ c.self.inside.end c.args.gap c.args.block c.args.self.now
    (seen _ _ _ c.args.self.now c.self.view_is c.self.invariant.coded) c.requires.gap
    c.requires.fits c.requires.least c.requires.even c.requires.rest c.lay.ensures

pub invariant_of-self : goal.invariant_of-self
invariant_of-self c =
    let h = stands _ _ _ c.args.self.now c.self.inside.index c.self.view_is c.self.invariant.coded.0
    c.self.invariant.indexed in
    let e = entering _ _ c.args.self.now c.args.block c.args.gap c.self.inside.index h c.requires.gap
    (record {
      fits = c.requires.fits;
      least = c.requires.least;
      even = c.requires.even;
      rest = c.requires.rest;
    }) in
    record {
      coded = (IsCoded-read _ _ _ _ (coded c), c.self.invariant.coded.1);
      indexed = slots-made _ _ _ c.args.self.now _ _
          (seen _ _ _ c.args.self.now c.self.view_is c.self.invariant.coded).same
          (blocks_of-coded _ _ _ _ (coded c))
          (c.put.ensures
          ∙ ap (put_in (c.args.block.offset + c.args.block.size) (c.args.gap - c.args.block.size))
          c.take.ensures) e.indexed;
      named = subst (AreNamed c.named_with-self-inside.result) (sym (blocks_of-coded _ _ _ _ (coded c)))
          (named-inserted c.named_with-self-inside.result c.self.inside.all_named c.args.block
          c.args.self.now.blocks c.named_with-self-inside.ensures (subst (AreNamed c.self.inside.all_named)
          (ap (λ (l : Layout). l.blocks) c.self.view_is) c.self.invariant.named));
    }

pub returns-clause-blocks : goal.returns-clause-blocks
returns-clause-blocks c = blocks_of-coded _ _ _ _ (coded c)
