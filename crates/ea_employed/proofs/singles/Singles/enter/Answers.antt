use Rattle.std.proofs.Common.{◌≡◌, false, All, List, length, ap, ◌∙◌, sym, subst, arith}
use Rattle.ea_model.specs.declared.carriers.Figures.{Figures}
use Rattle.ea_model.specs.Content.{Content}
use Rattle.ea_model.specs.Instance.{figures, has_content}
use Rattle.ea_model.proofs.Rising.{rising-entered}
use Rattle.ea_laws.specs.Kept.{number_of, IsLaidOutAlone, IsRising}
use Rattle.ea_laws.proofs.Contents.{absent-All}
use Rattle.ea_employed.specs.Counted.{with_block, with_carrier}
use Rattle.ea_employed.proofs.Counting.{alone-figures, figures-single, AreBounded}
use Rattle.ea_employed.proofs.singles.Singles.enter.Goals as goal

pub invariant_of-self : goal.invariant_of-self
invariant_of-self c =
    let cs : List Content = c.self.inside.list.items in
    let new : has_content c.args.carrier.number cs ≡ false =
    subst (λ (xs : List Content). has_content c.args.carrier.number xs ≡ false)
    (sym c.self.view_is) c.requires.number in
    record {
      room = omega (arith, c.self.invariant.room, c.enter_within.ensures.capacity);
      rising = subst IsRising (sym c.enter_within.ensures.items)
          (rising-entered number_of c.args.carrier cs c.self.invariant.rising
          (absent-All c.args.carrier.number cs new));
      counted =
          c.with_block-self-inside.ensures
          ∙ ap (with_block c.allocated.result)
          (c.with_carrier-figures.ensures
          ∙ ap (with_carrier c.units.result) c.self.invariant.counted
          ∙ ap (λ u. with_carrier u (figures cs)) c.units.ensures.units)
          ∙ ap (λ s. with_block s (with_carrier c.args.carrier.units (figures cs)))
          c.allocated.ensures
          ∙ sym (ap figures c.enter_within.ensures.items
          ∙ figures-single c.args.carrier cs c.requires.block);
    }

pub with_carrier-figures-requires : goal.with_carrier-figures-requires
with_carrier-figures-requires c =
    let cs : List Content = c.self.inside.list.items in
    let bounded = subst AreBounded (sym c.self.invariant.counted)
    (alone-figures cs
    (subst (λ (xs : List Content). All IsLaidOutAlone xs) (sym c.self.view_is) c.requires.laid)
    (omega (arith, ap length c.self.view_is, c.requires.room))) in
    (omega (arith, bounded.carriers), omega (arith, bounded.carriers_size, c.units.ensures.small))

pub with_block-self-inside-requires : goal.with_block-self-inside-requires
with_block-self-inside-requires c =
    let cs : List Content = c.self.inside.list.items in
    let bounded = subst AreBounded (sym c.self.invariant.counted)
    (alone-figures cs
    (subst (λ (xs : List Content). All IsLaidOutAlone xs) (sym c.self.view_is) c.requires.laid)
    (omega (arith, ap length c.self.view_is, c.requires.room))) in
    let made = c.with_carrier-figures.ensures in (
      omega (arith, bounded.blocks, ap (λ (f : Figures). f.blocks) made),
      omega (
        arith,
        bounded.blocks_size,
        ap (λ (f : Figures). f.blocks_size) made,
        c.allocated.type_inv,
      ),
    )
