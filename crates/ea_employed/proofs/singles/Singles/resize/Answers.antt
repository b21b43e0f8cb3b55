use Rattle.std.proofs.Common.{List, [], length, arith, refl, ap, ◌∙◌, sym, subst}
use Rattle.std.specs.Prelude.{All, IsSome}
use Rattle.std.proofs.lemmas.List.Sums.{sum_by-cons}
use Rattle.ea_model.specs.declared.carriers.BlockAt.{BlockAt}
use Rattle.ea_model.specs.Content.{Content, allocated, resized}
use Rattle.ea_model.specs.Instance.{block_in, changed, figures}
use Rattle.ea_laws.specs.Kept.{number_of, IsLaidOutAlone, IsRising}
use Rattle.ea_model.proofs.Rising.{rising-changed}
use Rattle.ea_employed.specs.Counted.{with_block}
use Rattle.ea_employed.proofs.Changed.{at_index, block-there, same-item, set_is_changed}
use Rattle.ea_employed.proofs.Counting.{alone-figures, cancel-block}
use Rattle.ea_employed.proofs.Counting.{single-resized, single-within, AreBounded}
use Rattle.ea_employed.proofs.singles.Singles.resize.Goals as goal

pub with_size-self-inside-requires : goal.with_size-self-inside-requires
with_size-self-inside-requires c =
    let cs : List Content = c.self.inside.list.items in
    let number = c.args.number in
    let item = c.index.result.now in
    let at = at_index cs _ _ number item c.deref.ensures.value
    c.index_of-index.ensures.within c.index_of-index.ensures.item c.index.ensures in
    let block = block-there (λ b. IsSome b) cs number 8 item at.there
    (subst (λ (xs : List Content). IsSome (block_in xs (record { carrier = number; offset = 8 })))
    (sym c.self.view_is) c.requires.block) in
    let laid = subst (λ (xs : List Content). All IsLaidOutAlone xs) (sym c.self.view_is)
    c.requires.laid in
    let within = single-within number item cs c.self.invariant.rising at.there laid 8 _ block
    c.allocated.ensures _ c.self.invariant.counted in
    let bounded = subst AreBounded (sym c.self.invariant.counted)
    (alone-figures cs laid (omega (arith, ap length c.self.view_is, c.requires.few))) in
    (within.1, omega (arith, bounded.blocks_size, c.ranges.size.fits))

pub invariant_of-self : goal.invariant_of-self
invariant_of-self c =
    let cs : List Content = c.self.inside.list.items in
    let number = c.args.number in
    let item = c.index_mut.result.now in
    let was = c.allocated.result in
    let f : Content → Content = λ m. resized m 8 c.args.size c.args.name in
    let rising = c.self.invariant.rising in
    let at = at_index cs _ _ number item c.deref.ensures.value
    c.index_of-index.ensures.within c.index_of-index.ensures.item c.index_mut.ensures.value in
    let before = at_index cs _ _ number c.index.result.now c.deref.ensures.value
    c.index_of-index.ensures.within c.index_of-index.ensures.item c.index.ensures in
    let same = same-item cs _ number c.index.result.now item before at in
    let block = block-there (λ b. IsSome b) cs number 8 item at.there
    (subst (λ (xs : List Content). IsSome (block_in xs (record { carrier = number; offset = 8 })))
    (sym c.self.view_is) c.requires.block) in
    let laid = subst (λ (xs : List Content). All IsLaidOutAlone xs) (sym c.self.view_is)
    c.requires.laid in
    let made = sym (c.resize.ensures.resized block) ∙ c.resize.ensures.block in
    let is = set_is_changed f cs _ _ _ _ at rising (c.resize.ensures.resized block) in
    record {
      room = c.self.invariant.room;
      rising = subst IsRising (sym is)
          (rising-changed number_of f number (λ m. refl) cs rising);
      counted =
          cancel-block was _ _
          (c.with_size-self-inside.ensures ∙ ap (with_block c.args.size) c.self.invariant.counted
          ∙ sym (ap (λ xs. with_block was (figures xs)) is
          ∙ single-resized number item cs rising at.there laid 8 was block
          (c.allocated.ensures ∙ ap (λ (m : Content). allocated m.blocks) same) f c.args.size refl
          (ap (λ (m : Content). length m.blocks) made)
          (omega (
            arith,
            ap (λ (m : Content). allocated m.blocks) made,
            sum_by-cons (λ (b : BlockAt). b.size)
                (record { name = c.args.name; offset = 8; size = c.args.size }) [],
          ))));
    }

pub returns : goal.returns
returns c =
    let cs : List Content = c.self.inside.list.items in
    let item = c.index_mut.result.now in
    let f : Content → Content = λ m. resized m 8 c.args.size c.args.name in
    let at = at_index cs _ _ c.args.number item c.deref.ensures.value
    c.index_of-index.ensures.within c.index_of-index.ensures.item c.index_mut.ensures.value in
    let block = block-there (λ b. IsSome b) cs c.args.number 8 item at.there
    (subst (λ (xs : List Content). IsSome (block_in xs (record {
      carrier = c.args.number;
      offset = 8;
    }))) (sym c.self.view_is) c.requires.block) in
    set_is_changed f cs c.index_of-index.result c.args.number item _ at c.self.invariant.rising
    (c.resize.ensures.resized block) ∙ ap (changed f c.args.number) c.self.view_is
