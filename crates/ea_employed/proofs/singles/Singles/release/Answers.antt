use Rattle.std.proofs.Common.{List, ap, ◌∙◌, refl, sym, subst}
use Rattle.std.specs.Prelude.{All, IsSome}
use Rattle.ea_model.specs.Content.{Content, allocated, released}
use Rattle.ea_model.specs.Instance.{block_in, changed, figures}
use Rattle.ea_laws.specs.Kept.{number_of, IsLaidOutAlone, IsRising}
use Rattle.ea_model.proofs.Rising.{rising-changed}
use Rattle.ea_employed.specs.Counted.{with_block}
use Rattle.ea_employed.proofs.Changed.{at_index, block-there, same-item, set_is_changed}
use Rattle.ea_employed.proofs.Counting.{cancel-block, single-released}
use Rattle.ea_employed.proofs.singles.Singles.release.Goals as goal

pub invariant_of-self : goal.invariant_of-self
invariant_of-self c =
    let cs : List Content = c.self.inside.list.items in
    let number = c.args.number in
    let offset = c.args.offset in
    let item = c.index_mut.result.now in
    let size = c.allocated.result in
    let f : Content → Content = λ m. released m offset in
    let rising = c.self.invariant.rising in
    let at = at_index cs _ _ number item c.deref.ensures.value
    c.index_of-index.ensures.within c.index_of-index.ensures.item c.index_mut.ensures.value in
    let before = at_index cs _ _ number c.index.result.now c.deref.ensures.value
    c.index_of-index.ensures.within c.index_of-index.ensures.item c.index.ensures in
    let same = same-item cs _ number c.index.result.now item before at in
    let block = block-there (λ b. IsSome b) cs number offset item at.there
    (subst (λ (xs : List Content). IsSome (block_in xs (record {
      carrier = number;
      offset = offset;
    }))) (sym c.self.view_is) c.requires.block) in
    let laid = subst (λ (xs : List Content). All IsLaidOutAlone xs) (sym c.self.view_is)
    c.requires.laid in
    let is = set_is_changed f cs _ _ _ _ at rising c.release.ensures.released in
    record {
      room = c.self.invariant.room;
      rising = subst IsRising (sym is)
          (rising-changed number_of f number (λ m. refl) cs rising);
      counted =
          cancel-block size _ _
          (c.without_block-self-inside.ensures ∙ c.self.invariant.counted
          ∙ sym (ap (λ xs. with_block size (figures xs)) is
          ∙ single-released number item cs rising at.there laid offset size block
          (c.allocated.ensures ∙ ap (λ (m : Content). allocated m.blocks) same) f refl
          (sym (ap (λ (m : Content). m.blocks) c.release.ensures.released)
          ∙ c.release.ensures.gone)));
    }

pub returns : goal.returns
returns c =
    let cs : List Content = c.self.inside.list.items in
    let f : Content → Content = λ x. released x c.args.offset in
    let at = at_index cs _ _ c.args.number c.index_mut.result.now c.deref.ensures.value
    c.index_of-index.ensures.within c.index_of-index.ensures.item c.index_mut.ensures.value in
    set_is_changed f cs _ _ _ _ at c.self.invariant.rising c.release.ensures.released
    ∙ ap (changed f c.args.number) c.self.view_is
