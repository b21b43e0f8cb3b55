use Rattle.std.proofs.Common.{◌≤◌, ◌<◌, ℕ, All, refl, sym, ap, ◌∙◌, subst}
use Rattle.std.specs.Prelude.{Some, slice_index}
use Rattle.ea_model.specs.declared.carriers.Inner.TheVariants.{Aoff}
use Rattle.ea_model.specs.declared.units.TheConstants.{HEADER_UNITS}
use Rattle.ea_mbc.specs.Indexed.{Indexed}
use Rattle.ea_mbc.proofs.Chosen.{choice-nothing, choice-aoff}
use Rattle.ea_mbc.proofs.Slots.{gap_of, slots-of}
use Rattle.ea_mbc.proofs.index.lowest.Goals as goal

pub returns-in_err-slot : goal.returns-in_err-slot
returns-in_err-slot c = λ s end gs offsets sizes indexed apart.
    let i = subst (λ x. Indexed end x gs) (slots-of s _ _ offsets sizes) indexed in
    c.from_residual.ensures
    ∙ sym (choice-nothing HEADER_UNITS end end _ gs apart i Aoff c.args.need
    (subst (λ n. All (λ v. v < n) c.args.tree.now) c.max.ensures
    (c.in_err-slot.ensures.none.0 refl)))

pub returns : goal.returns
returns c = λ s end gs offsets sizes indexed apart.
    let i = subst (λ x. Indexed end x gs) (slots-of s _ _ offsets sizes) indexed in
    let f = c.in_ok-slot.ensures.found in
    ap (λ o. Some (gap_of o c.value.result)) c.get.ensures
    ∙ ap (λ n. Some (gap_of (slice_index c.args.offsets.now c.in_ok-slot.slot) n)) c.value.ensures
    ∙ sym (choice-aoff HEADER_UNITS end end _ gs apart i c.args.need c.in_ok-slot.slot
    (subst (λ n. n ≤ slice_index c.args.tree.now c.in_ok-slot.slot) c.max.ensures f.great)
    (subst (λ n. (q : ℕ) → q < c.in_ok-slot.slot → slice_index c.args.tree.now q < n) c.max.ensures
    f.first))
