use Rattle.std.proofs.Common.{◌≤◌, ◌<◌, All, refl, sym, ap, ◌∙◌, subst}
use Rattle.std.specs.Prelude.{Some}
use Rattle.ea_model.specs.declared.carriers.Inner.TheVariants.{Aobf}
use Rattle.ea_model.specs.declared.units.TheConstants.{HEADER_UNITS}
use Rattle.ea_mbc.specs.Indexed.{Indexed}
use Rattle.ea_mbc.proofs.Chosen.{choice-nothing, choice-aobf}
use Rattle.ea_mbc.proofs.Slots.{gap_of, slots-of}
use Rattle.ea_mbc.proofs.index.smallest_lowest.Goals as goal

pub returns-in_err-smallest : goal.returns-in_err-smallest
returns-in_err-smallest c = λ s end gs offsets sizes indexed apart.
    let i = subst (λ x. Indexed end x gs) (slots-of s _ _ offsets sizes) indexed in
    c.from_residual.ensures
    ∙ sym (choice-nothing HEADER_UNITS end end _ gs apart i Aobf c.args.need
    (subst (λ n. All (λ s. s < n) c.args.map.now.held) c.max.ensures
    (c.in_err-smallest.ensures.none.0 refl)))

pub returns : goal.returns
returns c = λ s end gs offsets sizes indexed apart.
    let i = subst (λ x. Indexed end x gs) (slots-of s _ _ offsets sizes) indexed in
    let f = c.in_ok-smallest.ensures.found in
    let at = c.in_ok-smallest.ensures.lowest in
    let size = c.in_ok-smallest.smallest.size in
    ap (λ o. Some (gap_of o size)) c.get.ensures
    ∙ sym (choice-aobf HEADER_UNITS end end _ gs apart i c.args.need size
    c.in_ok-smallest.smallest.position (subst (λ n. n ≤ size) c.max.ensures f.great)
    (subst (λ n. All (λ t. n ≤ t → size ≤ t) c.args.map.now.held) c.max.ensures f.least) at.held
    at.lowest)
