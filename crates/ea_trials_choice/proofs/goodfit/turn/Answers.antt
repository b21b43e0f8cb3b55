use Rattle.std.proofs.Common.{◌≡◌, ◌≢◌, ℕ, ◌<◌, List, ◌∷◌, ◌++◌, length, get_or}
use Rattle.std.proofs.Common.{sym, ap, ◌∙◌, subst, arith}
use Rattle.std.specs.Prelude.{All, None, Some, remove}
use Rattle.std.specs.List.{position_or_len}
use Rattle.std.specs.List.Sorted.{IsPermutation}
use Rattle.std.proofs.lemmas.List.Elements.{All-head, All-tail}
use Rattle.std.proofs.lemmas.List.Sorted.{All-permutation, IsPermutation-cons}
use Rattle.std.proofs.lemmas.List.Sorted.{IsPermutation-insert, IsPermutation-remove}
use Rattle.std.proofs.lemmas.List.Sorted.{IsPermutation-sym, IsPermutation-trans}
use Rattle.ea_model.specs.Keyed.{entered, is_after, item_at}
use Rattle.ea_model.proofs.Options.{same-some}
use Rattle.ea_model.proofs.Rising.{All-entered, insert-entered, none-other}
use Rattle.ea_goodfit.specs.declared.gaps.BinnedGap.{BinnedGap}
use Rattle.ea_goodfit.specs.Gaps.{address_of, some_gap}
use Rattle.ea_trials_choice.proofs.goodfit.turn.Goals as goal

alone : (g : BinnedGap) → 0 < g.size → (rest : List BinnedGap) → some_gap g ++ rest ≡ g ∷ rest
alone g some rest = grind arith

-- the gap at an address, and the others
parted : (gs xs : List BinnedGap) (a i : ℕ) (g : BinnedGap) → gs ≡ xs
    → Some g ≡ item_at address_of gs a → i < length gs
    → item_at address_of gs a ≡ Some (get_or gs i g)
    → IsPermutation xs (g ∷ remove xs i)
parted gs xs a i g same found within at =
    IsPermutation-remove xs i g (subst (λ zs. i < length zs) same within)
    (subst (λ zs. g ≡ get_or zs i g) same
    (same-some (item_at address_of gs a) g (get_or gs i g) (sym found) at))

-- the same, where the bins hold these gaps
taken_out : (held xs : List BinnedGap) (i : ℕ) (g : BinnedGap) → All (λ x. 0 < x.size) xs
    → IsPermutation held xs → IsPermutation xs (g ∷ remove xs i)
    → IsPermutation held (some_gap g ++ remove xs i)
taken_out held xs i g some same apart =
    let left = remove xs i in
    let size = All-head (λ x. 0 < x.size) g left
    (All-permutation (λ x. 0 < x.size) xs (g ∷ left) apart some) in
    subst (IsPermutation held) (sym (alone g size left))
    (IsPermutation-trans held xs (g ∷ left) same apart)

pub take-requires : goal.take-requires
take-requires c = (
  remove c.args.plain.now.items c.index_of-index.result,
  taken_out c.args.bins.now.held c.args.plain.now.items c.index_of-index.result c.in-Some.held
      c.requires.some c.requires.same
      (parted c.as_slice-gaps.result.now c.args.plain.now.items c.args.gap.address
      c.index_of-index.result c.in-Some.held c.as_slice-gaps.ensures.value c.in-Some.ensures
      c.index_of-index.ensures.within (c.index_of-index.ensures.item c.in-Some.held)),
)

pub returns-in-Some-clause-same : goal.returns-in-Some-clause-same
returns-in-Some-clause-same c =
    subst (IsPermutation _) (sym c.remove.ensures.items)
    (c.take.ensures.order (remove c.args.plain.now.items c.index_of-index.result)
    (taken_out c.args.bins.now.held c.args.plain.now.items c.index_of-index.result c.in-Some.held
    c.requires.some c.requires.same
    (parted c.as_slice-gaps.result.now c.args.plain.now.items c.args.gap.address
    c.index_of-index.result c.in-Some.held c.as_slice-gaps.ensures.value c.in-Some.ensures
    c.index_of-index.ensures.within (c.index_of-index.ensures.item c.in-Some.held))))

pub returns-in-Some-clause-some : goal.returns-in-Some-clause-some
returns-in-Some-clause-some c =
    subst (All (λ g. 0 < g.size)) (sym c.remove.ensures.items)
    (All-tail (λ x. 0 < x.size) c.in-Some.held
    (remove c.args.plain.now.items c.index_of-index.result)
    (All-permutation (λ x. 0 < x.size) c.args.plain.now.items _
    (parted c.as_slice-gaps.result.now c.args.plain.now.items c.args.gap.address
    c.index_of-index.result c.in-Some.held c.as_slice-gaps.ensures.value c.in-Some.ensures
    c.index_of-index.ensures.within (c.index_of-index.ensures.item c.in-Some.held))
    c.requires.some))

-- a gap more, in the bins and in the list
put_in : (now room held gs : List BinnedGap) (g : BinnedGap) → 0 < g.size
    → IsPermutation now (some_gap g ++ room) → room ≡ held → IsPermutation held gs
    → IsPermutation now (entered address_of g gs)
put_in now room held gs g some order kept same =
    IsPermutation-trans now (g ∷ held) (entered address_of g gs)
    (subst (λ hs. IsPermutation now (g ∷ hs)) kept
    (subst (IsPermutation now) (alone g some room) order))
    (IsPermutation-trans (g ∷ held) (g ∷ gs) (entered address_of g gs)
    (IsPermutation-cons g held gs same)
    (subst (IsPermutation (g ∷ gs)) (insert-entered address_of g gs)
    (IsPermutation-insert gs (position_or_len (is_after address_of g.address) gs) g)))

none_there : (gs : List BinnedGap) (a : ℕ) → item_at address_of gs a ≡ None
    → All (λ g. g.address ≢ a) gs
none_there gs a none = none-other address_of a gs none

pub put-requires-clause-address : goal.put-requires-clause-address
put-requires-clause-address c = λ _.
    subst (All (λ g. g.address ≢ c.args.gap.address)) (sym c.reserve.ensures.held)
    (All-permutation (λ g. g.address ≢ c.args.gap.address) c.args.plain.now.items
    c.args.bins.now.held
    (IsPermutation-sym c.args.bins.now.held c.args.plain.now.items c.requires.same)
    (none_there c.args.plain.now.items c.args.gap.address
    (ap (λ gs. item_at address_of gs c.args.gap.address) (sym c.as_slice-gaps.ensures.value)
    ∙ sym c.in_default.ensures)))

pub returns-clause-same : goal.returns-clause-same
returns-clause-same c =
    subst (IsPermutation _) (sym c.in_ok-enter.ensures)
    (put_in _ _ c.args.bins.now.held c.args.plain.now.items c.args.gap c.requires.size
    c.put.ensures.order c.reserve.ensures.held c.requires.same)

pub returns-clause-some : goal.returns-clause-some
returns-clause-some c =
    subst (All (λ g. 0 < g.size)) (sym c.in_ok-enter.ensures)
    (All-entered address_of (λ g. 0 < g.size) c.args.gap c.args.plain.now.items c.requires.size
    c.requires.some)
