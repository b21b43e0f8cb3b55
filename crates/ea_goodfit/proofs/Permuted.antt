-- Gaps in another order, with one more and without one.
use Rattle.std.proofs.Common.{◌≡◌, ℕ, suc, ◌+◌, ◌<◌, ◌≤◌, true, false, List, [], ◌∷◌, length}
use Rattle.std.proofs.Common.{get_or, sym, ap, ◌∙◌, subst, inl, inr, arith}
use Rattle.std.specs.Prelude.{if◌then◌else◌, remove, sum_by, All, AllPairs}
use Rattle.std.specs.List.Sorted.{IsPermutation}
use Rattle.std.specs.List.{position_or_len}
use Rattle.std.proofs.lemmas.Bool.{cases_Bool, cond-true, cond-false}
use Rattle.std.proofs.lemmas.List.Elements.{All-head, All-tail}
use Rattle.std.proofs.lemmas.List.Sums.{sum_by-cons}
use Rattle.std.proofs.lemmas.List.Sorted.{IsPermutation-refl, IsPermutation-sym}
use Rattle.std.proofs.lemmas.List.Sorted.{IsPermutation-trans, IsPermutation-cons}
use Rattle.std.proofs.lemmas.List.Sorted.{IsPermutation-middle, IsPermutation-remove}
use Rattle.std.proofs.lemmas.List.Sorted.{IsPermutation-insert, sum_by-IsPermutation}
use Rattle.ea_goodfit.specs.declared.gaps.BinnedGap.{BinnedGap}
use Rattle.ea_goodfit.specs.Gaps.{address_of, is_held, is_same, IsBelow}
use Rattle.ea_model.specs.Keyed.{is_after, entered, without}
use Rattle.ea_model.proofs.Pairs.{pairs_head, pairs_tail}
use Rattle.ea_model.proofs.Rising.{insert-entered, others, without_here, without_none, without_past}
use Rattle.ea_goodfit.proofs.Lists.{held_past, same_parts}

-- how often a gap is among them
abbrev times : BinnedGap → BinnedGap → ℕ
times p g = if is_same p g then 1 else 0

abbrev count : BinnedGap → List BinnedGap → ℕ
count p gs = sum_by (times p) gs

pub is_same-gap : (p g : BinnedGap) → is_same p g ≡ true → g ≡ p
is_same-gap p g t =
    let parts = same_parts p g t in
    ap (λ a. record { address = a; size = g.size }) parts.0
    ∙ ap (λ s. record { address = p.address; size = s }) parts.1

is_same-self : (g : BinnedGap) → is_same g g ≡ true
is_same-self g = grind arith

count-here : (p g : BinnedGap) (gs : List BinnedGap) → is_same p g ≡ true
    → count p (g ∷ gs) ≡ 1 + count p gs
count-here p g gs t = omega
    (arith, sum_by-cons (times p) g gs, cond-true {A = ℕ} (is_same p g) 1 0 t)

count-past : (p g : BinnedGap) (gs : List BinnedGap) → is_same p g ≡ false
    → count p (g ∷ gs) ≡ count p gs
count-past p g gs f = omega
    (arith, sum_by-cons (times p) g gs, cond-false {A = ℕ} (is_same p g) 1 0 f)

-- a gap that is among them has a place
placed_at : (p : BinnedGap) (gs : List BinnedGap) → 1 ≤ count p gs → (i : ℕ) × (i < length gs)
    × (p ≡ get_or gs i p)
placed_at p [] some = absurd (omega arith)
placed_at p (g ∷ gs) some =
    elim (cases_Bool (is_same p g)) [
      | inl t ↦ (0, omega arith, sym (is_same-gap p g t))
      | inr f ↦ let more = placed_at p gs (omega (arith, count-past p g gs f)) in
          (suc more.0, omega (arith, more.1), more.2)
    ]

-- gaps that are as often among some as among others
from_counts : (xs ys : List BinnedGap) → ((p : BinnedGap) → count p xs ≡ count p ys)
    → IsPermutation xs ys
from_counts [] [] h = IsPermutation-refl []
from_counts [] (y ∷ ys) h = absurd (omega (arith, h y, count-here y y ys (is_same-self y)))
from_counts (x ∷ xs) ys h =
    let at = placed_at x ys (omega (arith, h x, count-here x x xs (is_same-self x))) in
    let moved = IsPermutation-remove ys at.0 x at.1 at.2 in
    IsPermutation-trans (x ∷ xs) (x ∷ remove ys at.0) ys
    (IsPermutation-cons x xs (remove ys at.0)
    (from_counts xs (remove ys at.0)
    (λ p. omega (
      arith,
      h p,
      sum_by-IsPermutation (times p) ys (x ∷ remove ys at.0) moved,
      sum_by-cons (times p) x xs,
      sum_by-cons (times p) x (remove ys at.0),
    ))))
    (IsPermutation-sym ys (x ∷ remove ys at.0) moved)

-- without the same first gap
pub IsPermutation-tail : (g : BinnedGap) (xs ys : List BinnedGap) → IsPermutation (g ∷ xs) (g ∷ ys)
    → IsPermutation xs ys
IsPermutation-tail g xs ys m =
    from_counts xs ys
    (λ p. omega (
      arith,
      sum_by-IsPermutation (times p) (g ∷ xs) (g ∷ ys) m,
      sum_by-cons
          (times p) g xs,
      sum_by-cons (times p) g ys,
    ))

-- with one gap more they are that gap and the others
pub entered-permuted : (g : BinnedGap) (gs : List BinnedGap)
    → IsPermutation (entered address_of g gs) (g ∷ gs)
entered-permuted g gs =
    IsPermutation-sym (g ∷ gs) (entered address_of g gs)
    (subst (IsPermutation (g ∷ gs)) (insert-entered address_of g gs)
    (IsPermutation-insert gs (position_or_len (is_after address_of g.address) gs) g))

-- a gap that is held lies above the first one, or is the first one
above : (g h : BinnedGap) (gs : List BinnedGap) → All (IsBelow h) gs → is_held g gs ≡ true
    → h.address < g.address
above g h [] a t = absurd cc
above g h (x ∷ gs) a t =
    elim (cases_Bool (is_same g x)) [
      | inl s ↦ omega (arith, All-head (IsBelow h) x gs a, (same_parts g x s).0)
      | inr f ↦ above g h gs (All-tail (IsBelow h) x gs a) (held_past g x gs f t)
    ]

-- they are the gap that is taken out and those that are left
pub held-permuted : (g : BinnedGap) (gs : List BinnedGap) → AllPairs IsBelow gs
    → is_held g gs ≡ true
    → IsPermutation gs (g ∷ without address_of g.address gs)
held-permuted g [] r t = absurd cc
held-permuted g (h ∷ gs) r t =
    elim (cases_Bool (is_same g h)) [
      | inl s ↦
          let left : without address_of g.address (h ∷ gs) ≡ gs = without_here address_of g.address
          h gs (same_parts g h s).0
          ∙ without_none address_of g.address gs
          (others address_of g.address h gs r (same_parts g h s).0) in
          subst (λ xs. IsPermutation (h ∷ gs) (g ∷ xs)) (sym left)
          (subst (λ x. IsPermutation (h ∷ gs) (x ∷ gs)) (is_same-gap g h s)
          (IsPermutation-refl (h ∷ gs)))
      | inr f ↦
          let more : is_held g gs ≡ true = held_past g h gs f t in
          let over : h.address < g.address = above g h gs (pairs_head IsBelow h gs r) more in
          subst (λ xs. IsPermutation (h ∷ gs) (g ∷ xs))
          (sym (without_past address_of g.address h gs (λ e. omega arith)))
          (IsPermutation-trans (h ∷ gs) (h ∷ g ∷ without address_of g.address gs)
          (g ∷ h ∷ without address_of g.address gs)
          (IsPermutation-cons h gs (g ∷ without address_of g.address gs)
          (held-permuted g gs (pairs_tail IsBelow h gs r) more))
          (IsPermutation-middle (h ∷ []) g (without address_of g.address gs)))
    ]

-- the gaps that are left where one is taken out
pub left-permuted : (g : BinnedGap) (gs : List BinnedGap) → AllPairs IsBelow gs
    → is_held g gs ≡ true → (rest : List BinnedGap) → IsPermutation gs (g ∷ rest)
    → IsPermutation (without address_of g.address gs) rest
left-permuted g gs r t rest m =
    let left = without address_of g.address gs in
    IsPermutation-tail g left rest
    (IsPermutation-trans (g ∷ left) gs (g ∷ rest)
    (IsPermutation-sym gs (g ∷ left) (held-permuted g gs r t)) m)
