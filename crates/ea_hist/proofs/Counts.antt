-- Counts of sizes, as one more size comes, and their sums.
use Rattle.std.proofs.Common.{◌≡◌, ◌≢◌, ℕ, zero, suc, ◌+◌, ◌<◌, ◌≤◌, ◌==◌, List, []}
use Rattle.std.proofs.Common.{◌∷◌, ◌++◌, map, length, set, get_or, refl, sym, ap, ◌∙◌, arith, inl, inr}
use Rattle.std.specs.Prelude.{filter, flat_map, sum_by}
use Rattle.std.specs.List.{range_with_len}
use Rattle.std.proofs.lemmas.Bool.{cases_eq}
use Rattle.std.proofs.lemmas.List.{length-append, length-map}
use Rattle.std.proofs.lemmas.List.Elements.{filter-append}
use Rattle.std.proofs.lemmas.List.FromFn.{get_or-map-range_with_len, length-range_with_len}
use Rattle.std.proofs.lemmas.List.Sums.{sum_by-cons}
use mathlib.Core.Path.{fun_ext}
use Rattle.ea_instance.specs.declared.layouts.Layout.{Layout}
use Rattle.ea_hist.specs.Intervals.{count_in, counts, interval_of}
use Rattle.ea_hist.specs.Text.{sums}

-- of two lists together
count-append : (j : ℕ) (xs ys : List ℕ) → count_in j (xs ++ ys) ≡ count_in j xs + count_in j ys
count-append j xs ys = ap length (filter-append (λ u. interval_of u == j) xs ys)
    ∙ length-append (filter (λ u. interval_of u == j) xs) (filter (λ u. interval_of u == j) ys)

-- not more than there are
pub count-most : (j : ℕ) (xs : List ℕ) → count_in j xs ≤ length xs
count-most j [] = omega arith
count-most j (x ∷ xs) = elim (cases_eq (interval_of x) j) [
  | inl e ↦ grind (arith, e, count-most j xs)
  | inr n ↦ grind (arith, n, count-most j xs)
]

one-here : (j u : ℕ) → interval_of u ≡ j → count_in j (u ∷ []) ≡ 1
one-here j u e = grind (arith, e)

one-other : (j u : ℕ) → interval_of u ≢ j → count_in j (u ∷ []) ≡ 0
one-other j u n = grind (arith, n)

pub counts-at : (xs : List ℕ) (k d : ℕ) → k < 18 → get_or (counts xs) k d ≡ count_in (k + 1) xs
unfolding counts
counts-at xs k d less = get_or-map-range_with_len (λ j. count_in j xs) 1 18 k (k + 1) d less
    (omega arith)

-- two functions that are the same but at t, where the one is one more
module _ (f g : ℕ → ℕ) (t : ℕ) (here : g t ≡ f t + 1) (others : (j : ℕ) → j ≢ t → g j ≡ f j) where
  same-past : (n s : ℕ) → t < s → map f (range_with_len s n) ≡ map g (range_with_len s n)
  same-past zero s past = refl
  same-past (suc n) s past =
      ap (λ x. x ∷ map f (range_with_len (s + 1) n)) (sym (others s (λ e. omega (arith, e, past))))
      ∙ ap (λ xs. g s ∷ xs) (same-past n (s + 1) (omega (arith, past)))

  one-set : (n s k : ℕ) → k < n → s + k ≡ t
      → set (map f (range_with_len s n)) k (f t + 1) ≡ map g (range_with_len s n)
  one-set zero s k less at = absurd (omega (arith, less))
  one-set (suc n) s zero less at =
      let same : t ≡ s = omega (arith, at) in
      ap (λ x. x ∷ map f (range_with_len (s + 1) n)) (sym here ∙ ap g same)
      ∙ ap (λ xs. g s ∷ xs) (same-past n (s + 1) (omega (arith, same)))
  one-set (suc n) s (suc k) less at =
      ap (λ x. x ∷ set (map f (range_with_len (s + 1) n)) k (f t + 1))
      (sym (others s (λ e. omega (arith, e, at))))
      ∙ ap (λ xs. g s ∷ xs) (one-set n (s + 1) k (omega (arith, less)) (omega (arith, at)))

-- one more size
pub one-more : (xs : List ℕ) (u k : ℕ) → k + 1 ≡ interval_of u → k < 18
    → set (counts xs) k (count_in (k + 1) xs + 1) ≡ counts (xs ++ u ∷ [])
unfolding counts
one-more xs u k is less =
    one-set (λ j. count_in j xs) (λ j. count_in j (xs ++ u ∷ [])) (k + 1)
    (count-append (k + 1) xs (u ∷ [])
    ∙ ap (λ n. count_in (k + 1) xs + n) (one-here (k + 1) u (sym is)))
    (λ j n. omega (
      arith,
      count-append j xs (u ∷ []),
      one-other j u (λ e. n (sym e ∙ sym is)),
    ))
    18 1 k less (omega arith)

-- the counts of all sizes together are the sums
count-sum : (sizes_in : Layout → List ℕ) (j : ℕ) (ls : List Layout)
    → count_in j (flat_map sizes_in ls) ≡ sum_by (λ l. count_in j (sizes_in l)) ls
count-sum sizes_in j [] = refl
count-sum sizes_in j (l ∷ ls) =
    count-append j (sizes_in l) (flat_map sizes_in ls)
    ∙ ap (λ n. count_in j (sizes_in l) + n) (count-sum sizes_in j ls)
    ∙ sym (sum_by-cons (λ (l : Layout). count_in j (sizes_in l)) l ls)

pub counts-sums : (sizes_in : Layout → List ℕ) (ls : List Layout)
    → counts (flat_map sizes_in ls) ≡ sums sizes_in ls
unfolding counts sums
counts-sums sizes_in ls =
    ap (λ f. map f (range_with_len 1 18)) (fun_ext (λ j. count-sum sizes_in j ls))
