-- Sums over lists of lists, and over numbers from 1 on.
use Rattle.std.proofs.Common.{◌≡◌, ◌≢◌, ℕ, zero, suc, ◌+◌, ◌≤◌, Bool, true, false, List, [], ◌∷◌}
use Rattle.std.proofs.Common.{refl, ap, arith}
use Rattle.std.specs.Prelude.{filter, flat_map, if◌then◌else◌, not, ◌==◌}
use Rattle.std.specs.List.{range_with_len}
use Rattle.ea_machine.specs.Sums.{sum_over, total}
use Rattle.ea_sound.proofs.Numbered.{total_at-exact}
use Rattle.ea_sound.proofs.Weights.{sum-append}

pub sum-flat : {A B : Type 0} (f : B → ℕ) (g : A → List B) (xs : List A)
    → sum_over f (flat_map g xs) ≡ sum_over (λ x. sum_over f (g x)) xs
sum-flat f g [] = refl
sum-flat f g (x ∷ xs) = omega (arith, sum-append f (g x) (flat_map g xs), sum-flat f g xs)

-- those that pass a test, and those that don't
pub sum-split : {A : Type 0} (f : A → ℕ) (p : A → Bool) (xs : List A)
    → sum_over f (filter (λ x. not (p x)) xs) + sum_over f (filter p xs) ≡ sum_over f xs
sum-split f p [] = refl
sum-split f p (x ∷ xs) = by (p x) (sum-split f p xs) where
  by : (b : Bool) → sum_over f (filter (λ x. not (p x)) xs) + sum_over f (filter p xs)
      ≡ sum_over f xs
      → sum_over f (if not b then x ∷ filter (λ x. not (p x)) xs else filter (λ x. not (p x)) xs)
      + sum_over f (if b then x ∷ filter p xs else filter p xs) ≡ f x + sum_over f xs
  by true h = omega (arith, h)
  by false h = omega (arith, h)

-- a number more at the end
pub range-end : (g : ℕ → ℕ) (a n : ℕ) → sum_over g (range_with_len a (suc n))
    ≡ sum_over g (range_with_len a n) + g (a + n)
range-end g a zero = omega (arith, ap g (plain a)) where
  plain : (a : ℕ) → a + 0 ≡ a
  plain a = omega arith
range-end g a (suc n) = omega (arith, range-end g (a + 1) n, ap g (moved a n)) where
  moved : (a n : ℕ) → a + 1 + n ≡ a + suc n
  moved a n = omega arith

-- a total is the sum from 1 on, and what is at 0
pub total-range : {A : Type 0} (f : A → ℕ) (m : ℕ → A) (n : ℕ)
    → total (suc n) f m ≡ f (m 0) + sum_over (λ i. f (m i)) (range_with_len 1 n)
total-range f m zero = omega arith
total-range f m (suc n) = omega (
  arith,
  total-range f m n,
  range-end (λ i. f (m i)) 1 n,
  ap (λ i. f (m i)) (one_more n),
) where
  one_more : (n : ℕ) → 1 + n ≡ suc n
  one_more n = omega arith

-- one of the numbers
abbrev pub at_number : ℕ → ℕ → ℕ → ℕ
at_number d v c = if d == c then v else 0

pub range-hit : (d v n : ℕ) → 1 ≤ d → d ≤ n → sum_over (at_number d v) (range_with_len 1 n) ≡ v
range-hit d v n some most = omega (
  arith,
  total-range (λ k. k) (at_number d v) n,
  total_at-exact (λ i k. k) (at_number d v) d (suc n) (λ i other. elsewhere d v i other)
      (λ past. absurd (omega (arith, past, most))),
  here d v,
  elsewhere d v 0 (λ z. omega (arith, z, some)),
) where
  here : (d v : ℕ) → at_number d v d ≡ v
  here d v = grind arith

  elsewhere : (d v i : ℕ) → i ≢ d → at_number d v i ≡ 0
  elsewhere d v i other = grind (arith, other)
