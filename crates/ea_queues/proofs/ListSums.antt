-- Sums over lists, and over the first numbers.
use Rattle.std.proofs.Common.{◌≡◌, ℕ, zero, suc, ◌+◌, ◌<◌, ◌≤◌, List, [], ◌∷◌, length, get_or, set}
use Rattle.std.proofs.Common.{replicate, refl, ap, inl, inr, arith}
use Rattle.std.specs.Prelude.{◌==◌}
use Rattle.std.proofs.lemmas.Bool.{cases_eq}
use Rattle.ea_machine.specs.Sums.{one_if, sum_over}

module _ {A : Type 0} (f : A → ℕ) where
  -- a list with another item has another sum
  pub sum-set : (xs : List A) (i : ℕ) (y d : A) → i < length xs
      → sum_over f (set xs i y) + f (get_or xs i d) ≡ sum_over f xs + f y
  sum-set [] i y d lt = absurd (omega arith)
  sum-set (x ∷ xs) zero y d lt = omega arith
  sum-set (x ∷ xs) (suc i) y d lt = omega (arith, sum-set xs i y d (omega arith))

  pub sum-zero : (xs : List A) (d : A) → ((i : ℕ) → f (get_or xs i d) ≡ 0) → sum_over f xs ≡ 0
  sum-zero [] d z = refl
  sum-zero (x ∷ xs) d z = omega (arith, z 0, sum-zero xs d (λ i. z (suc i)))

  pub sum-same : (n : ℕ) (x : A) → f x ≡ 0 → sum_over f (replicate n x) ≡ 0
  sum-same zero x z = refl
  sum-same (suc n) x z = omega (arith, z, sum-same n x z)

-- the sum of what f gives for the first n numbers
abbrev pub upto : ℕ → (ℕ → ℕ) → ℕ
upto zero f = 0
upto (suc n) f = upto n f + f n

pub upto-zero : (n : ℕ) → upto n (λ k. 0) ≡ 0
upto-zero zero = refl
upto-zero (suc n) = omega (arith, upto-zero n)

pub upto-add : (n : ℕ) (f g : ℕ → ℕ) → upto n (λ k. f k + g k) ≡ upto n f + upto n g
upto-add zero f g = refl
upto-add (suc n) f g = omega (arith, upto-add n f g)

pub upto-most : (n : ℕ) (f : ℕ → ℕ) → ((k : ℕ) → f k ≤ 1) → upto n f ≤ n
upto-most zero f le = omega arith
upto-most (suc n) f le = omega (arith, le n, upto-most n f le)

one-other : (k i : ℕ) → k < i → one_if (k == i) ≡ 0
one-other k i lt = grind arith

one-same : (i : ℕ) → one_if (i == i) ≡ 1
one-same i = grind arith

one-past : (k i : ℕ) → i < k → one_if (k == i) ≡ 0
one-past k i lt = grind arith

upto-before : (n i : ℕ) → n ≤ i → upto n (λ k. one_if (k == i)) ≡ 0
upto-before zero i le = refl
upto-before (suc n) i le =
    omega (arith, upto-before n i (omega arith), one-other n i (omega arith))

-- one of the first n numbers is the number i
pub upto-one : (n i : ℕ) → i < n → upto n (λ k. one_if (k == i)) ≡ 1
upto-one zero i lt = absurd (omega arith)
upto-one (suc n) i lt = elim (cases_eq n i) [
  | inl e ↦
      omega (arith, upto-before n i (omega arith), ap (λ k. one_if (k == i)) e, one-same i)
  | inr other ↦
      omega (arith, upto-one n i (omega arith), one-past n i (omega arith))
]
