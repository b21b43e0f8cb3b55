-- Weights of lists.
use Rattle.std.proofs.Common.{◌≡◌, ◌≢◌, ℕ, ◌+◌, ◌≤◌, true, false, List, [], ◌∷◌, ◌++◌, map, refl}
use Rattle.std.proofs.Common.{arith}
use Rattle.std.specs.Prelude.{Bool, All, sum_by, filter, ◌==◌}
use Rattle.std.proofs.lemmas.Bool.{cond_both}
use Rattle.std.proofs.lemmas.List.Elements.{All-head, All-tail}
use Rattle.std.proofs.lemmas.List.Sums.{sum_by-cons}
use Rattle.ea_machine.specs.Sums.{one_if, sum_over}

-- weights are a sum
pub sum_by-sum_over : {A : Type 0} (f : A → ℕ) (xs : List A) → sum_by f xs ≡ sum_over f xs
sum_by-sum_over f [] = refl
sum_by-sum_over f (x ∷ xs) = omega (arith, sum_by-cons f x xs, sum_by-sum_over f xs)

pub sum-append : {A : Type 0} (f : A → ℕ) (xs ys : List A)
    → sum_over f (xs ++ ys) ≡ sum_over f xs + sum_over f ys
sum-append f [] ys = omega arith
sum-append f (x ∷ xs) ys = omega (arith, sum-append f xs ys)

pub sum-map : {A B : Type 0} (f : B → ℕ) (g : A → B) (xs : List A)
    → sum_over f (map g xs) ≡ sum_over (λ x. f (g x)) xs
sum-map f g [] = refl
sum-map f g (x ∷ xs) = omega (arith, sum-map f g xs)

-- the parts of a weight
pub sum-both : {A : Type 0} (f g : A → ℕ) (xs : List A)
    → sum_over (λ x. f x + g x) xs ≡ sum_over f xs + sum_over g xs
sum-both f g [] = refl
sum-both f g (x ∷ xs) = omega (arith, sum-both f g xs)

-- weights that agree on each of them
pub sum-same : {A : Type 0} (f g : A → ℕ) (xs : List A) → All (λ x. f x ≡ g x) xs
    → sum_over f xs ≡ sum_over g xs
sum-same f g [] same = refl
sum-same f g (x ∷ xs) same = omega (
  arith,
  All-head (λ x. f x ≡ g x) x xs same,
  sum-same f g xs (All-tail (λ x. f x ≡ g x) x xs same),
)

pub sum-less : {A : Type 0} (f g : A → ℕ) (xs : List A) → All (λ x. f x ≤ g x) xs
    → sum_over f xs ≤ sum_over g xs
sum-less f g [] less = omega arith
sum-less f g (x ∷ xs) less = omega (
  arith,
  All-head (λ x. f x ≤ g x) x xs less,
  sum-less f g xs (All-tail (λ x. f x ≤ g x) x xs less),
)

pub sum-zero : {A : Type 0} (f : A → ℕ) (xs : List A) → All (λ x. f x ≡ 0) xs → sum_over f xs ≡ 0
sum-zero f [] zero = refl
sum-zero f (x ∷ xs) zero = omega (
  arith,
  All-head (λ x. f x ≡ 0) x xs zero,
  sum-zero f xs (All-tail (λ x. f x ≡ 0) x xs zero),
)

-- where k weighs nothing, f weighs nothing
pub sum-none : {A : Type 0} (k f : A → ℕ) (xs : List A) → ((x : A) → k x ≡ 0 → f x ≡ 0)
    → sum_over k xs ≡ 0 → sum_over f xs ≡ 0
sum-none k f [] h e = refl
sum-none k f (x ∷ xs) h e =
    omega (arith, h x (omega (arith, e)), sum-none k f xs h (omega (arith, e)))

-- those that pass a test sum_over no more than all
pub sum-filter : {A : Type 0} (f : A → ℕ) (p : A → Bool) (xs : List A)
    → sum_over f (filter p xs) ≤ sum_over f xs
sum-filter f p [] = omega arith
sum-filter f p (x ∷ xs) =
    cond_both (p x) (x ∷ filter p xs) (filter p xs) (λ ys. sum_over f ys ≤ f x + sum_over f xs)
    (λ _. omega (arith, sum-filter f p xs)) (λ _. omega (arith, sum-filter f p xs))

-- how often: once at most, and once where it is so
pub one-most : (b : Bool) → one_if b ≤ 1
one-most true = omega arith
one-most false = omega arith

pub one-itself : (n : ℕ) → one_if (n == n) ≡ 1
one-itself n = grind arith

pub one-other : (n m : ℕ) → n ≢ m → one_if (n == m) ≡ 0
one-other n m other = grind (arith, other)
