-- Sums over lists, and over what is numbered.
use Rattle.std.specs.Prelude.{ℕ, zero, suc, ◌+◌, Bool, if◌then◌else◌, List, [], ◌∷◌}

-- 1 if it is so, and else 0
abbrev pub one_if : Bool → ℕ
one_if b = if b then 1 else 0

-- the sum of what f gives for the items of a list; it unfolds item by item, as std's `sum_by` does
-- not
abbrev pub sum_over : {A : Type 0} → (A → ℕ) → List A → ℕ
sum_over f [] = 0
sum_over f (x ∷ xs) = f x + sum_over f xs

-- the sum of what f gives for the first n of what is numbered from 0 on, with its number
abbrev pub total_at : {A : Type 0} → ℕ → (ℕ → A → ℕ) → (ℕ → A) → ℕ
total_at zero f m = 0
total_at (suc n) f m = total_at n f m + f n (m n)

-- the same where the number doesn't matter
abbrev pub total : {A : Type 0} → ℕ → (A → ℕ) → (ℕ → A) → ℕ
total n f m = total_at n (λ i. f) m
