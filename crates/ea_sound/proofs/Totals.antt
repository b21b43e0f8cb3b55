-- Maps with another value at a number, and their totals.
use Rattle.std.proofs.Common.{◌≡◌, ◌≢◌, ℕ, zero, suc, ◌+◌, ◌<◌, ◌≤◌, refl, sym, ap, ◌∙◌, subst, inl}
use Rattle.std.proofs.Common.{inr, arith}
use Rattle.std.proofs.lemmas.Bool.{cases_eq}
use Rattle.ea_machine.specs.Shared.{put}
use Rattle.ea_machine.specs.Sums.{total, total_at}

pub put-here : {A : Type 0} (m : ℕ → A) (k : ℕ) (v : A) (n : ℕ) → n ≡ k → put m k v n ≡ v
put-here m k v n e = grind arith

pub put-other : {A : Type 0} (m : ℕ → A) (k : ℕ) (v : A) (n : ℕ) → n ≢ k → put m k v n ≡ m n
put-other m k v n e = grind arith

-- what holds at the new value and of the map
pub put-all : {A : Type 0} (P : ℕ → A → Type 0) (m : ℕ → A) (k : ℕ) (v : A) → P k v
    → ((i : ℕ) → P i (m i)) → (i : ℕ) → P i (put m k v i)
put-all P m k v here h i =
    elim (cases_eq i k) [
      | inl q ↦ subst (P i) (sym (put-here m k v i q)) (subst (λ j. P j v) (sym q) here)
      | inr n ↦ subst (P i) (sym (put-other m k v i n)) (h i)
    ]

-- a value past the end doesn't count
pub total_at_past : {A : Type 0} (f : ℕ → A → ℕ) (m : ℕ → A) (k : ℕ) (v : A) (n : ℕ) → n ≤ k
    → total_at n f (put m k v) ≡ total_at n f m
total_at_past f m k v zero h = refl
total_at_past f m k v (suc n) h = omega (
  arith,
  total_at_past f m k v n (omega arith),
  ap (f n) (put-other m k v n (λ e. omega arith)),
)

-- one value changes the total by the difference
pub total_at-put : {A : Type 0} (f : ℕ → A → ℕ) (m : ℕ → A) (k : ℕ) (v : A) (n : ℕ) → k < n
    → total_at n f (put m k v) + f k (m k) ≡ total_at n f m + f k v
total_at-put f m k v zero h = absurd (omega arith)
total_at-put f m k v (suc n) h =
    elim (cases_eq n k) [
      | inl e ↦ omega (
        arith,
        total_at_past f m k v n (omega (arith, e)),
        ap (f n) (put-here m k v n e),
        ap (λ (i : ℕ). f i (m i)) e,
        ap (λ (i : ℕ). f i v) e,
      )
      | inr ne ↦ omega
          (arith, total_at-put f m k v n (omega (arith, ne)), ap (f n) (put-other m k v n ne))
    ]

-- a value is at most the total
pub total_at-part : {A : Type 0} (f : ℕ → A → ℕ) (m : ℕ → A) (k n : ℕ) → k < n
    → f k (m k) ≤ total_at n f m
total_at-part f m k zero h = absurd (omega arith)
total_at-part f m k (suc n) h =
    elim (cases_eq n k) [
      | inl e ↦ omega (arith, ap (λ (i : ℕ). f i (m i)) e)
      | inr ne ↦ omega (arith, total_at-part f m k n (omega (arith, ne)))
    ]

pub total_at-none : {A : Type 0} (f : ℕ → A → ℕ) (m : ℕ → A) (n : ℕ)
    → ((i : ℕ) → i < n → f i (m i) ≡ 0) → total_at n f m ≡ 0
total_at-none f m zero h = refl
total_at-none f m (suc n) h = omega (
  arith,
  total_at-none f m n (λ i l. h i (omega arith)),
  h n (omega arith),
)

-- a total where only one number weighs something
pub total_at-only : {A : Type 0} (f : ℕ → A → ℕ) (m : ℕ → A) (k n : ℕ)
    → ((i : ℕ) → i < n → i ≢ k → f i (m i) ≡ 0) → total_at n f m ≤ f k (m k)
total_at-only f m k zero h = omega arith
total_at-only f m k (suc n) h =
    elim (cases_eq n k) [
      | inl e ↦ omega (
        arith,
        ap (λ (i : ℕ). f i (m i)) e,
        total_at-none f m n (λ i l. h i (omega arith) (λ s. omega (arith, s, e))),
      )
      | inr ne ↦ omega
          (arith, total_at-only f m k n (λ i l d. h i (omega arith) d), h n (omega arith) ne)
    ]

-- where only k weighs, and there is weight, k is below the end
pub total_at-within : {A : Type 0} (f : ℕ → A → ℕ) (m : ℕ → A) (k n : ℕ)
    → ((i : ℕ) → i ≢ k → f i (m i) ≡ 0) → 1 ≤ total_at n f m → k < n
total_at-within f m k zero h l = absurd (omega (arith, l))
total_at-within f m k (suc n) h l =
    elim (cases_eq n k) [
      | inl q ↦ omega (arith, q)
      | inr ne ↦ omega (arith, total_at-within f m k n h (omega (arith, l, h n ne)))
    ]

-- two weights that agree
pub total_at-same : {A : Type 0} (f g : ℕ → A → ℕ) (m : ℕ → A) (n : ℕ)
    → ((i : ℕ) → i < n → f i (m i) ≡ g i (m i)) → total_at n f m ≡ total_at n g m
total_at-same f g m zero h = refl
total_at-same f g m (suc n) h = omega (
  arith,
  total_at-same f g m n (λ i l. h i (omega arith)),
  h n (omega arith),
)

-- the same of totals where the number doesn't count
module _ {A : Type 0} (f : A → ℕ) (m : ℕ → A) where
  abbrev by : ℕ → A → ℕ
  by i = f

  pub total-is : (n : ℕ) → total n f m ≡ total_at n by m
  total-is zero = refl
  total-is (suc n) = omega (arith, total-is n)

  pub total-part : (k n : ℕ) → k < n → f (m k) ≤ total n f m
  total-part k n h = omega (arith, total-is n, total_at-part by m k n h)

  pub total-none : (n : ℕ) → ((i : ℕ) → i < n → f (m i) ≡ 0) → total n f m ≡ 0
  total-none n h = total-is n ∙ total_at-none by m n h

pub total-put : {A : Type 0} (f : A → ℕ) (m : ℕ → A) (k : ℕ) (v : A) (n : ℕ) → k < n
    → total n f (put m k v) + f (m k) ≡ total n f m + f v
total-put f m k v n h =
    omega (arith, total-is f (put m k v) n, total-is f m n, total_at-put (λ i. f) m k v n h)
