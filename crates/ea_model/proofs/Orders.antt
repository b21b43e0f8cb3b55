-- Strict orders by a number, and by several.
use Rattle.std.proofs.Common.{◌≡◌, ℕ, ◌<◌, ◌≤◌, Bool, true, false, sym, ◌∙◌, inl, inr, ◌⊎◌, arith}
use Rattle.std.specs.Prelude.{nat_lt}
use Rattle.std.specs.Cmp.{IsStrictWeakOrder}
use Rattle.std.proofs.lemmas.Bool.{cases_lt}
use Rattle.ea_model.specs.Choice.{less}

-- the least number first, and the greatest
module _ {A : Type 0} (key : A → ℕ) where
  rising_one_way : (a b : A) → nat_lt (key a) (key b) ≡ true → nat_lt (key b) (key a) ≡ false
  rising_one_way a b h = grind arith

  rising_chain : (a b c : A) → nat_lt (key a) (key b) ≡ false → nat_lt (key b) (key c) ≡ false
      → nat_lt (key a) (key c) ≡ false
  rising_chain a b c h k = grind arith

  pub rising-order : IsStrictWeakOrder (λ a b. nat_lt (key a) (key b))
  rising-order = record { one_way = rising_one_way; chain = rising_chain }

  pub falling-order : IsStrictWeakOrder (λ a b. nat_lt (key b) (key a))
  falling-order =
      record {
        one_way = λ a b h. rising_one_way b a h;
        chain = λ a b c h k. rising_chain c b a k h;
      }

less-true-le : (x y : ℕ) (r : Bool) → less x y r ≡ true → y ≤ x → x ≤ y
less-true-le x y r h le = grind arith

less-true-rest : (x y : ℕ) (r : Bool) → less x y r ≡ true → y ≤ x → r ≡ true
less-true-rest x y r h le = grind arith

less-false-same : (x y : ℕ) (r : Bool) → less x y r ≡ false → x ≤ y → (x ≡ y) × (r ≡ false)
less-false-same x y r h le = grind arith

less-true : (x y : ℕ) (r : Bool) → less x y r ≡ true → (x < y) ⊎ ((x ≡ y) × (r ≡ true))
less-true x y r h = elim
    (cases_lt x y) [
      | inl lt ↦ inl lt
      | inr le ↦ inr
          (omega (arith, less-true-le x y r h le), less-true-rest x y r h le)
    ]

less-false : (x y : ℕ) (r : Bool) → less x y r ≡ false → (y < x) ⊎ ((x ≡ y) × (r ≡ false))
less-false x y r h = elim
    (cases_lt y x) [ inl lt ↦ inl lt | inr le ↦ inr (less-false-same x y r h le) ]

less-above : (x y : ℕ) (r : Bool) → y < x → less x y r ≡ false
less-above x y r h = grind arith

less-same : (x y : ℕ) (r : Bool) → x ≡ y → r ≡ false → less x y r ≡ false
less-same x y r e h = grind arith

-- by a number, and among equals by another order
module _ {A : Type 0} (key : A → ℕ) (t : A → A → Bool) (o : IsStrictWeakOrder t) where
  less_one_way : (a b : A) → less (key a) (key b) (t a b) ≡ true
      → less (key b) (key a) (t b a) ≡ false
  less_one_way a b h =
      elim (less-true (key a) (key b) (t a b) h) [
        | inl lt ↦ less-above (key b) (key a) (t b a) lt
        | inr eq ↦ less-same (key b) (key a) (t b a) (sym eq.0) (o.one_way a b eq.1)
      ]

  less_chain : (a b c : A) → less (key a) (key b) (t a b) ≡ false
      → less (key b) (key c) (t b c) ≡ false → less (key a) (key c) (t a c) ≡ false
  less_chain a b c h k =
      elim (less-false (key a) (key b) (t a b) h) [
        | inl lt ↦ elim (less-false (key b) (key c) (t b c) k) [
          | inl lt2 ↦ less-above (key a) (key c) (t a c) (omega arith)
          | inr eq2 ↦ less-above (key a) (key c) (t a c) (omega (arith, eq2.0))
        ]
        | inr eq ↦ elim (less-false (key b) (key c) (t b c) k) [
          | inl lt2 ↦ less-above (key a) (key c) (t a c) (omega (arith, eq.0))
          | inr eq2 ↦ less-same (key a) (key c) (t a c) (eq.0 ∙ eq2.0) (o.chain a b c eq.1 eq2.1)
        ]
      ]

  pub less-order : IsStrictWeakOrder (λ a b. less (key a) (key b) (t a b))
  less-order = record { one_way = less_one_way; chain = less_chain }
