-- Lists that rise strictly by a number are determined by their members.
use Rattle.std.proofs.Common.{◌≡◌, ℕ, ◌<◌, ◌⊎◌, inl, inr, List, [], ◌∷◌, refl, sym, ap, ◌∙◌}
use Rattle.std.proofs.Common.{arith, subst}
use Rattle.std.specs.Prelude.{⊤}
use Rattle.std.specs.List.{AllByRecursion}

-- being a member, by cases on the list
abbrev pub Has : {X : Type 0} → X → List X → Type 0
Has x [] = ⊥
Has x (y ∷ ys) = (x ≡ y) ⊎ Has x ys

abbrev pub IsRising : {X : Type 0} → (X → ℕ) → List X → Type 0
IsRising n [] = ⊤
IsRising n (x ∷ xs) = AllByRecursion (λ y. n x < n y) xs × IsRising n xs

pub all-has : {X : Type 0} (P : X → Type 0) (x : X) (xs : List X) → AllByRecursion P xs
    → Has x xs → P x
all-has P x [] h m = absurd m
all-has P x (y ∷ ys) h (inl e) = subst P (sym e) h.0
all-has P x (y ∷ ys) h (inr m) = all-has P x ys h.1 m

below : (a b : ℕ) → a < b → b < a → ⊥
below a b p q = omega (arith, p, q)

module _ {X : Type 0} (n : X → ℕ) where
  -- what is before all of a rising list is no member
  before-none : (x : X) (xs : List X) → AllByRecursion (λ y. n x < n y) xs → Has x xs → ⊥
  before-none x xs h m = below (n x) (n x) (all-has (λ y. n x < n y) x xs h m)
      (all-has (λ y. n x < n y) x xs h m)

  same-first : (x y : X) (xs ys : List X) → AllByRecursion (λ z. n x < n z) xs
      → AllByRecursion (λ z. n y < n z) ys → Has x (y ∷ ys) → Has y (x ∷ xs) → x ≡ y
  same-first x y xs ys after-x after-y (inl e) m = e
  same-first x y xs ys after-x after-y (inr l) (inl e) = sym e
  same-first x y xs ys after-x after-y (inr l) (inr m) = absurd (below (n x) (n y)
      (all-has (λ z. n x < n z) y xs after-x m) (all-has (λ z. n y < n z) x ys after-y l))

  -- a member of the one tail is one of the other
  tail-has : (x y : X) (xs ys : List X) → x ≡ y → AllByRecursion (λ z. n x < n z) xs
      → ((z : X) → Has z (x ∷ xs) → Has z (y ∷ ys)) → (z : X) → Has z xs → Has z ys
  tail-has x y xs ys e after-x within z m = elim (within z (inr m)) [
    | inl same ↦ absurd (before-none x xs after-x (subst (λ w. Has w xs) (same ∙ sym e) m))
    | inr l ↦ l
  ]

  pub rising-same : (xs ys : List X) → IsRising n xs → IsRising n ys
      → ((z : X) → Has z xs → Has z ys) → ((z : X) → Has z ys → Has z xs) → xs ≡ ys
  rising-same [] [] up-x up-y into back = refl
  rising-same [] (y ∷ ys) up-x up-y into back = absurd (back y (inl refl))
  rising-same (x ∷ xs) [] up-x up-y into back = absurd (into x (inl refl))
  rising-same (x ∷ xs) (y ∷ ys) up-x up-y into back =
      let e : x ≡ y = same-first x y xs ys up-x.0 up-y.0 (into x (inl refl)) (back y (inl refl)) in
      ap (λ z. z ∷ xs) e
      ∙ ap (λ zs. y ∷ zs) (rising-same xs ys up-x.1 up-y.1
      (tail-has x y xs ys e up-x.0 into)
      (tail-has y x ys xs (sym e) up-y.0 back))
