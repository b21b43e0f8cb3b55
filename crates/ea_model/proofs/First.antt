-- The first element by an order, and the elements that are large enough.
use Rattle.std.proofs.Common.{◌≡◌, ℕ, ◌<◌, ◌≤◌, Bool, false, cond, List, [], ◌∷◌, fold, refl, sym}
use Rattle.std.proofs.Common.{◌∙◌, subst, inl, inr, arith}
use Rattle.std.specs.Prelude.{Option, Some, None, IfSome, IsNone, filter, nat_le, All, Contains}
use Rattle.std.specs.Cmp.{IsStrictWeakOrder}
use Rattle.std.proofs.lemmas.Bool.{cases_Bool, cases_lt, cond-true, cond-false, cond_both}
use Rattle.std.proofs.lemmas.Bool.{true≢false}
use Rattle.std.proofs.lemmas.List.Elements.{All-nil, All-cons, All-head, All-tail}
use Rattle.std.proofs.lemmas.List.Elements.{All-contains_itself}
use Rattle.ea_model.specs.Choice.{better, first, IsFirst}
use Rattle.ea_model.proofs.Options.{if_some, both_some}

pub both_All : {A : Type 0} (P Q R : A → Type 0) → ((x : A) → P x → Q x → R x) → (xs : List A)
    → All P xs → All Q xs → All R xs
both_All P Q R f xs p q = λ k d within. f _ (p k d within) (q k d within)

-- what holds of each element holds of the first one
pub first-All : {A : Type 0} (P : A → Type 0) (before : A → A → Bool) (best : Option A)
    (xs : List A) → IfSome best P → All P xs → IfSome (fold (better before) best xs) P
first-All P before best [] b e = b
first-All P before None (x ∷ xs) b e = first-All P before (Some x) xs (All-head P x xs e)
    (All-tail P x xs e)
first-All P before (Some y) (x ∷ xs) b e =
    first-All P before (Some (cond (before x y) x y)) xs
    (cond_both (before x y) x y P (λ _. All-head P x xs e) (λ _. b)) (All-tail P x xs e)

some_stays : {A : Type 0} (before : A → A → Bool) (x : A) (xs : List A)
    → IsNone (fold (better before) (Some x) xs) → ⊥
some_stays before x [] h = true≢false h
some_stays before x (y ∷ ys) h = some_stays before (cond (before y x) y x) ys h

-- only an empty list has no first element
pub first-none : {A : Type 0} (before : A → A → Bool) (xs : List A) → IsNone (first before xs)
    → xs ≡ []
first-none before [] h = refl
first-none before (x ∷ xs) h = absurd (some_stays before x xs h)

-- no element comes before x
abbrev pub IsLeast : {A : Type 0} → (A → A → Bool) → List A → A → Type 0
IsLeast before xs x = All (λ y. before y x ≡ false) xs

module _ {A : Type 0} (before : A → A → Bool) (o : IsStrictWeakOrder before) where
  self_false : (x : A) → before x x ≡ false
  self_false x = elim (cases_Bool (before x x)) [ inl t ↦ o.one_way x x t | inr f ↦ f ]

  -- the best of b and xs is after none of them
  least_from : (b : A) (xs : List A)
      → IfSome (fold (better before) (Some b) xs) (λ r. (before b r ≡ false) × IsLeast before xs r)
  least_from b [] = (self_false b, All-nil (λ y. before y b ≡ false))
  least_from b (x ∷ xs) =
      elim (cases_Bool (before x b)) [
        | inl t ↦ subst (λ z. IfSome (fold (better before) (Some z) xs) (λ r. (before b r ≡ false)
            × IsLeast before (x ∷ xs) r)) (sym (cond-true (before x b) x b t))
            (if_some (fold (better before) (Some x) xs) _ _
            (λ r h. (
              o.chain b x r (o.one_way x b t) h.0,
              All-cons (λ y. before y r ≡ false) x
                  xs h.0 h.1,
            )) (least_from x xs))
        | inr f ↦ subst (λ z. IfSome (fold (better before) (Some z) xs) (λ r. (before b r ≡ false)
            × IsLeast before (x ∷ xs) r)) (sym (cond-false (before x b) x b f))
            (if_some (fold (better before) (Some b) xs) _ _
            (λ r h. (h.0, All-cons (λ y. before y r ≡ false) x xs (o.chain x b r f h.0) h.1))
            (least_from b xs))
      ]

  -- no element comes before the first one
  pub first-IsLeast : (xs : List A) → IfSome (first before xs) (IsLeast before xs)
  first-IsLeast [] = tt
  first-IsLeast (x ∷ xs) = if_some (fold (better before) (Some x) xs) _ _
      (λ r h. All-cons (λ y. before y r ≡ false) x xs h.0 h.1) (least_from x xs)

  pub first-IsFirst : (xs : List A) → IfSome (first before xs) (IsFirst before xs)
  first-IsFirst xs =
      both_some (first before xs) (Contains xs) (IsLeast before xs) (IsFirst before xs)
      (λ x c l. record { among = c; least = l })
      (first-All (Contains xs) before None xs tt (All-contains_itself xs)) (first-IsLeast xs)

-- the elements of at least that many units
module _ {A : Type 0} (size : A → ℕ) (need : ℕ) where
  abbrev large : List A → List A
  large xs = filter (λ x. nat_le need (size x)) xs

  pub large-past : (x : A) (xs : List A) → size x < need → large (x ∷ xs) ≡ large xs
  large-past x xs h = grind arith

  pub large-here : (x : A) (xs : List A) → need ≤ size x → large (x ∷ xs) ≡ x ∷ large xs
  large-here x xs h = grind arith

  large_tail : (x : A) (xs : List A) → large (x ∷ xs) ≡ [] → (size x < need) × (large xs ≡ [])
  large_tail x xs h = elim (cases_lt (size x) need) [
    | inl lt ↦ (
      lt,
      sym (large-past x xs lt)
          ∙ h,
    )
    | inr le ↦ absurd (let e : x ∷ large xs ≡ [] = sym (large-here x xs le) ∙ h in cc)
  ]

  -- there are none exactly where each has fewer
  pub large-none : (xs : List A) → All (λ x. size x < need) xs → large xs ≡ []
  large-none [] h = refl
  large-none (x ∷ xs) h = large-past x xs (All-head (λ y. size y < need) x xs h)
      ∙ large-none xs (All-tail (λ y. size y < need) x xs h)

  pub none-large : (xs : List A) → large xs ≡ [] → All (λ x. size x < need) xs
  none-large [] h = All-nil (λ y. size y < need)
  none-large (x ∷ xs) h =
      let both = large_tail x xs h in
      All-cons (λ y. size y < need) x xs both.0 (none-large xs both.1)
