-- What a list and the same list from its end have in common, and lists with one more at the end.
use Rattle.std.proofs.Common.{◌≡◌, ℕ, ◌+◌, ◌≤◌, ◌⊎◌, inl, inr, zero, suc, max, Bool, true, false}
use Rattle.std.proofs.Common.{cond, ◌||◌, List, [], ◌∷◌, ◌++◌, Option, Some, None, length, reverse}
use Rattle.std.proofs.Common.{refl, sym, ap, subst, ◌∙◌, arith}
use Rattle.std.specs.List.{All, count_by, find, list_any, sum_by}
use Rattle.std.proofs.lemmas.List.{reverse-append}
use Rattle.std.proofs.lemmas.List.Sums.{sum_by-cons}
use Rattle.std.proofs.lemmas.List.Sorted.{All-permutation, IsPermutation-reverse}
use Rattle.std.proofs.lemmas.List.Sorted.{list_any-IsPermutation, sum_by-IsPermutation}
use Rattle.ea_model.specs.Trace.{BringsBefore, brings, greatest_of, needs, text_at}
use Rattle.ea_model.specs.declared.operations.Op.{Op}

none_of : (b c : Bool) (k : ℕ) → (b || c) ≡ false → (c ≡ false → k ≡ 0) → cond b 1 0 + k ≡ 0
none_of true c k h f = absurd cc
none_of false c k h f = omega (arith, f h)

one_of : (b c : Bool) (k : ℕ) → k ≤ 1 → (b ≡ true → c ≡ false) → (c ≡ false → k ≡ 0)
    → cond b 1 0 + k ≤ 1
one_of true c k h f g = omega (arith, g (f refl))
one_of false c k h f g = omega arith

module _ {X : Type 0} where
  found_at : (a b c r : Bool) (o : Option X) (x : X) → cond a (Some x) o ≡ None → (b || c) ≡ true
      → (b ≡ true → a ≡ false → r ≡ true) → (o ≡ None → c ≡ true → r ≡ true) → r ≡ true
  found_at true b c r o x n h f g = absurd cc
  found_at false true c r o x n h f g = f refl refl
  found_at false false c r o x n h f g = g n h

  pub any_turned : (p : X → Bool) (xs : List X) → list_any p (reverse xs) ≡ list_any p xs
  any_turned p xs = sym (list_any-IsPermutation p xs (reverse xs) (IsPermutation-reverse xs))

  pub sum_turned : (f : X → ℕ) (xs : List X) → sum_by f (reverse xs) ≡ sum_by f xs
  sum_turned f xs = sum_by-IsPermutation f xs (reverse xs) (IsPermutation-reverse xs)

  pub all_turned : (P : X → Type 0) (xs : List X) → All P xs → All P (reverse xs)
  all_turned P xs h = All-permutation P xs (reverse xs) (IsPermutation-reverse xs) h

  pub turned_more : (x : X) (xs : List X) → reverse (x ∷ xs) ≡ reverse xs ++ x ∷ []
  turned_more x xs = reverse-append (x ∷ []) xs

  -- none passes, so none is counted
  pub counts_none : (p : X → Bool) (xs : List X) → list_any p xs ≡ false → count_by p xs ≡ 0
  counts_none p [] h = refl
  counts_none p (x ∷ xs) h = sum_by-cons (λ y. cond (p y) 1 0) x xs
      ∙ none_of (p x) (list_any p xs) (count_by p xs) h (counts_none p xs)

  -- an element that passes is the first one that does
  pub counts_one : (p : X → Bool) (x : X) (xs : List X) → count_by p xs ≤ 1
      → (p x ≡ true → list_any p xs ≡ false) → count_by p (x ∷ xs) ≤ 1
  counts_one p x xs h f = subst (λ k. k ≤ 1) (sym (sum_by-cons (λ y. cond (p y) 1 0) x xs))
      (one_of (p x) (list_any p xs) (count_by p xs) h f (counts_none p xs))

  -- where the first test finds nothing, what the second test finds fails the first
  pub found_none : (p q : X → Bool) (r : Bool) → ((x : X) → q x ≡ true → p x ≡ false → r ≡ true)
      → (xs : List X) → find p xs ≡ None → list_any q xs ≡ true → r ≡ true
  found_none p q r f [] n h = absurd cc
  found_none p q r f (x ∷ xs) n h = found_at (p x) (q x) (list_any q xs) r (find p xs) x n h (f x)
      (found_none p q r f xs)

  -- the last element is the one in the middle, or stands in the rest
  pub last_split : (xs before after : List X) (x o : X) → xs ++ x ∷ [] ≡ before ++ o ∷ after
      → ((x ≡ o) × (xs ≡ before)) ⊎ ((rest : List X) × (xs ≡ before ++ o ∷ rest))
  last_split [] [] after x o e = inl (cc, refl)
  last_split [] (b ∷ []) after x o e = absurd cc
  last_split [] (b ∷ c ∷ before) after x o e = absurd cc
  last_split (y ∷ xs) [] after x o e =
      let same : y ≡ o = cc in inr (xs, ap (λ z. z ∷ xs) same)
  last_split (y ∷ xs) (b ∷ before) after x o e =
      let same : y ≡ b = cc in
      let head : y ∷ xs ≡ b ∷ xs = ap (λ z. z ∷ xs) same in
      elim (last_split xs before after x o cc) [
        | inl h ↦ inl (h.0, head ∙ ap (λ zs. b ∷ zs) h.1)
        | inr h ↦ inr (h.0, head ∙ ap (λ zs. b ∷ zs) h.1)
      ]

greatest_append : (xs ys : List Op) → greatest_of (xs ++ ys) ≡ max (greatest_of xs) (greatest_of ys)
greatest_append [] ys = omega arith
greatest_append (x ∷ xs) ys = omega (arith, greatest_append xs ys)

pub greatest_turned : (xs : List Op) → greatest_of (reverse xs) ≡ greatest_of xs
greatest_turned [] = refl
greatest_turned (x ∷ xs) = omega (
  arith,
  ap greatest_of (turned_more x xs),
  greatest_append
      (reverse xs) (x ∷ []),
  greatest_turned xs,
)

-- one more operation, which needs only what was brought before
pub brings_more : (text : List Op) (op : Op) → BringsBefore text
    → ((name : ℕ) → needs name op ≡ true → list_any (brings name) text ≡ true)
    → BringsBefore (text ++ op ∷ [])
brings_more text op h f = λ before after o name e need. elim (last_split text before after op o e) [
  | inl k ↦ subst (λ xs. list_any (brings name) xs ≡ true) k.1
      (f name (subst (λ p. needs name p ≡ true) (sym k.0) need))
  | inr k ↦ h before k.0 o name k.1 need
]

pub brings_none : BringsBefore []
brings_none = λ before after o name e need. absurd (nothing before after o e)
  where
    nothing : (before after : List Op) (o : Op) → [] ≡ before ++ o ∷ after → ⊥
    nothing [] after o e = cc
    nothing (b ∷ before) after o e = cc

-- what holds of each text, with one more at the end
pub each_more : (P : ℕ → List Op → Type 0) (texts : List (List Op)) (last : List Op)
    → ((i : ℕ) → P i [])
    → ((i : ℕ) → P i (text_at i texts)) → P (length texts) last → (i : ℕ)
    → P i (text_at i (texts ++ last ∷ []))
each_more P [] last none h k zero = k
each_more P [] last none h k (suc i) = none (suc i)
each_more P (text ∷ texts) last none h k zero = h 0
each_more P (text ∷ texts) last none h k (suc i) = each_more (λ j. P (suc j)) texts last
    (λ j. none (suc j)) (λ j. h (suc j)) k i
