-- The operations of all texts, scheduler by scheduler.
use Rattle.std.proofs.Common.{◌≡◌, ℕ, get_or, zero, suc, ◌+◌, ◌≤◌, List, [], ◌∷◌, ◌++◌, refl, sym}
use Rattle.std.proofs.Common.{◌∙◌, arith}
use Rattle.std.specs.Prelude.{All, flat_map, count_by, cond}
use Rattle.std.proofs.lemmas.List.Elements.{All-cons, All-head, All-nil, All-tail}
use Rattle.ea_model.specs.declared.operations.Op.{Op}
use Rattle.ea_model.specs.Trace.{makes, text_at}
use Rattle.ea_sound.specs.Names.{made_in}
use Rattle.ea_machine.specs.Setup.{text_for}
use Rattle.ea_machine.specs.Sums.{sum_over, total}
use Rattle.ea_sound.proofs.Totals.{total-none}
use Rattle.ea_sound.proofs.Weights.{sum-append, sum_by-sum_over}

-- a total from its first number on
total-first : {A : Type 0} (f : A → ℕ) (m : ℕ → A) (n : ℕ)
    → total (suc n) f m ≡ f (m 0) + total n f (λ i. m (suc i))
total-first f m zero = omega arith
total-first f m (suc n) = omega (arith, total-first f m n)

module _ (f : List Op → ℕ) (none : f [] ≡ 0) where
  total-texts : (texts : List (List Op)) (n : ℕ)
      → total n f (λ i. text_at i texts) ≤ sum_over f texts
  total-texts [] n = omega (arith, total-none f (λ i. text_at i []) n (λ i l. none))
  total-texts (text ∷ texts) zero = omega arith
  total-texts (text ∷ texts) (suc n) = omega (
    arith,
    total-first f (λ i. text_at i (text ∷ texts)) n,
    total-texts texts n,
  )

  pub total-text_for : (texts : List (List Op)) (n : ℕ)
      → total (suc n) f (text_for texts) ≤ sum_over f texts
  total-text_for texts n = omega (
    arith,
    total-first f (text_for texts) n,
    none,
    total-texts texts n,
  )

-- the operations that make a name, text by text
pub made-each : (name : ℕ) (texts : List (List Op))
    → sum_over (made_in name) texts ≡ count_by (makes name) (flat_map (λ text. text) texts)
made-each name texts =
    by texts ∙ sym (sum_by-sum_over (λ o. cond (makes name o) 1 0) (flat_map (λ text. text) texts))
  where
    by : (texts : List (List Op))
        → sum_over (made_in name) texts
        ≡ sum_over (λ o. cond (makes name o) 1 0) (flat_map (λ text. text) texts)
    by [] = refl
    by (text ∷ texts) = omega (
      arith,
      by texts,
      sum-append (λ o. cond (makes name o) 1 0) text (flat_map (λ text. text) texts),
    )

-- what holds of the elements of two lists, one after the other, holds of those of either; and what
-- holds of those of all texts holds of those of each
module _ {A : Type 0} (P : A → Type 0) where
  All-front : (xs ys : List A) → All P (xs ++ ys) → All P xs
  All-front [] ys h = All-nil P
  All-front (x ∷ xs) ys h =
      All-cons P x xs (All-head P x (xs ++ ys) h) (All-front xs ys (All-tail P x (xs ++ ys) h))

  pub All-back : (xs ys : List A) → All P (xs ++ ys) → All P ys
  All-back [] ys h = h
  All-back (x ∷ xs) ys h = All-back xs ys (All-tail P x (xs ++ ys) h)

  text_at-All : (texts : List (List A)) (i : ℕ) → All P (flat_map (λ text. text) texts)
      → All P (get_or texts i [])
  text_at-All [] i h = All-nil P
  text_at-All (text ∷ texts) zero h = All-front text (flat_map (λ text. text) texts) h
  text_at-All (text ∷ texts) (suc i) h =
      text_at-All texts i (All-back text (flat_map (λ text. text) texts) h)

-- what holds of the operations of all texts holds of those of a scheduler
pub text-All : (P : Op → Type 0) (texts : List (List Op)) (i : ℕ)
    → All P (flat_map (λ text. text) texts) → All P (text_for texts i)
text-All P texts zero h = All-nil P
text-All P texts (suc i) h = text_at-All P texts i h
