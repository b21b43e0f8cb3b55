-- The pairs of a list.
use Rattle.std.proofs.Common.{suc, zero, List, [], ◌∷◌, ◌++◌, map, arith}
use Rattle.std.specs.Prelude.{All, AllPairs}
use Rattle.std.proofs.lemmas.List.Elements.{All-append, All-cons, All-head, All-map, All-nil}
use Rattle.std.proofs.lemmas.List.Elements.{All-tail}
use Rattle.std.proofs.lemmas.List.Kept.{AllPairs-cons}

pub all_unmap : {A B : Type 0} (P : A → Type 0) (f : B → A) (ys : List B) → All P (map f ys)
    → All (λ y. P (f y)) ys
all_unmap P f [] a = All-nil (λ y. P (f y))
all_unmap P f (y ∷ ys) a = All-cons (λ z. P (f z)) y ys (All-head P (f y) (map f ys) a)
    (all_unmap P f ys (All-tail P (f y) (map f ys) a))

module _ {A : Type 0} (R : A → A → Type 0) where
  pub pairs_nil : AllPairs R []
  pairs_nil = λ i j d lt within. absurd (omega arith)

  pub pairs_head : (x : A) (xs : List A) → AllPairs R (x ∷ xs) → All (R x) xs
  pairs_head x xs a = λ k d within. a zero (suc k) d (omega arith) (omega arith)

  pub pairs_tail : (x : A) (xs : List A) → AllPairs R (x ∷ xs) → AllPairs R xs
  pairs_tail x xs a = λ i j d lt within. a (suc i) (suc j) d (omega arith) (omega arith)

  pub pairs_append : (xs ys : List A) → AllPairs R xs → AllPairs R ys → All (λ x. All (R x) ys) xs
      → AllPairs R (xs ++ ys)
  pairs_append [] ys p q across = q
  pairs_append (x ∷ xs) ys p q across =
      AllPairs-cons R x (xs ++ ys)
      (All-append (R x) xs ys (pairs_head x xs p)
      (All-head (λ (y : A). All (R y) ys) x xs across))
      (pairs_append xs ys (pairs_tail x xs p) q (All-tail (λ (y : A). All (R y) ys) x xs across))

  pub pairs_map : {B : Type 0} (f : B → A) (ys : List B) → AllPairs (λ a b. R (f a) (f b)) ys
      → AllPairs R (map f ys)
  pairs_map f [] p = pairs_nil
  pairs_map f (y ∷ ys) p =
      AllPairs-cons R (f y) (map f ys)
      (All-map (R (f y)) f ys (λ k d within. p zero (suc k) d (omega arith) (omega arith)))
      (pairs_map f ys (λ i j d lt within. p (suc i) (suc j) d (omega arith) (omega arith)))
