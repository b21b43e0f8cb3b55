-- Items that are looked up number by number.
use Rattle.std.proofs.Common.{◌≡◌, ℕ, zero, suc, ◌+◌, ◌*◌, ◌<◌, ◌≤◌, List, [], ◌∷◌, ◌++◌, map, refl}
use Rattle.std.proofs.Common.{sym, ap, ◌∙◌, subst, inl, inr, arith}
use Rattle.std.specs.Prelude.{Option, None, Some, All, AllPairs, flat_map}
use Rattle.std.specs.List.{range_with_len}
use Rattle.std.proofs.lemmas.Bool.{cases_eq}
use Rattle.std.proofs.lemmas.Grind.{flat_map-append}
use Rattle.std.proofs.lemmas.List.{append-nil, map-append}
use Rattle.std.proofs.lemmas.List.FromFn.{get_or-range_with_len, length-range_with_len}
use Rattle.std.proofs.lemmas.List.Elements.{All-cons, All-head, All-nil, All-tail}
use Rattle.ea_model.specs.Keyed.{IsBelow, item_at}
use Rattle.ea_model.proofs.Pairs.{pairs_head, pairs_tail}
use Rattle.ea_model.proofs.Rising.{item_here, item_past}

-- numbers up to the end of a part, and from there on
range-parts : (a m n : ℕ)
    → range_with_len a (m + n) ≡ range_with_len a m ++ range_with_len (a + m) n
range-parts a zero n = ap (range_with_len a) (none n) ∙ ap (λ b. range_with_len b n) (here a) where
  none : (n : ℕ) → 0 + n ≡ n
  none n = omega arith

  here : (a : ℕ) → a ≡ a + 0
  here a = omega arith
range-parts a (suc m) n = ap (range_with_len a) (next m n)
    ∙ ap (λ r. a ∷ r) (range-parts (a + 1) m n
    ∙ ap (λ b. range_with_len (a + 1) m ++ range_with_len b n) (moved a m)) where
      next : (m n : ℕ) → suc m + n ≡ suc (m + n)
      next m n = omega arith

      moved : (a m : ℕ) → a + 1 + m ≡ a + suc m
      moved a m = omega arith

pub range-last : (n : ℕ) → range_with_len 1 (suc n) ≡ range_with_len 1 n ++ suc n ∷ []
range-last n = ap (range_with_len 1) (more n) ∙ range-parts 1 n 1
    ∙ ap (λ b. range_with_len 1 n ++ b ∷ []) (next n) where
      more : (n : ℕ) → suc n ≡ n + 1
      more n = omega arith

      next : (n : ℕ) → 1 + n ≡ suc n
      next n = omega arith

-- what holds of each of the numbers from 1 on
pub each-range : (n : ℕ) (P : ℕ → Type 0) → ((i : ℕ) → 1 ≤ i → i ≤ n → P i)
    → All P (range_with_len 1 n)
each-range n P each k d within =
    let below : k < n = omega (arith, within, length-range_with_len 1 n) in
    subst P (sym (get_or-range_with_len 1 n k d below))
    (each (1 + k) (omega arith) (omega (arith, below)))

pub flat_map-same : {A B : Type 0} (f g : A → List B) (xs : List A) → All (λ x. f x ≡ g x) xs
    → flat_map f xs ≡ flat_map g xs
flat_map-same f g [] same = refl
flat_map-same f g (x ∷ xs) same =
    ap (λ ys. ys ++ flat_map f xs) (All-head (λ x. f x ≡ g x) x xs same)
    ∙ ap (λ ys. g x ++ ys) (flat_map-same f g xs (All-tail (λ x. f x ≡ g x) x xs same))

pub map-flat_map : {A B C : Type 0} (f : B → C) (g : A → List B) (xs : List A)
    → map f (flat_map g xs) ≡ flat_map (λ x. map f (g x)) xs
map-flat_map f g [] = refl
map-flat_map f g (x ∷ xs) = map-append f (g x) (flat_map g xs)
    ∙ ap (λ ys. map f (g x) ++ ys) (map-flat_map f g xs)

-- the item as a list of at most one
abbrev pub if_there : {A B : Type 0} → (A → B) → Option A → List B
if_there f None = []
if_there f (Some x) = f x ∷ []

-- its key is one of n numbers
abbrev pub HasKeyIn : {A : Type 0} → (A → ℕ) → ℕ → ℕ → A → Type 0
HasKeyIn key_of low n x = (low ≤ key_of x) × (key_of x < low + n)

module _ {A B : Type 0} (key_of : A → ℕ) (f : A → B) (g : ℕ → List B) where
  abbrev InRange : ℕ → ℕ → A → Type 0
  InRange low n = HasKeyIn key_of low n

  -- what g gives for each of n numbers is the item with that number
  abbrev pub GivesItems : ℕ → ℕ → List A → Type 0
  GivesItems low n xs = (k : ℕ) → low ≤ k → k < low + n → g k ≡ if_there f (item_at key_of xs k)

  none-below : (low : ℕ) (xs : List A) → All (λ x. low < key_of x) xs
      → item_at key_of xs low ≡ None
  none-below low [] above = refl
  none-below low (x ∷ xs) above =
      let here = All-head (λ x. low < key_of x) x xs above in
      item_past key_of low x xs (λ s. omega (arith, s, here))
      ∙ none-below low xs (All-tail (λ x. low < key_of x) x xs above)

  -- so for all of them it gives all items, where these stand by rising number
  pub all-items : (n low : ℕ) (xs : List A) → AllPairs (IsBelow key_of) xs
      → All (InRange low n) xs → GivesItems low n xs
      → flat_map g (range_with_len low n) ≡ map f xs
  all-items zero low [] rising within gives = refl
  all-items zero low (x ∷ xs) rising within gives =
      let here = All-head (InRange low 0) x xs within in
      absurd (omega (arith, here.0, here.1))
  all-items (suc n) low [] rising within gives =
      ap (λ ys. ys ++ flat_map g (range_with_len (low + 1) n))
      (gives low (omega arith) (omega arith))
      ∙ all-items n (low + 1) [] rising (All-nil (InRange (low + 1) n))
      (λ k from below. gives k (omega (arith, from)) (omega (arith, below)))
  all-items (suc n) low (x ∷ xs) rising within gives =
      let here = All-head (InRange low (suc n)) x xs within in
      let later = pairs_head (IsBelow key_of) x xs rising in
      elim (cases_eq (key_of x) low) [
        | inl e ↦
            ap (λ ys. ys ++ flat_map g (range_with_len (low + 1) n))
            (gives low (omega arith) (omega arith)
            ∙ ap (if_there f) (item_here key_of low x xs e))
            ∙ ap (λ ys. f x ∷ ys)
            (all-items n (low + 1) xs (pairs_tail (IsBelow key_of) x xs rising)
            (λ i d is. let at = All-tail (InRange low (suc n)) x xs within i d is in
            (omega (arith, e, later i d is), omega (arith, at.1)))
            (λ k from below. gives k (omega (arith, from)) (omega (arith, below))
            ∙ ap (if_there f) (item_past key_of k x xs (λ s. omega (arith, s, e, from)))))
        | inr other ↦
            let above = All-cons (InRange (low + 1) n) x xs
            (omega (arith, here.0, other), omega (arith, here.1))
            (λ i d is. let at = All-tail (InRange low (suc n)) x xs within i d is in
            (omega (arith, here.0, later i d is), omega (arith, at.1))) in
            ap (λ ys. ys ++ flat_map g (range_with_len (low + 1) n))
            (gives low (omega arith) (omega arith)
            ∙ ap (if_there f) (none-below low (x ∷ xs)
            (λ i d is. omega (arith, (above i d is).0))))
            ∙ all-items n (low + 1) (x ∷ xs) rising above
            (λ k from below. gives k (omega (arith, from)) (omega (arith, below)))
      ]
