-- Cutting a text at the first byte that passes a test.
use Rattle.std.proofs.Common.{◌≡◌, ℕ, ◌+◌, ◌-◌, ◌<◌, ◌≤◌, Bool, true, false, ◌||◌, List, [], ◌∷◌}
use Rattle.std.proofs.Common.{◌++◌, length, get_or, take, drop, filter, refl, sym, ap, ◌∙◌, arith}
use Rattle.std.specs.List.{slice_split, onto_first, list_any}
use Rattle.std.proofs.lemmas.List.{take-append-drop, drop_more, take_all, drop_all, length-drop}
use Rattle.std.proofs.lemmas.List.{length-take}
use Rattle.std.proofs.lemmas.Bool.{cond-true}
use Rattle.std.proofs.lemmas.List.Splits.{slice_split-cons_yes, slice_split-cons_no}
use Rattle.ea_model.specs.Words.{is_space, is_word, words}

pub or_false : (a b : Bool) → ◌||◌ a b ≡ false → (a ≡ false) × (b ≡ false)
or_false true b h = absurd cc
or_false false b h = (refl, h)

module _ (p : ℕ → Bool) where
  pub split_none : (xs : List ℕ) → list_any p xs ≡ false → slice_split p xs ≡ xs ∷ []
  split_none [] h = refl
  split_none (x ∷ xs) h =
      let f = or_false (p x) (list_any p xs) h in
      slice_split-cons_no p x xs f.0 ∙ ap (onto_first x) (split_none xs f.1)

  split_at : (xs : List ℕ) (y : ℕ) (ys : List ℕ) → list_any p xs ≡ false → p y ≡ true
      → slice_split p (xs ++ y ∷ ys) ≡ xs ∷ slice_split p ys
  split_at [] y ys h t = slice_split-cons_yes p y ys t
  split_at (x ∷ xs) y ys h t =
      let f = or_false (p x) (list_any p xs) h in
      slice_split-cons_no p x (xs ++ y ∷ ys) f.0 ∙ ap (onto_first x) (split_at xs y ys f.1 t)

  -- cut at the first place that passes
  pub split_first : (xs : List ℕ) (i : ℕ) → i < length xs → list_any p (take i xs) ≡ false
      → p (get_or xs i 0) ≡ true → slice_split p xs ≡ take i xs ∷ slice_split p (drop (i + 1) xs)
  split_first xs i lt h t =
      let whole : xs ≡ take i xs ++ get_or xs i 0 ∷ drop (i + 1) xs = sym (take-append-drop i xs)
      ∙ ap (λ ys. take i xs ++ ys) (drop_more xs i 0 lt) in
      ap (slice_split p) whole ∙ split_at (take i xs) (get_or xs i 0) (drop (i + 1) xs) h t

-- a range up to the end
pub rest_all : (k : ℕ) (xs : List ℕ) → take (length xs - k) (drop k xs) ≡ drop k xs
rest_all k xs = take_all (length xs - k) (drop k xs) (omega (arith, length-drop k xs))

pub rest_none : (xs : List ℕ) → take (length xs - length xs) (drop (length xs) xs) ≡ []
rest_none xs = rest_all (length xs) xs ∙ drop_all (length xs) xs (omega arith)

pub list_any_end : (p : ℕ → Bool) (xs : List ℕ) (i : ℕ) → length xs ≤ i
    → list_any p (take i xs) ≡ false → list_any p xs ≡ false
list_any_end p xs i le h = sym (ap (list_any p) (take_all i xs le)) ∙ h

is_word-some : (xs : List ℕ) → 0 < length xs → is_word xs ≡ true
is_word-some [] h = absurd (omega arith)
is_word-some (x ∷ xs) h = refl

pub words_none : (line : List ℕ) → 0 < length line → list_any is_space line ≡ false
    → words line ≡ line ∷ []
words_none line some h = ap (filter is_word) (split_none is_space line h)
    ∙ cond-true (is_word line) (line ∷ []) [] (is_word-some line some)

-- the first word ends at the first space
pub words_first : (line : List ℕ) (i : ℕ) → 1 ≤ i → i < length line
    → list_any is_space (take i line) ≡ false → is_space (get_or line i 0) ≡ true
    → words line ≡ take i line ∷ words (drop (i + 1) line)
words_first line i some lt h t =
    ap (filter is_word) (split_first is_space line i lt h t)
    ∙ cond-true (is_word (take i line)) (take i line ∷ words (drop (i + 1) line))
    (words (drop (i + 1) line)) (is_word-some (take i line) (omega (arith, length-take i line)))
