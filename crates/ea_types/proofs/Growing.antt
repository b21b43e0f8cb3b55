-- Lists that grow by one or change at one place, and lists side by side.
use Rattle.std.proofs.Common.{◌≡◌, inl, inr, ℕ, suc, ◌+◌, ◌-◌, ◌<◌, List, [], ◌∷◌, ◌++◌, length}
use Rattle.std.proofs.Common.{◌≤◌, drop, get_or, set, take, refl, sym, ap, ◌∙◌, subst, arith}
use Rattle.std.specs.List.{AllZip}
use Rattle.std.proofs.lemmas.Bool.{cases_lt}
use Rattle.std.proofs.lemmas.List.{append-nil, length-append, nil_from_length}
use Rattle.std.proofs.lemmas.List.{get_or_append_left, get_or-append_right, get_or_default}
use Rattle.std.proofs.lemmas.List.{get_or-set_other, get_or-set_same, take-append-le, take_all}

none : (n : ℕ) → n - n ≡ 0
none n = omega arith

-- what holds of the first items holds of one more at the end
pub one-more : {A : Type 0} (P : ℕ → A → Type 0) (n : ℕ) (xs : List A) → length xs ≡ n
    → ((k : ℕ) (d : A) → k < n → P k (get_or xs k d)) → (x : A) → P n x
    → (ys : List A) → ys ≡ xs ++ x ∷ []
    → (k : ℕ) (d : A) → k < n + 1 → P k (get_or ys k d)
one-more P n xs many are x at ys is k d within =
    subst (λ zs. P k (get_or zs k d)) (sym is) (elim (cases_lt k (length xs)) [
      | inl below ↦ subst (P k) (sym (get_or_append_left xs (x ∷ []) d k below))
          (are k d (omega (arith, below, many)))
      | inr past ↦
          let last : k ≡ n = omega (arith, past, many, within) in
          subst (λ j. P j (get_or (xs ++ x ∷ []) j d)) (sym last)
          (subst (P n) (sym (get_or-append_right xs (x ∷ []) n n d many (omega arith)
          ∙ ap (λ j. get_or (x ∷ []) j d) (none n))) at)
    ])

-- the item between others
pub between : {A : Type 0} (ys : List A) (x : A) (zs xs : List A) → ys ++ x ∷ zs ≡ xs → (d : A)
    → get_or xs (length ys) d ≡ x
between ys x zs xs is d =
    ap (λ l. get_or l (length ys) d) (sym is)
    ∙ get_or-append_right ys (x ∷ zs) (length ys) (length ys) d refl (omega arith)
    ∙ ap (λ j. get_or (x ∷ zs) j d) (none (length ys))

pub within : {A : Type 0} (ys : List A) (x : A) (zs xs : List A) → ys ++ x ∷ zs ≡ xs
    → length ys < length xs
within ys x zs xs is = omega (arith, length-append ys (x ∷ zs), ap length is)

-- a loop over a list has come to one more item
pub yields : {A : Type 0} (ys left : List A) (x : A) (zs xs : List A) → left ≡ x ∷ zs
    → ys ++ left ≡ xs → ys ++ x ∷ zs ≡ xs
yields ys left x zs xs next all = ap (λ l. ys ++ l) (sym next) ∙ all

-- and it has come to all
pub yielded : {A : Type 0} (ys left xs : List A) → length left ≡ 0 → ys ++ left ≡ xs → ys ≡ xs
yielded ys left xs none all =
    sym (append-nil ys) ∙ ap (λ l. ys ++ l) (sym (nil_from_length left none)) ∙ all

-- what holds of the items at each place holds of the lists
pub all-zip : {A B : Type 0} (R : A → B → Type 0) (xs : List A) (ys : List B)
    → length xs ≡ length ys
    → ((k : ℕ) (d : A) (e : B) → k < length xs → R (get_or xs k d) (get_or ys k e))
    → AllZip R xs ys
all-zip R [] [] same each = tt
all-zip R [] (y ∷ ys) same each = absurd (omega (arith, same))
all-zip R (x ∷ xs) [] same each = absurd (omega (arith, same))
all-zip R (x ∷ xs) (y ∷ ys) same each = (
  each 0 x y (omega arith),
  all-zip R xs ys (omega (arith, same)) (λ k d e less. each (suc k) d e (omega (arith, less))),
)

-- one column of many has an item more
module _ {A B : Type 0} (items : A → List B) (columns before : List A) (row : List B) (place : ℕ)
    (item : B) (was new : A) (within : place < length columns)
    (more : items new ≡ items (get_or columns place was) ++ item ∷ [])
    (at : (d : B) → get_or row place d ≡ item)
    (many : length columns ≡ length before) where
  pub column-later : ((k : ℕ) (d : A) → place ≤ k → get_or columns k d ≡ get_or before k d)
      → (k : ℕ) (d : A) → place + 1 ≤ k
      → get_or (set columns place new) k d ≡ get_or before k d
  column-later later k d past =
      get_or-set_other columns place k new d (λ same. omega (arith, past, same))
      ∙ later k d (omega (arith, past))

  pub column-done : ((k : ℕ) (d : A) (x : B) → k < place
      → items (get_or columns k d) ≡ items (get_or before k d) ++ get_or row k x ∷ [])
      → ((k : ℕ) (d : A) → place ≤ k → get_or columns k d ≡ get_or before k d)
      → (k : ℕ) (d : A) (x : B) → k < place + 1
      → items (get_or (set columns place new) k d)
      ≡ items (get_or before k d) ++ get_or row k x ∷ []
  column-done done later k d x below = elim (cases_lt k place) [
    | inl less ↦
        ap items (get_or-set_other columns place k new d (λ same. omega (arith, less, same)))
        ∙ done k d x less
    | inr past ↦
        let same : k ≡ place = omega (arith, past, below) in
        subst (λ j. items (get_or (set columns place new) j d)
        ≡ items (get_or before j d) ++ get_or row j x ∷ []) (sym same)
        (ap items (get_or-set_same columns place new d within) ∙ more
        ∙ ap (λ a. items a ++ item ∷ []) (later place was (omega arith)
        ∙ get_or_default before place was d (omega (arith, within, many)))
        ∙ ap (λ b. items (get_or before place d) ++ b ∷ []) (sym (at x)))
  ]

-- the item at a place that is there
pub item-at : {A : Type 0} (xs : List A) (k : ℕ) → k < length xs
    → (x : A) × ((d : A) → get_or xs k d ≡ x)
item-at [] k less = absurd (omega (arith, less))
item-at (x ∷ xs) k less = (
  get_or (x ∷ xs) k x,
  λ d. get_or_default (x ∷ xs) k d x less,
)

-- what is written back to a vector of that length
pub written : {A : Type 0} (n : ℕ) (xs ys : List A) → length xs ≡ n
    → take n (xs ++ drop (length xs) ys) ≡ xs
written n xs ys same =
    take-append-le n xs (drop (length xs) ys) (omega (arith, same))
    ∙ take_all n xs (omega (arith, same))
