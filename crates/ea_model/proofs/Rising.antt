-- Items by rising key, with one more and without one.
use Rattle.std.proofs.Common.{zero, suc, map, ◌≡◌, ◌≢◌, ℕ, ◌+◌, ◌<◌, ◌≤◌, true, false, cond, List}
use Rattle.std.proofs.Common.{[], ◌∷◌, length, get_or, set, sym, ap, ◌∙◌, subst, refl, inl, inr}
use Rattle.std.proofs.Common.{arith}
use Rattle.std.specs.Prelude.{insert, remove, Some, None, option_map, ◌==◌, if◌then◌else◌, All}
use Rattle.std.specs.Prelude.{AllPairs}
use Rattle.std.specs.List.{position_or_len}
use Rattle.std.proofs.lemmas.Bool.{cases_lt, cases_eq, cond-true, cond-false, cond_both}
use Rattle.std.proofs.lemmas.List.Elements.{All-nil, All-cons, All-head, All-tail, All-weaker}
use Rattle.std.proofs.lemmas.List.Kept.{AllPairs-cons}
use Rattle.std.proofs.lemmas.List.Folds.{find_at}
use Rattle.std.proofs.lemmas.Option.{slice_get-get_or}
use Rattle.ea_model.proofs.Pairs.{pairs_head, pairs_tail, pairs_map}
use Rattle.ea_model.specs.Keyed.{has_key, is_after, item_at, entered, without, changed_at, IsBelow}

insert_cons : {A : Type 0} (x y : A) (ys : List A) (n : ℕ)
    → insert (y ∷ ys) (1 + n) x ≡ y ∷ insert ys n x
insert_cons x y ys n = let e : 1 + n ≡ suc n = omega arith in rw e refl

pub remove_cons : {A : Type 0} (y : A) (ys : List A) (n : ℕ)
    → remove (y ∷ ys) (1 + n) ≡ y ∷ remove ys n
remove_cons y ys n = let e : 1 + n ≡ suc n = omega arith in rw e refl

if_same : {A : Type 0} (m n : ℕ) (x y : A) → m ≡ n → (if m == n then x else y) ≡ x
if_same m n x y e = cond-true (m == n) x y (grind arith)

if_other : {A : Type 0} (m n : ℕ) (x y : A) → m ≢ n → (if m == n then x else y) ≡ y
if_other m n x y e = cond-false (m == n) x y (grind arith)

pub set_cons : {A : Type 0} (x y : A) (ys : List A) (n : ℕ)
    → set (y ∷ ys) (1 + n) x ≡ y ∷ set ys n x
set_cons x y ys n = let e : 1 + n ≡ suc n = omega arith in rw e refl

pub get_or_cons : {A : Type 0} (y d : A) (ys : List A) (n : ℕ)
    → get_or (y ∷ ys) (1 + n) d ≡ get_or ys n d
get_or_cons y d ys n = let e : 1 + n ≡ suc n = omega arith in rw e refl

module _ {A : Type 0} (key_of : A → ℕ) where
  pub entered_here : (x y : A) (ys : List A) → key_of x < key_of y
      → entered key_of x (y ∷ ys) ≡ x ∷ y ∷ ys
  entered_here x y ys lt = grind arith

  pub entered_past : (x y : A) (ys : List A) → key_of y ≤ key_of x
      → entered key_of x (y ∷ ys) ≡ y ∷ entered key_of x ys
  entered_past x y ys le = grind arith

  behind_first : (key : ℕ) (y : A) (ys : List A) → key < key_of y
      → position_or_len (is_after key_of key) (y ∷ ys) ≡ 0
  behind_first key y ys lt = grind arith

  behind_past : (key : ℕ) (y : A) (ys : List A) → key_of y ≤ key
      → position_or_len (is_after key_of key) (y ∷ ys) ≡ 1 + position_or_len (is_after key_of key)
      ys
  behind_past key y ys le = grind arith

  -- putting an item before the first one of a greater key enters it
  pub insert-entered : (x : A) (ys : List A)
      → insert ys (position_or_len (is_after key_of (key_of x)) ys) x ≡ entered key_of x ys
  insert-entered x [] = refl
  insert-entered x (y ∷ ys) =
      elim (cases_lt (key_of x) (key_of y)) [
        | inl lt ↦ ap (λ n. insert (y ∷ ys) n x) (behind_first (key_of x) y ys lt)
            ∙ sym (entered_here x y ys lt)
        | inr le ↦
            ap (λ n. insert (y ∷ ys) n x) (behind_past (key_of x) y ys le)
            ∙ insert_cons x y ys (position_or_len (is_after key_of (key_of x)) ys)
            ∙ ap (λ zs. y ∷ zs) (insert-entered x ys) ∙ sym (entered_past x y ys le)
      ]

  pub length-entered : (x : A) (ys : List A) → length (entered key_of x ys) ≡ length ys + 1
  length-entered x [] = refl
  length-entered x (y ∷ ys) =
      elim (cases_lt (key_of x) (key_of y)) [
        | inl lt ↦ ap length (entered_here x y ys lt) ∙ omega arith
        | inr le ↦ ap length (entered_past x y ys le) ∙ omega (arith, length-entered x ys)
      ]

  -- what holds of the item and of the others holds of all
  pub All-entered : (P : A → Type 0) (x : A) (ys : List A) → P x → All P ys
      → All P (entered key_of x ys)
  All-entered P x [] p a = All-cons P x [] p a
  All-entered P x (y ∷ ys) p a =
      elim (cases_lt (key_of x) (key_of y)) [
        | inl lt ↦ subst (All P) (sym (entered_here x y ys lt)) (All-cons P x (y ∷ ys) p a)
        | inr le ↦ subst (All P) (sym (entered_past x y ys le))
            (All-cons P y (entered key_of x ys) (All-head P y ys a)
            (All-entered P x ys p (All-tail P y ys a)))
      ]

  -- what holds of the pairs holds also of those with the item, if it holds of the item and each one
  -- on either side
  pub pairs-entered : (R : A → A → Type 0) (x : A) (ys : List A) → AllPairs (IsBelow key_of) ys
      → AllPairs R ys → All (λ y. key_of x < key_of y → R x y) ys
      → All (λ y. key_of y ≤ key_of x → R y x) ys → AllPairs R (entered key_of x ys)
  pairs-entered R x [] rising r behind before = AllPairs-cons R x [] (All-nil (R x)) r
  pairs-entered R x (y ∷ ys) rising r behind before =
      let above : All (IsBelow key_of y) ys = pairs_head (IsBelow key_of) y ys rising in
      elim (cases_lt (key_of x) (key_of y)) [
        | inl lt ↦ subst (AllPairs R) (sym (entered_here x y ys lt))
            (AllPairs-cons R x (y ∷ ys)
            (All-cons (R x) y ys (behind 0 y (omega arith) lt)
            (λ i d within. behind (suc i) d (omega arith) (omega (arith, above i d within)))) r)
        | inr le ↦ subst (AllPairs R) (sym (entered_past x y ys le))
            (AllPairs-cons R y (entered key_of x ys)
            (All-entered (R y) x ys (before 0 y (omega arith) le) (pairs_head R y ys r))
            (pairs-entered R x ys (pairs_tail (IsBelow key_of) y ys rising) (pairs_tail R y ys r)
            (λ i d within. behind (suc i) d (omega arith))
            (λ i d within. before (suc i) d (omega arith))))
      ]

  -- with an item of a new key the keys rise
  pub rising-entered : (x : A) (ys : List A) → AllPairs (IsBelow key_of) ys
      → All (λ y. key_of y ≢ key_of x) ys → AllPairs (IsBelow key_of) (entered key_of x ys)
  rising-entered x ys rising other = pairs-entered (IsBelow key_of) x ys rising rising
      (λ i d within lt. lt) (λ i d within le. omega (arith, other i d within))

  has_key-here : (key : ℕ) (x : A) → key_of x ≡ key → has_key key_of key x ≡ true
  has_key-here key x e = grind arith

  has_key-past : (key : ℕ) (x : A) → key_of x ≢ key → has_key key_of key x ≡ false
  has_key-past key x n = grind arith

  pub item_here : (key : ℕ) (x : A) (xs : List A) → key_of x ≡ key
      → item_at key_of (x ∷ xs) key ≡ Some x
  item_here key x xs e = cond-true (has_key key_of key x) (Some x) (item_at key_of xs key)
      (has_key-here key x e)

  pub item_past : (key : ℕ) (x : A) (xs : List A) → key_of x ≢ key
      → item_at key_of (x ∷ xs) key ≡ item_at key_of xs key
  item_past key x xs n = cond-false (has_key key_of key x) (Some x) (item_at key_of xs key)
      (has_key-past key x n)

  position_first : (key : ℕ) (x : A) (xs : List A) → key_of x ≡ key
      → position_or_len (has_key key_of key) (x ∷ xs) ≡ 0
  position_first key x xs e = let t = has_key-here key x e in rw t refl

  position_past : (key : ℕ) (x : A) (xs : List A) → key_of x ≢ key
      → position_or_len (has_key key_of key) (x ∷ xs) ≡ 1 + position_or_len (has_key key_of key) xs
  position_past key x xs n = let f = has_key-past key x n in rw f refl

  pub without_here : (key : ℕ) (x : A) (xs : List A) → key_of x ≡ key
      → without key_of key (x ∷ xs) ≡ without key_of key xs
  without_here key x xs e = let t = has_key-here key x e in rw t refl

  pub without_past : (key : ℕ) (x : A) (xs : List A) → key_of x ≢ key
      → without key_of key (x ∷ xs) ≡ x ∷ without key_of key xs
  without_past key x xs n = let f = has_key-past key x n in rw f refl

  pub without_none : (key : ℕ) (xs : List A) → All (λ x. key_of x ≢ key) xs
      → without key_of key xs ≡ xs
  without_none key [] a = refl
  without_none key (x ∷ xs) a =
      without_past key x xs (All-head (λ y. key_of y ≢ key) x xs a)
      ∙ ap (λ ys. x ∷ ys) (without_none key xs (All-tail (λ y. key_of y ≢ key) x xs a))

  -- no item that is left has the key
  pub without-free : (key : ℕ) (xs : List A) → All (λ x. key_of x ≢ key) (without key_of key xs)
  without-free key [] = All-nil (λ x. key_of x ≢ key)
  without-free key (x ∷ xs) =
      elim (cases_eq (key_of x) key) [
        | inl e ↦ subst (All (λ y. key_of y ≢ key)) (sym (without_here key x xs e))
            (without-free key xs)
        | inr n ↦ subst (All (λ y. key_of y ≢ key)) (sym (without_past key x xs n))
            (All-cons (λ y. key_of y ≢ key) x (without key_of key xs) n (without-free key xs))
      ]

  -- the items after one with the key have other keys
  pub others : (key : ℕ) (x : A) (xs : List A) → AllPairs (IsBelow key_of) (x ∷ xs) → key_of x ≡ key
      → All (λ y. key_of y ≢ key) xs
  others key x xs rising e = All-weaker (IsBelow key_of x) (λ y. key_of y ≢ key)
      (λ y below same. omega arith) xs (pairs_head (IsBelow key_of) x xs rising)

  -- taking out the place of the key takes out the item
  pub remove-without : (key : ℕ) (xs : List A) → AllPairs (IsBelow key_of) xs
      → position_or_len (has_key key_of key) xs < length xs
      → remove xs (position_or_len (has_key key_of key) xs) ≡ without key_of key xs
  remove-without key [] rising lt = absurd (omega arith)
  remove-without key (x ∷ xs) rising lt =
      elim (cases_eq (key_of x) key) [
        | inl e ↦ ap (remove (x ∷ xs)) (position_first key x xs e)
            ∙ sym (without_here key x xs e ∙ without_none key xs (others key x xs rising e))
        | inr n ↦
            let past = position_past key x xs n in
            ap (remove (x ∷ xs)) past ∙ remove_cons x xs (position_or_len (has_key key_of key) xs)
            ∙ ap (λ ys. x ∷ ys) (remove-without key xs (pairs_tail (IsBelow key_of) x xs rising)
            (omega arith)) ∙ sym (without_past key x xs n)
      ]

  -- each item is found by its key
  pub item_at-each : (i : ℕ) (d : A) (xs : List A) → AllPairs (IsBelow key_of) xs → i < length xs
      → item_at key_of xs (key_of (get_or xs i d)) ≡ Some (get_or xs i d)
  item_at-each i d [] rising within = absurd (omega arith)
  item_at-each zero d (x ∷ xs) rising within = item_here (key_of x) x xs refl
  item_at-each (suc i) d (x ∷ xs) rising within =
      let below : key_of x < key_of (get_or xs i d) = pairs_head (IsBelow key_of) x xs rising i d
      (omega arith) in
      item_past (key_of (get_or xs i d)) x xs (λ e. omega arith)
      ∙ item_at-each i d xs (pairs_tail (IsBelow key_of) x xs rising) (omega arith)

  -- the item that is found has the key
  pub item_at-key : (key : ℕ) (x : A) (xs : List A) → item_at key_of xs key ≡ Some x
      → key_of x ≡ key
  item_at-key key x [] h = absurd cc
  item_at-key key x (y ∷ ys) h =
      elim (cases_eq (key_of y) key) [
        | inl e ↦ let same : Some y ≡ Some x = sym (item_here key y ys e)
            ∙ h in let is : y ≡ x = cc in subst (λ z. key_of z ≡ key) is e
        | inr n ↦ item_at-key key x ys (sym (item_past key y ys n) ∙ h)
      ]

  -- and is one of them
  pub item_at-All : (P : A → Type 0) (key : ℕ) (x : A) (xs : List A) → All P xs
      → item_at key_of xs key ≡ Some x → P x
  item_at-All P key x [] a h = absurd cc
  item_at-All P key x (y ∷ ys) a h =
      elim (cases_eq (key_of y) key) [
        | inl e ↦ let same : Some y ≡ Some x = sym (item_here key y ys e)
            ∙ h in let is : y ≡ x = cc in subst P is (All-head P y ys a)
        | inr n ↦ item_at-All P key x ys (All-tail P y ys a) (sym (item_past key y ys n) ∙ h)
      ]

  item_cons : (key : ℕ) (x : A) (ys zs : List A) → item_at key_of ys key ≡ item_at key_of zs key
      → item_at key_of (x ∷ ys) key ≡ item_at key_of (x ∷ zs) key
  item_cons key x ys zs e = ap (λ o. cond (has_key key_of key x) (Some x) o) e

  -- an item of a new key is found by it once it is entered, and those of other keys are found as
  -- before
  pub item_at-new : (x : A) (ys : List A) → All (λ y. key_of y ≢ key_of x) ys
      → item_at key_of (entered key_of x ys) (key_of x) ≡ Some x
  item_at-new x [] a = item_here (key_of x) x [] refl
  item_at-new x (y ∷ ys) a =
      elim (cases_lt (key_of x) (key_of y)) [
        | inl lt ↦ ap (λ zs. item_at key_of zs (key_of x)) (entered_here x y ys lt)
            ∙ item_here (key_of x) x (y ∷ ys) refl
        | inr le ↦
            ap (λ zs. item_at key_of zs (key_of x)) (entered_past x y ys le)
            ∙ item_past (key_of x) y (entered key_of x ys)
            (All-head (λ z. key_of z ≢ key_of x) y ys a)
            ∙ item_at-new x ys (All-tail (λ z. key_of z ≢ key_of x) y ys a)
      ]

  pub item_at-old : (key : ℕ) (x : A) (ys : List A) → key ≢ key_of x
      → item_at key_of (entered key_of x ys) key ≡ item_at key_of ys key
  item_at-old key x [] n = item_past key x [] (λ e. n (sym e))
  item_at-old key x (y ∷ ys) n =
      elim (cases_lt (key_of x) (key_of y)) [
        | inl lt ↦ ap (λ zs. item_at key_of zs key) (entered_here x y ys lt)
            ∙ item_past key x (y ∷ ys) (λ e. n (sym e))
        | inr le ↦ ap (λ zs. item_at key_of zs key) (entered_past x y ys le)
            ∙ item_cons key y (entered key_of x ys) ys (item_at-old key x ys n)
      ]

  pub item_at-entered : (key : ℕ) (x : A) (ys : List A) → All (λ y. key_of y ≢ key_of x) ys
      → item_at key_of (entered key_of x ys) key ≡
      (if key == key_of x then Some x else item_at key_of ys key)
  item_at-entered key x ys a =
      elim (cases_eq key (key_of x)) [
        | inl e ↦ ap (item_at key_of (entered key_of x ys)) e ∙ item_at-new x ys a
            ∙ sym (if_same key (key_of x) (Some x) (item_at key_of ys key) e)
        | inr n ↦ item_at-old key x ys n
            ∙ sym (if_other key (key_of x) (Some x) (item_at key_of ys key) n)
      ]

  -- none is found by the key of one that is taken out, and those of other keys are found as before
  pub item_at-gone : (key : ℕ) (xs : List A) → item_at key_of (without key_of key xs) key ≡ None
  item_at-gone key [] = refl
  item_at-gone key (x ∷ xs) =
      elim (cases_eq (key_of x) key) [
        | inl e ↦ ap (λ ys. item_at key_of ys key) (without_here key x xs e) ∙ item_at-gone key xs
        | inr n ↦ ap (λ ys. item_at key_of ys key) (without_past key x xs n)
            ∙ item_past key x (without key_of key xs) n ∙ item_at-gone key xs
      ]

  pub item_at-stays : (key gone : ℕ) (xs : List A) → key ≢ gone
      → item_at key_of (without key_of gone xs) key ≡ item_at key_of xs key
  item_at-stays key gone [] n = refl
  item_at-stays key gone (x ∷ xs) n =
      elim (cases_eq (key_of x) gone) [
        | inl e ↦ ap (λ ys. item_at key_of ys key) (without_here gone x xs e)
            ∙ item_at-stays key gone xs n ∙ sym (item_past key x xs (λ p. n (sym p ∙ e)))
        | inr m ↦ ap (λ ys. item_at key_of ys key) (without_past gone x xs m)
            ∙ item_cons key x (without key_of gone xs) xs (item_at-stays key gone xs n)
      ]

  pub item_at-without : (key gone : ℕ) (xs : List A)
      → item_at key_of (without key_of gone xs) key ≡
      (if key == gone then None else item_at key_of xs key)
  item_at-without key gone xs =
      elim (cases_eq key gone) [
        | inl e ↦ ap (item_at key_of (without key_of gone xs)) e ∙ item_at-gone gone xs
            ∙ sym (if_same key gone None (item_at key_of xs key) e)
        | inr n ↦ item_at-stays key gone xs n
            ∙ sym (if_other key gone None (item_at key_of xs key) n)
      ]

  -- where none is found, each has another key
  pub none-other : (key : ℕ) (xs : List A) → item_at key_of xs key ≡ None
      → All (λ x. key_of x ≢ key) xs
  none-other key [] h = All-nil (λ x. key_of x ≢ key)
  none-other key (x ∷ xs) h =
      elim (cases_eq (key_of x) key) [
        | inl e ↦ absurd (let some : Some x ≡ None = sym (item_here key x xs e) ∙ h in cc)
        | inr n ↦ All-cons (λ y. key_of y ≢ key) x xs n
            (none-other key xs (sym (item_past key x xs n) ∙ h))
      ]

-- a change of the item with a key
module _ {A : Type 0} (key_of : A → ℕ) (f : A → A) (key : ℕ) where
  abbrev pub change : A → A
  change x = if has_key key_of key x then f x else x

  pub changed_here : (x : A) (xs : List A) → key_of x ≡ key
      → changed_at key_of f key (x ∷ xs) ≡ f x ∷ changed_at key_of f key xs
  changed_here x xs e = ap (λ y. y ∷ changed_at key_of f key xs)
      (cond-true (has_key key_of key x) (f x) x (has_key-here key_of key x e))

  pub changed_past : (x : A) (xs : List A) → key_of x ≢ key
      → changed_at key_of f key (x ∷ xs) ≡ x ∷ changed_at key_of f key xs
  changed_past x xs n = ap (λ y. y ∷ changed_at key_of f key xs)
      (cond-false (has_key key_of key x) (f x) x (has_key-past key_of key x n))

  pub changed_none : (xs : List A) → All (λ x. key_of x ≢ key) xs → changed_at key_of f key xs ≡ xs
  changed_none [] a = refl
  changed_none (x ∷ xs) a = changed_past x xs (All-head (λ y. key_of y ≢ key) x xs a)
      ∙ ap (λ ys. x ∷ ys) (changed_none xs (All-tail (λ y. key_of y ≢ key) x xs a))

  -- a change at the place of the key is the change of the item
  pub set-changed : (d : A) (xs : List A) → AllPairs (IsBelow key_of) xs
      → position_or_len (has_key key_of key) xs < length xs
      → set xs (position_or_len (has_key key_of key) xs)
      (f (get_or xs (position_or_len (has_key key_of key) xs) d)) ≡ changed_at key_of f key xs
  set-changed d [] rising lt = absurd (omega arith)
  set-changed d (x ∷ xs) rising lt =
      elim (cases_eq (key_of x) key) [
        | inl e ↦
            ap (λ k. set (x ∷ xs) k (f (get_or (x ∷ xs) k d))) (position_first key_of key x xs e)
            ∙ sym (changed_here x xs e
            ∙ ap (λ ys. f x ∷ ys) (changed_none xs (others key_of key x xs rising e)))
        | inr n ↦
            let k = position_or_len (has_key key_of key) xs in
            let past = position_past key_of key x xs n in
            ap (λ j. set (x ∷ xs) j (f (get_or (x ∷ xs) j d))) past
            ∙ ap (λ y. set (x ∷ xs) (1 + k) (f y)) (get_or_cons x d xs k)
            ∙ set_cons (f (get_or xs k d)) x xs k
            ∙ ap (λ ys. x ∷ ys)
            (set-changed d xs (pairs_tail (IsBelow key_of) x xs rising) (omega arith))
            ∙ sym (changed_past x xs n)
      ]

  module _ (keeps : (x : A) → key_of (f x) ≡ key_of x) where
    pub key_stays : (x : A) → key_of (change x) ≡ key_of x
    key_stays x = cond_both (has_key key_of key x) (f x) x (λ y. key_of y ≡ key_of x) (λ _. keeps x)
        (λ _. refl)

    -- the items are found by the same keys
    pub item_at-changed : (n : ℕ) (xs : List A)
        → item_at key_of (changed_at key_of f key xs) n ≡ option_map change (item_at key_of xs n)
    item_at-changed n [] = refl
    item_at-changed n (x ∷ xs) =
        let ys = changed_at key_of f key xs in
        elim (cases_eq (key_of x) n) [
          | inl e ↦ item_here key_of n (change x) ys (key_stays x ∙ e)
              ∙ ap (option_map change) (sym (item_here key_of n x xs e))
          | inr m ↦ item_past key_of n (change x) ys (λ p. m (sym (key_stays x) ∙ p))
              ∙ item_at-changed n xs ∙ ap (option_map change) (sym (item_past key_of n x xs m))
        ]

    -- the changed item is found by its key, and those of other keys are found as before
    pub changed-found : (x : A) (xs : List A) → item_at key_of xs key ≡ Some x
        → item_at key_of (changed_at key_of f key xs) key ≡ Some (f x)
    changed-found x xs there =
        item_at-changed key xs ∙ ap (option_map change) there
        ∙ ap Some (cond-true (has_key key_of key x) (f x) x
        (has_key-here key_of key x (item_at-key key_of key x xs there)))

    pub changed-other : (n : ℕ) (xs : List A) → n ≢ key
        → item_at key_of (changed_at key_of f key xs) n ≡ item_at key_of xs n
    changed-other n [] other = refl
    changed-other n (x ∷ xs) other =
        elim (cases_eq (key_of x) key) [
          | inl e ↦
              ap (λ ys. item_at key_of ys n) (changed_here x xs e)
              ∙ item_past key_of n (f x) (changed_at key_of f key xs)
              (λ p. other (sym p ∙ keeps x ∙ e))
              ∙ changed-other n xs other ∙ sym (item_past key_of n x xs (λ p. other (sym p ∙ e)))
          | inr m ↦ ap (λ ys. item_at key_of ys n) (changed_past x xs m)
              ∙ item_cons key_of n x (changed_at key_of f key xs) xs (changed-other n xs other)
        ]

    pub rising-changed : (xs : List A) → AllPairs (IsBelow key_of) xs
        → AllPairs (IsBelow key_of) (changed_at key_of f key xs)
    rising-changed xs rising =
        pairs_map (IsBelow key_of) change xs
        (λ i j d lt within. omega (
          arith,
          rising i j d lt within,
          key_stays (get_or xs i d),
          key_stays (get_or xs j d),
        ))

-- items of one kind as items of another
module _ {A B : Type 0} (key_of : B → ℕ) (g : A → B) where
  abbrev key_in : A → ℕ
  key_in x = key_of (g x)

  pub item_at-map : (key : ℕ) (xs : List A)
      → item_at key_of (map g xs) key ≡ option_map g (item_at key_in xs key)
  item_at-map key [] = refl
  item_at-map key (x ∷ xs) =
      elim (cases_eq (key_of (g x)) key) [
        | inl e ↦ item_here key_of key (g x) (map g xs) e
            ∙ ap (option_map g) (sym (item_here key_in key x xs e))
        | inr n ↦ item_past key_of key (g x) (map g xs) n ∙ item_at-map key xs
            ∙ ap (option_map g) (sym (item_past key_in key x xs n))
      ]

  pub entered-map : (x : A) (ys : List A)
      → entered key_of (g x) (map g ys) ≡ map g (entered key_in x ys)
  entered-map x [] = refl
  entered-map x (y ∷ ys) =
      elim (cases_lt (key_in x) (key_in y)) [
        | inl lt ↦ entered_here key_of (g x) (g y) (map g ys) lt
            ∙ sym (ap (map g) (entered_here key_in x y ys lt))
        | inr le ↦ entered_past key_of (g x) (g y) (map g ys) le
            ∙ ap (λ zs. g y ∷ zs) (entered-map x ys)
            ∙ sym (ap (map g) (entered_past key_in x y ys le))
      ]

  pub without-map : (key : ℕ) (xs : List A)
      → without key_of key (map g xs) ≡ map g (without key_in key xs)
  without-map key [] = refl
  without-map key (x ∷ xs) =
      elim (cases_eq (key_of (g x)) key) [
        | inl e ↦ without_here key_of key (g x) (map g xs) e ∙ without-map key xs
            ∙ sym (ap (map g) (without_here key_in key x xs e))
        | inr n ↦ without_past key_of key (g x) (map g xs) n
            ∙ ap (λ ys. g x ∷ ys) (without-map key xs)
            ∙ sym (ap (map g) (without_past key_in key x xs n))
      ]
