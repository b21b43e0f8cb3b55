-- Weights of items with a key each, by rising key.
use Rattle.std.proofs.Common.{◌≡◌, ◌≢◌, ℕ, ◌+◌, ◌≤◌, List, [], ◌∷◌, sym, ap, ◌∙◌, refl, inl, inr}
use Rattle.std.proofs.Common.{arith}
use Rattle.std.specs.Prelude.{Option, Some, None, All, AllPairs, ◌==◌, if◌then◌else◌}
use Rattle.std.proofs.lemmas.Bool.{cases_eq, cases_lt}
use Rattle.ea_model.specs.Keyed.{item_at, entered, merged, without, changed_at, IsBelow}
use Rattle.ea_model.proofs.Pairs.{pairs_tail}
use Rattle.ea_model.proofs.Rising.{changed_here, changed_none, changed_past, entered_here}
use Rattle.ea_model.proofs.Rising.{entered_past, item_here, item_past, none-other, others}
use Rattle.ea_model.proofs.Rising.{without_here, without_none, without_past}
use Rattle.ea_machine.specs.Sums.{sum_over}
use Rattle.ea_sound.proofs.Weights.{sum-filter, sum-zero}

module _ {A : Type 0} (key_of : A → ℕ) where
  -- an item more
  pub sum-entered : (f : A → ℕ) (x : A) (ys : List A)
      → sum_over f (entered key_of x ys) ≡ f x + sum_over f ys
  sum-entered f x [] = refl
  sum-entered f x (y ∷ ys) =
      elim (cases_lt (key_of x) (key_of y)) [
        | inl lt ↦ ap (sum_over f) (entered_here key_of x y ys lt)
        | inr le ↦ omega
            (arith, ap (sum_over f) (entered_past key_of x y ys le), sum-entered f x ys)
      ]

  -- the items of two lists
  pub sum-merged : (f : A → ℕ) (xs ys : List A)
      → sum_over f (merged key_of xs ys) ≡ sum_over f xs + sum_over f ys
  sum-merged f [] ys = omega arith
  sum-merged f (x ∷ xs) ys =
      omega (arith, sum-entered f x (merged key_of xs ys), sum-merged f xs ys)

  -- no item is found where the list is empty; one that is first and has the key is the one found
  found_first : (key : ℕ) (x y : A) (ys : List A) → key_of y ≡ key
      → item_at key_of (y ∷ ys) key ≡ Some x → y ≡ x
  found_first key x y ys e there =
      let same : Some y ≡ Some x = sym (item_here key_of key y ys e) ∙ there in cc

  found_later : (key : ℕ) (x y : A) (ys : List A) → key_of y ≢ key
      → item_at key_of (y ∷ ys) key ≡ Some x → item_at key_of ys key ≡ Some x
  found_later key x y ys n there = sym (item_past key_of key y ys n) ∙ there

  -- an item that is found weighs no more than all
  pub sum-item : (f : A → ℕ) (key : ℕ) (x : A) (xs : List A)
      → item_at key_of xs key ≡ Some x → f x ≤ sum_over f xs
  sum-item f key x [] there = absurd cc
  sum-item f key x (y ∷ ys) there =
      elim (cases_eq (key_of y) key) [
        | inl e ↦ omega (arith, ap f (found_first key x y ys e there))
        | inr n ↦ omega (arith, sum-item f key x ys (found_later key x y ys n there))
      ]

  -- it weighs as much as all where items of other keys sum_over nothing
  sum-others : (f : A → ℕ) (key : ℕ) (xs : List A) → ((x : A) → key_of x ≢ key → f x ≡ 0)
      → All (λ x. key_of x ≢ key) xs → sum_over f xs ≡ 0
  sum-others f key xs only other =
      sum-zero f xs (λ i d within. only _ (other i d within))

  pub sum-missing : (f : A → ℕ) (key : ℕ) (xs : List A) → ((x : A) → key_of x ≢ key → f x ≡ 0)
      → item_at key_of xs key ≡ None → sum_over f xs ≡ 0
  sum-missing f key xs only none = sum-others f key xs only (none-other key_of key xs none)

  -- how many items have the key
  abbrev pub counts : ℕ → A → ℕ
  counts key x = if key_of x == key then 1 else 0

  abbrev pub times : ℕ → List A → ℕ
  times key xs = sum_over (counts key) xs

  pub counts-key : (key : ℕ) (x : A) → key_of x ≡ key → counts key x ≡ 1
  counts-key key x e = grind arith

  pub counts-other : (key : ℕ) (x : A) → key_of x ≢ key → counts key x ≡ 0
  counts-other key x n = grind arith

  -- where none is counted, none is found
  times-none : (key : ℕ) (xs : List A) → times key xs ≡ 0 → item_at key_of xs key ≡ None
  times-none key [] none = refl
  times-none key (x ∷ xs) none =
      elim (cases_eq (key_of x) key) [
        | inl e ↦ absurd (omega (arith, none, counts-key key x e))
        | inr n ↦ item_past key_of key x xs n ∙ times-none key xs (omega (arith, none))
      ]

  pub times-others : (key : ℕ) (xs : List A) → times key xs ≡ 0 → All (λ x. key_of x ≢ key) xs
  times-others key xs none = none-other key_of key xs (times-none key xs none)

  -- one at most where the keys rise
  pub times-once : (key : ℕ) (xs : List A) → AllPairs (IsBelow key_of) xs → times key xs ≤ 1
  times-once key [] rising = omega arith
  times-once key (x ∷ xs) rising =
      elim (cases_eq (key_of x) key) [
        | inl e ↦ omega (
          arith,
          counts-key key x e,
          sum-others (counts key) key xs (counts-other key)
              (others key_of key x xs rising e),
        )
        | inr n ↦ omega (
          arith,
          counts-other key x n,
          times-once key xs (pairs_tail (IsBelow key_of) x xs rising),
        )
      ]

  -- so after one that has the key
  later_others : (key : ℕ) (x : A) (xs : List A) → times key (x ∷ xs) ≤ 1 → key_of x ≡ key
      → All (λ y. key_of y ≢ key) xs
  later_others key x xs once e =
      times-others key xs (omega (arith, once, counts-key key x e))

  pub sum-only : (f : A → ℕ) (key : ℕ) (x : A) (xs : List A)
      → ((x : A) → key_of x ≢ key → f x ≡ 0) → times key xs ≤ 1
      → item_at key_of xs key ≡ Some x → sum_over f xs ≡ f x
  sum-only f key x [] only once there = absurd cc
  sum-only f key x (y ∷ ys) only once there =
      elim (cases_eq (key_of y) key) [
        | inl e ↦ omega (
          arith,
          ap f (found_first key x y ys e there),
          sum-others f key ys only (later_others key y ys once e),
        )
        | inr n ↦ omega (
          arith,
          only y n,
          sum-only f key x ys only (omega (arith, once)) (found_later key x y ys n there),
        )
      ]

  -- so where there is weight, an item with the key is found, which has it
  pub item-hit : (f : A → ℕ) (key : ℕ) (xs : List A) → ((x : A) → key_of x ≢ key → f x ≡ 0)
      → times key xs ≤ 1 → 1 ≤ sum_over f xs
      → (x : A) × (item_at key_of xs key ≡ Some x) × (1 ≤ f x)
  item-hit f key xs only once some = by (item_at key_of xs key) refl where
    by : (o : Option A) → item_at key_of xs key ≡ o
        → (x : A) × (item_at key_of xs key ≡ Some x) × (1 ≤ f x)
    by None none = absurd (omega (arith, some, sum-missing f key xs only none))
    by (Some x) there = (x, there, omega (arith, some, sum-only f key x xs only once there))

  -- without one of the items
  pub sum-without : (f : A → ℕ) (key : ℕ) (x : A) (xs : List A) → times key xs ≤ 1
      → item_at key_of xs key ≡ Some x → f x + sum_over f (without key_of key xs) ≡ sum_over f xs
  sum-without f key x [] once there = absurd cc
  sum-without f key x (y ∷ ys) once there =
      elim (cases_eq (key_of y) key) [
        | inl e ↦ omega (
          arith,
          ap f (found_first key x y ys e there),
          ap (sum_over f)
              (without_here key_of key y ys e
              ∙ without_none key_of key ys (later_others key y ys once e)),
        )
        | inr n ↦ omega (
          arith,
          ap (sum_over f) (without_past key_of key y ys n),
          sum-without f key x ys (omega (arith, once)) (found_later key x y ys n there),
        )
      ]

  pub without-missing : (key : ℕ) (xs : List A) → item_at key_of xs key ≡ None
      → without key_of key xs ≡ xs
  without-missing key xs none = without_none key_of key xs (none-other key_of key xs none)

  pub sum-without_less : (f : A → ℕ) (key : ℕ) (xs : List A)
      → sum_over f (without key_of key xs) ≤ sum_over f xs
  sum-without_less f key xs = sum-filter f _ xs

-- the item with a key is changed
module _ {A : Type 0} (key_of : A → ℕ) (g : A → A) (key : ℕ) where
  pub changed-missing : (xs : List A) → item_at key_of xs key ≡ None
      → changed_at key_of g key xs ≡ xs
  changed-missing xs none = changed_none key_of g key xs (none-other key_of key xs none)

  pub sum-changed : (f : A → ℕ) (x : A) (xs : List A) → times key_of key xs ≤ 1
      → item_at key_of xs key ≡ Some x
      → f x + sum_over f (changed_at key_of g key xs) ≡ f (g x) + sum_over f xs
  sum-changed f x [] once there = absurd cc
  sum-changed f x (y ∷ ys) once there =
      elim (cases_eq (key_of y) key) [
        | inl e ↦
            let is : y ≡ x = found_first key_of key x y ys e there in
            omega (
              arith,
              ap f is,
              ap (λ z. f (g z)) is,
              ap (sum_over f) (changed_here key_of g key y ys e),
              ap (sum_over f) (changed_none key_of g key ys (later_others key_of key y ys once e)),
            )
        | inr n ↦ omega (
          arith,
          ap (sum_over f) (changed_past key_of g key y ys n),
          sum-changed f x ys (omega (arith, once)) (found_later key_of key x y ys n there),
        )
      ]
