-- The place of an item, and the place for one, found by its key.
use Rattle.std.proofs.Common.{◌≡◌, ◌≢◌, ℕ, ◌<◌, ◌≤◌, List, Result, Ok, Err, length}
use Rattle.std.proofs.Common.{get_or, sym, subst, refl, inl, inr, arith}
use Rattle.std.specs.Prelude.{IfOk, IfErr, All, AllPairs, Option, None, Some}
use Rattle.std.specs.List.{position_or_len}
use Rattle.std.specs.List.Sorted.{IsSearchInRange, IsBinarySearchResult, IsNonDecreasingBy}
use Rattle.std.specs.Ordering.{nat_cmp, ordering_index}
use Rattle.std.proofs.lemmas.Cmp.{ranked}
use Rattle.std.proofs.lemmas.Bool.{cases_lt}
use Rattle.std.proofs.lemmas.Bool.Decides.{nat_tests}
use Rattle.std.proofs.lemmas.List.Sums.{position_or_len_is}
use Rattle.ea_model.specs.Keyed.{has_key, is_after, item_at, IsBelow}
use Rattle.ea_model.proofs.Rising.{item_at-All, item_at-each, item_at-key}

module _ {A : Type 0} (key_of : A → ℕ) (key : ℕ) (xs : List A) where
  -- the item with the key stands at the place
  pub record IsPlace (i : ℕ) : Type 0 where
    pub within : i < length xs
    pub has_it : (d : A) → key_of (get_or xs i d) ≡ key

  -- the items before the place have lower keys, and the others greater ones
  pub record IsBetween (i : ℕ) : Type 0 where
    pub within : i ≤ length xs
    pub below : (k : ℕ) (d : A) → k < i → key_of (get_or xs k d) < key
    pub above : (k : ℕ) (d : A) → i ≤ k → k < length xs → key < key_of (get_or xs k d)

  pub between-index : (d : A) (i : ℕ) → IsBetween i → i ≡ position_or_len (is_after key_of key) xs
  between-index d i b =
      sym (position_or_len_is (is_after key_of key) xs i d b.within
      (λ k lt. let e : key_of (get_or xs k d) < key = b.below k d lt in grind (arith, nat_tests))
      (λ lt. let e : key < key_of (get_or xs i d) = b.above i d (omega arith) lt in
      grind (arith, nat_tests)))

  pub between-free : (i : ℕ) → IsBetween i → All (λ x. key_of x ≢ key) xs
  between-free i b k d within e = elim (cases_lt k i) [
    | inl lt ↦ omega (arith, e, b.below k d lt)
    | inr le ↦ omega (arith, e, b.above k d le within)
  ]

  none-of : (o : Option A) → item_at key_of xs key ≡ o → All (λ x. key_of x ≢ key) xs → o ≡ None
  none-of None is free = refl
  none-of (Some x) is free = absurd (item_at-All key_of (λ y. key_of y ≢ key) key x xs free is
      (item_at-key key_of key x xs is))

  -- no item has a key that is free
  pub free-none : All (λ x. key_of x ≢ key) xs → item_at key_of xs key ≡ None
  free-none free = none-of (item_at key_of xs key) refl free

  module _ (rising : AllPairs (IsBelow key_of) xs) where
    answers_rise : IsNonDecreasingBy (λ x. ordering_index (nat_cmp (key_of x) key)) xs
    answers_rise i j d le within =
        elim (cases_lt i j) [
          | inl lt ↦ let e : key_of (get_or xs i d) < key_of (get_or xs j d) =
              rising i j d lt within in grind (arith, nat_tests)
          | inr ge ↦ let e : i ≡ j = omega arith in
              subst (λ k. ordering_index (nat_cmp (key_of (get_or xs i d)) key)
              ≤ ordering_index (nat_cmp (key_of (get_or xs k d)) key)) e (omega arith)
        ]

    -- the search finds the item, or the place between the lower and the greater keys
    pub searched : (r : Result ℕ ℕ) → IsSearchInRange r (length xs)
        → IsBinarySearchResult (λ x. nat_cmp (key_of x) key) xs r
        → IfOk r IsPlace × IfErr r IsBetween
    searched (Ok i) within equal = (
      record {
        within = within;
        has_it = λ d. ranked _ key _ (sym (equal d));
      },
      tt,
    )
    searched (Err i) within parted = (
      tt,
      record {
        within = within;
        below = λ k d lt. ranked _ key _ (sym ((parted answers_rise).0 k d (omega arith) lt));
        above = λ k d le lt. ranked _ key _ (sym ((parted answers_rise).1 k d le lt));
      },
    )

    pub place-index : (d : A) (i : ℕ) → IsPlace i → i ≡ position_or_len (has_key key_of key) xs
    place-index d i p =
        let at : key_of (get_or xs i d) ≡ key = p.has_it d in
        sym (position_or_len_is (has_key key_of key) xs i d (omega (arith, p.within))
        (λ k lt. let below : key_of (get_or xs k d) < key_of (get_or xs i d) =
        rising k i d lt p.within in grind (arith, nat_tests)) (λ _. grind (arith, nat_tests)))

    pub place-item : (i : ℕ) → IsPlace i → (d : A) → item_at key_of xs key ≡ Some (get_or xs i d)
    place-item i p d = subst (λ n. item_at key_of xs n ≡ Some (get_or xs i d)) (p.has_it d)
        (item_at-each key_of i d xs rising p.within)
