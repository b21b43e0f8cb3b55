-- Items with different keys, by rising key: what is found under each key says what the list is.
use Rattle.std.proofs.Common.{◌≡◌, ◌≢◌, ℕ, zero, suc, ◌<◌, ◌≤◌, Bool, true, false, List, [], ◌∷◌}
use Rattle.std.proofs.Common.{get_or, refl, sym, ap, ◌∙◌, subst, inl, inr, arith}
use Rattle.std.specs.Prelude.{Option, None, Some, All, AllPairs, filter, if◌then◌else◌, ◌==◌}
use Rattle.std.specs.List.Sorted.{IsNonDecreasingBy, IsPermutation}
use Rattle.std.proofs.lemmas.Bool.{cases_eq, cases_lt, cond_both}
use Rattle.std.proofs.lemmas.List.Elements.{All-cons, All-filter, All-head, All-nil, All-tail}
use Rattle.std.proofs.lemmas.List.Kept.{AllPairs-cons}
use Rattle.std.proofs.lemmas.List.Sorted.{All-permutation, sum_by-IsPermutation}
use Rattle.ea_model.specs.Keyed.{IsBelow, item_at, merged}
use Rattle.ea_model.proofs.Merged.{merged-first, merged-second}
use Rattle.ea_model.proofs.Pairs.{pairs_head, pairs_nil, pairs_tail}
use Rattle.ea_model.proofs.Rising.{item_at-All, item_at-key, item_here, item_past, none-other}
use Rattle.ea_model.proofs.Rising.{others, rising-entered}
use Rattle.ea_sound.proofs.KeyedWeights.{counts-key, counts-other, sum-item, sum-merged}
use Rattle.ea_sound.proofs.KeyedWeights.{sum-missing, times, times-once}
use Rattle.ea_sound.proofs.Weights.{sum-filter, sum_by-sum_over}

module _ {A : Type 0} (key_of : A → ℕ) where
  abbrev Rises : List A → Type 0
  Rises xs = AllPairs (IsBelow key_of) xs

  -- where none of the key is counted, none is found
  pub none-found : (key : ℕ) (xs : List A) → times key_of key xs ≡ 0
      → item_at key_of xs key ≡ None
  none-found key xs none = by (item_at key_of xs key) refl where
    by : (o : Option A) → item_at key_of xs key ≡ o → o ≡ None
    by None q = refl
    by (Some x) q = absurd (omega (
      arith,
      none,
      sum-item key_of (λ y. if key_of y == key then 1 else 0) key x xs q,
      counts-key key_of key x (item_at-key key_of key x xs q),
    ))

  -- a list has no two items of one key
  abbrev pub AreDifferent : List A → Type 0
  AreDifferent xs = (key : ℕ) → times key_of key xs ≤ 1

  later-different : (x : A) (xs : List A) → AreDifferent (x ∷ xs) → AreDifferent xs
  later-different x xs only key = omega (arith, only key)

  first-different : (x : A) (xs : List A) → AreDifferent (x ∷ xs)
      → times key_of (key_of x) xs ≡ 0
  first-different x xs only =
      omega (arith, only (key_of x), counts-key key_of (key_of x) x refl)

  -- so those that a test leaves
  pub filter-different : (p : A → Bool) (xs : List A) → AreDifferent xs
      → AreDifferent (filter p xs)
  filter-different p xs only key = omega (
    arith,
    only key,
    sum-filter (λ y. if key_of y == key then 1 else 0) p xs,
  )

  -- by rising key
  abbrev pub sorted : List A → List A
  sorted xs = merged key_of xs []

  pub sorted-rises : (xs : List A) → AreDifferent xs → Rises (sorted xs)
  sorted-rises [] only = pairs_nil (IsBelow key_of)
  sorted-rises (x ∷ xs) only = rising-entered key_of x (sorted xs)
      (sorted-rises xs (later-different x xs only))
      (none-other key_of (key_of x) (sorted xs) (none-found (key_of x) (sorted xs) (omega (
        arith,
        first-different x xs only,
        sum-merged key_of (λ y. if key_of y == key_of x then 1 else 0) xs [],
      ))))

  -- the same is found
  pub sorted-found : (xs : List A) → AreDifferent xs → (key : ℕ)
      → item_at key_of (sorted xs) key ≡ item_at key_of xs key
  sorted-found xs only key = by (item_at key_of xs key) refl where
    by : (o : Option A) → item_at key_of xs key ≡ o
        → item_at key_of (sorted xs) key ≡ item_at key_of xs key
    by None q = merged-second key_of key xs [] q ∙ sym q
    by (Some x) q = merged-first key_of key x xs [] (sorted-rises xs only) q ∙ sym q

  -- below the first key nothing is found
  below-first : (key : ℕ) (y : A) (ys : List A) → Rises (y ∷ ys) → key < key_of y
      → item_at key_of (y ∷ ys) key ≡ None
  below-first key y ys rising below =
      item_past key_of key y ys (λ q. omega (arith, q, below))
      ∙ none-below ys (pairs_head (IsBelow key_of) y ys rising) where
        none-below : (zs : List A) → All (IsBelow key_of y) zs → item_at key_of zs key ≡ None
        none-below [] all = refl
        none-below (z ∷ zs) all =
            item_past key_of key z zs
            (λ q. omega (arith, q, below, All-head (IsBelow key_of y) z zs all))
            ∙ none-below zs (All-tail (IsBelow key_of y) z zs all)

  abbrev FindsAlike : List A → List A → Type 0
  FindsAlike xs ys = (key : ℕ) → item_at key_of xs key ≡ item_at key_of ys key

  -- the first ones are the same
  first-same : (x y : A) (xs ys : List A) → Rises (x ∷ xs) → Rises (y ∷ ys)
      → FindsAlike (x ∷ xs) (y ∷ ys) → key_of x ≡ key_of y
  first-same x y xs ys rising rises alike = elim (cases_eq (key_of x) (key_of y)) [
    | inl same ↦ same
    | inr other ↦ elim (cases_lt (key_of x) (key_of y)) [
      | inl less ↦ absurd (let never : Some x ≡ None =
          sym (item_here key_of (key_of x) x xs refl) ∙ alike (key_of x)
          ∙ below-first (key_of x) y ys rises less in cc)
      | inr more ↦ absurd (let never : Some y ≡ None =
          sym (item_here key_of (key_of y) y ys refl) ∙ sym (alike (key_of y))
          ∙ below-first (key_of y) x xs rising (omega (arith, more, other)) in cc)
    ]
  ]

  -- rising lists under whose keys the same is found are the same
  pub rising-same : (xs ys : List A) → Rises xs → Rises ys → FindsAlike xs ys → xs ≡ ys
  rising-same [] [] rising rises alike = refl
  rising-same [] (y ∷ ys) rising rises alike = absurd (let never : Some y ≡ None =
      sym (item_here key_of (key_of y) y ys refl) ∙ sym (alike (key_of y)) in cc)
  rising-same (x ∷ xs) [] rising rises alike = absurd (let never : Some x ≡ None =
      sym (item_here key_of (key_of x) x xs refl) ∙ alike (key_of x) in cc)
  rising-same (x ∷ xs) (y ∷ ys) rising rises alike =
      let key = first-same x y xs ys rising rises alike in
      let both : Some x ≡ Some y = sym (item_here key_of (key_of x) x xs refl)
      ∙ alike (key_of x) ∙ item_here key_of (key_of x) y ys (sym key) in
      let is : x ≡ y = cc in
      ap (λ z. z ∷ xs) is
      ∙ ap (λ zs. y ∷ zs) (rising-same xs ys (pairs_tail (IsBelow key_of) x xs rising)
      (pairs_tail (IsBelow key_of) y ys rises) (tails key)) where
        gone : (z : A) (zs : List A) → Rises (z ∷ zs) → (key : ℕ) → key_of z ≡ key
            → item_at key_of zs key ≡ None
        gone z zs up key same = missing zs (others key_of key z zs up same) where
          missing : (us : List A) → All (λ u. key_of u ≢ key) us → item_at key_of us key ≡ None
          missing [] all = refl
          missing (u ∷ us) all =
              item_past key_of key u us (All-head (λ u. key_of u ≢ key) u us all)
              ∙ missing us (All-tail (λ u. key_of u ≢ key) u us all)

        tails : key_of x ≡ key_of y → FindsAlike xs ys
        tails same key = elim (cases_eq (key_of x) key) [
          | inl here ↦ gone x xs rising key here ∙ sym (gone y ys rises key (sym same ∙ here))
          | inr other ↦ sym (item_past key_of key x xs other) ∙ alike key
              ∙ item_past key_of key y ys (λ q. other (same ∙ q))
        ]

  -- so two lists of different keys are the same by rising key
  pub sorted-same : (xs ys : List A) → AreDifferent xs → AreDifferent ys → FindsAlike xs ys
      → sorted xs ≡ sorted ys
  sorted-same xs ys only too alike = rising-same (sorted xs) (sorted ys) (sorted-rises xs only)
      (sorted-rises ys too)
      (λ key. sorted-found xs only key ∙ alike key ∙ sym (sorted-found ys too key))

  -- a test that goes by the key
  module _ (p : A → Bool) (q : ℕ → Bool) (is : (x : A) → p x ≡ q (key_of x)) where
    first-kept : (x : A) (xs : List A) (b : Bool) → p x ≡ b
        → filter p (x ∷ xs) ≡ (if b then x ∷ filter p xs else filter p xs)
    first-kept x xs b same = ap (λ t. if t then x ∷ filter p xs else filter p xs) same

    pub filter-found : (key : ℕ) → q key ≡ true → (xs : List A)
        → item_at key_of (filter p xs) key ≡ item_at key_of xs key
    filter-found key passes [] = refl
    filter-found key passes (x ∷ xs) = elim (cases_eq (key_of x) key) [
      | inl here ↦ ap (λ zs. item_at key_of zs key)
          (first-kept x xs true (is x ∙ ap q here ∙ passes))
          ∙ item_here key_of key x (filter p xs) here ∙ sym (item_here key_of key x xs here)
      | inr other ↦ by (p x) refl other ∙ filter-found key passes xs
          ∙ sym (item_past key_of key x xs other)
    ] where
      by : (b : Bool) → p x ≡ b → key_of x ≢ key
          → item_at key_of (filter p (x ∷ xs)) key ≡ item_at key_of (filter p xs) key
      by true same other = ap (λ zs. item_at key_of zs key) (first-kept x xs true same)
          ∙ item_past key_of key x (filter p xs) other
      by false same other = ap (λ zs. item_at key_of zs key) (first-kept x xs false same)

    pub filter-none : (key : ℕ) → q key ≡ false → (xs : List A)
        → item_at key_of (filter p xs) key ≡ None
    filter-none key fails [] = refl
    filter-none key fails (x ∷ xs) = by (p x) refl ∙ filter-none key fails xs where
      by : (b : Bool) → p x ≡ b
          → item_at key_of (filter p (x ∷ xs)) key ≡ item_at key_of (filter p xs) key
      by false same = ap (λ zs. item_at key_of zs key) (first-kept x xs false same)
      by true same = ap (λ zs. item_at key_of zs key) (first-kept x xs true same)
          ∙ item_past key_of key x (filter p xs) (λ here. absurd (let never : true ≡ false =
          sym same ∙ is x ∙ ap q here ∙ fails in cc))

  -- tests that agree on the items
  pub filter-alike : (p q : A → Bool) (xs : List A) → All (λ x. p x ≡ q x) xs
      → filter p xs ≡ filter q xs
  filter-alike p q [] all = refl
  filter-alike p q (x ∷ xs) all =
      let rest = filter-alike p q xs (All-tail (λ x. p x ≡ q x) x xs all) in
      ap (λ b. if b then x ∷ filter p xs else filter p xs) (All-head (λ x. p x ≡ q x) x xs all)
      ∙ ap (λ zs. if q x then x ∷ zs else zs) rest

-- An item that is kept where it passes a test.
abbrev pub kept_if : {A : Type 0} → (A → Bool) → Option A → Option A
kept_if p None = None
kept_if p (Some x) = if p x then Some x else None

module _ {A : Type 0} (key_of : A → ℕ) where
  -- each of different items is found under its key
  pub different-each : (xs : List A) → AreDifferent key_of xs
      → All (λ x. item_at key_of xs (key_of x) ≡ Some x) xs
  different-each [] only = All-nil (λ x. item_at key_of [] (key_of x) ≡ Some x)
  different-each (x ∷ xs) only =
      All-cons (λ y. item_at key_of (x ∷ xs) (key_of y) ≡ Some y) x xs
      (item_here key_of (key_of x) x xs refl)
      (λ i d within. item_past key_of (key_of (get_or xs i d)) x xs
      (λ q. others-differ x xs only i d within (sym q))
      ∙ different-each xs (later-different key_of x xs only) i d within)
    where
      others-differ : (x : A) (xs : List A) → AreDifferent key_of (x ∷ xs)
          → All (λ y. key_of y ≢ key_of x) xs
      others-differ x xs only = none-other key_of (key_of x) xs
          (none-found key_of (key_of x) xs (first-different key_of x xs only))

  -- a list of the same items
  module _ (xs ys : List A) (only : AreDifferent key_of xs) (same : IsPermutation xs ys) where
    same-times : (key : ℕ) → times key_of key ys ≡ times key_of key xs
    same-times key =
        let f : A → ℕ = λ x. if key_of x == key then 1 else 0 in
        sym (sum_by-sum_over f ys) ∙ sum_by-IsPermutation f xs ys same ∙ sum_by-sum_over f xs

    pub permuted-different : AreDifferent key_of ys
    permuted-different key = omega (arith, same-times key, only key)

    permuted-found : (key : ℕ) → item_at key_of ys key ≡ item_at key_of xs key
    permuted-found key = by (item_at key_of ys key) refl where
      by : (o : Option A) → item_at key_of ys key ≡ o
          → item_at key_of ys key ≡ item_at key_of xs key
      by None q = q ∙ sym (none-found key_of key xs (omega (
        arith,
        same-times key,
        missing q,
      ))) where
        missing : item_at key_of ys key ≡ None → times key_of key ys ≡ 0
        missing none = sum-missing key_of (λ x. if key_of x == key then 1 else 0) key ys
            (λ x other. counts-other key_of key x other) none
      by (Some y) q =
          let there = item_at-All key_of (λ x. item_at key_of xs (key_of x) ≡ Some x) key y ys
          (All-permutation (λ x. item_at key_of xs (key_of x) ≡ Some x) xs ys same
          (different-each xs only)) q in
          q ∙ sym (subst (λ m. item_at key_of xs m ≡ Some y) (item_at-key key_of key y ys q) there)

  -- different items whose keys don't fall rise
  pub different-rises : (ys : List A) → AreDifferent key_of ys → IsNonDecreasingBy key_of ys
      → AllPairs (IsBelow key_of) ys
  different-rises [] only rises = pairs_nil (IsBelow key_of)
  different-rises (y ∷ ys) only rises = AllPairs-cons (IsBelow key_of) y ys
      (λ i d within. strict (key_of y) (key_of (get_or ys i d))
      (rises zero (suc i) d (omega arith) (omega (arith, within)))
      (λ q. others-differ y ys only i d within (sym q)))
      (different-rises ys (later-different key_of y ys only)
      (λ i j d before within. rises (suc i) (suc j) d (omega (arith, before))
      (omega (arith, within))))
    where
      strict : (m n : ℕ) → m ≤ n → m ≢ n → m < n
      strict m n le other = omega (arith, le, other)

      others-differ : (x : A) (xs : List A) → AreDifferent key_of (x ∷ xs)
          → All (λ y. key_of y ≢ key_of x) xs
      others-differ x xs only = none-other key_of (key_of x) xs
          (none-found key_of (key_of x) xs (first-different key_of x xs only))

  -- so a list of the same items whose keys don't fall is the list by rising key
  pub permuted-sorted : (xs ys : List A) → AreDifferent key_of xs → IsPermutation xs ys
      → IsNonDecreasingBy key_of ys → ys ≡ sorted key_of xs
  permuted-sorted xs ys only same rises = rising-same key_of ys (sorted key_of xs)
      (different-rises ys (permuted-different xs ys only same) rises)
      (sorted-rises key_of xs only)
      (λ key. permuted-found xs ys only same key ∙ sym (sorted-found key_of xs only key))

  -- what a test leaves of a rising list rises
  pub filter-rises : (p : A → Bool) (xs : List A) → AllPairs (IsBelow key_of) xs
      → AllPairs (IsBelow key_of) (filter p xs)
  filter-rises p [] rises = pairs_nil (IsBelow key_of)
  filter-rises p (x ∷ xs) rises =
      cond_both (p x) (x ∷ filter p xs) (filter p xs) (λ zs. AllPairs (IsBelow key_of) zs)
      (λ _. AllPairs-cons (IsBelow key_of) x (filter p xs)
      (All-filter p (IsBelow key_of x) xs (pairs_head (IsBelow key_of) x xs rises))
      (filter-rises p xs (pairs_tail (IsBelow key_of) x xs rises)))
      (λ _. filter-rises p xs (pairs_tail (IsBelow key_of) x xs rises))

  -- what is found among those that a test leaves
  pub kept-found : (p : A → Bool) (xs : List A) → AreDifferent key_of xs → (key : ℕ)
      → item_at key_of (filter p xs) key ≡ kept_if p (item_at key_of xs key)
  kept-found p [] only key = refl
  kept-found p (x ∷ xs) only key = elim (cases_eq (key_of x) key) [
    | inl here ↦ by (p x) refl here ∙ sym (ap (kept_if p) (item_here key_of key x xs here))
    | inr other ↦ past (p x) refl other
        ∙ kept-found p xs (later-different key_of x xs only) key
        ∙ sym (ap (kept_if p) (item_past key_of key x xs other))
  ] where
    first-kept : (b : Bool) → p x ≡ b
        → filter p (x ∷ xs) ≡ (if b then x ∷ filter p xs else filter p xs)
    first-kept b same = ap (λ t. if t then x ∷ filter p xs else filter p xs) same

    past : (b : Bool) → p x ≡ b → key_of x ≢ key
        → item_at key_of (filter p (x ∷ xs)) key ≡ item_at key_of (filter p xs) key
    past true is other = ap (λ zs. item_at key_of zs key) (first-kept true is)
        ∙ item_past key_of key x (filter p xs) other
    past false is other = ap (λ zs. item_at key_of zs key) (first-kept false is)

    by : (b : Bool) → p x ≡ b → key_of x ≡ key
        → item_at key_of (filter p (x ∷ xs)) key ≡ (if p x then Some x else None)
    by true is here = ap (λ zs. item_at key_of zs key) (first-kept true is)
        ∙ item_here key_of key x (filter p xs) here
        ∙ sym (ap (λ t. if t then Some x else None) is)
    by false is here = ap (λ zs. item_at key_of zs key) (first-kept false is)
        ∙ none-found key_of key (filter p xs) (omega (
          arith,
          sum-filter (λ y. if key_of y == key then 1 else 0) p xs,
          ap (λ m. times key_of m xs) (sym here),
          first-different key_of x xs only,
        ))
        ∙ sym (ap (λ t. if t then Some x else None) is)

  -- a test leaves the same before and after sorting
  pub filter-sorted : (p : A → Bool) (xs : List A) → AreDifferent key_of xs
      → filter p (sorted key_of xs) ≡ sorted key_of (filter p xs)
  filter-sorted p xs only =
      let kept = filter-different key_of p xs only in
      rising-same key_of (filter p (sorted key_of xs)) (sorted key_of (filter p xs))
      (filter-rises p (sorted key_of xs) (sorted-rises key_of xs only))
      (sorted-rises key_of (filter p xs) kept)
      (λ key. kept-found p (sorted key_of xs) (rising-different (sorted key_of xs)
      (sorted-rises key_of xs only)) key
      ∙ ap (kept_if p) (sorted-found key_of xs only key)
      ∙ sym (sorted-found key_of (filter p xs) kept key ∙ kept-found p xs only key))
    where
      rising-different : (ys : List A) → AllPairs (IsBelow key_of) ys → AreDifferent key_of ys
      rising-different ys rises key = times-once key_of key ys rises
