-- Two lists of items by rising key as one.
use Rattle.std.proofs.Common.{◌≡◌, ◌≢◌, ℕ, ◌+◌, ◌<◌, List, [], ◌∷◌, length, sym, ap, ◌∙◌, subst}
use Rattle.std.proofs.Common.{refl, inl, inr, arith}
use Rattle.std.specs.Prelude.{Some, None, All, AllPairs, sum_by}
use Rattle.std.proofs.lemmas.Bool.{cases_lt, cases_eq}
use Rattle.std.proofs.lemmas.List.Elements.{All-nil, All-cons, All-filter, All-head, All-tail}
use Rattle.std.proofs.lemmas.List.Kept.{AllPairs-cons}
use Rattle.std.proofs.lemmas.List.Sums.{sum_by-cons}
use Rattle.ea_model.specs.Keyed.{item_at, entered, merged, without, changed_at, IsBelow}
use Rattle.ea_model.proofs.Pairs.{pairs_head, pairs_nil, pairs_tail}
use Rattle.ea_model.proofs.Rising.{All-entered, change, entered_here, entered_past, item_at-All}
use Rattle.ea_model.proofs.Rising.{item_at-key, item_at-new, item_at-old, item_here, item_past}
use Rattle.ea_model.proofs.Rising.{key_stays, length-entered, none-other, without_here}
use Rattle.ea_model.proofs.Rising.{without_past}

module _ {A : Type 0} (key_of : A → ℕ) where
  entered_only : (a b : A) → key_of a ≢ key_of b
      → entered key_of a (b ∷ []) ≡ entered key_of b (a ∷ [])
  entered_only a b h =
      elim (cases_lt (key_of a) (key_of b)) [ inl p ↦ grind arith | inr q ↦ grind arith ]

  entered_first : (a b t : A) (ts : List A) → key_of a ≢ key_of b → key_of b < key_of t
      → entered key_of a (b ∷ t ∷ ts) ≡ entered key_of b (entered key_of a (t ∷ ts))
  entered_first a b t ts h lt =
      elim (cases_lt (key_of a) (key_of b)) [ inl p ↦ grind arith | inr q ↦ grind arith ]

  -- items of different keys may be entered in either order
  pub entered-entered : (a b : A) (ts : List A) → key_of a ≢ key_of b
      → entered key_of a (entered key_of b ts) ≡ entered key_of b (entered key_of a ts)
  entered-entered a b [] h = entered_only a b h
  entered-entered a b (t ∷ ts) h =
      elim (cases_lt (key_of b) (key_of t)) [
        | inl p ↦ ap (entered key_of a) (entered_here key_of b t ts p) ∙ entered_first a b t ts h p
        | inr q ↦ elim (cases_lt (key_of a) (key_of t)) [
          | inl p ↦ sym (ap (entered key_of b) (entered_here key_of a t ts p)
              ∙ entered_first b a t ts (λ e. h (sym e)) p)
          | inr r ↦ ap (entered key_of a) (entered_past key_of b t ts q)
              ∙ entered_past key_of a t (entered key_of b ts) r
              ∙ ap (λ xs. t ∷ xs) (entered-entered a b ts h)
              ∙ sym (ap (entered key_of b) (entered_past key_of a t ts r)
              ∙ entered_past key_of b t (entered key_of a ts) q)
        ]
      ]

  -- what holds of all holds of the one that was entered and of the others
  pub entered-All : (P : A → Type 0) (x : A) (ys : List A) → All P (entered key_of x ys)
      → P x × All P ys
  entered-All P x [] h = (All-head P x [] h, All-nil P)
  entered-All P x (y ∷ ys) h =
      elim (cases_lt (key_of x) (key_of y)) [
        | inl p ↦ let k = subst (All P) (entered_here key_of x y ys p) h in
            (All-head P x (y ∷ ys) k, All-tail P x (y ∷ ys) k)
        | inr q ↦
            let k = subst (All P) (entered_past key_of x y ys q) h in
            let more = entered-All P x ys (All-tail P y (entered key_of x ys) k) in
            (more.0, All-cons P y ys (All-head P y (entered key_of x ys) k) more.1)
      ]

  -- what holds of the pairs of all holds of those of the others
  pub entered-pairs : (R : A → A → Type 0) (x : A) (ys : List A)
      → AllPairs R (entered key_of x ys) → AllPairs R ys
  entered-pairs R x [] h = pairs_nil R
  entered-pairs R x (y ∷ ys) h =
      elim (cases_lt (key_of x) (key_of y)) [
        | inl p ↦ pairs_tail R x (y ∷ ys) (subst (AllPairs R) (entered_here key_of x y ys p) h)
        | inr q ↦
            let k = subst (AllPairs R) (entered_past key_of x y ys q) h in
            AllPairs-cons R y ys
            (entered-All (R y) x ys (pairs_head R y (entered key_of x ys) k)).1
            (entered-pairs R x ys (pairs_tail R y (entered key_of x ys) k))
      ]

  -- and, where it holds both ways, of the one that was entered with each of the others
  pub entered-others : (R : A → A → Type 0) → ((a b : A) → R a b → R b a) → (x : A)
      → (ys : List A) → AllPairs R (entered key_of x ys) → All (R x) ys
  entered-others R turned x [] h = All-nil (R x)
  entered-others R turned x (y ∷ ys) h =
      elim (cases_lt (key_of x) (key_of y)) [
        | inl p ↦ pairs_head R x (y ∷ ys) (subst (AllPairs R) (entered_here key_of x y ys p) h)
        | inr q ↦
            let k = subst (AllPairs R) (entered_past key_of x y ys q) h in
            All-cons (R x) y ys
            (turned y x (entered-All (R y) x ys (pairs_head R y (entered key_of x ys) k)).0)
            (entered-others R turned x ys (pairs_tail R y (entered key_of x ys) k))
      ]

  -- with one more, where it holds both ways of that one and each of the others
  pub entered-with : (R : A → A → Type 0) → ((a b : A) → R a b → R b a) → (x : A) → (ys : List A)
      → AllPairs R ys → All (R x) ys → AllPairs R (entered key_of x ys)
  entered-with R turned x [] p a = AllPairs-cons R x [] a p
  entered-with R turned x (y ∷ ys) p a =
      elim (cases_lt (key_of x) (key_of y)) [
        | inl lt ↦ subst (AllPairs R) (sym (entered_here key_of x y ys lt))
            (AllPairs-cons R x (y ∷ ys) a p)
        | inr le ↦ subst (AllPairs R) (sym (entered_past key_of x y ys le))
            (AllPairs-cons R y (entered key_of x ys)
            (All-entered key_of (R y) x ys (turned x y (All-head (R x) y ys a))
            (pairs_head R y ys p))
            (entered-with R turned x ys (pairs_tail R y ys p) (All-tail (R x) y ys a)))
      ]

  abbrev pub Differ : A → A → Type 0
  Differ a b = key_of a ≢ key_of b

  -- where the keys rise, the others have other keys
  pub entered-differ : (x : A) (ys : List A) → AllPairs (IsBelow key_of) (entered key_of x ys)
      → All (λ y. key_of y ≢ key_of x) ys
  entered-differ x ys rising =
      let apart : AllPairs Differ (entered key_of x ys) = λ i j d lt within e. omega
      (arith, rising i j d lt within) in
      let others = entered-others Differ (λ a b n e. n (sym e)) x ys apart in
      λ i d within e. others i d within (sym e)

  pub merged-All : (P : A → Type 0) (xs ys : List A) → All P xs → All P ys
      → All P (merged key_of xs ys)
  merged-All P [] ys p q = q
  merged-All P (x ∷ xs) ys p q = All-entered key_of P x (merged key_of xs ys)
      (All-head P x xs p) (merged-All P xs ys (All-tail P x xs p) q)

  pub merged-each : (P : A → Type 0) (xs ys : List A) → All P (merged key_of xs ys)
      → All P xs × All P ys
  merged-each P [] ys h = (All-nil P, h)
  merged-each P (x ∷ xs) ys h =
      let here = entered-All P x (merged key_of xs ys) h in
      let rest = merged-each P xs ys here.1 in
      (All-cons P x xs here.0 rest.0, rest.1)

  -- what holds both ways of the pairs of all holds of those of each list
  pub merged-pairs : (R : A → A → Type 0) → ((a b : A) → R a b → R b a) → (xs ys : List A)
      → AllPairs R (merged key_of xs ys) → AllPairs R xs × AllPairs R ys
  merged-pairs R turned [] ys h = (pairs_nil R, h)
  merged-pairs R turned (x ∷ xs) ys h =
      let others = entered-others R turned x (merged key_of xs ys) h in
      let rest = merged-pairs R turned xs ys (entered-pairs R x (merged key_of xs ys) h) in (
        AllPairs-cons R x xs (merged-each (R x) xs ys others).0 rest.0,
        rest.1,
      )

  -- and of one of each
  pub merged-across : (R : A → A → Type 0) → ((a b : A) → R a b → R b a) → (xs ys : List A)
      → AllPairs R (merged key_of xs ys) → All (λ x. All (R x) ys) xs
  merged-across R turned [] ys h = All-nil (λ x. All (R x) ys)
  merged-across R turned (x ∷ xs) ys h =
      All-cons (λ y. All (R y) ys) x xs
      (merged-each (R x) xs ys (entered-others R turned x (merged key_of xs ys) h)).1
      (merged-across R turned xs ys (entered-pairs R x (merged key_of xs ys) h))

  -- where the keys of all rise, no item of the second list has the key of one of the first
  pub merged-apart : (key : ℕ) (c : A) (xs ys : List A)
      → AllPairs (IsBelow key_of) (merged key_of xs ys) → item_at key_of xs key ≡ Some c
      → All (λ y. key_of y ≢ key) ys
  merged-apart key c xs ys rising there =
      let differ : AllPairs Differ (merged key_of xs ys) = λ i j d lt within e. omega
      (arith, rising i j d lt within) in
      let across = merged-across Differ (λ a b n e. n (sym e)) xs ys differ in
      let apart = item_at-All key_of (λ x. All (Differ x) ys) key c xs across there in
      λ i d within e. apart i d within (item_at-key key_of key c xs there ∙ sym e)

  -- an item more in the one list or in the other
  pub merged-left : (x : A) (xs ys : List A) → All (λ y. key_of y ≢ key_of x) xs
      → merged key_of (entered key_of x xs) ys ≡ entered key_of x (merged key_of xs ys)
  merged-left x [] ys new = refl
  merged-left x (y ∷ xs) ys new =
      elim (cases_lt (key_of x) (key_of y)) [
        | inl p ↦ ap (λ zs. merged key_of zs ys) (entered_here key_of x y xs p)
        | inr q ↦
            ap (λ zs. merged key_of zs ys) (entered_past key_of x y xs q)
            ∙ ap (entered key_of y)
            (merged-left x xs ys (All-tail (λ z. key_of z ≢ key_of x) y xs new))
            ∙ entered-entered y x (merged key_of xs ys)
            (All-head (λ z. key_of z ≢ key_of x) y xs new)
      ]

  pub merged-right : (x : A) (xs ys : List A) → All (λ y. key_of y ≢ key_of x) xs
      → merged key_of xs (entered key_of x ys) ≡ entered key_of x (merged key_of xs ys)
  merged-right x [] ys new = refl
  merged-right x (y ∷ xs) ys new =
      ap (entered key_of y) (merged-right x xs ys (All-tail (λ z. key_of z ≢ key_of x) y xs new))
      ∙ entered-entered y x (merged key_of xs ys) (All-head (λ z. key_of z ≢ key_of x) y xs new)

  entered_front : (x : A) (ys : List A) → All (IsBelow key_of x) ys
      → entered key_of x ys ≡ x ∷ ys
  entered_front x [] below = refl
  entered_front x (y ∷ ys) below =
      entered_here key_of x y ys (All-head (IsBelow key_of x) y ys below)

  without_entered : (key : ℕ) (x : A) (ys : List A) → key_of x ≡ key
      → without key_of key (entered key_of x ys) ≡ without key_of key ys
  without_entered key x [] e = without_here key_of key x [] e
  without_entered key x (y ∷ ys) e =
      elim (cases_lt (key_of x) (key_of y)) [
        | inl p ↦ ap (without key_of key) (entered_here key_of x y ys p)
            ∙ without_here key_of key x (y ∷ ys) e
        | inr q ↦ ap (without key_of key) (entered_past key_of x y ys q)
            ∙ without_first key y (entered key_of x ys) ys (without_entered key x ys e)
      ] where
        without_first : (key : ℕ) (y : A) (us vs : List A)
            → without key_of key us ≡ without key_of key vs
            → without key_of key (y ∷ us) ≡ without key_of key (y ∷ vs)
        without_first key y us vs same =
            elim (cases_eq (key_of y) key) [
              | inl e ↦ without_here key_of key y us e ∙ same
                  ∙ sym (without_here key_of key y vs e)
              | inr n ↦ without_past key_of key y us n ∙ ap (λ zs. y ∷ zs) same
                  ∙ sym (without_past key_of key y vs n)
            ]

  entered_without : (key : ℕ) (x : A) (ys : List A) → key_of x ≢ key
      → AllPairs (IsBelow key_of) ys
      → without key_of key (entered key_of x ys) ≡ entered key_of x (without key_of key ys)
  entered_without key x [] n rising = without_past key_of key x [] n
  entered_without key x (y ∷ ys) n rising =
      let rest = pairs_tail (IsBelow key_of) y ys rising in
      elim (cases_lt (key_of x) (key_of y)) [
        | inl p ↦
            ap (without key_of key) (entered_here key_of x y ys p)
            ∙ without_past key_of key x (y ∷ ys) n
            ∙ sym (entered_front x (without key_of key (y ∷ ys))
            (kept_above (y ∷ ys)
            (All-cons (IsBelow key_of x) y ys p
            (λ i d within. omega (arith, pairs_head (IsBelow key_of) y ys rising i d within)))))
        | inr q ↦ elim (cases_eq (key_of y) key) [
          | inl e ↦ ap (without key_of key) (entered_past key_of x y ys q)
              ∙ without_here key_of key y (entered key_of x ys) e
              ∙ entered_without key x ys n rest
              ∙ sym (ap (entered key_of x) (without_here key_of key y ys e))
          | inr m ↦ ap (without key_of key) (entered_past key_of x y ys q)
              ∙ without_past key_of key y (entered key_of x ys) m
              ∙ ap (λ zs. y ∷ zs) (entered_without key x ys n rest)
              ∙ sym (ap (entered key_of x) (without_past key_of key y ys m)
              ∙ entered_past key_of x y (without key_of key ys) q)
        ]
      ] where
        kept_above : (zs : List A) → All (IsBelow key_of x) zs
            → All (IsBelow key_of x) (without key_of key zs)
        kept_above zs above = All-filter _ (IsBelow key_of x) zs above

  -- an item less
  pub merged-without : (key : ℕ) (xs ys : List A) → AllPairs (IsBelow key_of) (merged key_of xs ys)
      → without key_of key (merged key_of xs ys)
      ≡ merged key_of (without key_of key xs) (without key_of key ys)
  merged-without key [] ys rising = refl
  merged-without key (x ∷ xs) ys rising =
      let rest = entered-pairs (IsBelow key_of) x (merged key_of xs ys) rising in
      elim (cases_eq (key_of x) key) [
        | inl e ↦ without_entered key x (merged key_of xs ys) e ∙ merged-without key xs ys rest
            ∙ sym (ap (λ zs. merged key_of zs (without key_of key ys))
            (without_here key_of key x xs e))
        | inr n ↦ entered_without key x (merged key_of xs ys) n rest
            ∙ ap (entered key_of x) (merged-without key xs ys rest)
            ∙ sym (ap (λ zs. merged key_of zs (without key_of key ys))
            (without_past key_of key x xs n))
      ]

  -- the item with a key is one of the first list, or else of the second
  pub merged-first : (key : ℕ) (c : A) (xs ys : List A)
      → AllPairs (IsBelow key_of) (merged key_of xs ys) → item_at key_of xs key ≡ Some c
      → item_at key_of (merged key_of xs ys) key ≡ Some c
  merged-first key c [] ys rising there = absurd cc
  merged-first key c (x ∷ xs) ys rising there =
      elim (cases_eq (key_of x) key) [
        | inl e ↦ ap (item_at key_of (entered key_of x (merged key_of xs ys))) (sym e)
            ∙ item_at-new key_of x (merged key_of xs ys)
            (entered-differ x (merged key_of xs ys) rising)
            ∙ sym (item_here key_of key x xs e) ∙ there
        | inr n ↦ item_at-old key_of key x (merged key_of xs ys) (λ e. n (sym e))
            ∙ merged-first key c xs ys
            (entered-pairs (IsBelow key_of) x (merged key_of xs ys) rising)
            (sym (item_past key_of key x xs n) ∙ there)
      ]

  pub merged-second : (key : ℕ) (xs ys : List A) → item_at key_of xs key ≡ None
      → item_at key_of (merged key_of xs ys) key ≡ item_at key_of ys key
  merged-second key xs ys none = beside xs (none-other key_of key xs none) where
    beside : (xs : List A) → All (λ x. key_of x ≢ key) xs
        → item_at key_of (merged key_of xs ys) key ≡ item_at key_of ys key
    beside [] others = refl
    beside (x ∷ xs) others =
        item_at-old key_of key x (merged key_of xs ys)
        (λ e. All-head (λ y. key_of y ≢ key) x xs others (sym e))
        ∙ beside xs (All-tail (λ y. key_of y ≢ key) x xs others)

  sum_entered : (f : A → ℕ) (x : A) (ys : List A)
      → sum_by f (entered key_of x ys) ≡ f x + sum_by f ys
  sum_entered f x [] = sum_by-cons f x []
  sum_entered f x (y ∷ ys) =
      elim (cases_lt (key_of x) (key_of y)) [
        | inl p ↦ ap (sum_by f) (entered_here key_of x y ys p) ∙ sum_by-cons f x (y ∷ ys)
        | inr q ↦ omega (
          arith,
          ap (sum_by f) (entered_past key_of x y ys q),
          sum_by-cons f y (entered key_of x ys),
          sum_by-cons f y ys,
          sum_entered f x ys,
        )
      ]

  pub sum-merged : (f : A → ℕ) (xs ys : List A)
      → sum_by f (merged key_of xs ys) ≡ sum_by f xs + sum_by f ys
  sum-merged f [] ys = omega arith
  sum-merged f (x ∷ xs) ys = omega (
    arith,
    sum_entered f x (merged key_of xs ys),
    sum_by-cons f x xs,
    sum-merged f xs ys,
  )

  pub length-merged : (xs ys : List A) → length (merged key_of xs ys) ≡ length xs + length ys
  length-merged [] ys = omega arith
  length-merged (x ∷ xs) ys =
      omega (arith, length-entered key_of x (merged key_of xs ys), length-merged xs ys)

-- a change of the item with a key
module _ {A : Type 0} (key_of : A → ℕ) (f : A → A) (key : ℕ)
    (keeps : (x : A) → key_of (f x) ≡ key_of x) where
  entered_changed : (x : A) (ys : List A)
      → entered key_of (change key_of f key x) (changed_at key_of f key ys)
      ≡ changed_at key_of f key (entered key_of x ys)
  entered_changed x [] = refl
  entered_changed x (y ∷ ys) =
      let stays = key_stays key_of f key keeps in
      let more = changed_at key_of f key ys in
      elim (cases_lt (key_of x) (key_of y)) [
        | inl p ↦ entered_here key_of (change key_of f key x) (change key_of f key y) more
            (omega (arith, p, stays x, stays y))
            ∙ sym (ap (changed_at key_of f key) (entered_here key_of x y ys p))
        | inr q ↦ entered_past key_of (change key_of f key x) (change key_of f key y) more
            (omega (arith, q, stays x, stays y))
            ∙ ap (λ zs. change key_of f key y ∷ zs) (entered_changed x ys)
            ∙ sym (ap (changed_at key_of f key) (entered_past key_of x y ys q))
      ]

  pub merged-changed : (xs ys : List A)
      → merged key_of (changed_at key_of f key xs) (changed_at key_of f key ys)
      ≡ changed_at key_of f key (merged key_of xs ys)
  merged-changed [] ys = refl
  merged-changed (x ∷ xs) ys = ap (entered key_of (change key_of f key x)) (merged-changed xs ys)
      ∙ entered_changed x (merged key_of xs ys)
