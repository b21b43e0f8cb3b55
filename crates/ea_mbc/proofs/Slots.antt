-- The slots after a gap is taken out or put in.
use Rattle.std.proofs.Common.{◌≡◌, ℕ, ◌-◌, ◌<◌, ◌≤◌, List, [], ◌∷◌, ◌++◌, length}
use Rattle.std.proofs.Common.{All, refl, sym, ap, ◌∙◌, subst, inl, inr, ◌⊎◌, arith}
use Rattle.std.specs.Prelude.{Contains, slice_index, slice_set}
use Rattle.std.proofs.lemmas.Bool.{cases_eq, cases_lt}
use Rattle.std.proofs.lemmas.List.{get_or-set_same, get_or-set_other, get_or_past, length-set}
use Rattle.std.proofs.lemmas.List.Elements.{All-nil, All-cons, All-contains, All-head}
use Rattle.std.proofs.lemmas.List.Elements.{All-weaker}
use Rattle.std.proofs.lemmas.List.Elements.{All-contains_itself, Contains-append_cases}
use Rattle.std.proofs.lemmas.List.Elements.{Contains-append_left, Contains-append_right}
use Rattle.ea_model.specs.declared.carriers.Gap.{Gap}
use Rattle.ea_model.specs.declared.carriers.Inner.{Inner}
use Rattle.ea_model.specs.Content.{gap}
use Rattle.ea_model.proofs.First.{both_All}
use Rattle.ea_laws.proofs.Chosen.{gap_some, gap_none}
use Rattle.ea_mbc.specs.Indexed.{slot_of, Slots, taken_out, put_in, IsInSlot, Indexed}
use Rattle.ea_mbc.specs.Indexed.{AreApart, IsHeld, HasSlot}
use Rattle.ea_mbc.proofs.Apart.{IsElsewhere, apart-within, apart-elsewhere}

-- the slots without a gap in that of the offset, and with one that begins there
abbrev emptied : ℕ → Slots → Slots
emptied at s = record s { sizes = slice_set s.sizes (slot_of at) 0 }

abbrev filled : ℕ → ℕ → Slots → Slots
filled at size s =
    record s {
      offsets = slice_set s.offsets (slot_of at) at;
      sizes = slice_set s.sizes (slot_of at) size;
    }

taken_none : (at size : ℕ) (s : Slots) → size ≡ 0 → taken_out at size s ≡ s
taken_none at size s e = grind arith

taken_some : (at size : ℕ) (s : Slots) → 0 < size → taken_out at size s ≡ emptied at s
taken_some at size s h = grind arith

put_none : (at size : ℕ) (s : Slots) → size ≡ 0 → put_in at size s ≡ s
put_none at size s e = grind arith

put_some : (at size : ℕ) (s : Slots) → 0 < size → put_in at size s ≡ filled at size s
put_some at size s h = grind arith

same_parts : (inner : Inner) (os ns offsets sizes : List ℕ) → os ≡ offsets → ns ≡ sizes
    → (let s : Slots = record { inner = inner; offsets = os; sizes = ns } in s)
    ≡ record { inner = inner; offsets = offsets; sizes = sizes }
same_parts inner os ns offsets sizes e f = cc

-- slots whose offsets and sizes are known
pub slots-of : (s : Slots) (offsets sizes : List ℕ) → s.offsets ≡ offsets → s.sizes ≡ sizes
    → s ≡ record { inner = s.inner; offsets = offsets; sizes = sizes }
slots-of s offsets sizes e f = same_parts s.inner s.offsets s.sizes offsets sizes e f

-- a place that has something is there
pub within : (xs : List ℕ) (k : ℕ) → 0 < slice_index xs k → k < length xs
within xs k h =
    elim (cases_lt k (length xs)) [
      | inl lt ↦ lt
      | inr le ↦ absurd (let past : slice_index xs k ≡ 0 = get_or_past xs k 0 le in omega arith)
    ]

abbrev pub gap_of : ℕ → ℕ → Gap
gap_of offset size = record { offset = offset; size = size }

-- the gap of a slot
abbrev pub gap_in : Slots → ℕ → Gap
gap_in s k = record { offset = slice_index s.offsets k; size = slice_index s.sizes k }

emptied_there : (xs : List ℕ) (k : ℕ) → slice_index (slice_set xs k 0) k ≡ 0
emptied_there xs k =
    elim (cases_lt k (length xs)) [
      | inl lt ↦ get_or-set_same xs k 0 0 lt
      | inr le ↦ get_or_past (slice_set xs k 0) k 0 (omega (arith, length-set xs k 0))
    ]

same_gap : (a b n m : ℕ) → a ≡ b → n ≡ m
    → gap_of a n ≡ gap_of b m
same_gap a b n m e f = grind arith

-- a gap among others
module _ (g : Gap) (front rest : List Gap) where
  abbrev more : List Gap
  more = front ++ g ∷ rest

  abbrev fewer : List Gap
  fewer = front ++ rest

  among : (x : Gap) → Contains more x → (x ≡ g) ⊎ Contains fewer x
  among x c =
      elim (Contains-append_cases front (g ∷ rest) x c) [
        | inl f ↦ inr (Contains-append_left front rest x f)
        | inr b ↦ elim (Contains-append_cases (g ∷ []) rest x b) [
          | inl one ↦ inl (All-contains (λ y. y ≡ g) (g ∷ []) x
              (All-cons (λ y. y ≡ g) g [] refl (All-nil (λ y. y ≡ g))) one)
          | inr r ↦ inr (Contains-append_right front rest x r)
        ]
      ]

  others : (x : Gap) → Contains fewer x → Contains more x
  others x c =
      elim (Contains-append_cases front rest x c) [
        | inl f ↦ Contains-append_left front (g ∷ rest) x f
        | inr r ↦ Contains-append_right front (g ∷ rest) x
            (Contains-append_right (g ∷ []) rest x r)
      ]

  itself : Contains more g
  itself = Contains-append_right front (g ∷ rest) g
      (All-head (Contains (g ∷ rest)) g rest (All-contains_itself (g ∷ rest)))

  -- what holds of all but the gap, and of it
  with_it : (P : Gap → Type 0) → All P fewer → P g → All P more
  with_it P h here =
      All-weaker (Contains more) P
      (λ x c. elim (among x c) [
        | inl same ↦ subst P (sym same) here
        | inr other ↦ All-contains P fewer x h other
      ]) more (All-contains_itself more)

  without_it : (P : Gap → Type 0) → All P more → All P fewer
  without_it P h =
      All-weaker (Contains fewer) P (λ x c. All-contains P more x h (others x c)) fewer
      (All-contains_itself fewer)

  module _ (at units : ℕ) (s : Slots) (a : AreApart at units more) where
    abbrev slot : ℕ
    slot = slot_of g.offset

    emptied-kept : All (IsInSlot s) more → All (IsInSlot (emptied g.offset s)) fewer
    emptied-kept kept =
        both_All (IsElsewhere g) (IsInSlot s) (IsInSlot (emptied g.offset s))
        (λ x other is. (is.0, get_or-set_other s.sizes slot (slot_of x.offset) 0 0 other ∙ is.1))
        fewer (apart-elsewhere g rest at units front a) (without_it (IsInSlot s) kept)

    -- the gap is taken out
    emptied-Indexed : Indexed units s more → Indexed units (emptied g.offset s) fewer
    emptied-Indexed i =
        record {
          offsets_long = i.offsets_long;
          sizes_long = length-set s.sizes slot 0 ∙ i.sizes_long;
          kept = emptied-kept i.kept;
          only = λ k h. elim (cases_eq k slot) [
            | inl same ↦ absurd (let none = emptied_there s.sizes slot in
                let there : 0 < slice_index (slice_set s.sizes slot 0) slot
                = subst (λ n. 0 < slice_index (slice_set s.sizes slot 0) n) same h in
                omega arith)
            | inr n ↦
                let e = get_or-set_other s.sizes slot k 0 0 n in
                let was = i.only k (omega (arith, e)) in
                elim (among (gap_in s k) was.0) [
                  | inl same ↦ absurd (n (sym was.1 ∙ ap (λ x. slot_of x.offset) same))
                  | inr c ↦ (
                    subst (λ m. Contains fewer
                        (record { offset = slice_index s.offsets k; size = m })) (sym e) c,
                    was.1,
                  )
                ]
          ];
        }

    slot_there : Indexed units s fewer → (slot < length s.offsets) × (slot < length s.sizes)
    slot_there i =
        let room = (apart-within g rest at units front a).2 in
        let long = i.offsets_long in
        let sized = i.sizes_long in
        (omega arith, omega arith)

    filled-kept : Indexed units s fewer → All (IsInSlot (filled g.offset g.size s)) more
    filled-kept i =
        let there = slot_there i in
        with_it (IsInSlot (filled g.offset g.size s))
        (both_All (IsElsewhere g) (IsInSlot s) (IsInSlot (filled g.offset g.size s))
        (λ x other is. (
          get_or-set_other s.offsets slot (slot_of x.offset) g.offset 0 other ∙ is.0,
          get_or-set_other s.sizes slot (slot_of x.offset) g.size 0 other ∙ is.1,
        )) fewer (apart-elsewhere g rest at units front a) i.kept) (
          get_or-set_same s.offsets slot g.offset 0 there.0,
          get_or-set_same s.sizes slot g.size 0 there.1,
        )

    filled_here : (slot < length s.offsets) × (slot < length s.sizes)
        → Contains more (gap_in (filled g.offset g.size s) slot)
        × (slot_of (slice_index (slice_set s.offsets slot g.offset) slot) ≡ slot)
    filled_here there =
        let e = get_or-set_same s.offsets slot g.offset 0 there.0 in
        let f = get_or-set_same s.sizes slot g.size 0 there.1 in
        (subst (Contains more) (sym (same_gap _ _ _ _ e f)) itself, ap slot_of e)

    -- the gap is put in
    filled-Indexed : Indexed units s fewer → Indexed units (filled g.offset g.size s) more
    filled-Indexed i =
        let there = slot_there i in
        record {
          offsets_long = length-set s.offsets slot g.offset ∙ i.offsets_long;
          sizes_long = length-set s.sizes slot g.size ∙ i.sizes_long;
          kept = filled-kept i;
          only = λ k h. elim (cases_eq k slot) [
            | inl same ↦ subst (λ n. Contains more (gap_in (filled g.offset g.size s) n)
                × (slot_of (slice_index (slice_set s.offsets slot g.offset) n) ≡ n)) (sym same)
                (filled_here there)
            | inr n ↦
                let e = get_or-set_other s.offsets slot k g.offset 0 n in
                let f = get_or-set_other s.sizes slot k g.size 0 n in
                let was = i.only k (omega (arith, f)) in (
                  subst (Contains more) (sym (same_gap _ _ _ _ e f)) (others (gap_in s k) was.0),
                  ap slot_of e ∙ was.1,
                )
          ];
        }

    -- its slot was without a gap
    slot-free : Indexed units s fewer → slice_index s.sizes slot ≡ 0
    slot-free i =
        elim (cases_lt 0 (slice_index s.sizes slot)) [
          | inl lt ↦
              let was = i.only slot lt in
              absurd (All-contains (IsElsewhere g) fewer (gap_in s slot)
              (apart-elsewhere g rest at units front a) was.0 was.1)
          | inr le ↦ omega arith
        ]

  slot-holds : (units : ℕ) (s : Slots) → Indexed units s more → 0 < g.size
      → (slot_of g.offset < length s.sizes) × (slice_index s.sizes (slot_of g.offset) ≡ g.size)
  slot-holds units s i some =
      let is = All-contains (IsInSlot s) more g i.kept itself in
      (within s.sizes (slot_of g.offset) (omega (arith, is.1)), is.1)

-- a gap from a up to b among others, if there is one
module _ (a b n : ℕ) (front rest : List Gap) (e : n ≡ b - a) where
  abbrev with_run : List Gap
  with_run = front ++ (gap a b ++ rest)

  one_run : 0 < n → gap a b ≡ gap_of a n ∷ []
  one_run some = subst (λ m. gap a b ≡ gap_of a m ∷ []) (sym e) (gap_some a b (omega arith))

  of_one : (P : List Gap → Type 0) → 0 < n → P with_run → P (front ++ gap_of a n ∷ rest)
  of_one P some = subst (λ xs. P (front ++ (xs ++ rest))) (one_run some)

  to_one : (P : List Gap → Type 0) → 0 < n → P (front ++ gap_of a n ∷ rest) → P with_run
  to_one P some = subst (λ xs. P (front ++ (xs ++ rest))) (sym (one_run some))

  no_run : n ≤ 0 → with_run ≡ front ++ rest
  no_run none = ap (λ xs. front ++ (xs ++ rest)) (gap_none a b (omega arith))

  pub run-IsHeld : (units : ℕ) (s : Slots) → Indexed units s with_run → IsHeld a n s
  run-IsHeld units s i some =
      slot-holds (gap_of a n) front rest units s (of_one (Indexed units s) some i) some

  module _ (at units : ℕ) (s : Slots) (apart : AreApart at units with_run) where
    pub run-taken : Indexed units s with_run → Indexed units (taken_out a n s) (front ++ rest)
    run-taken i =
        elim (cases_lt 0 n) [
          | inl some ↦ subst (λ t. Indexed units t (front ++ rest)) (sym (taken_some a n s some))
              (emptied-Indexed (gap_of a n) front rest at units s
              (of_one (AreApart at units) some apart) (of_one (Indexed units s) some i))
          | inr none ↦ subst (λ t. Indexed units t (front ++ rest))
              (sym (taken_none a n s (omega arith))) (subst (Indexed units s) (no_run none) i)
        ]

    pub run-put : Indexed units s (front ++ rest) → Indexed units (put_in a n s) with_run
    run-put i =
        elim (cases_lt 0 n) [
          | inl some ↦ subst (λ t. Indexed units t with_run) (sym (put_some a n s some))
              (to_one (Indexed units (filled a n s)) some
              (filled-Indexed (gap_of a n) front rest at units s
              (of_one (AreApart at units) some apart) i))
          | inr none ↦ subst (λ t. Indexed units t with_run)
              (sym (put_none a n s (omega arith))) (subst (Indexed units s) (sym (no_run none)) i)
        ]

    pub run-HasSlot : Indexed units s (front ++ rest) → HasSlot a n s
    run-HasSlot i some =
        let one = of_one (AreApart at units) some apart in
        let there = slot_there (gap_of a n) front rest at units s one i in
        let room = (apart-within (gap_of a n) rest at units front one).2 in
        let long = i.sizes_long in (
          there.0,
          there.1,
          slot-free (gap_of a n) front rest at units s one i,
          omega arith,
        )
