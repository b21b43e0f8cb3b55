-- The chosen gap and the largest one, by slots.
use Rattle.std.proofs.Common.{◌≡◌, ℕ, ◌<◌, ◌≤◌, max, Bool, false, List, [], ◌∷◌}
use Rattle.std.proofs.Common.{length, All, refl, sym, ap, ◌∙◌, subst, inl, inr, arith}
use Rattle.std.specs.Prelude.{Option, None, Some, IfSome, IsNone, nat_lt, nat_le, Contains}
use Rattle.std.specs.Prelude.{slice_index}
use Rattle.std.proofs.lemmas.Bool.{cases_eq, cases_lt, le-ltb, true≢false}
use Rattle.std.proofs.lemmas.List.Elements.{All-nil, All-cons, All-contains, All-contains_itself}
use Rattle.std.proofs.lemmas.List.Elements.{All-filter, All-get_or, All-head, All-tail, All-weaker}
use Rattle.std.proofs.lemmas.List.Elements.{Contains-append_right, at_from_Contains}
use Rattle.ea_model.specs.declared.carriers.Gap.{Gap}
use Rattle.ea_model.specs.declared.carriers.Inner.{Inner}
use Rattle.ea_model.specs.declared.carriers.Inner.TheVariants.{Bf, Aobf, Aoff}
use Rattle.ea_model.specs.Content.{largest}
use Rattle.ea_model.specs.Choice.{less, before, fitting, choice, IsFirst}
use Rattle.ea_model.proofs.First.{both_All, large-here, large-past}
use Rattle.ea_laws.proofs.Chosen.{choice-none, choice-fits}
use Rattle.ea_mbc.specs.Indexed.{slot_of, Slots, IsInSlot, Indexed, AreApart}
use Rattle.ea_mbc.proofs.Apart.{all_whole}
use Rattle.ea_mbc.proofs.Least.{choice-IsFirst}
use Rattle.ea_mbc.proofs.Slots.{gap_of, gap_in, within}

-- no gap is larger than the largest, which is no larger than what no gap is larger than
largest-each : (gs : List Gap) → All (λ g. g.size ≤ largest gs) gs
largest-each [] = All-nil (λ (g : Gap). g.size ≤ 0)
largest-each (g ∷ gs) =
    All-cons (λ (h : Gap). h.size ≤ largest (g ∷ gs)) g gs (omega arith)
    (All-weaker (λ (h : Gap). h.size ≤ largest gs) (λ (h : Gap). h.size ≤ largest (g ∷ gs))
    (λ h le. omega arith) gs (largest-each gs))

largest-bound : (n : ℕ) (gs : List Gap) → All (λ g. g.size ≤ n) gs → largest gs ≤ n
largest-bound n [] h = omega arith
largest-bound n (g ∷ gs) h =
    omega (
      arith,
      All-head (λ (x : Gap). x.size ≤ n) g gs h,
      largest-bound n gs (All-tail (λ (x : Gap). x.size ≤ n) g gs h),
    )

same_parts : (g h : Gap) → g.offset ≡ h.offset → g.size ≡ h.size → g ≡ h
same_parts g h e f = grind arith

-- of two gaps that tie each begins where the other does
tie-Bf : (a b c d : ℕ) → less a b (nat_lt d c) ≡ false → less b a (nat_lt c d) ≡ false → c ≡ d
tie-Bf a b c d h k = grind arith

tie-Aoff : (a b : ℕ) → nat_lt a b ≡ false → nat_lt b a ≡ false → a ≡ b
tie-Aoff a b h k = grind arith

tie : (inner : Inner) (g h : Gap) → before inner g h ≡ false → before inner h g ≡ false
    → g.offset ≡ h.offset
tie Bf g h a b = tie-Bf g.size h.size g.offset h.offset a b
tie Aobf g h a b = sym (tie-Bf g.size h.size h.offset g.offset a b)
tie Aoff g h a b = tie-Aoff g.offset h.offset a b

not_before : (a b : ℕ) (rest : Bool) → b ≤ a → (a ≡ b → rest ≡ false) → less a b rest ≡ false
not_before a b rest h k = grind arith

-- a gap that is large enough is one of those that fit
fitting-each : (need : ℕ) (gs : List Gap)
    → All (λ g. need ≤ g.size → Contains (fitting need gs) g) gs
fitting-each need [] = All-nil (λ (g : Gap). need ≤ g.size → Contains [] g)
fitting-each need (g ∷ gs) =
    let P : List Gap → Gap → Type 0 = λ xs h. need ≤ h.size → Contains xs h in
    let more = fitting-each need gs in
    elim (cases_lt g.size need) [
      | inl lt ↦ subst (λ xs. All (P xs) (g ∷ gs))
          (sym (large-past (λ (h : Gap). h.size) need g gs lt))
          (All-cons (P (fitting need gs)) g gs (λ le. absurd (omega arith)) more)
      | inr le ↦ subst (λ xs. All (P xs) (g ∷ gs))
          (sym (large-here (λ (h : Gap). h.size) need g gs le))
          (All-cons (P (g ∷ fitting need gs)) g gs
          (λ _. All-head (Contains (g ∷ fitting need gs)) g (fitting need gs)
          (All-contains_itself (g ∷ fitting need gs)))
          (All-weaker (P (fitting need gs)) (P (g ∷ fitting need gs))
          (λ h among fits. Contains-append_right (g ∷ []) (fitting need gs) h (among fits)) gs
          more))
    ]

is_none : (o : Option Gap) → IsNone o → o ≡ None
is_none None h = refl
is_none (Some g) h = absurd (true≢false h)

slots-rise : (a b : ℕ) → slot_of a < slot_of b → a ≤ b
slots-rise a b h = omega arith

module _ (at end units : ℕ) (s : Slots) (gs : List Gap) (a : AreApart at end gs)
    (i : Indexed units s gs) where
  in_slot : (g : Gap) → Contains gs g → IsInSlot s g
  in_slot g c = All-contains (IsInSlot s) gs g i.kept c

  whole : (g : Gap) → Contains gs g → 0 < g.size
  whole g c = All-contains (λ (h : Gap). 0 < h.size) gs g (all_whole at end gs a) c

  -- what holds of each size holds of the size of each gap
  each_size : (P : ℕ → Type 0) → All P s.sizes → All (λ g. P g.size) gs
  each_size P h =
      All-weaker (Contains gs) (λ (g : Gap). P g.size)
      (λ g c.
      let size = (in_slot g c).1 in
      let some = whole g c in
      subst P size (All-get_or P s.sizes (slot_of g.offset) 0
      (within s.sizes (slot_of g.offset) (omega arith)) h)) gs (All-contains_itself gs)

  pub largest-is : (n : ℕ) → All (λ m. m ≤ n) s.sizes → (0 < n → Contains s.sizes n)
      → n ≡ largest gs
  largest-is n bound met =
      let most = largest-bound n gs (each_size (λ m. m ≤ n) bound) in
      elim (cases_lt 0 n) [
        | inl some ↦
            let there = at_from_Contains s.sizes n (met some) in
            let is : slice_index s.sizes there.0 ≡ n = there.2 0 in
            let g = i.only there.0 (omega arith) in
            let least = All-contains (λ (h : Gap). h.size ≤ largest gs) gs (gap_in s there.0)
            (largest-each gs) g.0 in
            omega arith
        | inr none ↦ omega arith
      ]

  pub choice-nothing : (inner : Inner) (need : ℕ) → All (λ n. n < max need 1) s.sizes
      → choice inner need gs ≡ None
  choice-nothing inner need h =
      is_none (choice inner need gs)
      ((choice-none inner need gs).1
      (both_All (λ (g : Gap). g.size < max need 1) (λ (g : Gap). 0 < g.size)
      (λ (g : Gap). g.size < need) (λ g less some. omega arith) gs
      (each_size (λ n. n < max need 1) h) (all_whole at end gs a)))

  -- a gap begins no later than one of a slot that is no earlier
  in_order : (g h : Gap) → Contains gs g → Contains gs h → slot_of g.offset ≤ slot_of h.offset
      → g.offset ≤ h.offset
  in_order g h c d le =
      elim (cases_eq (slot_of g.offset) (slot_of h.offset)) [
        | inl same ↦
            let e = sym (in_slot g c).0
            ∙ ap (λ k. slice_index s.offsets k) same
            ∙ (in_slot h d).0 in
            omega arith
        | inr n ↦ slots-rise g.offset h.offset (omega arith)
      ]

  same_gap : (g h : Gap) → Contains gs g → Contains gs h → g.offset ≡ h.offset → g ≡ h
  same_gap g h c d e =
      same_parts g h e
      (sym (in_slot g c).1 ∙ ap (λ k. slice_index s.sizes (slot_of k)) e ∙ (in_slot h d).1)

  -- a gap that fits, with none that fits before it, is chosen
  module _ (inner : Inner) (need : ℕ) (x : Gap) (among : Contains gs x) (fits : need ≤ x.size)
      (least : (y : Gap) → Contains gs y → need ≤ y.size → before inner y x ≡ false) where
    is_chosen : (o : Option Gap) → (IsNone o → All (λ g. g.size < need) gs)
        → IfSome o (IsFirst (before inner) (fitting need gs)) → IfSome o (λ g. need ≤ g.size)
        → o ≡ Some x
    is_chosen None none first fit =
        absurd (let less = All-contains (λ (g : Gap). g.size < need) gs x (none refl) among in
        omega arith)
    is_chosen (Some y) none first fit =
        let c = All-contains (Contains gs) (fitting need gs) y
        (All-filter (λ g. nat_le need g.size) (Contains gs) gs (All-contains_itself gs))
        first.among in
        let own = All-contains (λ (g : Gap). need ≤ g.size → Contains (fitting need gs) g) gs x
        (fitting-each need gs) among fits in
        ap Some (same_gap y x c among
        (tie inner y x (least y c fit)
        (All-contains (λ z. before inner z y ≡ false) (fitting need gs) x first.least own)))

    chosen : choice inner need gs ≡ Some x
    chosen = is_chosen (choice inner need gs) (choice-none inner need gs).0
        (choice-IsFirst inner need gs) (choice-fits inner need gs)

  -- a slot's gap is one of the gaps
  module _ (k size : ℕ) (some : 0 < size) (held : slice_index s.sizes k ≡ size) where
    abbrev x : Gap
    x = gap_of (slice_index s.offsets k) size

    found : Contains gs x × (slot_of x.offset ≡ k)
    found = subst (λ n. Contains gs (gap_of (slice_index s.offsets k) n)
        × (slot_of (slice_index s.offsets k) ≡ k)) held (i.only k (omega arith))

    no_later : (y : Gap) → Contains gs y → k ≤ slot_of y.offset → x.offset ≤ y.offset
    no_later y c le = in_order x y found.0 c (omega (arith, found.1))

    no_earlier : (y : Gap) → Contains gs y → slot_of y.offset ≤ k → y.offset ≤ x.offset
    no_earlier y c le = in_order y x c found.0 (omega (arith, found.1))

  pub choice-aoff : (need k : ℕ) → max need 1 ≤ slice_index s.sizes k
      → ((q : ℕ) → q < k → slice_index s.sizes q < max need 1)
      → choice Aoff need gs ≡ Some (gap_in s k)
  choice-aoff need k great first =
      let n : ℕ = slice_index s.sizes k in
      chosen Aoff need (gap_in s k) (found k n (omega arith) refl).0 (omega arith)
      (λ y c fit. le-ltb y.offset (slice_index s.offsets k)
      (no_later k n (omega arith) refl y c
      (elim (cases_lt (slot_of y.offset) k) [
        | inl lt ↦
            let small = first (slot_of y.offset) lt in
            let size = (in_slot y c).1 in
            let some = whole y c in
            absurd (omega arith)
        | inr le ↦ le
      ])))

  -- the least size that fits is no greater than that of a gap that fits
  no_greater : (need size : ℕ) → All (λ t. max need 1 ≤ t → size ≤ t) s.sizes → (y : Gap)
      → Contains gs y → need ≤ y.size → size ≤ y.size
  no_greater need size least y c fit =
      let some = whole y c in
      All-contains (λ (g : Gap). max need 1 ≤ g.size → size ≤ g.size) gs y
      (each_size (λ t. max need 1 ≤ t → size ≤ t) least) c (omega arith)

  pub choice-aobf : (need size k : ℕ) → max need 1 ≤ size
      → All (λ t. max need 1 ≤ t → size ≤ t) s.sizes → slice_index s.sizes k ≡ size
      → ((q : ℕ) → slice_index s.sizes q ≡ size → k ≤ q)
      → choice Aobf need gs ≡ Some (gap_of (slice_index s.offsets k) size)
  choice-aobf need size k great least held lowest =
      chosen Aobf need (gap_of (slice_index s.offsets k) size) (found k size (omega arith) held).0
      (omega arith)
      (λ y c fit. not_before y.size size (nat_lt y.offset (slice_index s.offsets k))
      (no_greater need size least y c fit)
      (λ e. le-ltb y.offset (slice_index s.offsets k)
      (no_later k size (omega arith) held y c
      (lowest (slot_of y.offset) ((in_slot y c).1 ∙ e)))))

  pub choice-bf : (need size k : ℕ) → max need 1 ≤ size
      → All (λ t. max need 1 ≤ t → size ≤ t) s.sizes → slice_index s.sizes k ≡ size
      → ((q : ℕ) → q < length s.sizes → slice_index s.sizes q ≡ size → q ≤ k)
      → choice Bf need gs ≡ Some (gap_of (slice_index s.offsets k) size)
  choice-bf need size k great least held highest =
      chosen Bf need (gap_of (slice_index s.offsets k) size) (found k size (omega arith) held).0
      (omega arith)
      (λ y c fit. not_before y.size size (nat_lt (slice_index s.offsets k) y.offset)
      (no_greater need size least y c fit)
      (λ e.
      let there = (in_slot y c).1 ∙ e in
      le-ltb (slice_index s.offsets k) y.offset
      (no_earlier k size (omega arith) held y c
      (highest (slot_of y.offset)
      (within s.sizes (slot_of y.offset) (omega arith)) there))))
