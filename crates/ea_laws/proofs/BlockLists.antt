-- A block put among others, and taken out.
use Rattle.std.proofs.Common.{◌≡◌, ◌≢◌, ℕ, ◌+◌, ◌-◌, ◌%◌, ◌<◌, ◌≤◌, List, [], ◌∷◌, ◌++◌, sym, ◌∙◌}
use Rattle.std.proofs.Common.{subst, refl, inl, inr, ◌⊎◌, arith}
use Rattle.std.specs.Prelude.{None, All, AllPairs}
use Rattle.std.proofs.lemmas.Bool.{cases_eq}
use Rattle.std.proofs.lemmas.List.Elements.{All-nil, All-cons, All-weaker}
use Rattle.std.proofs.lemmas.List.Kept.{AllPairs-cons}
use Rattle.ea_model.specs.declared.carriers.BlockAt.{BlockAt}
use Rattle.ea_model.specs.declared.carriers.Gap.{Gap}
use Rattle.ea_model.specs.Content.{Content, gap, gaps, gaps_of, gap_at, block_at, inserted}
use Rattle.ea_model.specs.Content.{taken_of, IsGapSize, Tiled}
use Rattle.ea_model.specs.Keyed.{without, IsBelow}
use Rattle.ea_model.proofs.Rising.{entered_here, entered_past, item_past, without_here}
use Rattle.ea_model.proofs.Rising.{without_past, without_none}

-- the first of the gaps is the one at the offset, or another is
pub gap_at-step : (a b offset : ℕ) (rest : List Gap)
    → ((a < b) × (offset ≡ a) × (gap_at (gap a b ++ rest) offset ≡ b - a))
    ⊎ (gap_at (gap a b ++ rest) offset ≡ gap_at rest offset)
gap_at-step a b offset rest = grind arith

behind_last : (at end offset : ℕ) → 0 < gap_at (gap at end) offset → at ≤ offset
behind_last at end offset h = grind arith

-- no gap begins before the tiling does
pub gap_at-behind : (at end offset : ℕ) (bs : List BlockAt) → Tiled at end bs
    → 0 < gap_at (gaps at end bs) offset → at ≤ offset
gap_at-behind at end offset [] t h = behind_last at end offset h
gap_at-behind at end offset (b ∷ bs) t h =
    elim (gap_at-step at b.offset offset (gaps (b.offset + b.size) end bs)) [
      | inl p ↦ omega (arith, p.1)
      | inr q ↦ omega (
        arith,
        t.0,
        gap_at-behind (b.offset + b.size) end offset bs t.4
            (omega (arith, q)),
      )
    ]

abbrev pub offset_of : BlockAt → ℕ
offset_of b = b.offset

-- no block begins before the tiling does
pub Tiled-behind : (at end : ℕ) (bs : List BlockAt) → Tiled at end bs → All (λ b. at ≤ b.offset) bs
Tiled-behind at end [] t = All-nil (λ (b : BlockAt). at ≤ b.offset)
Tiled-behind at end (b ∷ bs) t =
    All-cons (λ (x : BlockAt). at ≤ x.offset) b bs t.0
    (All-weaker (λ (x : BlockAt). b.offset + b.size ≤ x.offset) (λ (x : BlockAt). at ≤ x.offset)
    (λ x le. omega arith) bs (Tiled-behind (b.offset + b.size) end bs t.4))

-- the offsets rise
pub Tiled-rising : (at end : ℕ) (bs : List BlockAt) → Tiled at end bs
    → AllPairs (IsBelow offset_of) bs
Tiled-rising at end [] t = λ i j d lt within. absurd (omega arith)
Tiled-rising at end (b ∷ bs) t =
    AllPairs-cons (IsBelow offset_of) b bs
    (All-weaker (λ (x : BlockAt). b.offset + b.size ≤ x.offset) (IsBelow offset_of b)
    (λ x le. omega (arith, t.2)) bs (Tiled-behind (b.offset + b.size) end bs t.4))
    (Tiled-rising (b.offset + b.size) end bs t.4)

pub without-behind : (at end offset : ℕ) (bs : List BlockAt) → Tiled at end bs → offset < at
    → without offset_of offset bs ≡ bs
without-behind at end offset bs t lt =
    without_none offset_of offset bs
    (All-weaker (λ (b : BlockAt). at ≤ b.offset) (λ (b : BlockAt). b.offset ≢ offset)
    (λ b le same. omega arith) bs (Tiled-behind at end bs t))

-- two whole gaps, or a gap and a block, are a whole gap
pub IsGapSize-join : (a b c : ℕ) → a ≤ b → b ≤ c → IsGapSize (b - a) → IsGapSize (c - b)
    → IsGapSize (c - a)
IsGapSize-join a b c ab bc g h = record { even = omega arith; whole = grind arith }

-- a tiling may begin earlier by a whole gap
pub Tiled-earlier : (a at end : ℕ) (bs : List BlockAt) → a ≤ at → IsGapSize (at - a)
    → Tiled at end bs → Tiled a end bs
Tiled-earlier a at end [] le g t = (omega arith, IsGapSize-join a at end le t.0 g t.1)
Tiled-earlier a at end (b ∷ bs) le g t = (
  omega arith,
  IsGapSize-join a at b.offset le t.0 g t.1,
  t.2,
  t.3,
  t.4,
)

-- still tiled without a block
pub Tiled-released : (at end offset : ℕ) (bs : List BlockAt) → Tiled at end bs
    → Tiled at end (without offset_of offset bs)
Tiled-released at end offset [] t = t
Tiled-released at end offset (b ∷ bs) t =
    let here : b.offset ≡ offset
    → without offset_of offset bs ≡ bs = λ e. without-behind (b.offset + b.size) end offset bs
    t.4 (omega arith) in
    let whole : IsGapSize (b.offset + b.size - at) = IsGapSize-join at b.offset
    (b.offset + b.size) t.0 (omega arith) t.1
    (record { even = omega arith; whole = λ _. omega arith }) in
    elim (cases_eq b.offset offset) [
      | inl e ↦ subst (Tiled at end) (sym (without_here offset_of offset b bs e ∙ here e))
          (Tiled-earlier at (b.offset + b.size) end bs (omega arith) whole t.4)
      | inr n ↦ subst (Tiled at end) (sym (without_past offset_of offset b bs n))
          (t.0, t.1, t.2, t.3, Tiled-released (b.offset + b.size) end offset bs t.4)
    ]

IsGapSize-zero : (n : ℕ) → n ≡ 0 → IsGapSize n
IsGapSize-zero n e = record { even = omega arith; whole = λ h. omega arith }

pub only_gap : (at end offset : ℕ) → at ≤ end → 0 < gap_at (gap at end) offset → (offset ≡ at)
    × (gap_at (gap at end) offset ≡ end - at)
only_gap at end offset t h = grind arith

-- what a new block needs of the gap of g units that it goes into
pub record Enters (x : BlockAt) (g : ℕ) : Type 0 where
  pub fits : x.size ≤ g
  pub least : 6 ≤ x.size
  pub even : x.size % 2 ≡ 0
  pub rest : IsGapSize (g - x.size)

gap_or_none : (at end offset : ℕ) → (gap_at (gap at end) offset ≡ 0)
    ⊎ (gap_at (gap at end) offset ≡ end - at)
gap_or_none at end offset = grind arith

-- a gap is whole
pub gap_at-whole : (at end offset : ℕ) (bs : List BlockAt) → Tiled at end bs
    → IsGapSize (gap_at (gaps at end bs) offset)
gap_at-whole at end offset [] t =
    elim (gap_or_none at end offset) [
      | inl e ↦ IsGapSize-zero _ e
      | inr e ↦ subst IsGapSize
          (sym e) t.1
    ]
gap_at-whole at end offset (b ∷ bs) t =
    elim (gap_at-step at b.offset offset (gaps (b.offset + b.size) end bs)) [
      | inl p ↦ subst IsGapSize (sym p.2) t.1
      | inr q ↦ subst IsGapSize (sym q) (gap_at-whole (b.offset + b.size) end offset bs t.4)
    ]

taken_cases : (g need : ℕ) → need ≤ g → ((taken_of g need ≡ need) × (6 ≤ g - need))
    ⊎ (taken_of g need ≡ g)
taken_cases g need h = grind arith

-- a block of this need enters the gap
pub taken_of-enters : (x : BlockAt) (g need : ℕ) → need ≤ g → 6 ≤ need → need % 2 ≡ 0 → IsGapSize g
    → x.size ≡ taken_of g need → Enters x g
taken_of-enters x g need fits least even whole size =
    elim (taken_cases g need fits) [
      | inl p ↦ record {
        fits = omega arith;
        least = omega arith;
        even = subst (λ n. n % 2 ≡ 0)
            (sym (size ∙ p.0)) even;
        rest = record { even = omega (arith, whole.even); whole = λ h. omega arith };
      }
      | inr q ↦ record {
        fits = omega arith;
        least = omega arith;
        even = subst (λ n. n % 2 ≡ 0)
            (sym (size ∙ q)) whole.even;
        rest = IsGapSize-zero (g - x.size) (omega arith);
      }
    ]

-- still tiled with a block at the front of a gap
pub Tiled-inserted : (at end : ℕ) (x : BlockAt) (bs : List BlockAt) → Tiled at end bs
    → Enters x (gap_at (gaps at end bs) x.offset) → Tiled at end (inserted x bs)
Tiled-inserted at end x [] t h =
    let g = only_gap at end x.offset t.0 (omega arith) in (
      omega arith,
      IsGapSize-zero (x.offset - at) (omega arith),
      h.least,
      h.even,
      (
        omega arith,
        (let e : gap_at (gap at end) x.offset - x.size ≡ end - (x.offset + x.size) =
            omega arith in subst IsGapSize e h.rest),
      ),
    )
Tiled-inserted at end x (b ∷ bs) t h =
    elim (gap_at-step at b.offset x.offset (gaps (b.offset + b.size) end bs)) [
      | inl p ↦ subst (Tiled at end) (sym (entered_here offset_of x b bs (omega arith))) (
        omega arith,
        IsGapSize-zero (x.offset - at) (omega arith),
        h.least,
        h.even,
        (
          omega arith,
          (let e : gap_at (gaps at end (b ∷ bs)) x.offset - x.size ≡ b.offset -
              (x.offset + x.size) = omega arith in subst IsGapSize e h.rest),
          t.2,
          t.3,
          t.4,
        ),
      )
      | inr q ↦
          let into : Enters x (gap_at (gaps (b.offset + b.size) end bs) x.offset) = subst
          (Enters x) q h in
          let behind : b.offset + b.size ≤ x.offset = gap_at-behind (b.offset + b.size) end x.offset
          bs t.4 (omega arith) in
          subst (Tiled at end) (sym (entered_past offset_of x b bs (omega arith)))
          (t.0, t.1, t.2, t.3, Tiled-inserted (b.offset + b.size) end x bs t.4 into)
    ]

pub block_at-past : (at : ℕ) (b : BlockAt) (bs : List BlockAt) → b.offset ≢ at
    → block_at (b ∷ bs) at ≡ block_at bs at
block_at-past at b bs n = item_past offset_of at b bs n

-- no block begins before the tiling does
block_at-before : (at end offset : ℕ) (bs : List BlockAt) → Tiled at end bs → offset < at
    → block_at bs offset ≡ None
block_at-before at end offset [] t h = refl
block_at-before at end offset (b ∷ bs) t h =
    block_at-past offset b bs (λ e. omega arith)
    ∙ block_at-before (b.offset + b.size) end offset bs t.4 (omega arith)

-- no block begins where a gap begins
pub block_at-gap : (at end offset : ℕ) (bs : List BlockAt) → Tiled at end bs
    → 0 < gap_at (gaps at end bs) offset → block_at bs offset ≡ None
block_at-gap at end offset [] t h = refl
block_at-gap at end offset (b ∷ bs) t h =
    elim (gap_at-step at b.offset offset (gaps (b.offset + b.size) end bs)) [
      | inl p ↦ block_at-past offset b bs (λ e. omega arith)
          ∙ block_at-before (b.offset + b.size) end offset bs t.4 (omega arith)
      | inr q ↦
          let more : 0 < gap_at (gaps (b.offset + b.size) end bs) offset = omega arith in
          let behind : b.offset + b.size ≤ offset = gap_at-behind (b.offset + b.size) end offset bs
          t.4 more in
          block_at-past offset b bs (λ e. omega arith)
          ∙ block_at-gap (b.offset + b.size) end offset bs t.4 more
    ]

-- where a block is put at the front of a gap: after the header, and where no block begins
pub record IsFront (c : Content) (offset : ℕ) : Type 0 where
  pub behind_header : 8 ≤ offset
  pub fresh : block_at c.blocks offset ≡ None

pub IsFront-gap : (c : Content) (offset need : ℕ) → Tiled 8 c.units c.blocks
    → need ≤ gap_at (gaps_of c) offset → 6 ≤ need → IsFront c offset
IsFront-gap c offset need t fits least =
    let some : 0 < gap_at (gaps_of c) offset = omega arith in
    record {
      behind_header = gap_at-behind 8 c.units offset c.blocks t some;
      fresh = block_at-gap 8 c.units offset c.blocks t some;
    }
