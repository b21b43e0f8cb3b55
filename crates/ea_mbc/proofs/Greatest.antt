-- The greatest gap, the units of all blocks and their number after a change.
use Rattle.std.proofs.Common.{◌≡◌, ℕ, ◌+◌, ◌-◌, ◌<◌, ◌≤◌, max, List, [], ◌∷◌, ◌++◌, length, sym, ap}
use Rattle.std.proofs.Common.{◌∙◌, inl, inr, arith}
use Rattle.std.proofs.lemmas.List.{length-map}
use Rattle.std.specs.Prelude.{Some}
use Rattle.std.proofs.lemmas.Bool.{cases_lt, cases_eq}
use Rattle.std.proofs.lemmas.List.Sums.{sum_by-cons}
use Rattle.ea_model.specs.declared.carriers.BlockAt.{BlockAt}
use Rattle.ea_model.specs.declared.carriers.Gap.{Gap}
use Rattle.ea_model.specs.Content.{Content, gap, gaps_of, gap_at, gap_before, gap_behind}
use Rattle.ea_model.specs.Content.{largest, allocated, inserted, block_at, Tiled}
use Rattle.ea_model.specs.Keyed.{without}
use Rattle.ea_model.proofs.Rising.{entered_here, entered_past, length-entered, without_here}
use Rattle.ea_model.proofs.Rising.{without_past, others, change, changed_here, changed_past}
use Rattle.ea_model.proofs.Rising.{changed_none}
use Rattle.ea_laws.proofs.BlockLists.{offset_of, without-behind, block_at-past, Tiled-rising}
use Rattle.ea_laws.proofs.Resized.{with_size, with_block, none_there, same_block}
use Rattle.ea_mbc.specs.Gaps.{Replaced, GapTaken, GapsJoined, GapResized}

pub largest-append : (xs ys : List Gap) → largest (xs ++ ys) ≡ max (largest xs) (largest ys)
largest-append [] ys = omega arith
largest-append (x ∷ xs) ys = omega (arith, largest-append xs ys)

pub largest-gap : (a b : ℕ) → largest (gap a b) ≡ b - a
largest-gap a b = grind arith

largest_between : (xs ys zs : List Gap)
    → largest (xs ++ ys ++ zs) ≡ max (max (largest xs) (largest ys)) (largest zs)
largest_between xs ys zs = omega
    (arith, largest-append (xs ++ ys) zs, largest-append xs ys)

-- the greatest gap is the greatest that was made, or of those that stay
largest_made : (xs ys gone made : List Gap) → Replaced xs ys gone made → (stays : ℕ)
    × (largest xs ≡ max stays (largest gone)) × (largest ys ≡ max stays (largest made))
largest_made xs ys gone made r = (
  max (largest r.front) (largest r.behind),
  ap largest r.was ∙ omega (arith, largest_between r.front gone r.behind),
  ap largest r.is ∙ omega (arith, largest_between r.front made r.behind),
)

-- where gaps become one that is as large at least
pub largest-more : (xs ys gone made : List Gap) → Replaced xs ys gone made
    → largest gone ≤ largest made → largest ys ≡ max (largest xs) (largest made)
largest-more xs ys gone made r le =
    let m = largest_made xs ys gone made r in omega (arith, m.1, m.2)

-- where a gap that isn't the greatest becomes smaller
pub largest-less : (xs ys gone made : List Gap) → Replaced xs ys gone made
    → largest made ≤ largest gone → largest gone < largest xs → largest ys ≡ largest xs
largest-less xs ys gone made r le lt =
    let m = largest_made xs ys gone made r in omega (arith, m.1, m.2)

-- a block is put into a gap that isn't the greatest
pub placed-largest : (old new : Content) (offset size : ℕ) → GapTaken old new offset size
    → gap_at (gaps_of old) offset < largest (gaps_of old)
    → largest (gaps_of new) ≡ largest (gaps_of old)
placed-largest old new offset size r lt =
    let g : ℕ = gap_at (gaps_of old) offset in
    largest-less (gaps_of old) (gaps_of new) _ _ r
    (omega (arith, largest-gap (offset + size) (offset + g))) (omega arith)

-- a block is released: the gap that it becomes a part of is the greatest, or the greatest is as it
-- was
pub released-largest : (old new : Content) (offset size : ℕ) → GapsJoined old new offset size
    → largest (gaps_of new) ≡ max (largest (gaps_of old))
    (gap_before old offset + size + gap_behind old offset)
released-largest old new offset size r =
    let before : ℕ = gap_before old offset in
    let behind : ℕ = gap_behind old offset in
    let gone = largest-append (gap (offset - before) offset)
    (gap (offset + size) (offset + size + behind)) in
    largest-more (gaps_of old) (gaps_of new) _ _ r
    (omega (
      arith,
      gone,
      largest-gap (offset - before) offset,
      largest-gap (offset + size) (offset + size + behind),
    ))
    ∙ omega arith

-- a block has fewer units: the same of what it gives back and the gap behind it
pub shrunk-largest : (old new : Content) (offset was size : ℕ) → GapResized old new offset was size
    → size ≤ was
    → largest (gaps_of new) ≡ max (largest (gaps_of old)) (was + gap_behind old offset - size)
shrunk-largest old new offset was size r le =
    let stop : ℕ = offset + was + gap_behind old offset in
    let made = largest-gap (offset + size) stop in
    let more = largest-more (gaps_of old) (gaps_of new) _ _ r
    (omega (arith, largest-gap (offset + was) stop, made)) in
    omega (arith, more, made)

-- a block takes units of a gap behind it that isn't the greatest
pub grown-largest : (old new : Content) (offset was size : ℕ) → GapResized old new offset was size
    → was ≤ size → gap_behind old offset < largest (gaps_of old)
    → largest (gaps_of new) ≡ largest (gaps_of old)
grown-largest old new offset was size r le lt =
    let stop : ℕ = offset + was + gap_behind old offset in
    let gone = largest-gap (offset + was) stop in
    largest-less (gaps_of old) (gaps_of new) _ _ r
    (omega (arith, gone, largest-gap (offset + size) stop)) (omega (arith, gone))

units_cons : (b : BlockAt) (bs : List BlockAt) → allocated (b ∷ bs) ≡ b.size + allocated bs
units_cons b bs = sum_by-cons (λ (x : BlockAt). x.size) b bs

-- with one block more
pub allocated-inserted : (x : BlockAt) (bs : List BlockAt)
    → allocated (inserted x bs) ≡ allocated bs + x.size
allocated-inserted x [] = omega (arith, units_cons x [])
allocated-inserted x (b ∷ bs) =
    elim (cases_lt x.offset b.offset) [
      | inl lt ↦ ap allocated (entered_here offset_of x b bs lt)
          ∙ omega (arith, units_cons x (b ∷ bs))
      | inr le ↦ ap allocated (entered_past offset_of x b bs le)
          ∙ omega (
            arith,
            units_cons b (inserted x bs),
            units_cons b bs,
            allocated-inserted x bs,
          )
    ]

pub length-inserted : (x : BlockAt) (bs : List BlockAt)
    → length (inserted x bs) ≡ length bs + 1
length-inserted x bs = length-entered offset_of x bs

-- without the first block, where that begins at the offset
without_first : (at end offset : ℕ) (b : BlockAt) (bs : List BlockAt) → Tiled at end (b ∷ bs)
    → b.offset ≡ offset → without offset_of offset (b ∷ bs) ≡ bs
without_first at end offset b bs t e =
    without_here offset_of offset b bs e
    ∙ without-behind (b.offset + b.size) end offset bs t.4 (omega (arith, t.2))

-- with one block fewer
pub allocated-without : (at end offset : ℕ) (b : BlockAt) (bs : List BlockAt) → Tiled at end bs
    → block_at bs offset ≡ Some b
    → allocated (without offset_of offset bs) + b.size ≡ allocated bs
allocated-without at end offset b [] t h = absurd (none_there offset b h)
allocated-without at end offset b (x ∷ bs) t h =
    elim (cases_eq x.offset offset) [
      | inl e ↦ omega (
        arith,
        ap allocated (without_first at end offset x bs t e),
        ap (λ (y : BlockAt). y.size) (same_block offset x b bs e h),
        units_cons x bs,
      )
      | inr n ↦ omega (
        arith,
        ap allocated (without_past offset_of offset x bs n),
        units_cons x bs,
        units_cons x (without offset_of offset bs),
        allocated-without (x.offset + x.size) end offset b bs t.4
            (sym (block_at-past offset x bs n) ∙ h),
      )
    ]

pub length-without : (at end offset : ℕ) (b : BlockAt) (bs : List BlockAt) → Tiled at end bs
    → block_at bs offset ≡ Some b → length (without offset_of offset bs) + 1 ≡ length bs
length-without at end offset b [] t h = absurd (none_there offset b h)
length-without at end offset b (x ∷ bs) t h =
    elim (cases_eq x.offset offset) [
      | inl e ↦ omega (arith, ap length (without_first at end offset x bs t e))
      | inr n ↦ omega (
        arith,
        ap length (without_past offset_of offset x bs n),
        length-without (x.offset + x.size) end offset b bs t.4
            (sym (block_at-past offset x bs n) ∙ h),
      )
    ]

-- with a block of another size
pub allocated-with_block : (at end offset size name : ℕ) (b : BlockAt) (bs : List BlockAt)
    → Tiled at end bs → block_at bs offset ≡ Some b
    → allocated (with_block offset size name bs) + b.size ≡ allocated bs + size
allocated-with_block at end offset size name b [] t h = absurd (none_there offset b h)
allocated-with_block at end offset size name b (x ∷ bs) t h =
    elim (cases_eq x.offset offset) [
      | inl e ↦ omega (
        arith,
        ap allocated (changed_here offset_of (with_size size name) offset x bs e),
        ap (λ ys. allocated (with_size size name x ∷ ys))
            (changed_none offset_of (with_size size name) offset bs
            (others offset_of offset x bs (Tiled-rising at end (x ∷ bs) t) e)),
        ap (λ (y : BlockAt). y.size) (same_block offset x b bs e h),
        units_cons x bs,
        units_cons (with_size size name x) bs,
      )
      | inr n ↦ omega (
        arith,
        ap allocated (changed_past offset_of (with_size size name) offset x bs n),
        units_cons x bs,
        units_cons x (with_block offset size name bs),
        allocated-with_block (x.offset + x.size) end offset size name b bs t.4
            (sym (block_at-past offset x bs n) ∙ h),
      )
    ]

pub length-with_block : (offset size name : ℕ) (bs : List BlockAt)
    → length (with_block offset size name bs) ≡ length bs
length-with_block offset size name bs =
    length-map bs (change offset_of (with_size size name) offset)
