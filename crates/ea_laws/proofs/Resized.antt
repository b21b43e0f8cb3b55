-- A block that has another size, and what that makes of the gap directly behind it.
use Rattle.std.proofs.Common.{◌≡◌, ◌≢◌, ℕ, ◌+◌, ◌-◌, ◌%◌, ◌<◌, ◌≤◌, List, [], ◌∷◌, ◌++◌}
use Rattle.std.proofs.Common.{append_assoc, append-nil, refl, sym, ap, ◌∙◌, subst, inl, inr, arith}
use Rattle.std.specs.Prelude.{Some, All}
use Rattle.std.specs.Option.{option_map_or}
use Rattle.std.proofs.lemmas.Bool.{cases_eq, cases_lt}
use Rattle.std.proofs.lemmas.List.Elements.{All-nil, All-cons, All-weaker}
use Rattle.ea_model.specs.declared.carriers.BlockAt.{BlockAt}
use Rattle.ea_model.specs.declared.carriers.Gap.{Gap}
use Rattle.ea_model.specs.Content.{Content, gap, gaps, gaps_of, gap_at, gap_behind, block_at}
use Rattle.ea_model.specs.Content.{end_of, taken_of, resized, IsGapSize, Tiled}
use Rattle.ea_model.specs.Keyed.{changed_at}
use Rattle.ea_model.proofs.Rising.{item_at-key, item_at-All, changed_here, changed_past}
use Rattle.ea_model.proofs.Rising.{changed_none, changed-found, changed-other}
use Rattle.ea_laws.proofs.BlockLists.{offset_of, gap_at-step, gap_at-behind, gap_at-whole}
use Rattle.ea_laws.proofs.BlockLists.{block_at-past, Tiled-behind, Enters, taken_of-enters}
use Rattle.ea_laws.proofs.Extents.{IsWithin, blocks_within}
use Rattle.ea_laws.proofs.Tiling.{Tiled-Ordered, Tiled-allocated}

-- where the first block begins, or the end
abbrev pub first_at : ℕ → List BlockAt → ℕ
first_at end [] = end
first_at end (b ∷ bs) = b.offset

-- the gaps behind the first block
abbrev pub behind_first : ℕ → List BlockAt → List Gap
behind_first end [] = []
behind_first end (b ∷ bs) = gaps (b.offset + b.size) end bs

-- the gaps are the one up to the first block, or the end, and those behind that block
pub gaps-first : (at end : ℕ) (bs : List BlockAt)
    → gaps at end bs ≡ gap at (first_at end bs) ++ behind_first end bs
gaps-first at end [] = sym (append-nil (gap at end))
gaps-first at end (b ∷ bs) = refl

-- no gap begins before the tiling does
pub gap_at-early : (at end offset : ℕ) (bs : List BlockAt) → Tiled at end bs → offset < at
    → gap_at (gaps at end bs) offset ≡ 0
gap_at-early at end offset bs t lt =
    elim (cases_lt 0 (gap_at (gaps at end bs) offset)) [
      | inl some ↦ absurd (omega (arith, gap_at-behind at end offset bs t some))
      | inr none ↦ omega arith
    ]

gap_at-only : (at end : ℕ) → gap_at (gap at end) at ≡ end - at
gap_at-only at end = grind arith

gap_at-front : (a b : ℕ) (rest : List Gap) → a ≤ b → gap_at rest a ≡ 0
    → gap_at (gap a b ++ rest) a ≡ b - a
gap_at-front a b rest le none = grind arith

-- the gap where the tiling begins reaches up to the first block, or the end
pub gap_at-first : (at end : ℕ) (bs : List BlockAt) → Tiled at end bs
    → at + gap_at (gaps at end bs) at ≡ first_at end bs
gap_at-first at end [] t = omega (arith, gap_at-only at end, t.0)
gap_at-first at end (b ∷ bs) t =
    omega (
      arith,
      t.0,
      gap_at-front at b.offset (gaps (b.offset + b.size) end bs) t.0
          (gap_at-early (b.offset + b.size) end at bs t.4 (omega arith)),
    )

-- a gap that begins after the first block's front is one of those behind it
pub gap_at-past : (at end offset : ℕ) (b : BlockAt) (bs : List BlockAt) → b.offset < offset
    → gap_at (gaps at end (b ∷ bs)) offset ≡ gap_at (gaps (b.offset + b.size) end bs) offset
gap_at-past at end offset b bs lt =
    elim (gap_at-step at b.offset offset (gaps (b.offset + b.size) end bs)) [
      | inl p ↦ absurd (omega arith)
      | inr q ↦ q
    ]

-- a gap ends within the carrier
gap_at-within : (at end offset : ℕ) (bs : List BlockAt) → Tiled at end bs → offset ≤ end
    → offset + gap_at (gaps at end bs) offset ≤ end
gap_at-within at end offset [] t le =
    elim (cases_lt offset end) [ inl lt ↦ grind arith | inr none ↦ grind arith ]
gap_at-within at end offset (b ∷ bs) t le =
    elim (gap_at-step at b.offset offset (gaps (b.offset + b.size) end bs)) [
      | inl p ↦ omega (arith, p.2, Tiled-allocated (b.offset + b.size) end bs t.4)
      | inr q ↦ omega (arith, q, gap_at-within (b.offset + b.size) end offset bs t.4 le)
    ]

-- among no blocks none is found
pub none_there : (offset : ℕ) (b : BlockAt) → block_at [] offset ≡ Some b → ⊥
none_there offset b h = grind arith

-- a first block that begins at the offset is the one found there
pub same_block : (offset : ℕ) (x b : BlockAt) (bs : List BlockAt) → x.offset ≡ offset
    → block_at (x ∷ bs) offset ≡ Some b → x ≡ b
same_block offset x b bs e h = grind arith

-- where a block that is found ends
pub end_of-block : (offset : ℕ) (b : BlockAt) (bs : List BlockAt) → block_at bs offset ≡ Some b
    → end_of bs offset ≡ b.offset + b.size
end_of-block offset b bs h = ap (λ o. option_map_or (λ (b : BlockAt). b.offset + b.size) o 0) h

-- the blocks are even and of 6 units at least
Tiled-sizes : (at end : ℕ) (bs : List BlockAt) → Tiled at end bs
    → All (λ b. (6 ≤ b.size) × (b.size % 2 ≡ 0)) bs
Tiled-sizes at end [] t = All-nil (λ (b : BlockAt). (6 ≤ b.size) × (b.size % 2 ≡ 0))
Tiled-sizes at end (b ∷ bs) t =
    All-cons (λ (x : BlockAt). (6 ≤ x.size) × (x.size % 2 ≡ 0)) b bs (t.2, t.3)
    (Tiled-sizes (b.offset + b.size) end bs t.4)

-- the block b begins at the offset of the carrier, even and of 6 units at least, with a whole gap
-- directly behind it
pub record IsBlock (c : Content) (offset : ℕ) (b : BlockAt) : Type 0 where
  pub begins : b.offset ≡ offset
  pub behind_header : 8 ≤ offset
  pub least : 6 ≤ b.size
  pub even : b.size % 2 ≡ 0
  pub gap : IsGapSize (gap_behind c offset)
  pub within : offset + b.size + gap_behind c offset ≤ c.units

pub block_at-IsBlock : (c : Content) (offset : ℕ) (b : BlockAt) → Tiled 8 c.units c.blocks
    → block_at c.blocks offset ≡ Some b → IsBlock c offset b
block_at-IsBlock c offset b t found =
    let begins = item_at-key offset_of offset b c.blocks found in
    let sizes = item_at-All offset_of (λ (x : BlockAt). (6 ≤ x.size) × (x.size % 2 ≡ 0)) offset b
    c.blocks (Tiled-sizes 8 c.units c.blocks t) found in
    let lies = item_at-All offset_of (IsWithin 8 c.units) offset b c.blocks
    (blocks_within 8 c.units c.blocks (Tiled-Ordered 8 c.units c.blocks t)) found in
    let stop : end_of c.blocks offset ≡ offset + b.size = end_of-block offset b c.blocks found
    ∙ ap (λ n. n + b.size) begins in
    let upto = gap_at-within 8 c.units (end_of c.blocks offset) c.blocks t
    (omega (arith, lies.1, stop)) in
    record {
      begins = begins;
      behind_header = omega (arith, lies.0);
      least = sizes.0;
      even = sizes.1;
      gap = gap_at-whole 8 c.units (end_of c.blocks offset) c.blocks t;
      within = omega (arith, upto, stop);
    }

-- the block with another size and name, where it is
abbrev pub with_size : ℕ → ℕ → BlockAt → BlockAt
with_size size name b = record { name = name; offset = b.offset; size = size }

-- the blocks where the one at the offset has that many units and this name
abbrev pub with_block : ℕ → ℕ → ℕ → List BlockAt → List BlockAt
with_block offset size name bs = changed_at offset_of (with_size size name) offset bs

-- a tiling may begin anywhere up to its first block, if a whole gap is left before that
Tiled-from : (at a end : ℕ) (bs : List BlockAt) → Tiled at end bs → a ≤ first_at end bs
    → IsGapSize (first_at end bs - a) → Tiled a end bs
Tiled-from at a end [] t le g = (le, g)
Tiled-from at a end (b ∷ bs) t le g = (le, g, t.2, t.3, t.4)

-- the first block is the changed one, and the others stay
with_block-here : (at end offset size name : ℕ) (b : BlockAt) (bs : List BlockAt)
    → Tiled at end (b ∷ bs) → b.offset ≡ offset
    → with_block offset size name (b ∷ bs) ≡ with_size size name b ∷ bs
with_block-here at end offset size name b bs t e =
    changed_here offset_of (with_size size name) offset b bs e
    ∙ ap (λ xs. with_size size name b ∷ xs)
    (changed_none offset_of (with_size size name) offset bs
    (All-weaker (λ (x : BlockAt). b.offset + b.size ≤ x.offset) (λ (x : BlockAt). x.offset ≢ offset)
    (λ x le same. omega (arith, t.2)) bs (Tiled-behind (b.offset + b.size) end bs t.4)))

-- the gap behind a block ends where the next block begins
stop_here : (at end offset stop : ℕ) (b : BlockAt) (bs : List BlockAt) → Tiled at end (b ∷ bs)
    → b.offset ≡ offset → stop ≡ offset + b.size + gap_at (gaps at end (b ∷ bs)) (offset + b.size)
    → first_at end bs ≡ stop
stop_here at end offset stop b bs t e s =
    let ends : b.offset + b.size ≡ offset + b.size = omega arith in
    let past = gap_at-past at end (b.offset + b.size) b bs (omega (arith, t.2)) in
    let behind = ap (gap_at (gaps at end (b ∷ bs))) ends in
    omega (arith, gap_at-first (b.offset + b.size) end bs t.4, past, behind)

-- the same gap, among the blocks behind the first one
stop_past : (at end offset stop : ℕ) (x b : BlockAt) (bs : List BlockAt) → Tiled at end (x ∷ bs)
    → block_at bs offset ≡ Some b
    → stop ≡ offset + b.size + gap_at (gaps at end (x ∷ bs)) (offset + b.size)
    → stop ≡ offset + b.size + gap_at (gaps (x.offset + x.size) end bs) (offset + b.size)
stop_past at end offset stop x b bs t found s =
    let begins = item_at-key offset_of offset b bs found in
    let behind = item_at-All offset_of (λ (y : BlockAt). x.offset + x.size ≤ y.offset) offset b bs
    (Tiled-behind (x.offset + x.size) end bs t.4) found in
    omega (arith, gap_at-past at end (offset + b.size) x bs (omega (arith, t.2)))

-- still tiled where a block takes a part of the gap behind it, or leaves it more
Tiled-with_block : (at end offset size name stop : ℕ) (b : BlockAt) (bs : List BlockAt)
    → Tiled at end bs → block_at bs offset ≡ Some b
    → stop ≡ offset + b.size + gap_at (gaps at end bs) (offset + b.size) → 6 ≤ size
    → size % 2 ≡ 0 → offset + size ≤ stop → IsGapSize (stop - (offset + size))
    → Tiled at end (with_block offset size name bs)
Tiled-with_block at end offset size name stop b [] t found s least even fits rest =
    absurd (none_there offset b found)
Tiled-with_block at end offset size name stop b (x ∷ bs) t found s least even fits rest =
    elim (cases_eq x.offset offset) [
      | inl e ↦
          let same : x ≡ b = same_block offset x b bs e found in
          let first : first_at end bs ≡ stop = stop_here at end offset stop x bs t e
          (subst (λ (y : BlockAt). stop ≡ offset + y.size
          + gap_at (gaps at end (x ∷ bs)) (offset + y.size)) (sym same) s) in
          subst (Tiled at end) (sym (with_block-here at end offset size name x bs t e)) (
            t.0,
            t.1,
            least,
            even,
            Tiled-from (x.offset + x.size) (x.offset + size) end bs t.4 (omega arith)
                (let g : stop - (offset + size) ≡ first_at end bs - (x.offset + size) = omega arith
                in subst IsGapSize g rest),
          )
      | inr n ↦
          let there : block_at bs offset ≡ Some b = sym (block_at-past offset x bs n) ∙ found in
          subst (Tiled at end) (sym (changed_past offset_of (with_size size name) offset x bs n)) (
            t.0,
            t.1,
            t.2,
            t.3,
            Tiled-with_block (x.offset + x.size) end offset size name stop b bs t.4 there
                (stop_past at end offset stop x b bs t there s) least even fits rest,
          )
    ]

-- more gaps in front of a run among others
pub regroup : (more front run behind : List Gap)
    → more ++ (front ++ run ++ behind) ≡ (more ++ front) ++ run ++ behind
regroup more front run behind = sym (append_assoc more (front ++ run) behind)
    ∙ ap (λ zs. zs ++ behind) (sym (append_assoc more front run))

-- the gaps of a tiling that begins with a block: the one before it, the one behind it, and the
-- others
gaps-here : (at end stop : ℕ) (b : BlockAt) (bs : List BlockAt) → first_at end bs ≡ stop
    → gaps at end (b ∷ bs) ≡ gap at b.offset ++ gap (b.offset + b.size) stop ++ behind_first end bs
gaps-here at end stop b bs e =
    ap (λ gs. gap at b.offset ++ gs) (gaps-first (b.offset + b.size) end bs
    ∙ ap (λ n. gap (b.offset + b.size) n ++ behind_first end bs) e)
    ∙ sym (append_assoc (gap at b.offset) (gap (b.offset + b.size) stop) (behind_first end bs))

-- of the gaps only the one behind the block changes
gaps-with_block : (at end offset size name stop : ℕ) (b : BlockAt) (bs : List BlockAt)
    → Tiled at end bs → block_at bs offset ≡ Some b
    → stop ≡ offset + b.size + gap_at (gaps at end bs) (offset + b.size)
    → (front : List Gap) × (behind : List Gap)
    × (gaps at end bs ≡ front ++ gap (offset + b.size) stop ++ behind)
    × (gaps at end (with_block offset size name bs) ≡ front ++ gap (offset + size) stop ++ behind)
gaps-with_block at end offset size name stop b [] t found s = absurd (none_there offset b found)
gaps-with_block at end offset size name stop b (x ∷ bs) t found s =
    elim (cases_eq x.offset offset) [
      | inl e ↦
          let same : b ≡ x = sym (same_block offset x b bs e found) in
          let first : first_at end bs ≡ stop = stop_here at end offset stop x bs t e
          (subst (λ (y : BlockAt). stop ≡ offset + y.size
          + gap_at (gaps at end (x ∷ bs)) (offset + y.size)) same s) in (
            gap at x.offset,
            behind_first end bs,
            gaps-here at end stop x bs first
                ∙ ap (λ n. gap at x.offset ++ gap (n + x.size) stop ++ behind_first end bs) e
                ∙ ap (λ (y : BlockAt). gap at x.offset ++ gap (offset + y.size) stop
                ++ behind_first end bs) (sym same),
            ap (gaps at end) (with_block-here at end offset size name x bs t e)
                ∙ gaps-here at end stop (with_size size name x) bs first
                ∙ ap (λ n. gap at x.offset ++ gap (n + size) stop ++ behind_first end bs) e,
          )
      | inr n ↦
          let there : block_at bs offset ≡ Some b = sym (block_at-past offset x bs n) ∙ found in
          let more = gaps-with_block (x.offset + x.size) end offset size name stop b bs t.4 there
          (stop_past at end offset stop x b bs t there s) in (
            gap at x.offset ++ more.0,
            more.1,
            ap (λ gs. gap at x.offset ++ gs) more.2
                ∙ regroup (gap at x.offset) more.0 (gap (offset + b.size) stop) more.1,
            ap (gaps at end) (changed_past offset_of (with_size size name) offset x bs n)
                ∙ ap (λ gs. gap at x.offset ++ gs) more.3
                ∙ regroup (gap at x.offset) more.0 (gap (offset + size) stop) more.1,
          )
    ]

-- where the gap behind a block of a carrier ends
stop_of : (c : Content) (offset : ℕ) (b : BlockAt) → block_at c.blocks offset ≡ Some b
    → offset + b.size + gap_behind c offset ≡ offset + b.size
    + gap_at (gaps_of c) (offset + b.size)
stop_of c offset b found =
    ap (λ n. offset + b.size + gap_at (gaps_of c) n) (end_of-block offset b c.blocks found
    ∙ ap (λ n. n + b.size) (item_at-key offset_of offset b c.blocks found))

-- a carrier stays tiled where a block has an even size, 6 at least, and the rest of it and of the
-- gap behind it is a whole gap
pub resized-tiled : (c : Content) (offset size name : ℕ) (b : BlockAt) → Tiled 8 c.units c.blocks
    → block_at c.blocks offset ≡ Some b → 6 ≤ size → size % 2 ≡ 0
    → size ≤ b.size + gap_behind c offset → IsGapSize (b.size + gap_behind c offset - size)
    → Tiled 8 c.units (resized c offset size name).blocks
resized-tiled c offset size name b t found least even fits rest =
    let g : ℕ = gap_behind c offset in
    let left : b.size + g - size ≡ offset + b.size + g - (offset + size) = omega arith in
    Tiled-with_block 8 c.units offset size name (offset + b.size + g) b c.blocks t found
    (stop_of c offset b found) least even (omega arith) (subst IsGapSize left rest)

-- it stays tiled where a block shrinks by 6 units at least, where one grows into the gap behind it,
-- and where one has another name
pub shrunk-tiled : (c : Content) (offset need name : ℕ) (b : BlockAt) → Tiled 8 c.units c.blocks
    → block_at c.blocks offset ≡ Some b → need + 6 ≤ b.size → need % 2 ≡ 0 → 6 ≤ need
    → Tiled 8 c.units (resized c offset need name).blocks
shrunk-tiled c offset need name b t found fewer even least =
    let block = block_at-IsBlock c offset b t found in
    resized-tiled c offset need name b t found least even (omega arith)
    (record { even = omega (arith, block.even, block.gap.even); whole = λ some. omega arith })

pub grown-tiled : (c : Content) (offset need name : ℕ) (b : BlockAt) → Tiled 8 c.units c.blocks
    → block_at c.blocks offset ≡ Some b → b.size < need → need % 2 ≡ 0
    → need ≤ b.size + gap_behind c offset → Tiled 8 c.units
    (resized c offset (taken_of (b.size + gap_behind c offset) need) name).blocks
grown-tiled c offset need name b t found more even fits =
    let block = block_at-IsBlock c offset b t found in
    let room : ℕ = b.size + gap_behind c offset in
    let whole : IsGapSize room = record {
      even = omega (arith, block.even, block.gap.even);
      whole = λ some. omega (arith, block.least);
    } in
    let x : BlockAt = record { name = name; offset = offset; size = taken_of room need } in
    let enters : Enters x room = taken_of-enters x room need fits (omega (arith, block.least)) even
    whole refl in
    resized-tiled c offset (taken_of room need) name b t found enters.least enters.even enters.fits
    enters.rest

pub renamed-tiled : (c : Content) (offset name : ℕ) (b : BlockAt) → Tiled 8 c.units c.blocks
    → block_at c.blocks offset ≡ Some b → Tiled 8 c.units (resized c offset b.size name).blocks
renamed-tiled c offset name b t found =
    let block = block_at-IsBlock c offset b t found in
    let left : gap_behind c offset ≡ b.size + gap_behind c offset - b.size = omega arith in
    resized-tiled c offset b.size name b t found block.least block.even (omega arith)
    (subst IsGapSize left block.gap)

-- of its gaps only the one behind the block changes: it ends where it did, and begins where the
-- block ends now
pub resized-gaps : (c : Content) (offset size name : ℕ) (b : BlockAt) → Tiled 8 c.units c.blocks
    → block_at c.blocks offset ≡ Some b → (front : List Gap) × (behind : List Gap)
    × (gaps_of c ≡ front
    ++ gap (offset + b.size) (offset + b.size + gap_behind c offset) ++ behind)
    × (gaps_of (resized c offset size name) ≡ front
    ++ gap (offset + size) (offset + b.size + gap_behind c offset) ++ behind)
resized-gaps c offset size name b t found =
    gaps-with_block 8 c.units offset size name (offset + b.size + gap_behind c offset) b c.blocks t
    found (stop_of c offset b found)

-- no gap changes where the block keeps its size
pub resized-same_gaps : (c : Content) (offset name : ℕ) (b : BlockAt) → Tiled 8 c.units c.blocks
    → block_at c.blocks offset ≡ Some b → gaps_of (resized c offset b.size name) ≡ gaps_of c
resized-same_gaps c offset name b t found =
    let gs = resized-gaps c offset b.size name b t found in gs.3 ∙ sym gs.2

-- the block has that many units and this name, and the others are as before
pub resized-begins : (c : Content) (offset size name : ℕ) (b : BlockAt)
    → block_at c.blocks offset ≡ Some b
    → block_at (resized c offset size name).blocks offset
    ≡ Some (record { name = name; offset = offset; size = size })
resized-begins c offset size name b found =
    changed-found offset_of (with_size size name) offset (λ x. refl) b c.blocks found
    ∙ ap (λ n. Some (record { name = name; offset = n; size = size }))
    (item_at-key offset_of offset b c.blocks found)

pub resized-others : (c : Content) (offset size name at : ℕ) → at ≢ offset
    → block_at (resized c offset size name).blocks at ≡ block_at c.blocks at
resized-others c offset size name at other =
    changed-other offset_of (with_size size name) offset (λ x. refl) at c.blocks other
