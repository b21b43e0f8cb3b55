-- Which units and names a carrier's blocks depend on.
use Rattle.std.proofs.Common.{◌≡◌, ◌≢◌, ℕ, ◌+◌, ◌-◌, ◌*◌, ◌/◌, ◌%◌, ◌<◌, ◌≤◌, List, [], ◌∷◌}
use Rattle.std.proofs.Common.{sym, ap, ◌∙◌, subst, inl, inr, arith}
use Rattle.std.specs.Prelude.{nat_lt, slice_index, Some, ◌==◌, false}
use Rattle.std.proofs.lemmas.Bool.{cases_lt, cases_eq}
use Rattle.ea_model.specs.declared.carriers.BlockAt.{BlockAt}
use Rattle.ea_model.specs.Content.{gap, gaps, gap_at, block_at, Tiled}
use Rattle.ea_model.proofs.Rising.{item_at-key, item_at-All}
use Rattle.ea_laws.proofs.BlockLists.{offset_of, gap_at-step, only_gap, block_at-past, Tiled-behind}
use Rattle.ea_laws.proofs.Resized.{first_at, gap_at-first, gap_at-past, none_there}
use Rattle.ea_laws.proofs.Tiling.{Tiled-allocated}
use Rattle.ea_mbc.specs.Coding.{GapCoded, Unnamed, Coded, Told}

-- two lists are the same in the units from a up to b
abbrev pub SameUnits : List ℕ → List ℕ → ℕ → ℕ → Type 0
SameUnits ws vs a b = (k : ℕ) → a ≤ k → k < b → slice_index vs k ≡ slice_index ws k

-- two lists of names are the same for the pairs of units that meet those from a up to b
abbrev pub SameNames : List ℕ → List ℕ → ℕ → ℕ → Type 0
SameNames ns ms a b = (k : ℕ) → a ≤ 2 * k + 1 → 2 * k < b → slice_index ms k ≡ slice_index ns k

-- two lists of names are the same but for the offset
abbrev pub OtherNames : List ℕ → List ℕ → ℕ → Type 0
OtherNames ns ms offset = (k : ℕ) → k ≢ offset / 2 → slice_index ms k ≡ slice_index ns k

pub GapCoded-keeps : (ws vs : List ℕ) (end a b : ℕ) → SameUnits ws vs a b → GapCoded ws end a b
    → GapCoded vs end a b
GapCoded-keeps ws vs end a b same h = λ some. (
  same a (omega arith) some ∙ (h some).0,
  same (b - 1) (omega arith) (omega arith) ∙ (h some).1,
)

pub Unnamed-keeps : (ns ms : List ℕ) (a b : ℕ) → SameNames ns ms a b → Unnamed ns a b
    → Unnamed ms a b
Unnamed-keeps ns ms a b same h = λ k lo hi. same k (omega arith) hi ∙ h k lo hi

-- up to the first block or the end no name stands
pub Unnamed-first : (ws ns : List ℕ) (end at : ℕ) (bs : List BlockAt) → Coded ws ns end at bs
    → Unnamed ns at (first_at end bs)
Unnamed-first ws ns end at [] c = c.1
Unnamed-first ws ns end at (b ∷ bs) c = c.1

-- nor after the first unit of a block up to the next block or the end
pub Unnamed-behind : (ws ns : List ℕ) (end at : ℕ) (b : BlockAt) (bs : List BlockAt)
    → Coded ws ns end at (b ∷ bs) → Unnamed ns (b.offset + 1) (first_at end bs)
Unnamed-behind ws ns end at b bs c = λ k lo hi.
    elim (cases_lt (2 * k) (b.offset + b.size)) [
      | inl lt ↦ c.3 k lo lt
      | inr le ↦ Unnamed-first ws ns end (b.offset + b.size) bs c.4 k le hi
    ]

-- the first block and the gap before it stay as they are, whatever follows
pub Coded-past : (ws vs ns ms : List ℕ) (end at : ℕ) (b : BlockAt) (bs cs : List BlockAt)
    → Tiled at end (b ∷ bs) → SameUnits ws vs at (b.offset + b.size)
    → SameNames ns ms at (b.offset + b.size) → Coded ws ns end at (b ∷ bs)
    → Coded vs ms end (b.offset + b.size) cs → Coded vs ms end at (b ∷ cs)
Coded-past ws vs ns ms end at b bs cs t words names c rest = (
  GapCoded-keeps ws vs end at b.offset (λ k lo hi. words k lo (omega arith)) c.0,
  Unnamed-keeps ns ms at b.offset (λ k lo hi. names k lo (omega arith)) c.1,
  (
    words b.offset t.0 (omega (arith, t.2)) ∙ c.2.0,
    names (b.offset / 2) (omega (arith, t.0)) (omega (arith, t.2)) ∙ c.2.1,
  ),
  Unnamed-keeps ns ms (b.offset + 1) (b.offset + b.size)
      (λ k lo hi. names k (omega (arith, t.0)) hi) c.3,
  rest,
)

-- the blocks depend on their own units and names alone
pub Coded-keeps : (ws vs ns ms : List ℕ) (end at : ℕ) (bs : List BlockAt) → Tiled at end bs
    → SameUnits ws vs at end → SameNames ns ms at end → Coded ws ns end at bs
    → Coded vs ms end at bs
Coded-keeps ws vs ns ms end at [] t words names c =
    (GapCoded-keeps ws vs end at end words c.0, Unnamed-keeps ns ms at end names c.1)
Coded-keeps ws vs ns ms end at (b ∷ bs) t words names c =
    let within = Tiled-allocated (b.offset + b.size) end bs t.4 in
    Coded-past ws vs ns ms end at b bs bs t (λ k lo hi. words k lo (omega (arith, within)))
    (λ k lo hi. names k lo (omega (arith, within))) c
    (Coded-keeps ws vs ns ms end (b.offset + b.size) bs t.4
    (λ k lo hi. words k (omega (arith, t.0, t.2)) hi)
    (λ k lo hi. names k (omega (arith, t.0, t.2)) hi) c.4)

-- the blocks where `from` stands for `at`: the first of them, or the end, is at `stop`, and only
-- what its header says of a gap before it may have changed
pub Coded-told : (ws vs ns ms : List ℕ) (end at from stop : ℕ) (bs : List BlockAt)
    → Tiled at end bs → first_at end bs ≡ stop → GapCoded vs end from stop → Unnamed ms from stop
    → Told ws vs end stop (nat_lt from stop)
    → ((k : ℕ) → stop < k → slice_index vs k ≡ slice_index ws k)
    → ((k : ℕ) → stop ≤ 2 * k + 1 → slice_index ms k ≡ slice_index ns k) → Coded ws ns end at bs
    → Coded vs ms end from bs
Coded-told ws vs ns ms end at from stop [] t first gap unnamed told words names c = (
  subst (GapCoded vs end from) (sym first) gap,
  subst (Unnamed ms from) (sym first) unnamed,
)
Coded-told ws vs ns ms end at from stop (b ∷ bs) t first gap unnamed told words names c =
    let within = Tiled-allocated (b.offset + b.size) end bs t.4 in
    let header = subst (λ n. Told ws vs end n (nat_lt from n)) (sym first) told
    (omega (arith, within, t.2)) b.size false (nat_lt at b.offset) ((b.offset + b.size) == end)
    c.2.0 in (
      subst (GapCoded vs end from) (sym first) gap,
      subst (Unnamed ms from) (sym first) unnamed,
      (header, names (b.offset / 2) (omega (arith, first)) ∙ c.2.1),
      Unnamed-keeps ns ms (b.offset + 1) (b.offset + b.size)
          (λ k lo hi. names k (omega (arith, first))) c.3,
      Coded-keeps ws vs ns ms end (b.offset + b.size) bs t.4
          (λ k lo hi. words k (omega (arith, first, t.2)))
          (λ k lo hi. names k (omega (arith, first, t.2))) c.4,
    )

-- the front of a carrier has no names, and a write at an offset behind its header leaves it so
pub front-kept : (ns ms : List ℕ) (offset : ℕ) → 8 ≤ offset → OtherNames ns ms offset
    → Unnamed ns 0 8 → Unnamed ms 0 8
front-kept ns ms offset behind others h = λ k lo hi. others k (λ e. omega arith) ∙ h k lo hi

-- gaps begin at even offsets
pub gap_at-even : (at end offset : ℕ) (bs : List BlockAt) → Tiled at end bs → at % 2 ≡ 0
    → 0 < gap_at (gaps at end bs) offset → offset % 2 ≡ 0
gap_at-even at end offset [] t even some =
    let here = only_gap at end offset t.0 some in omega (arith, here.0)
gap_at-even at end offset (b ∷ bs) t even some =
    elim (gap_at-step at b.offset offset (gaps (b.offset + b.size) end bs)) [
      | inl p ↦ omega (arith, p.1)
      | inr q ↦ gap_at-even (b.offset + b.size) end offset bs t.4
          (omega (arith, t.0, t.1.even, t.3)) (omega (arith, q))
    ]

-- and so do blocks
pub block_at-even : (at end offset : ℕ) (b : BlockAt) (bs : List BlockAt) → Tiled at end bs
    → at % 2 ≡ 0 → block_at bs offset ≡ Some b → offset % 2 ≡ 0
block_at-even at end offset b [] t even found = absurd (none_there offset b found)
block_at-even at end offset b (x ∷ bs) t even found =
    elim (cases_eq x.offset offset) [
      | inl e ↦ omega (arith, t.0, t.1.even)
      | inr n ↦ block_at-even (x.offset + x.size) end offset b bs t.4
          (omega (arith, t.0, t.1.even, t.3)) (sym (block_at-past offset x bs n) ∙ found)
    ]

-- the gap behind a block ends where the next block begins, or at the end
pub first_behind : (at end offset stop : ℕ) (x b : BlockAt) (bs : List BlockAt)
    → Tiled at end (x ∷ bs) → x.offset ≡ offset → x ≡ b
    → stop ≡ offset + b.size + gap_at (gaps at end (x ∷ bs)) (offset + b.size)
    → first_at end bs ≡ stop
first_behind at end offset stop x b bs t e same is =
    let size : x.size ≡ b.size = ap (λ (y : BlockAt). y.size) same in
    let ends : x.offset + x.size ≡ offset + b.size = omega arith in
    omega (
      arith,
      is,
      gap_at-first (x.offset + x.size) end bs t.4,
      gap_at-past at end (offset + b.size) x bs (omega (arith, t.2)),
      ap (gap_at (gaps (x.offset + x.size) end bs)) ends,
    )

-- a block begins no earlier than the tiling
pub block_at-behind : (at end offset : ℕ) (b : BlockAt) (bs : List BlockAt) → Tiled at end bs
    → block_at bs offset ≡ Some b → at ≤ offset
block_at-behind at end offset b bs t found =
    subst (λ n. at ≤ n) (item_at-key offset_of offset b bs found)
    (item_at-All offset_of (λ (x : BlockAt). at ≤ x.offset) offset b bs (Tiled-behind at end bs t)
    found)
