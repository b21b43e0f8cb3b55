-- The gaps beside a block.
use Rattle.std.proofs.Common.{◌≡◌, ◌≢◌, ℕ, ◌+◌, ◌-◌, ◌<◌, ◌≤◌, List, [], ◌∷◌, ◌++◌}
use Rattle.std.proofs.Common.{sym, ◌∙◌, inl, inr, ◌⊎◌, arith}
use Rattle.std.specs.Prelude.{Some}
use Rattle.std.proofs.lemmas.Bool.{cases_eq}
use Rattle.ea_model.specs.declared.carriers.BlockAt.{BlockAt}
use Rattle.ea_model.specs.declared.carriers.Gap.{Gap}
use Rattle.ea_model.specs.Content.{gap, gaps, gap_up_to, block_at, Tiled}
use Rattle.ea_laws.proofs.BlockLists.{block_at-past}
use Rattle.ea_laws.proofs.Resized.{none_there}

-- the first of the gaps ends at the offset, or another does
pub gap_up_to-step : (a b offset : ℕ) (rest : List Gap)
    → ((a < b) × (offset ≡ b) × (gap_up_to (gap a b ++ rest) offset ≡ b - a))
    ⊎ (((b ≤ a) ⊎ (offset ≢ b)) × (gap_up_to (gap a b ++ rest) offset ≡ gap_up_to rest offset))
gap_up_to-step a b offset rest = grind arith

gap_up_to-last : (at end offset : ℕ) → offset ≤ at → gap_up_to (gap at end) offset ≡ 0
gap_up_to-last at end offset le = grind arith

-- no gap ends before the tiling begins
gap_up_to-early : (at end offset : ℕ) (bs : List BlockAt) → Tiled at end bs → offset ≤ at
    → gap_up_to (gaps at end bs) offset ≡ 0
gap_up_to-early at end offset [] t le = gap_up_to-last at end offset le
gap_up_to-early at end offset (b ∷ bs) t le =
    elim (gap_up_to-step at b.offset offset (gaps (b.offset + b.size) end bs)) [
      | inl p ↦ absurd (omega arith)
      | inr q ↦ q.1 ∙ gap_up_to-early (b.offset + b.size) end offset bs t.4 (omega arith)
    ]

-- the gap before the first block
pub gap_up_to-first : (at end offset : ℕ) (b : BlockAt) (bs : List BlockAt) → Tiled at end (b ∷ bs)
    → b.offset ≡ offset → gap_up_to (gaps at end (b ∷ bs)) offset ≡ offset - at
gap_up_to-first at end offset b bs t e =
    elim (gap_up_to-step at b.offset offset (gaps (b.offset + b.size) end bs)) [
      | inl p ↦ omega (arith, p.2)
      | inr q ↦ omega (
        arith,
        q.1,
        gap_up_to-early (b.offset + b.size) end offset bs t.4
            (omega arith),
      )
    ]

-- the gap before a block lies behind the carrier's header
pub before-within : (at end offset : ℕ) (b : BlockAt) (bs : List BlockAt) → Tiled at end bs
    → block_at bs offset ≡ Some b → at + gap_up_to (gaps at end bs) offset ≤ offset
before-within at end offset b [] t found = absurd (none_there offset b found)
before-within at end offset b (x ∷ bs) t found =
    elim (cases_eq x.offset offset) [
      | inl e ↦ omega (arith, t.0, e, gap_up_to-first at end offset x bs t e)
      | inr n ↦
          let more = before-within (x.offset + x.size) end offset b bs t.4
          (sym (block_at-past offset x bs n) ∙ found) in
          elim (gap_up_to-step at x.offset offset (gaps (x.offset + x.size) end bs)) [
            | inl p ↦ absurd (n (sym p.1))
            | inr q ↦ omega (arith, t.0, t.2, q.1, more)
          ]
    ]
