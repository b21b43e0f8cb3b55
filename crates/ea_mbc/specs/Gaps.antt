-- The gaps of a carrier after a call: a gap taken, gaps joined, a gap resized.
use Rattle.std.specs.Prelude.{◌≡◌, ℕ, ◌+◌, ◌-◌, List, [], ◌∷◌, ◌++◌}
use Rattle.ea_model.specs.declared.carriers.Gap.{Gap}
use Rattle.ea_model.specs.Content.{Content, gap, gaps_of, gap_at, gap_before}
use Rattle.ea_model.specs.Content.{gap_behind, block_at, size_of}

-- the units of the block at the offset and of the gap directly behind it
abbrev pub room_at : Content → ℕ → ℕ
room_at c offset = size_of (block_at c.blocks offset) + gap_behind c offset

-- ys are the gaps xs with the run `made` in the place of the run `gone`
pub record Replaced (xs ys gone made : List Gap) : Type 0 where
  pub front : List Gap
  pub behind : List Gap
  pub was : xs ≡ front ++ gone ++ behind
  pub is : ys ≡ front ++ made ++ behind

-- a block of that many units stands at the front of the gap at the offset, and what it leaves of it
-- is a gap
abbrev pub GapTaken : Content → Content → ℕ → ℕ → Type 0
GapTaken old new offset size =
    Replaced (gaps_of old) (gaps_of new)
    (record { offset = offset; size = gap_at (gaps_of old) offset } ∷ [])
    (gap (offset + size) (offset + gap_at (gaps_of old) offset))

-- a block of that many units at the offset is free, and one gap with the gaps directly before and
-- after it
abbrev pub GapsJoined : Content → Content → ℕ → ℕ → Type 0
GapsJoined old new offset size =
    Replaced (gaps_of old) (gaps_of new)
    (gap (offset - gap_before old offset) offset ++ gap (offset + size)
    (offset + size + gap_behind old offset))
    (record {
      offset = offset - gap_before old offset;
      size = gap_before old offset + size + gap_behind old offset;
    } ∷ [])

-- a block at the offset that had `was` units has `size`; of the gaps only that directly behind it
-- changes: it ends where it did, and begins where the block ends now
abbrev pub GapResized : Content → Content → ℕ → ℕ → ℕ → Type 0
GapResized old new offset was size =
    Replaced (gaps_of old) (gaps_of new)
    (gap (offset + was) (offset + was + gap_behind old offset))
    (gap (offset + size) (offset + was + gap_behind old offset))
