-- The parts of a carrier: its blocks and its gaps, and which of them begins at an offset
-- (`part_in`).
use Rattle.std.specs.Prelude.{◌⊎◌, ℕ, ◌<◌, List, Option, None, Some, IsSome}
use Rattle.ea_model.specs.declared.carriers.BlockAt.{BlockAt}
use Rattle.ea_model.specs.declared.carriers.Gap.{Gap}
use Rattle.ea_model.specs.Content.{block_at, gap_at}
use Rattle.ea_mbc.specs.declared.parts.Part.{Part}
use Rattle.ea_mbc.specs.declared.parts.Part.TheVariants as part

-- one of these blocks or of these gaps begins at the offset
abbrev pub HasPart : List BlockAt → List Gap → ℕ → Type 0
HasPart bs gs offset = IsSome (block_at bs offset) ⊎ (0 < gap_at gs offset)

-- the block, if there is one, or else a gap of that many units
abbrev pub block_or : Option BlockAt → ℕ → Part
block_or None units = part.Gap units
block_or (Some b) units = part.Block b.size

-- the block or the gap that begins at the offset
abbrev pub part_in : List BlockAt → List Gap → ℕ → Part
part_in bs gs offset = block_or (block_at bs offset) (gap_at gs offset)
