-- The blocks of a carrier and its figures.
use Rattle.std.specs.Prelude.{◌≡◌, ℕ, ◌^◌, ◌<◌, List, length}
use Rattle.ea_model.specs.declared.carriers.BlockAt.{BlockAt}
use Rattle.ea_model.specs.declared.units.TheConstants.{HEADER_UNITS}
use Rattle.ea_model.specs.Content.{gaps, allocated, largest, Tiled}

-- where a carrier ends, in units, and its blocks by rising offset
pub record Layout : Type 0 where
  pub end : ℕ
  pub blocks : List BlockAt

-- the blocks are tiled, the number of all units fits 32 bits, and these are the units of the largest
-- gap, the units of the blocks, and how many blocks there are
pub record HasFigures (l : Layout) (most sum number : ℕ) : Type 0 where
  pub tiled : Tiled HEADER_UNITS l.end l.blocks
  pub small : l.end < 2 ^ 32
  pub greatest : most ≡ largest (gaps HEADER_UNITS l.end l.blocks)
  pub taken : sum ≡ allocated l.blocks
  pub many : number ≡ length l.blocks
