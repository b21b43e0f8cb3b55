-- How the units of a carrier, and its names by half offsets, stand for its blocks and gaps
-- (`IsCoded`, `blocks_of`). `Laid` and `Cleared` say what a change writes.
use Rattle.std.specs.Prelude.{◌≡◌, ◌≢◌, ℕ, zero, suc, ◌+◌, ◌-◌, ◌*◌, ◌/◌, ◌%◌, ◌<◌, ◌≤◌, ◌⊎◌}
use Rattle.std.specs.Prelude.{Bool, true, false, if◌then◌else◌, nat_lt, ◌==◌}
use Rattle.std.specs.Prelude.{List, [], ◌∷◌, length, slice_index}
use Rattle.ea_model.specs.declared.carriers.BlockAt.{BlockAt}
use Rattle.ea_model.specs.declared.units.TheConstants.{HEADER_UNITS}
use Rattle.ea_model.specs.Content.{Tiled}
use Rattle.ea_tags.specs.Words.{code}

-- a gap from a up to b, if there is one, has its header in its first unit and its size in its last
abbrev pub GapCoded : List ℕ → ℕ → ℕ → ℕ → Type 0
GapCoded words end a b = a < b
    → (slice_index words a
    ≡ code (record { size = b - a; this_free = true; prev_free = false; last = b == end }))
    × (slice_index words (b - 1) ≡ b - a)

-- a block has its header in its first unit, and its name by its half offset; `prev` says that a gap
-- ends directly before it
abbrev pub BlockCoded : List ℕ → List ℕ → ℕ → Bool → BlockAt → Type 0
BlockCoded words names end prev b =
    (slice_index words b.offset
    ≡ code (record {
      size = b.size;
      this_free = false;
      prev_free = prev;
      last = (b.offset + b.size) == end;
    }))
    × (slice_index names (b.offset / 2) ≡ b.name)

-- no name stands for a unit from a up to b
abbrev pub Unnamed : List ℕ → ℕ → ℕ → Type 0
Unnamed names a b = (k : ℕ) → a ≤ 2 * k → 2 * k < b → slice_index names k ≡ 0

-- units and names from `at`, where a block or the carrier's header ends, stand for the blocks
abbrev pub Coded : List ℕ → List ℕ → ℕ → ℕ → List BlockAt → Type 0
Coded words names end at [] = GapCoded words end at end × Unnamed names at end
Coded words names end at (b ∷ bs) = GapCoded words end at b.offset × Unnamed names at b.offset
    × BlockCoded words names end (nat_lt at b.offset) b
    × Unnamed names (b.offset + 1) (b.offset + b.size)
    × Coded words names end (b.offset + b.size) bs

-- the block whose header stands in a unit
abbrev pub block_read : List ℕ → List ℕ → ℕ → BlockAt
block_read words names at =
    record {
      name = slice_index names (at / 2);
      offset = at;
      size = slice_index words at / 8;
    }

-- the blocks from `at` on, read header by header, n at most
abbrev pub read : ℕ → List ℕ → List ℕ → ℕ → ℕ → List BlockAt
read zero words names end at = []
read (suc n) words names end at =
    if nat_lt at end then (if slice_index words at % 2 == 1
    then read n words names end (at + slice_index words at / 8)
    else block_read words names at
    ∷ read n words names end (at + slice_index words at / 8)) else []

-- the blocks of a carrier
abbrev pub blocks_of : List ℕ → List ℕ → ℕ → List BlockAt
blocks_of words names units = read units words names units HEADER_UNITS

-- units and names of a carrier stand for these blocks
pub record IsCoded (words names : List ℕ) (units : ℕ) (bs : List BlockAt) : Type 0 where
  pub long : length words ≡ units
  pub half : 2 * length names ≡ units
  pub front : Unnamed names 0 HEADER_UNITS
  pub tiled : Tiled HEADER_UNITS units bs
  pub coded : Coded words names units HEADER_UNITS bs

-- vs is ws but for the units from `from` up to `to`, `to` included
abbrev pub Keeps : List ℕ → List ℕ → ℕ → ℕ → Type 0
Keeps ws vs from to = (k : ℕ) → (k < from) ⊎ (to < k) → slice_index vs k ≡ slice_index ws k

-- the header at `stop`, if that is not the carrier's end, says in vs whether a gap ends directly
-- before it, and else what it says in ws
abbrev pub Told : List ℕ → List ℕ → ℕ → ℕ → Bool → Type 0
Told ws vs end stop free = stop < end → (n : ℕ) (f p l : Bool)
    → slice_index ws stop
    ≡ code (record { size = n; this_free = f; prev_free = p; last = l })
    → slice_index vs stop
    ≡ code (record { size = n; this_free = f; prev_free = free; last = l })

-- vs and ms are ws and ns where a block of that size and name stands at the offset, and the units
-- after it up to `stop`, where the next block or the end is, are a gap, if there are any
pub record Laid (ws vs ns ms : List ℕ) (end offset size stop name : ℕ) (prev : Bool) : Type 0 where
  pub words : length vs ≡ length ws
  pub halves : length ms ≡ length ns
  pub header : slice_index vs offset
      ≡ code (record {
        size = size;
        this_free = false;
        prev_free = prev;
        last = (offset + size) == end;
      })
  pub gap : GapCoded vs end (offset + size) stop
  pub told : Told ws vs end stop (nat_lt (offset + size) stop)
  pub kept : Keeps ws vs offset stop
  pub its_name : slice_index ms (offset / 2) ≡ name
  pub other_names : (k : ℕ) → k ≢ offset / 2 → slice_index ms k ≡ slice_index ns k

-- vs and ms are ws and ns where the units from `start` up to `stop`, where the next block or the
-- end is, are a gap, and no block begins at the offset
pub record Cleared (ws vs ns ms : List ℕ) (end start offset stop : ℕ) : Type 0 where
  pub words : length vs ≡ length ws
  pub halves : length ms ≡ length ns
  pub gap : GapCoded vs end start stop
  pub told : Told ws vs end stop true
  pub kept : Keeps ws vs start stop
  pub its_name : slice_index ms (offset / 2) ≡ 0
  pub other_names : (k : ℕ) → k ≢ offset / 2 → slice_index ms k ≡ slice_index ns k
