-- The words by which the units of a carrier describe each of its blocks and gaps.
use Rattle.std.specs.Prelude.{◌≡◌, ℕ, ◌+◌, ◌-◌, true, false, nat_lt, ◌==◌, List, slice_index}
use Rattle.ea_model.specs.declared.carriers.BlockAt.{BlockAt}
use Rattle.ea_model.specs.declared.carriers.Gap.{Gap}
use Rattle.ea_model.specs.Content.{gap_up_to}
use Rattle.ea_tags.specs.Words.{code}

-- the first unit of a block is its header, in a carrier of `end` units with these gaps
abbrev pub BlockTagged : List ℕ → ℕ → List Gap → BlockAt → Type 0
BlockTagged words end gs b = slice_index words b.offset
    ≡ code (record {
      size = b.size;
      this_free = false;
      prev_free = nat_lt 0 (gap_up_to gs b.offset);
      last = (b.offset + b.size) == end;
    })

-- the first unit of a gap is its header, and the last one its size
abbrev pub GapTagged : List ℕ → ℕ → Gap → Type 0
GapTagged words end g =
    (slice_index words g.offset
    ≡ code (record {
      size = g.size;
      this_free = true;
      prev_free = false;
      last = (g.offset + g.size) == end;
    }))
    × (slice_index words (g.offset + g.size - 1) ≡ g.size)
