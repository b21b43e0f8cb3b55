-- The text of histograms (`histograms_text`).
-- This simulator's own: the sources do not speak of it.
use Rattle.std.specs.Prelude.{ℕ, List, ◌∷◌, ◌++◌, codes, decimal, flat_map, map, sum_by}
use Rattle.std.specs.List.{range_with_len}
use Rattle.ea_instance.specs.declared.layouts.Layout.{Layout}
use Rattle.ea_hist.specs.declared.counting.TheConstants.{INTERVALS}
use Rattle.ea_hist.specs.Intervals.{count_in, counts}

-- numbers, each after a space
abbrev pub numbers_text : List ℕ → List ℕ
numbers_text ns = flat_map (λ n. 32 ∷ decimal n) ns

-- the rest of a line, with counts of blocks and of gaps
abbrev pub counts_text : List ℕ → List ℕ → List ℕ
counts_text blocks gaps = codes " blocks" ++ numbers_text blocks ++ codes " gaps"
    ++ numbers_text gaps ++ codes "\n"

-- the sizes of the blocks of a carrier, and of its gaps
abbrev pub blocks_in : Layout → List ℕ
blocks_in layout = layout.blocks.items

abbrev pub gaps_in : Layout → List ℕ
gaps_in layout = layout.gaps.items

-- the line of a carrier
abbrev pub layout_text : Layout → List ℕ
layout_text l = codes "carrier " ++ decimal l.number
    ++ counts_text (counts (blocks_in l)) (counts (gaps_in l))

-- for each interval the sum, over all carriers, of how many sizes lie in it
unfoldable pub sums : (Layout → List ℕ) → List Layout → List ℕ
sums sizes_in layouts = map (λ interval. sum_by (λ l. count_in interval (sizes_in l)) layouts)
    (range_with_len 1 INTERVALS)

-- the last line, with the sums
abbrev pub all_text : List Layout → List ℕ
all_text layouts = codes "all" ++ counts_text (sums blocks_in layouts) (sums gaps_in layouts)

-- a line for each carrier, and the last line
abbrev pub histograms_text : List Layout → List ℕ
histograms_text layouts = flat_map layout_text layouts ++ all_text layouts
