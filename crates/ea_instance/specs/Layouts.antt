-- The sizes of a carrier's blocks and gaps: the layout of a content (`layout_of`).
use Rattle.std.specs.Prelude.{ℕ, List, map}
use Rattle.ea_model.specs.declared.carriers.BlockAt.{BlockAt}
use Rattle.ea_model.specs.declared.carriers.Gap.{Gap}
use Rattle.ea_model.specs.Content.{Content, gaps_of}
use Rattle.ea_model.specs.Trace.{listed}
use Rattle.ea_instance.specs.declared.layouts.Layout.{Layout}

-- the units of each of these blocks
abbrev pub block_sizes : List BlockAt → List ℕ
block_sizes bs = map (λ b. b.size) bs

-- the units of each of these gaps
abbrev pub gap_sizes : List Gap → List ℕ
gap_sizes gs = map (λ g. g.size) gs

-- the layout of a carrier with this content
abbrev pub layout_of : Content → Layout
layout_of c = record {
  number = c.number;
  blocks = listed (block_sizes c.blocks);
  gaps = listed (gap_sizes (gaps_of c));
}

-- a layout as a definition answers it: the same whatever the room of its lists
abbrev pub plain_layout : Layout → Layout
plain_layout l = record {
  number = l.number;
  blocks = listed l.blocks.items;
  gaps = listed l.gaps.items;
}
