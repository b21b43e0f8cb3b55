-- Where in the units of a carrier a block or a gap lies.
use Rattle.std.proofs.Common.{◌≡◌, ℕ, ◌+◌, ◌<◌, ◌≤◌, List, length}
use Rattle.std.proofs.Common.{option_map, refl, sym, ap, ◌∙◌, arith}
use Rattle.std.specs.Prelude.{Option, Some, None}
use Rattle.std.specs.Option.{option_map_or}
use Rattle.ea_model.specs.declared.carriers.Block.{Block}
use Rattle.ea_model.specs.declared.carriers.BlockAt.{BlockAt}
use Rattle.ea_model.specs.declared.carriers.Gap.{Gap}
use Rattle.ea_model.specs.Content.{Content, gaps_of, gap_at, gap_behind, block_at}
use Rattle.ea_model.specs.Content.{end_of, named, Tiled}
use Rattle.ea_model.specs.Keyed.{item_at}
use Rattle.ea_model.proofs.Rising.{item_at-key, item_at-All}
use Rattle.ea_laws.proofs.Candidates.{gaps_Inside, Inside}
use Rattle.ea_laws.proofs.Resized.{block_at-IsBlock, end_of-block}

-- a block that is found by its name and size
pub block-there : (o : Option BlockAt) (v : Block) → option_map named o ≡ Some v
    → (b : BlockAt) × (o ≡ Some b) × (b.size ≡ v.size)
block-there None v e = absurd cc
block-there (Some b) v e = (b, refl, grind arith)

-- a block's units are there
pub block-tag : (ws : List ℕ) (c : Content) (offset : ℕ) (b : BlockAt)
    → Tiled 8 c.units c.blocks → length ws ≡ c.units → block_at c.blocks offset ≡ Some b
    → offset < length ws
block-tag ws c offset b t long found =
    let is = block_at-IsBlock c offset b t found in
    omega (arith, is.within, is.least, long)

-- where a block ends, and the gap that begins there
pub gap-after : (c : Content) (offset : ℕ) (v : Block) → Tiled 8 c.units c.blocks
    → option_map named (block_at c.blocks offset) ≡ Some v
    → (offset + v.size ≤ c.units) × (gap_at (gaps_of c) (offset + v.size) ≡ gap_behind c offset)
gap-after c offset v t e =
    let (b, found, same) = block-there (block_at c.blocks offset) v e in
    let is = block_at-IsBlock c offset b t found in
    let stop : end_of c.blocks offset ≡ offset + v.size = end_of-block offset b c.blocks found
    ∙ omega (arith, is.begins, same) in
    (omega (arith, is.within, same), ap (gap_at (gaps_of c)) (sym stop))

abbrev gap_offset : Gap → ℕ
gap_offset g = g.offset

-- a gap of some units that is found by its offset
gap-there : (o : Option Gap) (n : ℕ) → option_map_or (λ g. g.size) o 0 ≡ n → 0 < n
    → (g : Gap) × (o ≡ Some g) × (g.size ≡ n)
gap-there None n e some = absurd (omega (arith, e, some))
gap-there (Some g) n e some = (g, refl, e)

-- a gap's units are there
pub gap-tags : (ws : List ℕ) (c : Content) (offset size : ℕ) → Tiled 8 c.units c.blocks
    → length ws ≡ c.units → gap_at (gaps_of c) offset ≡ size → 0 < size
    → offset + size ≤ length ws
gap-tags ws c offset size t long is some =
    let (g, found, e) = gap-there (item_at gap_offset (gaps_of c) offset) size is some in
    let begins = item_at-key gap_offset offset g (gaps_of c) found in
    let inside = item_at-All gap_offset (Inside 8 c.units) offset g (gaps_of c)
    (gaps_Inside 8 c.units c.blocks t) found in
    omega (arith, inside.within, begins, e, long)
