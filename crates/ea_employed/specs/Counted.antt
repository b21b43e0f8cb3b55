-- The figures of carriers after a change: with a block or a carrier more.
use Rattle.std.specs.Prelude.{ℕ, ◌+◌}
use Rattle.ea_model.specs.declared.carriers.Figures.{Figures}

-- with a block of that many units more
abbrev pub with_block : ℕ → Figures → Figures
with_block size f = record f { blocks = f.blocks + 1; blocks_size = f.blocks_size + size }

-- with a carrier of that many units more that has blocks of so many units
abbrev pub with_whole : ℕ → ℕ → ℕ → Figures → Figures
with_whole blocks size units f = record {
  blocks = f.blocks + blocks;
  blocks_size = f.blocks_size + size;
  carriers = f.carriers + 1;
  carriers_size = f.carriers_size + units;
}

-- with a carrier of that many units more
abbrev pub with_carrier : ℕ → Figures → Figures
with_carrier units f = record f {
  carriers = f.carriers + 1;
  carriers_size = f.carriers_size + units;
}
