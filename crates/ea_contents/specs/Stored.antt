-- Blocks that lie in a memory.
use Rattle.std.specs.Prelude.{ℕ, ◌+◌, ◌≤◌, List, length}
use Rattle.ea_model.specs.declared.carriers.Extent.{Extent}

-- it has a unit at least, and all of them have words in the memory
abbrev pub IsStored : Extent → List ℕ → Type 0
IsStored x memory = (1 ≤ x.units) × (x.first + x.units ≤ length memory)
