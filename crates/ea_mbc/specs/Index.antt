-- In which of two structures the sizes of gaps are, by the order in which gaps are chosen. This
-- file serves private functions and invariants.
use Rattle.std.specs.Prelude.{◌≡◌, ℕ, ◌*◌, ◌-◌, ◌^◌, ◌≤◌, Bool, true, false, not, min, List}
use Rattle.std.specs.Prelude.{length}
use Rattle.ea_model.specs.declared.carriers.Inner.{Inner}
use Rattle.ea_model.specs.declared.carriers.Inner.TheVariants.{Bf, Aobf, Aoff}
use Rattle.ea_model.specs.declared.units.TheConstants.{MIN_BLOCK}
use Rattle.ea_sizemap.specs.Held.{Sizes}

-- the sizes by slots
abbrev pub sizes_by : Inner → List ℕ → Sizes → List ℕ
sizes_by Bf tree map = map.held
sizes_by Aobf tree map = map.held
sizes_by Aoff tree map = tree

-- whether the order takes gaps by their size, and not by their address alone
abbrev pub is_by_size : Inner → Bool
is_by_size Bf = true
is_by_size Aobf = true
is_by_size Aoff = false

-- whether slots that are kept by the first order tell which gap is chosen in the second
abbrev pub serves : Inner → Inner → Bool
serves Bf inner = is_by_size inner
serves Aobf inner = is_by_size inner
serves Aoff inner = not (is_by_size inner)

-- each slot has an offset and a size, which may be as great as all slots together
pub record IsKept (inner : Inner) (offsets tree : List ℕ) (map : Sizes) : Type 0 where
  pub slots : length offsets ≡ length (sizes_by inner tree map)
  pub sizes : min (2 * MIN_BLOCK * length offsets) (2 ^ 32 - 1) ≤ map.most
