-- The values that calls of an instance return.
use Rattle.std.specs.Prelude.{ℕ, Option, Some, None}
use Rattle.ea_model.specs.declared.carriers.Spot.{Spot}
use Rattle.ea_model.specs.Instance.{Instance, placing_at}

-- the instance with the block at the spot, if there is one
abbrev pub placing_if : Instance → Option Spot → ℕ → ℕ → Instance
placing_if i None need name = i
placing_if i (Some spot) need name = placing_at i spot need name
