-- The gaps that owner words can show.
use Rattle.std.specs.Prelude.{◌≡◌, ℕ, ◌%◌, ◌≤◌}
use Rattle.ea_model.specs.declared.units.TheConstants.{MAX_UNITS}

-- the units of a largest gap that a word can show
abbrev pub IsLargest : ℕ → Type 0
IsLargest units = (units % 2 ≡ 0) × (units ≤ MAX_UNITS)
