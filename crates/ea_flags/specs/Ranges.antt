-- The ranges of the values that a flag sets.
-- This simulator's own: the sources leave it undecided.
use Rattle.std.specs.Prelude.{◌≤◌, ℕ}
use Rattle.ea_model.specs.declared.units.TheConstants.{MAX_BYTES, MAX_GROWTH_CARRIERS}
use Rattle.ea_model.specs.declared.units.TheConstants.{MAX_MEGABYTES, MAX_PERCENT, MAX_SCHEDULERS}
use Rattle.ea_model.specs.declared.units.TheConstants.{MAX_SEARCH_DEPTH, MAX_UNITS}
use Rattle.ea_model.specs.Settings.{IsSize}
use Rattle.ea_flags.specs.declared.setting.Change.{Change}
use Rattle.ea_flags.specs.declared.setting.Change.TheVariants as change
use Rattle.ea_flags.specs.declared.setting.Setting.{Setting}
use Rattle.ea_flags.specs.declared.setting.Setting.TheVariants.{Schedulers, SuperCarrier, Of}
use Rattle.ea_flags.specs.declared.setting.Setting.TheVariants.{Nothing}

-- a number from low to high
abbrev pub IsFromTo : ℕ → ℕ → ℕ → Type 0
IsFromTo low high n = (low ≤ n) × (n ≤ high)

abbrev pub IsChangeInRange : Change → Type 0
IsChangeInRange (change.As strategy) = Unit {0}
IsChangeInRange (change.Acul percent) = IsFromTo 0 MAX_PERCENT percent
IsChangeInRange (change.Acfml bytes) = IsFromTo 0 MAX_BYTES bytes
IsChangeInRange (change.Sbct units) = IsSize units
IsChangeInRange (change.Smbcs units) = IsSize units
IsChangeInRange (change.Lmbcs units) = IsSize units
IsChangeInRange (change.Mmbcs units) = IsFromTo 0 MAX_UNITS units
IsChangeInRange (change.Asbcst units) = IsFromTo 0 MAX_UNITS units
IsChangeInRange (change.Mbcgs carriers) = IsFromTo 1 MAX_GROWTH_CARRIERS carriers
IsChangeInRange (change.Mbsd gaps) = IsFromTo 1 MAX_SEARCH_DEPTH gaps
IsChangeInRange (change.Rsbcmt percent) = IsFromTo 0 MAX_PERCENT percent
IsChangeInRange (change.Rmbcmt percent) = IsFromTo 0 MAX_PERCENT percent
IsChangeInRange (change.Rsbcst percent) = IsFromTo 0 MAX_PERCENT percent
IsChangeInRange (change.Ramv always) = Unit {0}
IsChangeInRange change.Nothing = Unit {0}

abbrev pub IsInRange : Setting → Type 0
IsInRange (Schedulers count) = IsFromTo 1 MAX_SCHEDULERS count
IsInRange (SuperCarrier megabytes) = IsFromTo 1 MAX_MEGABYTES megabytes
IsInRange (Of scope c) = IsChangeInRange c
IsInRange Nothing = Unit {0}
