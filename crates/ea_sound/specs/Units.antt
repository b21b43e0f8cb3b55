-- The units of all carriers. `SumsUnits` says that they add up, and is a part of a sound state;
-- `PrintsSums` says that these sums are printed.
use Rattle.std.specs.Prelude.{◌≡◌, ℕ, ◌+◌, ◌==◌, if◌then◌else◌}
use Rattle.ea_model.specs.declared.carriers.Spot.{Spot}
use Rattle.ea_model.specs.declared.units.TheConstants.{HEADER_UNITS}
use Rattle.ea_model.specs.Content.{Content, block_at, free_units, gaps_of, size_of}
use Rattle.ea_machine.specs.Setup.{Setup}
use Rattle.ea_machine.specs.State.{State}
use Rattle.ea_machine.specs.Outcome.{sums}
use Rattle.ea_sound.specs.Contents.{sum_everywhere}
use Rattle.ea_sound.specs.Names.{given, held, in_hands, queued, walked}

-- the units of the block at a spot, if that is in the content, or 0
abbrev pub size_in : Spot → Content → ℕ
size_in spot x = if x.number == spot.carrier then size_of (block_at x.blocks spot.offset) else 0

-- the units of the block of a name at its spot
abbrev pub size_at : Setup → State → ℕ → Spot → ℕ
size_at setup state name spot = sum_everywhere setup (size_in spot) state

-- the units of blocks whose names are held or given
abbrev pub live_units : Setup → State → ℕ
live_units setup state =
    held setup (size_at setup state) state + given (size_at setup state) state

-- of blocks that are on their way to be released
abbrev pub queued_units : Setup → State → ℕ
queued_units setup state =
    queued setup (size_at setup state) state + walked setup (size_at setup state) state
    + in_hands setup (size_at setup state) state

-- of gaps
abbrev pub gap_units : Setup → State → ℕ
gap_units setup state = sum_everywhere setup (λ x. free_units (gaps_of x)) state

-- of headers, 8 each
abbrev pub header_units : Setup → State → ℕ
header_units setup state = sum_everywhere setup (λ x. HEADER_UNITS) state

-- of all carriers
abbrev pub carrier_units : Setup → State → ℕ
carrier_units setup state = sum_everywhere setup (λ x. x.units) state

-- blocks that are live, blocks that are on their way, gaps and headers are all units
abbrev pub SumsUnits : Setup → State → Type 0
SumsUnits setup state = live_units setup state + queued_units setup state
    + gap_units setup state + header_units setup state ≡ carrier_units setup state

-- what is printed of a state are these sums
pub record PrintsSums (setup : Setup) (state : State) : Type 0 where
  pub live : (sums setup state).live ≡ live_units setup state
  pub queued : (sums setup state).queued ≡ queued_units setup state
  pub free : (sums setup state).free ≡ gap_units setup state
  pub header : (sums setup state).header ≡ header_units setup state
  pub units : (sums setup state).units ≡ carrier_units setup state
