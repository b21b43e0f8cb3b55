-- Where the block of a name lies in the super carrier (`LiesWhere`).
use Rattle.std.specs.Prelude.{◌≡◌, ◌⊎◌, ℕ, ◌+◌, ◌*◌, List, Option, Some, option_map, slice_get}
use Rattle.std.specs.Option.{option_and_then}
use Rattle.ea_model.specs.declared.carriers.Extent.{Extent}
use Rattle.ea_model.specs.declared.carriers.Spot.{Spot}
use Rattle.ea_model.specs.declared.settings.Config.{Config}
use Rattle.ea_model.specs.declared.trace.Trace.{Trace}
use Rattle.ea_model.specs.declared.units.TheConstants.{PAGE_UNITS}
use Rattle.ea_model.specs.Content.{block_at}
use Rattle.ea_machine.specs.declared.nodes.Named.{Named}
use Rattle.ea_machine.specs.Machine.{run}
use Rattle.ea_machine.specs.Nodes.{spot_named}
use Rattle.ea_machine.specs.Outcome.{Present}
use Rattle.ea_machine.specs.Owners.{CarrierAt}
use Rattle.ea_machine.specs.Setup.{setup_of}
use Rattle.ea_sound.specs.Over.{LiesOver}
use Rattle.ea_sched.specs.declared.state.Scheduler.{Scheduler}
use Rattle.ea_outcome.specs.Resting.{StandIn}

-- the units of the block at an offset of a carrier, if one begins there
abbrev pub extent_in : ℕ → Present → Option Extent
extent_in offset p = option_map
    (λ b. record { first = PAGE_UNITS * p.content.base + offset; units = b.size })
    (block_at p.content.blocks offset)

-- those of the block at a spot, if its carrier is there and a block begins there
abbrev pub extent_at : Spot → Option Present → Option Extent
extent_at spot carrier = option_and_then (extent_in spot.offset) carrier

module _ (schedulers : List Scheduler) (named : List Named) where
  -- the block of the name begins at the spot: one of the schedulers holds the name, or it is given
  abbrev pub HasSpot : ℕ → Spot → Type 0
  HasSpot name spot = ((k : ℕ) × (s : Scheduler) × (slice_get schedulers k ≡ Some s)
      × (spot_named name s.names.held ≡ Some spot))
      ⊎ (spot_named name named ≡ Some spot)

  -- the block of some held or given name does
  abbrev pub IsNamed : Spot → Type 0
  IsNamed spot = (name : ℕ) × HasSpot name spot

module _ (c : Config) (t : Trace) (schedulers : List Scheduler) (places : ℕ → CarrierAt)
    (named : List Named) where
  -- the block of each such name lies over these units, in the state after all turns after which
  -- these stand so
  abbrev pub LiesWhere : Spot → Extent → Type 0
  LiesWhere spot r = (turns : List ℕ) → StandIn c t schedulers places named turns
      → (name : ℕ) → HasSpot schedulers named name spot
      → LiesOver (setup_of c t) name r (run (setup_of c t) turns)
