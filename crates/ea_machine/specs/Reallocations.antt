-- Reallocation: a block keeps its place, or it moves. One that moves is placed as an allocated one
-- is, and then the old one is released.
-- Source: Erlang/OTP, 'Carrier Migration', section 'Searching the pool': the order in which a new
-- place is sought. The rest is this simulator's own.
use Rattle.std.specs.Prelude.{ℕ, Option, None, Some}
use Rattle.ea_model.specs.declared.carriers.Spot.{Spot}
use Rattle.ea_model.specs.declared.carriers.Place.{Place}
use Rattle.ea_model.specs.declared.entries.Entry.TheVariants as entry
use Rattle.ea_model.specs.declared.reallocation.Decision.{Decision}
use Rattle.ea_model.specs.declared.reallocation.Decision.TheVariants.{Stay, ShrinkHere, GrowHere}
use Rattle.ea_model.specs.declared.reallocation.Decision.TheVariants.{ShrinkCarrier, Move}
use Rattle.ea_model.specs.Instance.{Instance, decision_at, resized_to, resizing_at}
use Rattle.ea_machine.specs.declared.nodes.Named.{Named}
use Rattle.ea_machine.specs.Setup.{Setup}
use Rattle.ea_machine.specs.Actor.{Actor}
use Rattle.ea_machine.specs.Tasks.{let_go, logged}
use Rattle.ea_machine.specs.Placements.{holding, seek}

-- where a block lies that was resized in its place
abbrev pub resized_place : Instance → Spot → ℕ → Place
resized_place i spot need = record {
  carrier = spot.carrier;
  offset = spot.offset;
  size = resized_to i spot need;
}

-- the block keeps its spot, and takes the new name
abbrev pub resized_here : Named → ℕ → ℕ → Actor → Actor
resized_here old fresh need a =
    logged (entry.ReallocHere old.name fresh (resized_place a.instance old.spot need))
    (holding fresh old.spot (let_go old.name
    (record a { instance = resizing_at a.instance old.spot need fresh })))

module _ (setup : Setup) (me : ℕ) where
  -- the decision is carried out; a block that moves is placed anew before the old one goes
  abbrev pub reallocated_by : Named → ℕ → ℕ → Actor → Decision → Actor
  reallocated_by old fresh need a Stay = resized_here old fresh need a
  reallocated_by old fresh need a ShrinkHere = resized_here old fresh need a
  reallocated_by old fresh need a GrowHere = resized_here old fresh need a
  reallocated_by old fresh need a (ShrinkCarrier pages) = resized_here old fresh need a
  reallocated_by old fresh need a Move = seek setup me
      (record { name = fresh; need = need; old = Some old }) a

  -- a name that isn't held is skipped
  abbrev pub reallocated : ℕ → ℕ → ℕ → Actor → Option Named → Actor
  reallocated name fresh need a None = logged (entry.ReallocSkipped name fresh) a
  reallocated name fresh need a (Some old) = reallocated_by old fresh need a
      (decision_at a.instance old.spot need)
