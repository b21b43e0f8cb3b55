-- What a scheduler does for its operation where carriers don't migrate, path by path.
use Rattle.std.specs.Prelude.{◌≡◌, ◌≢◌, ℕ, false, Some}
use Rattle.std.proofs.Common.{refl, ap, ◌∙◌}
use Rattle.ea_model.specs.declared.carriers.Spot.{Spot}
use Rattle.ea_model.specs.declared.reallocation.Decision.{Decision}
use Rattle.ea_model.specs.declared.reallocation.Decision.TheVariants.{Stay, ShrinkHere, GrowHere}
use Rattle.ea_model.specs.declared.reallocation.Decision.TheVariants.{ShrinkCarrier, Move}
use Rattle.ea_model.specs.Instance.{chosen_spot, decision_at, is_alone}
use Rattle.ea_machine.specs.declared.asks.Ask.{Ask}
use Rattle.ea_machine.specs.declared.nodes.Named.{Named}
use Rattle.ea_machine.specs.Actor.{Actor}
use Rattle.ea_machine.specs.Placements.{chosen_by}
use Rattle.ea_machine.specs.Placements.{placed_at, seek, seek_by}
use Rattle.ea_machine.specs.Reallocations.{reallocated_by, resized_here}
use Rattle.ea_machine.specs.Setup.{Setup}

module _ (setup : Setup) (me : ℕ) (a : Actor) (ask : Ask) where
  -- a block is placed where the strategy chooses
  pub seek-chosen : (spot : Spot) → is_alone a.instance ask.need ≡ false
      → chosen_spot a.instance ask.need ≡ Some spot → seek setup me ask a
      ≡ placed_at setup me ask a spot
  seek-chosen spot shared chosen = ap (seek_by setup me ask a) shared
      ∙ ap (chosen_by setup me ask a) chosen

module _ (setup : Setup) (me : ℕ) (a : Actor) (old : Named) (fresh need : ℕ) where
  stays_by : (d : Decision) → d ≢ Move
      → reallocated_by setup me old fresh need a d ≡ resized_here old fresh need a
  stays_by Stay stays = refl
  stays_by ShrinkHere stays = refl
  stays_by GrowHere stays = refl
  stays_by (ShrinkCarrier pages) stays = refl
  stays_by Move stays = absurd (stays refl)

  -- a block that is reallocated keeps its spot
  pub resized : (d : Decision) → decision_at a.instance old.spot need ≡ d → d ≢ Move
      → reallocated_by setup me old fresh need a (decision_at a.instance old.spot need)
      ≡ resized_here old fresh need a
  resized d decided stays = ap (reallocated_by setup me old fresh need a) decided
      ∙ stays_by d stays

  -- or is placed anew
  pub moves : decision_at a.instance old.spot need ≡ Move
      → reallocated_by setup me old fresh need a (decision_at a.instance old.spot need)
      ≡ seek setup me (record { name = fresh; need = need; old = Some old }) a
  moves goes = ap (reallocated_by setup me old fresh need a) goes
