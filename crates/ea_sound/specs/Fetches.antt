-- What a carrier that was fetched from the pool is good for.
use Rattle.std.specs.Prelude.{◌≡◌, ℕ, ◌≤◌, Some, Any}
use Rattle.ea_model.specs.declared.carriers.Spot.{Spot}
use Rattle.ea_model.specs.Content.{Content, gaps_of}
use Rattle.ea_model.specs.Instance.{Instance, chosen_spot}
use Rattle.ea_machine.specs.declared.owners.OwnerWord.{OwnerWord}
use Rattle.ea_machine.specs.Setup.{Setup}
use Rattle.ea_machine.specs.declared.stages.Stage.TheVariants.{Fetching}
use Rattle.ea_machine.specs.declared.asks.Ask.{Ask}
use Rattle.ea_machine.specs.declared.parts.Part.{Part}
use Rattle.ea_machine.specs.State.{State}
use Rattle.ea_machine.specs.Rows.{Won}
use Rattle.ea_model.specs.Employment.{employing}
use Rattle.ea_machine.specs.Placements.{fetches, placed_at}
use Rattle.ea_sound.specs.Turns.{advanced, answered}

-- the instance of s with the carrier that it fetched
abbrev pub with_fetched : State → ℕ → Content → Instance
with_fetched state s x = employing (state.actors s).instance x

-- the carrier has a gap for the block that it was fetched for, so that the strategy has a choice,
-- which is in this carrier, and the block is placed there in the same step
pub record FetchFits (setup : Setup) (state : State) (s at : ℕ) (ask : Ask) (x : Content) : Type 0
  where
    pub gap : Any (λ g. ask.need ≤ g.size) (gaps_of x)
    pub spot : Spot
    pub chosen : chosen_spot (with_fetched state s x) ask.need ≡ Some spot
    pub there : spot.carrier ≡ x.number
    pub placed : advanced setup state s ≡ placed_at setup s ask
        (fetches at x (state.actors s)) spot

-- that holds of each try to fetch a carrier that is won
abbrev pub FetchesFit : Setup → State → Type 0
FetchesFit setup state = (s at : ℕ) (part : Part) (ask : Ask) (seen : OwnerWord) (x : Content)
    → (state.actors s).stage ≡ Fetching ask at part seen → answered state s ≡ Won x
    → FetchFits setup state s at ask x
