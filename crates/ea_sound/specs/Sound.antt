-- When a state is sound. `Sound` is all the parts together.
use Rattle.std.specs.Prelude.{◌≡◌, ℕ, ◌+◌, ◌≤◌, []}
use Rattle.ea_model.specs.Settings.{most_count}
use Rattle.ea_model.specs.Trace.{IsScheduler}
use Rattle.ea_machine.specs.Setup.{Setup, first_page}
use Rattle.ea_machine.specs.declared.stages.Stage.TheVariants.{Ended}
use Rattle.ea_machine.specs.Actor.{Actor}
use Rattle.ea_machine.specs.State.{State}
use Rattle.ea_sound.specs.Ranges.{LaysOut}
use Rattle.ea_sound.specs.Places.{PlacesCarriers, RecordsGaps}
use Rattle.ea_sound.specs.NamePlaces.{PlacesNames}
use Rattle.ea_sound.specs.Units.{SumsUnits}
use Rattle.ea_sound.specs.Listed.{ListsCarriers}
use Rattle.ea_sound.specs.NodePlaces.{LinksNodes, ReturnsCarriers}

-- an instance has the settings of the run, its number and its region, and a count that they let it
-- have
pub record IsInstanceOf (setup : Setup) (i : ℕ) (a : Actor) : Type 0 where
  pub settings : a.instance.settings ≡ setup.settings
  pub number : a.instance.number ≡ i
  pub first : a.instance.first ≡ first_page setup i
  pub end : a.instance.end ≡ first_page setup i + setup.pages
  pub count : a.instance.count ≤ most_count setup.settings

-- who is no scheduler has nothing and does nothing
pub record HasNothing (i : ℕ) (state : State) : Type 0 where
  pub own : (state.actors i).instance.own ≡ []
  pub contents : (state.actors i).instance.contents ≡ []
  pub singles : (state.actors i).instance.singles ≡ []
  pub held : (state.actors i).held ≡ []
  pub passed : (state.actors i).passed ≡ []
  pub stage : (state.actors i).stage ≡ Ended
  pub queue : state.shared.queues i ≡ []
  pub rest : state.shared.rests i ≡ []

-- blocks and carriers lie apart; each carrier is in one place, and each name; of a pooled carrier
-- the largest gap is recorded; blocks, gaps and headers are all units; a carrier that returns has
-- one node; each node that isn't linked is about to be; a carrier that is away from its owner
-- stands in one of its lists; and each scheduler has its own instance, and nobody else has anything
pub record Sound (setup : Setup) (state : State) : Type 0 where
  pub ranges : LaysOut setup state
  pub carriers : PlacesCarriers setup state
  pub names : PlacesNames setup state
  pub gaps : RecordsGaps state
  pub sums : SumsUnits setup state
  pub returning : ReturnsCarriers setup state
  pub unlinked : LinksNodes setup state
  pub lists : ListsCarriers setup state
  pub instances : (i : ℕ) → IsScheduler setup.schedulers i
      → IsInstanceOf setup i (state.actors i)
  pub nobody : (i : ℕ) → (IsScheduler setup.schedulers i → ⊥) → HasNothing i state
