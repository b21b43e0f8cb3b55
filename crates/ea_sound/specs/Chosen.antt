-- Where blocks are placed, or that they stay. A moved block is placed in an earlier step than the
-- one that makes the entry, if the old one takes steps to go. So `IsPlacement` points to that step,
-- and to the one in which its operation began.
use Rattle.std.specs.Prelude.{◌≡◌, ◌≢◌, ◌⊎◌, ℕ, ◌<◌, ◌≤◌, true, false, List, [], ◌∷◌, ◌++◌, None}
use Rattle.std.specs.Prelude.{Some, Ok}
use Rattle.ea_model.specs.declared.carriers.CarrierPlan.{CarrierPlan}
use Rattle.ea_model.specs.declared.carriers.Place.{Place}
use Rattle.ea_model.specs.declared.carriers.Spot.{Spot}
use Rattle.ea_model.specs.Entries.{Entry}
use Rattle.ea_model.specs.declared.reallocation.Decision.TheVariants.{Move}
use Rattle.ea_model.specs.Content.{Content}
use Rattle.ea_model.specs.Instance.{Instance, chosen_spot, creating, decision_at, place_at, plan}
use Rattle.ea_model.specs.Instance.{refilled, resized_to, single_place}
use Rattle.ea_machine.specs.Nodes.{named_at}
use Rattle.ea_machine.specs.declared.nodes.Named.{Named}
use Rattle.ea_machine.specs.Setup.{Setup, migration}
use Rattle.ea_machine.specs.declared.stages.Stage.TheVariants.{Creating}
use Rattle.ea_machine.specs.declared.asks.Ask.{Ask}
use Rattle.ea_machine.specs.State.{State}
use Rattle.ea_model.specs.Employment.{employing}
use Rattle.ea_machine.specs.Machine.{run}
use Rattle.ea_sound.specs.Released.{LiesAt}
use Rattle.ea_sound.specs.Turns.{HoldsAfter, IsBegun, actor_after, advanced, begun, log_after}
use Rattle.ea_sound.specs.Needs.{AsksFor, HasNeed}
use Rattle.ea_sound.specs.FirstFits.{IsFetched}

-- the carrier that is created for a block of this need, in a step of s: with migration on in a step
-- of its own, from the plan that was made for it; with migration off in the step in which the begin
-- of the operation is over. It is still the plan of the instance then, whose count is as great as
-- can be
pub data Creates (setup : Setup) (state : State) (s need : ℕ) (i : Instance) (p : CarrierPlan)
    : Type 0 where
  ByItself : (on : migration setup ≡ true) (ask : Ask)
      (at : (state.actors s).stage ≡ Creating ask p) (asks : ask.need ≡ need)
      (is : i ≡ (state.actors s).instance) (planned : plan i need ≡ Ok p)
      → Creates setup state s need i p
  AtOnce : (off : migration setup ≡ false) (begins : IsBegun setup state s)
      (is : i ≡ refilled (advanced setup state s).instance) (planned : plan i need ≡ Ok p)
      → Creates setup state s need i p

-- the instance of s as it is just before it places a block of this need, in its step after the
-- steps `turns`: as it is once the begin of the operation is over; or, where it has no choice, with
-- a carrier that it fetched, or one that it created
pub data IsJustBefore (setup : Setup) (turns : List ℕ) (s need : ℕ) (i : Instance) : Type 0 where
  Had : (begins : IsBegun setup (run setup turns) s) (is : i ≡ (begun setup turns s).instance)
      → IsJustBefore setup turns s need i
  Fetched : (x : Content) (fetched : IsFetched setup turns s need x)
      (none : chosen_spot (actor_after setup turns s).instance need ≡ None)
      (is : i ≡ employing (actor_after setup turns s).instance x)
      → IsJustBefore setup turns s need i
  Created : (old : Instance) (p : CarrierPlan)
      (creates : Creates setup (run setup turns) s need old p)
      (none : chosen_spot old need ≡ None) (is : i ≡ creating old p)
      → IsJustBefore setup turns s need i

-- the place is the strategy's choice among the carriers that s employs just before, with the units
-- that the block takes of that gap
pub record IsChosen (setup : Setup) (turns : List ℕ) (s need : ℕ) (place : Place) : Type 0 where
  pub instance : Instance
  pub before : IsJustBefore setup turns s need instance
  pub spot : Spot
  pub chosen : chosen_spot instance need ≡ Some spot
  pub is : place ≡ place_at instance spot need

-- the place is that of the one block of a new singleblock carrier
pub record IsAlone (setup : Setup) (state : State) (s need : ℕ) (place : Place) : Type 0 where
  pub instance : Instance
  pub plan : CarrierPlan
  pub creates : Creates setup state s need instance plan
  pub single : plan.single ≡ true
  pub is : place ≡ single_place plan need

-- a block up to the singleblock threshold is placed where the strategy chooses, and a larger one in
-- a carrier of its own
abbrev pub IsPlacedAt : Setup → List ℕ → ℕ → ℕ → Place → Type 0
IsPlacedAt setup turns s need place =
    ((need ≤ setup.settings.sbct) × IsChosen setup turns s need place)
    ⊎ ((setup.settings.sbct < need) × IsAlone setup (run setup turns) s need place)

-- the begin of an operation of s was over in a step among these turns, with this log, and the
-- operation asks for a place for a block of this need: so a block that is reallocated is to move
pub record HasAsked (setup : Setup) (turns : List ℕ) (s need : ℕ) (log : List Entry) : Type 0 where
  pub before : List ℕ
  pub since : List ℕ
  pub split : turns ≡ before ++ s ∷ since
  pub begins : IsBegun setup (run setup before) s
  pub asks : AsksFor (begun setup before s) (begun setup before s).todo need
  pub same : (begun setup before s).log ≡ log

-- s placed a block in its step after `before`, for the operation of which it has made the entry in
-- its step after the steps `turns`: the same step, or, where the old block of a reallocation went
-- then, an earlier one. Once it is placed, a block of that name lies there, and s holds the name
pub record IsPlacement (setup : Setup) (turns : List ℕ) (s name : ℕ) (place : Place) : Type 0
  where
    pub before : List ℕ
    pub since : List ℕ
    pub split : turns ++ s ∷ [] ≡ before ++ s ∷ since
    pub same : log_after setup before s ≡ log_after setup turns s
    pub need : ℕ
    pub asked : HasAsked setup (before ++ s ∷ []) s need (log_after setup turns s)
    pub placed : IsPlacedAt setup before s need place
    pub there : LiesAt setup name place (run setup (before ++ s ∷ []))
    pub holds : HoldsAfter setup (before ++ s ∷ []) s name

-- a block that is reallocated in its place, in the step of s after the steps `turns`, keeps its
-- spot, and has the units that are decided. After this step a block of the new name lies there, and
-- s holds that name
pub record IsResized (setup : Setup) (turns : List ℕ) (s old fresh : ℕ) (place : Place) : Type 0
  where
    pub begins : IsBegun setup (run setup turns) s
    pub need : ℕ
    pub asks : HasNeed (begun setup turns s).todo need
    pub named : Named
    pub held : named_at old (begun setup turns s).held ≡ Some named
    pub stays : decision_at (begun setup turns s).instance named.spot need ≢ Move
    pub carrier : place.carrier ≡ named.spot.carrier
    pub offset : place.offset ≡ named.spot.offset
    pub size : place.size ≡ resized_to (begun setup turns s).instance named.spot need
    pub there : LiesAt setup fresh place (run setup (turns ++ s ∷ []))
    pub holds : HoldsAfter setup (turns ++ s ∷ []) s fresh
