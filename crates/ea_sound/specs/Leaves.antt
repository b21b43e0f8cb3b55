-- What a row leaves to the local work that follows it, so that this keeps what every moment keeps.
-- Words of proofs: no clause of `run` names them.
use Rattle.std.specs.Prelude.{◌≡◌, ◌≢◌, ℕ, ◌%◌, ◌<◌, ◌≤◌, Bool, true, false, None, Some, Ok}
use Rattle.ea_model.specs.declared.carriers.CarrierPlan.{CarrierPlan}
use Rattle.ea_model.specs.declared.carriers.Spot.{Spot}
use Rattle.ea_model.specs.declared.units.TheConstants.{MIN_BLOCK}
use Rattle.ea_model.specs.Content.{Content, is_nil, released}
use Rattle.ea_model.specs.Instance.{chosen_spot, creating, creating_single, placing_at, plan}
use Rattle.ea_model.specs.Instance.{single_place, owner_of}
use Rattle.ea_machine.specs.declared.nodes.Node.TheVariants.{Carrier}
use Rattle.ea_machine.specs.declared.owners.OwnerWord.{OwnerWord}
use Rattle.ea_machine.specs.declared.owners.OwnerWord.TheVariants as word
use Rattle.ea_machine.specs.declared.stages.Stage.{Stage}
use Rattle.ea_machine.specs.declared.stages.Stage.TheVariants.{Begin, Routed, Collecting, Searching}
use Rattle.ea_machine.specs.declared.stages.Stage.TheVariants.{Fetching, Creating, Giving, Taking}
use Rattle.ea_machine.specs.declared.stages.Stage.TheVariants.{Ended, Ready}
use Rattle.ea_machine.specs.declared.stages.Route.{Route}
use Rattle.ea_machine.specs.declared.stages.Route.TheVariants.{Looking, Trying, Settling}
use Rattle.ea_machine.specs.declared.stages.Route.TheVariants.{Abandoning, Sending, Clearing}
use Rattle.ea_machine.specs.declared.stages.Route.TheVariants.{Pushing, Linking}
use Rattle.ea_machine.specs.Actor.{Actor}
use Rattle.ea_machine.specs.declared.tasks.Why.{Why}
use Rattle.ea_machine.specs.declared.tasks.Why.TheVariants.{Walk, For}
use Rattle.ea_machine.specs.declared.tasks.Gone.{Gone}
use Rattle.ea_machine.specs.declared.tasks.Gone.TheVariants.{Here as HereGone}
use Rattle.ea_machine.specs.declared.asks.Ask.{Ask}
use Rattle.ea_model.specs.Employment.{employing}
use Rattle.ea_sound.specs.Names.{allocated, made_in, only}
use Rattle.ea_machine.specs.Placements.{holding, spot_of_place}
use Rattle.ea_machine.specs.Releases.{disowned, first_gone}
use Rattle.ea_machine.specs.Rows.{Answer, Head, Rests, Passes, Saw, Won, Lost, Got}
use Rattle.ea_machine.specs.Setup.{Setup}
use Rattle.ea_machine.specs.Shared.{Shared}
use Rattle.ea_machine.specs.State.{State}
use Rattle.ea_machine.specs.Tasks.{let_go}
use Rattle.ea_machine.specs.Walks.{with_passed}
use Rattle.ea_sound.specs.Here.{Here}
use Rattle.ea_sound.specs.Moments.{at, with_actor}
use Rattle.ea_sound.specs.Present.{OldHeld}
use Rattle.ea_sound.specs.Rule.{Kept}

-- the block is placed at a spot, and its name is held
abbrev pub placing : Ask → Spot → Actor → Actor
placing ask spot a = holding ask.name spot
    (record a { instance = placing_at a.instance spot ask.need ask.name })

-- the carrier of the plan is there, a singleblock carrier with its block
abbrev pub making : Ask → CarrierPlan → Actor → Bool → Actor
making ask p a true = holding ask.name (spot_of_place (single_place p ask.need))
    (record a { instance = creating_single a.instance p ask.need ask.name })
making ask p a false = record a { instance = creating a.instance p }

module _ (e : Setup) (w : State) (s : Shared) (me : ℕ) where
  -- the name stands nowhere
  abbrev pub IsFresh : ℕ → Actor → Type 0
  IsFresh n a = allocated e (only n) (with_actor w s me a) ≡ 0

  -- the walk of a begin keeps this, and that the names of the operations left are fresh
  pub record InWalk (a : Actor) : Type 0 where
    pub kept : Kept e (with_actor w s me a)
    pub fresh : (n : ℕ) → 0 < made_in n a.todo → IsFresh n a

  -- the operation itself keeps this, and is never ready for another
  pub record InOperation (a : Actor) : Type 0 where
    pub kept : Kept e (with_actor w s me a)
    pub busy : a.stage ≢ Ready

  -- what is asked for has a fresh name and may be placed, and the old block is held
  pub record Wanted (a : Actor) (ask : Ask) : Type 0 where
    pub fresh : IsFresh ask.name (at Begin a)
    pub least : MIN_BLOCK ≤ ask.need
    pub even : ask.need % 2 ≡ 0
    pub old : OldHeld ask.old a.held

  -- an owner word that a look at the carrier of the block in the hand can show
  abbrev pub Shows : ℕ → OwnerWord → Type 0
  Shows c word.Absent = ⊥
  Shows c (word.Employed i) = i ≡ me → Here e s me c
  Shows c (word.Pooled i largest) = Unit {0}
  Shows c (word.Busy i) = Unit {0}
  Shows c (word.Returning i) = ⊥

  module _ (P : Actor → Type 0) (why : Why) (gone : Gone) (a : Actor) where
    abbrev pub LeavesSettled : Content → Bool → Type 0
    LeavesSettled x true = P (at (Routed (Abandoning x) why gone) a)
    LeavesSettled x false = P (at Begin a)

    -- what a row of a route leaves
    abbrev pub LeavesRoute : Route Content → Answer → Type 0
    LeavesRoute (Looking hand) (Saw v) =
        Shows hand.spot.carrier v × P (at (Routed (Looking hand) why gone) a)
    LeavesRoute (Trying hand seen) (Won x) =
        P (at (Routed (Settling (released x hand.spot.offset)) why (first_gone gone HereGone)) a)
    LeavesRoute (Trying hand seen) (Lost v) =
        Shows hand.spot.carrier v × P (at (Routed (Looking hand) why gone) a)
    LeavesRoute (Settling x) r = LeavesSettled x (is_nil x.blocks)
    LeavesRoute (Abandoning x) r = P (at Begin a)
    LeavesRoute (Sending x) r =
        P (at (Routed (Pushing (Carrier x.number) (owner_of x.number)) why gone) a)
    LeavesRoute (Clearing x) r = P (at Begin (disowned x.number a))
    LeavesRoute (Pushing node to) r = P (at (Routed (Linking node to) why gone) a)
    LeavesRoute (Linking node to) r = P (at Begin a)
    LeavesRoute (Looking hand) r = ⊥
    LeavesRoute (Trying hand seen) r = ⊥

  -- what a row leaves that a scheduler wanted at a stage
  abbrev pub Leaves : Actor → Stage Content → Answer → Type 0
  Leaves a Begin (Head newest) = InWalk (at Begin a)
  Leaves a Begin Rests = InWalk (at Begin a)
  Leaves a Begin (Passes older) =
      InWalk (at Begin (record a { passed = with_passed a.next a.passed }))
  Leaves a Begin r = ⊥
  Leaves a (Routed route Walk gone) r = LeavesRoute InWalk Walk gone a route r
  Leaves a (Routed route (For task) gone) r = LeavesRoute InOperation (For task) gone a route r
  Leaves a (Collecting number) r = InWalk (at Begin (disowned number a))
  Leaves a (Searching ask n part) (Saw v) = Wanted a ask × InOperation (at Begin a)
  Leaves a (Searching ask n part) r = ⊥
  Leaves a (Fetching ask n part seen) (Won x) =
      Wanted (record a { instance = employing a.instance x }) ask
      × ((spot : Spot) × (chosen_spot (employing a.instance x) ask.need ≡ Some spot))
      × InOperation (at Begin (record a { instance = employing a.instance x }))
  Leaves a (Fetching ask n part seen) (Lost v) = Wanted a ask × InOperation (at Begin a)
  Leaves a (Fetching ask n part seen) r = ⊥
  Leaves a (Creating ask p) r = Wanted a ask × (plan a.instance ask.need ≡ Ok p)
      × InOperation (at Begin (making ask p a p.single))
  Leaves a (Giving given to) r = InOperation (at Begin (let_go given.name a))
  Leaves a (Taking name tries left) (Got (Some spot)) =
      InOperation (at Begin (holding name spot a))
  Leaves a (Taking name tries left) (Got None) = InOperation (at Begin a)
  Leaves a (Taking name tries left) r = ⊥
  Leaves a Ended r = InOperation a
  Leaves a Ready r = ⊥
