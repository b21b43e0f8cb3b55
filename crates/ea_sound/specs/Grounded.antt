-- What guards say of the turns before: which node is in the hand of a scheduler, what it pushed and
-- hasn't linked, and which word it saw. Each is said of the last step that the scheduler took.
-- `IsGrounded` speaks of turns, since no state says what a scheduler saw. A word that it saw need
-- not be the carrier's any longer when it tries.
use Rattle.std.specs.Prelude.{◌≡◌, ◌≢◌, ◌⊎◌, ℕ, false, List, ◌∷◌, ◌++◌, Some, All, Contains}
use Rattle.ea_model.specs.declared.carriers.Spot.{Spot}
use Rattle.ea_model.specs.Content.{Content}
use Rattle.ea_model.specs.Instance.{owner_of}
use Rattle.ea_machine.specs.declared.nodes.Named.{Named}
use Rattle.ea_machine.specs.declared.nodes.Node.{Node}
use Rattle.ea_machine.specs.declared.nodes.Node.TheVariants.{Carrier}
use Rattle.ea_machine.specs.declared.owners.OwnerWord.{OwnerWord}
use Rattle.ea_machine.specs.declared.owners.OwnerWord.TheVariants as word
use Rattle.ea_machine.specs.declared.stages.Route.TheVariants.{Looking, Trying}
use Rattle.ea_machine.specs.declared.stages.Stage.{Stage}
use Rattle.ea_machine.specs.declared.stages.Stage.TheVariants.{Routed}
use Rattle.ea_machine.specs.declared.tasks.Gone.{Gone}
use Rattle.ea_machine.specs.declared.tasks.Why.{Why}
use Rattle.ea_machine.specs.Actor.{Actor}
use Rattle.ea_machine.specs.Guards.{IsUnlinkedAt}
use Rattle.ea_machine.specs.Machine.{run, wants}
use Rattle.ea_machine.specs.Nodes.{block_node, named_at}
use Rattle.ea_machine.specs.Owners.{Pooled}
use Rattle.ea_machine.specs.Rows.{Row, TakeAll, TakeLink, Look, Push, Link, BusyTry, Settle}
use Rattle.ea_machine.specs.Rows.{Abandon, FetchTry, Create, SendHome, Clear, Give, TakeTry, Lost}
use Rattle.ea_machine.specs.Rows.{Nothing, Saw}
use Rattle.ea_machine.specs.Setup.{Setup, migration}
use Rattle.ea_machine.specs.State.{State}
use Rattle.ea_machine.specs.Walks.{with_passed}
use Rattle.ea_sound.specs.Names.{of_hand, of_node}
use Rattle.ea_sound.specs.NodePlaces.{of_carrier_hand, of_carrier_node}
use Rattle.ea_sound.specs.Shown.{ShowsEmployer}
use Rattle.ea_sound.specs.Turns.{answered}

-- the last step that s took in these turns began in a state of that kind; since then only others
-- took turns
pub record LastStep (setup : Setup) (turns : List ℕ) (s : ℕ) (Was : State → Type 0) : Type 0 where
  pub before : List ℕ
  pub others : List ℕ
  pub split : turns ≡ before ++ s ∷ others
  pub alone : All (λ i. i ≢ s) others
  pub was : Was (run setup before)

-- that node, which is to be pushed to that instance, is in the hand, and nothing else is: neither
-- another block nor another carrier's node
pub record IsInHand (s : ℕ) (node : Node) (to : ℕ) (stage : Stage Content) : Type 0 where
  pub block : (f : ℕ → Spot → ℕ) → of_hand f stage ≡ of_node f node
  pub carrier : (g : ℕ → ℕ → ℕ) → of_carrier_hand g s stage ≡ of_carrier_node g to node

-- a scheduler holds the block, or has its node in its walk: next, or passed
abbrev pub HasBlock : Actor → Named → Type 0
HasBlock a named = (named_at named.name a.held ≡ Some named)
    ⊎ Contains (with_passed a.next a.passed) (block_node named)

-- how the node comes into the hand of s, to be pushed to that instance: in a step of s in that
-- state
pub data Brings (setup : Setup) (s : ℕ) (node : Node) (to : ℕ) (state : State) : Type 0 where
  -- s had the block in its hand, looked at its carrier, and saw that employer
  Sees : (named : Named) (seen : OwnerWord) (why : Why) (gone : Gone)
      (on : (state.actors s).stage ≡ Routed (Looking named) why gone)
      (saw : answered state s ≡ Saw seen) (shows : ShowsEmployer to seen)
      (is : node ≡ block_node named) → Brings setup s node to state
  -- or it lost the try to make the carrier busy to that employer
  Loses : (named : Named) (tried present : OwnerWord) (why : Why) (gone : Gone)
      (on : (state.actors s).stage ≡ Routed (Trying named tried) why gone)
      (lost : answered state s ≡ Lost present) (shows : ShowsEmployer to present)
      (is : node ≡ block_node named) → Brings setup s node to state
  -- s sent the empty carrier home to its owner
  Sends : (x : Content) (sends : wants (state.actors s) ≡ SendHome x)
      (owner : to ≡ owner_of x.number) (is : node ≡ Carrier x.number)
      → Brings setup s node to state
  -- where carriers don't migrate: the block was held or in the walk, and goes to its carrier's owner
  Hands : (off : migration setup ≡ false) (named : Named) (had : HasBlock (state.actors s) named)
      (owner : to ≡ owner_of named.spot.carrier) (is : node ≡ block_node named)
      → Brings setup s node to state

-- s is about to push the node there
abbrev pub Pushes : ℕ → Node → ℕ → State → Type 0
Pushes s node to state = wants (state.actors s) ≡ Push node to

-- s is about to look at the carrier, and this is its word
pub record Shows (s number : ℕ) (seen : OwnerWord) (state : State) : Type 0 where
  pub looks : wants (state.actors s) ≡ Look number
  pub saw : answered state s ≡ Saw seen

-- and s has it in the pool
pub record ShowsOwn (s number : ℕ) (seen : OwnerWord) (state : State) : Type 0 where
  pub shows : Shows s number seen state
  pub largest : ℕ
  pub content : Content
  pub is : seen ≡ word.Pooled s largest
  pub pooled : state.shared.places number ≡ Pooled s largest content

-- what the guard of a row says of the turns before it. Push: the node is in the hand, and came there
-- in the last step. Link: the last step pushed it, and it stands unlinked where it was pushed.
-- Busy-try: the last step was a look that showed this word, of a carrier that s has in the pool.
-- Fetch-try: the last step was a look that showed this word
abbrev pub IsGrounded : Setup → List ℕ → ℕ → Row → Type 0
IsGrounded setup turns s (Push node to) =
    IsInHand s node to ((run setup turns).actors s).stage
    × LastStep setup turns s (Brings setup s node to)
IsGrounded setup turns s (Link node to) = LastStep setup turns s (Pushes s node to)
    × IsUnlinkedAt node to (run setup turns).shared
IsGrounded setup turns s (BusyTry number seen) = LastStep setup turns s (ShowsOwn s number seen)
IsGrounded setup turns s (FetchTry number seen) = LastStep setup turns s (Shows s number seen)
IsGrounded setup turns s TakeAll = Unit {0}
IsGrounded setup turns s TakeLink = Unit {0}
IsGrounded setup turns s (Look number) = Unit {0}
IsGrounded setup turns s (Settle x) = Unit {0}
IsGrounded setup turns s (Abandon x) = Unit {0}
IsGrounded setup turns s (Create number) = Unit {0}
IsGrounded setup turns s (SendHome x) = Unit {0}
IsGrounded setup turns s (Clear number) = Unit {0}
IsGrounded setup turns s (Give given) = Unit {0}
IsGrounded setup turns s (TakeTry name) = Unit {0}
IsGrounded setup turns s Nothing = Unit {0}

-- so it is of the row that each scheduler wants, after any turns
abbrev pub AreGrounded : Setup → Type 0
AreGrounded setup = (turns : List ℕ) (s : ℕ)
    → IsGrounded setup turns s (wants ((run setup turns).actors s))
