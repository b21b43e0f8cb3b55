-- Where a name is: in one place at every moment. While the old block of a reallocation is on its
-- way the new name is `Held`, and the old one is in the hand. A name whose block took the new name
-- in its place is `Released`. A name is `Unmade` until its block is placed.
use Rattle.std.specs.Prelude.{◌≡◌, ◌⊎◌, ℕ, ◌+◌, ◌<◌, Some, List}
use Rattle.ea_machine.specs.declared.nodes.Named.{Named}
use Rattle.ea_machine.specs.Nodes.{named_at}
use Rattle.ea_machine.specs.Setup.{Setup}
use Rattle.ea_machine.specs.State.{State}
use Rattle.ea_machine.specs.Sums.{sum_over, total}
use Rattle.ea_sound.specs.Contents.{seats}
use Rattle.ea_sound.specs.Names.{made_in, of_hand, of_mark, of_node, only, to_make}
use Rattle.ea_sound.specs.Released.{HasFailed, IsReleased}

-- the places of a name
pub data NamePlace : Type 0 where
  -- it isn't made, or not yet
  Unmade : NamePlace
  -- a scheduler holds it
  Held : (scheduler : ℕ) → NamePlace
  -- it is given away, and not yet taken
  Given : NamePlace
  -- it is in a scheduler's queue
  Queued : (scheduler : ℕ) → NamePlace
  -- it is in a scheduler's walk: still to be passed, or passed and to be worked off
  Walked : (scheduler : ℕ) → NamePlace
  -- it is in a scheduler's hand, on a release route
  InHand : (scheduler : ℕ) → NamePlace
  -- its block is released, or has a new name
  Released : NamePlace
  -- the operation that was to make it failed, or was skipped
  Failed : NamePlace

-- no operation of any text makes the name, or the one that makes it has it still to make
abbrev pub IsUnmade : Setup → ℕ → State → Type 0
IsUnmade setup name state = (total (seats setup) (made_in name) setup.texts ≡ 0)
    ⊎ (0 < to_make setup name state)

-- the name is one of these
abbrev pub IsAmong : ℕ → List Named → Type 0
IsAmong name names = (named : Named) × (named_at name names ≡ Some named)

-- the name is there
abbrev pub IsAt : Setup → ℕ → State → NamePlace → Type 0
IsAt setup name state Unmade = IsUnmade setup name state
IsAt setup name state (Held i) = IsAmong name (state.actors i).held
IsAt setup name state Given = IsAmong name state.shared.given
IsAt setup name state (Queued i) = 0 < sum_over (of_mark (only name)) (state.shared.queues i)
IsAt setup name state (Walked i) = 0 < sum_over (of_mark (only name)) (state.shared.rests i)
    + sum_over (of_node (only name)) (state.actors i).passed
IsAt setup name state (InHand i) = 0 < of_hand (only name) (state.actors i).stage
IsAt setup name state Released = IsReleased setup name state
IsAt setup name state Failed = HasFailed setup name state

-- each name is in one place: it is somewhere, and nowhere else
pub record IsInOnePlace (setup : Setup) (state : State) (name : ℕ) : Type 0 where
  pub place : NamePlace
  pub there : IsAt setup name state place
  pub alone : (other : NamePlace) → IsAt setup name state other → other ≡ place

abbrev pub NamesInOnePlace : Setup → State → Type 0
NamesInOnePlace setup state = (name : ℕ) → IsInOnePlace setup state name
