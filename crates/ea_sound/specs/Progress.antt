-- That each scheduler ends, whatever steps the others take.
use Rattle.std.specs.Prelude.{◌≡◌, ℕ, zero, suc, ◌+◌, ◌*◌, ◌≤◌, List, [], ◌∷◌, ◌++◌, length}
use Rattle.ea_model.specs.declared.units.TheConstants.{MAX_NAME}
use Rattle.ea_machine.specs.Completion.{text_rows}
use Rattle.ea_machine.specs.Courses.{AreSteps}
use Rattle.ea_machine.specs.Machine.{run}
use Rattle.ea_machine.specs.Setup.{Setup, greatest_number}
use Rattle.ea_machine.specs.declared.stages.Stage.TheVariants.{Ended}
use Rattle.ea_machine.specs.State.{State}
use Rattle.ea_machine.specs.Stops.{count_of}
use Rattle.ea_machine.specs.Sums.{total}

-- the most nodes that a queue can have: one for each name that there may be, and for each carrier
-- number
abbrev pub most_nodes : Setup → ℕ
most_nodes setup = MAX_NAME + greatest_number setup

-- the most steps that scheduler s takes: those of its operations and of a last begin, and 9 for
-- each node that it may find in its queue, which it takes once for each operation and once more
abbrev pub most_steps : Setup → ℕ → ℕ
most_steps setup s = text_rows setup (setup.texts s) + 11
    + 9 * (most_nodes setup * (length (setup.texts s) + 1))

-- the most steps that all schedulers take together, from scheduler 1 on
abbrev pub all_steps : Setup → ℕ
all_steps setup = total setup.schedulers (λ steps. steps) (λ i. most_steps setup (suc i))

-- every scheduler has ended
abbrev pub AllEnded : State → Type 0
AllEnded state = (s : ℕ) → (state.actors s).stage ≡ Ended

-- a schedule without end gives each scheduler a turn again and again
abbrev pub IsFair : Setup → (ℕ → ℕ) → Type 0
IsFair setup schedule = (s from : ℕ) → 1 ≤ s → s ≤ setup.schedulers
    → (later : ℕ) × (from ≤ later) × (schedule later ≡ s)

-- its first n turns
abbrev pub first_turns : (ℕ → ℕ) → ℕ → List ℕ
first_turns schedule zero = []
first_turns schedule (suc n) = first_turns schedule n ++ schedule n ∷ []

-- each scheduler ends by its own steps, and none waits for another
pub record EndsByItself (setup : Setup) : Type 0 where
  -- no list of steps has more of one scheduler than the most that it takes
  pub own : (turns : List ℕ) → AreSteps setup turns → (s : ℕ)
      → count_of s turns ≤ most_steps setup s
  -- so no list of steps is longer than those of all
  pub few : (turns : List ℕ) → AreSteps setup turns → length turns ≤ all_steps setup
  -- who gets so many turns has ended by then, whatever turns others get in between
  pub ends : (turns : List ℕ) (s : ℕ) → most_steps setup s ≤ count_of s turns
      → ((run setup turns).actors s).stage ≡ Ended
  -- and after some of the turns of a fair schedule all have ended
  pub fair : (schedule : ℕ → ℕ) → IsFair setup schedule
      → (n : ℕ) × AllEnded (run setup (first_turns schedule n))
