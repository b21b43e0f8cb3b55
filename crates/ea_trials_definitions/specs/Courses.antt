-- Words of tests: the moments of a run, one after another.
use Rattle.std.specs.Prelude.{ℕ, Bool, true, false, ◌&&◌, List, [], ◌∷◌, ◌++◌, Option, None, Some}
use Rattle.std.specs.Prelude.{flat_map, if◌then◌else◌, replicate}
use Rattle.ea_model.specs.declared.trace.Turns.{Turns}
use Rattle.ea_model.specs.Words.{words}
use Rattle.ea_trace.specs.Lines.{turns_in}
use Rattle.ea_model.specs.Content.{Content}
use Rattle.ea_machine.specs.declared.parts.Part.{Part}
use Rattle.ea_machine.specs.declared.parts.Part.TheVariants.{Pool}
use Rattle.ea_machine.specs.declared.stages.Stage.{Stage}
use Rattle.ea_machine.specs.declared.stages.Stage.TheVariants.{Searching}
use Rattle.ea_machine.specs.Machine.{step}
use Rattle.ea_machine.specs.Setup.{Setup}
use Rattle.ea_machine.specs.State.{State}
use Rattle.ea_trials_definitions.specs.Moments.{Moment}

-- a run from one moment on: that moment, and the schedulers that step after it
pub record Course : Type 0 where
  pub moment : Moment
  pub turns : List ℕ

abbrev pub turns_of : Option (List Turns) → List ℕ
turns_of None = []
turns_of (Some turns) = flat_map (λ t. replicate t.count t.scheduler) turns

-- the schedulers that step by a line of a schedule, one for each turn
abbrev pub turns : List ℕ → List ℕ
turns line = turns_of (turns_in (words line))

-- the run, from a moment on, by the turns that a line of a schedule gives
abbrev pub from : Option Moment → List ℕ → Option Course
from None line = None
from (Some m) line = Some (record { moment = m; turns = turns line })

-- whether a part of a search is its last one
abbrev pub is_last : Part → Bool
is_last (Pool left looked) = true
is_last _ = false

-- whether a scheduler searches the pool; from one look there to the next one nothing else changes
abbrev pub is_searching : Stage Content → Bool
is_searching (Searching ask at part) = is_last part
is_searching _ = false

module _ (setup : Setup) where
  -- the states after each of these turns, without those within a search of the pool by who stepped
  abbrev pub states_after : State → List ℕ → List State
  states_after state [] = []
  states_after state (s ∷ ss) = let next = step setup state s in
      (if is_searching (state.actors s).stage && is_searching (next.actors s).stage then []
      else next ∷ []) ++ states_after next ss

-- the states of a course, without those within a search of the pool
abbrev pub states_of : Course → List State
states_of c = c.moment.state ∷ states_after c.moment.setup c.moment.state c.turns
