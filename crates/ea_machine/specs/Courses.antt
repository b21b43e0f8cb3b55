-- The lists of turns that runs may be.
use Rattle.std.specs.Prelude.{◌≡◌, ◌≢◌, ◌⊎◌, ℕ, ◌≤◌, List, ◌∷◌, ◌++◌, Some}
use Rattle.ea_model.specs.declared.trace.Mode.{Mode}
use Rattle.ea_model.specs.declared.trace.Mode.TheVariants.{Threads, Schedule, Generated}
use Rattle.ea_machine.specs.declared.stages.Stage.TheVariants.{Ended}
use Rattle.ea_machine.specs.Completion.{complete, turns_in}
use Rattle.ea_machine.specs.Machine.{run}
use Rattle.ea_machine.specs.Setup.{Setup}
use Rattle.ea_machine.specs.Stops.{left_after}

module _ (setup : Setup) where
  -- each turn is a step: its scheduler hadn't ended before it
  abbrev pub AreSteps : List ℕ → Type 0
  AreSteps turns = (before later : List ℕ) (me : ℕ) → turns ≡ before ++ me ∷ later
      → ((run setup before).actors me).stage ≢ Ended

  -- none is of a scheduler that was stopped before it
  abbrev pub AreWithin : List ℕ → Type 0
  AreWithin turns = (before later : List ℕ) (me : ℕ) → turns ≡ before ++ me ∷ later
      → left_after setup before me ≢ Some 0

  -- once these turns are taken, the scheduler has ended or is stopped
  abbrev pub Rests : List ℕ → ℕ → Type 0
  Rests turns me = (((run setup turns).actors me).stage ≡ Ended)
      ⊎ (left_after setup turns me ≡ Some 0)

  -- every scheduler does
  abbrev pub AllRest : List ℕ → Type 0
  AllRest turns = (me : ℕ) → 1 ≤ me → me ≤ setup.schedulers → Rests turns me

  -- the turns that a run takes: those of the completed schedule or, where schedulers run beside
  -- each other, steps in whatever order, each scheduler's up to its stop, after which every one has
  -- ended or is stopped
  abbrev pub IsCourse : Mode → List ℕ → Type 0
  IsCourse Threads turns = AreSteps turns × AreWithin turns × AllRest turns
  IsCourse (Schedule turns') turns = turns ≡ complete setup (turns_in (Schedule turns'))
  IsCourse (Generated seed count) turns =
      turns ≡ complete setup (turns_in (Generated seed count))
