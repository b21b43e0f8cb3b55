-- The entries that a step added to its scheduler's log, as a log keeps them (`HasAdded`), and the
-- carriers in which they place blocks.
-- This simulator's own: the sources do not speak of it.
use Rattle.std.specs.Prelude.{◌≡◌, ℕ, List, [], ◌∷◌, ◌++◌, flat_map, map}
use Rattle.ea_model.specs.declared.entries.Entry as kept
use Rattle.ea_model.specs.declared.entries.Reports.{Reports}
use Rattle.ea_model.specs.declared.settings.Config.{Config}
use Rattle.ea_model.specs.declared.trace.Trace.{Trace}
use Rattle.ea_model.specs.Entries.{Entry, told}
use Rattle.ea_machine.specs.Setup.{setup_of}
use Rattle.ea_given.specs.declared.run.GivenRun.{GivenRun}
use Rattle.ea_given.specs.Runs.{StandsAfter}
use Rattle.ea_steps.specs.declared.touched.Touched.{Touched}
use Rattle.ea_steps.specs.Changes.{added}
use Rattle.ea_steps.specs.Noted.{IsTouched}
use Rattle.ea_steps.specs.Taking.{TakesStep, step_after}
use Rattle.ea_steps.specs.Touched.{placed_by}

-- they are those that the step added, with the reports of some log
abbrev pub HasAdded : ℕ → Touched → GivenRun → List (kept.Entry ℕ) → Type 0
HasAdded me touched run entries = (c : Config) (t : Trace) (turns : List ℕ)
    → StandsAfter c t (turns ++ me ∷ []) run → TakesStep (setup_of c t) turns me
    → IsTouched (setup_of c t) (step_after (setup_of c t) turns me) touched
    → (reports : List Reports)
    × (map (told reports) entries ≡ added (step_after (setup_of c t) turns me))

-- the carrier in which the entry says that a block lies now
abbrev pub carriers_in : Entry → List ℕ
carriers_in entry = map (λ p. p.carrier) (placed_by entry)

-- the carriers in which entries say that, with whatever reports
abbrev pub carriers_with : List Reports → List (kept.Entry ℕ) → List ℕ
carriers_with reports entries = flat_map carriers_in (map (told reports) entries)
