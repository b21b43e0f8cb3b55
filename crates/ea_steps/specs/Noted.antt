-- What is noted of a step before it (`IsTouched`), and a run that has taken the step
-- (`HasStepped`).
use Rattle.std.specs.Prelude.{◌≡◌, ℕ, List, [], ◌∷◌, ◌++◌, Option, filter, flat_map, is_some}
use Rattle.std.specs.Prelude.{length, option_map}
use Rattle.std.specs.Option.{option_and_then}
use Rattle.ea_model.specs.declared.settings.Config.{Config}
use Rattle.ea_model.specs.declared.trace.Trace.{Trace}
use Rattle.ea_machine.specs.Outcome.{line_of}
use Rattle.ea_machine.specs.Setup.{Setup, setup_of}
use Rattle.ea_given.specs.declared.run.GivenRun.{GivenRun}
use Rattle.ea_given.specs.Runs.{StandsAfter}
use Rattle.ea_steps.specs.declared.touched.Touched.{Touched}
use Rattle.ea_steps.specs.Changes.{released}
use Rattle.ea_steps.specs.Found.{found_before}
use Rattle.ea_steps.specs.FoundCarriers.{carrier_there, created_before, first_number, made_number}
use Rattle.ea_steps.specs.Steps.{Step, row_of}
use Rattle.ea_steps.specs.Taking.{TakesStep, step_after}
use Rattle.ea_steps.specs.Text.{changes_text, released_text}
use Rattle.ea_steps.specs.Touched.{created_by, may_go_in, may_shrink_in}

-- what the step can touch, as it is before it; its places don't matter
pub record IsTouched (setup : Setup) (s : Step) (touched : Touched) : Type 0 where
  pub blocks : touched.blocks.items ≡ found_before setup s
  pub carriers : touched.carriers.items
      ≡ filter (λ n. is_some (carrier_there setup s.before n)) (may_go_in setup s)
  pub resized : touched.resized ≡ option_map line_of
      (option_and_then (carrier_there setup s.before) (first_number (may_shrink_in setup s)))
  pub creates : touched.creates ≡ first_number (created_by (row_of s))
  pub created : touched.created ≡ created_before s
  pub entries : touched.entries ≡ length (s.before.actors s.scheduler).log

-- the run has taken a step of the scheduler, before which that was noted
abbrev pub HasStepped : ℕ → Touched → GivenRun → Type 0
HasStepped me touched run = (c : Config) × (t : Trace) × (turns : List ℕ)
    × StandsAfter c t (turns ++ me ∷ []) run × TakesStep (setup_of c t) turns me
    × IsTouched (setup_of c t) (step_after (setup_of c t) turns me) touched

-- the text has grown by the lines of what the step did
abbrev pub DoesStep : ℕ → Touched → GivenRun → List ℕ → List ℕ → Type 0
DoesStep me touched run text grown = (c : Config) (t : Trace) (turns : List ℕ)
    → StandsAfter c t (turns ++ me ∷ []) run → TakesStep (setup_of c t) turns me
    → IsTouched (setup_of c t) (step_after (setup_of c t) turns me) touched
    → grown ≡ text ++ changes_text (setup_of c t) (step_after (setup_of c t) turns me)

-- that number is the one of the carrier that the step made
abbrev pub HasMade : ℕ → Touched → GivenRun → Option ℕ → Type 0
HasMade me touched run number = (c : Config) (t : Trace) (turns : List ℕ)
    → StandsAfter c t (turns ++ me ∷ []) run → TakesStep (setup_of c t) turns me
    → IsTouched (setup_of c t) (step_after (setup_of c t) turns me) touched
    → number ≡ made_number (step_after (setup_of c t) turns me)

-- the text has grown by the lines of the blocks that the step released
abbrev pub Releases : ℕ → Touched → GivenRun → List ℕ → List ℕ → Type 0
Releases me touched run text grown = (c : Config) (t : Trace) (turns : List ℕ)
    → StandsAfter c t (turns ++ me ∷ []) run → TakesStep (setup_of c t) turns me
    → IsTouched (setup_of c t) (step_after (setup_of c t) turns me) touched
    → grown ≡ text ++ flat_map released_text
    (released (setup_of c t) (step_after (setup_of c t) turns me))
