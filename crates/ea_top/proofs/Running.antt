-- A completed schedule is a course of the run.
use Rattle.std.proofs.Common.{◌≡◌, ◌≢◌, ℕ, List, refl, ap, subst, sym, ◌∙◌}
use Rattle.std.specs.Prelude.{length}
use Rattle.std.proofs.lemmas.List.{length-map}
use Rattle.ea_model.specs.declared.operations.Op.{Op}
use Rattle.ea_model.specs.declared.outcome.Outcome.{Outcome}
use Rattle.ea_model.specs.declared.settings.Config.{Config}
use Rattle.ea_model.specs.declared.trace.Mode.{Mode}
use Rattle.ea_model.specs.declared.trace.Mode.TheVariants.{Threads, Schedule, Generated}
use Rattle.ea_model.specs.declared.trace.Trace.{Trace}
use Rattle.ea_model.specs.declared.trace.Turns.{Turns}
use Rattle.ea_model.specs.Lists.{Items}
use Rattle.ea_model.specs.Trace.{HasTexts, IsValidTrace, texts_of}
use Rattle.ea_gen.specs.Generated.{generated_trace}
use Rattle.ea_machine.specs.Completion.{complete, course_of, turns_in}
use Rattle.ea_machine.specs.Courses.{IsCourse}
use Rattle.ea_machine.specs.Outcome.{outcome, outcome_of}
use Rattle.ea_machine.specs.Setup.{Setup, setup_of}
use Rattle.ea_top.specs.Output.{IsRunOutcome, filled_by}

scheduled : (setup : Setup) (m : Mode) → m ≢ Threads
    → IsCourse setup m (complete setup (turns_in m))
scheduled setup Threads h = absurd (h refl)
scheduled setup (Schedule turns) h = refl
scheduled setup (Generated seed count) h = refl

-- each scheduler has a text where the trace has a schedule
pub texts-given : (n : ℕ) (t : Trace) (turns : Items Turns) → t.mode ≡ Schedule turns
    → IsValidTrace n t → length t.texts.items ≡ n
texts-given n t turns is valid = sym (length-map t.texts.items (λ (x : Items Op). x.items))
    ∙ subst (λ m. HasTexts n m (texts_of t)) is valid.texts

module _ (c : Config) (t : Trace) where
  -- the run of the trace, if it has this mode
  abbrev setup_by : Mode → Setup
  setup_by m = setup_of c (filled_by c.schedulers t m)

  -- the outcome is that of a course of it
  abbrev IsOutcomeBy : Outcome → Mode → Type 0
  IsOutcomeBy o m = (turns : List ℕ) × IsCourse (setup_by m) m turns
      × (o ≡ outcome (setup_by m) turns) × IsValidTrace c.schedulers (filled_by c.schedulers t m)

  outcome-by : (o : Outcome) (m : Mode) → m ≢ Threads
      → o ≡ outcome (setup_by m) (course_of (setup_by m) m)
      → IsValidTrace c.schedulers (filled_by c.schedulers t m) → IsOutcomeBy o m
  outcome-by o m h e valid =
      (complete (setup_by m) (turns_in m), scheduled (setup_by m) m h, e, valid)

  pub threads-ran : (o : Outcome) → t.mode ≡ Threads → IsOutcomeBy o Threads → IsRunOutcome c t o
  threads-ran o is h = subst (IsOutcomeBy o) (sym is) h

  pub given-ran : (o : Outcome) (turns : Items Turns) → t.mode ≡ Schedule turns
      → o ≡ outcome_of c t → IsValidTrace c.schedulers t → IsRunOutcome c t o
  given-ran o turns is e valid = subst (IsOutcomeBy o) (sym is)
      (outcome-by o (Schedule turns) (λ no. absurd cc)
      (e ∙ ap (λ m. outcome (setup_of c t) (course_of (setup_of c t) m)) is) valid)

  pub generated-ran : (o : Outcome) (seed count : ℕ) → t.mode ≡ Generated seed count
      → o ≡ outcome_of c (generated_trace t.letter seed c.schedulers count)
      → IsValidTrace c.schedulers (generated_trace t.letter seed c.schedulers count)
      → IsRunOutcome c t o
  generated-ran o seed count is e valid = subst (IsOutcomeBy o) (sym is)
      (outcome-by o (Generated seed count) (λ no. absurd cc) e valid)
