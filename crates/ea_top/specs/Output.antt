-- The output of the run of a trace: the trace that is run (`filled_by`), and its texts
-- (`IsRunText`).
-- This simulator's own: the sources do not speak of it.
use Rattle.std.specs.Prelude.{◌≡◌, ℕ, List}
use Rattle.ea_model.specs.declared.outcome.Outcome.{Outcome}
use Rattle.ea_model.specs.declared.settings.Config.{Config}
use Rattle.ea_model.specs.declared.trace.Mode.{Mode}
use Rattle.ea_model.specs.declared.trace.Mode.TheVariants.{Threads, Schedule, Generated}
use Rattle.ea_model.specs.declared.trace.Trace.{Trace}
use Rattle.ea_model.specs.Trace.{IsValidTrace}
use Rattle.ea_gen.specs.Generated.{generated_trace}
use Rattle.ea_machine.specs.Courses.{IsCourse}
use Rattle.ea_machine.specs.Outcome.{outcome}
use Rattle.ea_machine.specs.Setup.{Setup, setup_of}
use Rattle.ea_sound.specs.MachineLaws.{Protocol}
use Rattle.ea_report.specs.Text.{outcome_text, summary_text}

-- the trace, or the one that is generated for n schedulers where its mode says so
abbrev pub filled_by : ℕ → Trace → Mode → Trace
filled_by n t Threads = t
filled_by n t (Schedule turns) = t
filled_by n t (Generated seed count) = generated_trace t.letter seed n count

-- the text of an outcome: all of it or, of a generated trace, the counts
abbrev pub text_by : Mode → Outcome → List ℕ
text_by Threads o = outcome_text o
text_by (Schedule turns) o = outcome_text o
text_by (Generated seed count) o = summary_text seed count o

module _ (c : Config) (t : Trace) where
  -- the run of the trace, whose operations were given or are generated
  abbrev pub run_setup : Setup
  run_setup = setup_of c (filled_by c.schedulers t t.mode)

  -- the logs, carriers and totals once these turns are taken
  abbrev pub outcome_after : List ℕ → Outcome
  outcome_after turns = outcome run_setup turns

  -- they are those of a course of the run, of a valid trace
  abbrev pub IsRunOutcome : Outcome → Type 0
  IsRunOutcome o = (turns : List ℕ) × IsCourse run_setup t.mode turns × (o ≡ outcome_after turns)
      × IsValidTrace c.schedulers (filled_by c.schedulers t t.mode)

  -- the text is that of a course of it, and of this run, at each moment of each list of its steps,
  -- the protocol holds
  pub record IsRunText (text : List ℕ) : Type 0 where
    pub turns : List ℕ
    pub course : IsCourse run_setup t.mode turns
    pub printed : text ≡ text_by t.mode (outcome_after turns)
    pub valid : IsValidTrace c.schedulers (filled_by c.schedulers t t.mode)
    pub protocol : Protocol run_setup
