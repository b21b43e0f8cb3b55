-- The text of a run of recorded operations.
-- This simulator's own: the sources do not speak of it.
use Rattle.std.specs.Prelude.{◌≡◌, ℕ, List}
use Rattle.ea_model.specs.declared.settings.Config.{Config}
use Rattle.ea_model.specs.Settings.{by_rules}
use Rattle.ea_model.specs.Trace.{IsValidTrace}
use Rattle.ea_machine.specs.Outcome.{outcome}
use Rattle.ea_machine.specs.Setup.{setup_of}
use Rattle.ea_report.specs.Text.{outcome_text}
use Rattle.ea_recorded.specs.Language.{Recorded}
use Rattle.ea_recorded.specs.Order.{recorded_turns}

-- the text of what is asked for: the trace is valid, and the text is that of its outcome after the
-- turns of its lines in their order, by its rules
pub record IsRecordedText (c : Config) (asked : Recorded) (text : List ℕ) : Type 0 where
  pub valid : IsValidTrace c.schedulers asked.trace
  pub printed : (let setup = setup_of (by_rules asked.rules c) asked.trace in
      text ≡ outcome_text (outcome setup (recorded_turns setup asked.order)))
