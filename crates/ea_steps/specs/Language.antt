-- The language of the command `steps` (`told_steps`): traces, of which it runs those with a
-- schedule.
-- This simulator's own: the sources do not speak of it.
use Rattle.std.specs.Prelude.{◌≡◌, ℕ, List}
use Rattle.ea_frame.specs.Language.{Language}
use Rattle.ea_model.specs.declared.settings.Config.{Config}
use Rattle.ea_model.specs.declared.trace.Trace.{Trace}
use Rattle.ea_model.specs.Trace.{IsValidTrace, is_scheduled}
use Rattle.ea_machine.specs.Setup.{setup_of}
use Rattle.ea_sound.specs.MachineLaws.{Protocol}
use Rattle.ea_steps.specs.Text.{steps_text_of}
use Rattle.ea_trace.specs.Language.{trace}

-- the trace is valid, and the text tells each step of the run by its completed schedule
pub record IsStepsText (c : Config) (t : Trace) (text : List ℕ) : Type 0 where
  pub valid : IsValidTrace c.schedulers t
  pub printed : text ≡ steps_text_of c t

-- an input asks that a trace be run; each run of a trace keeps the protocol
abbrev pub told_steps : Language
told_steps = record {
  Request = Trace;
  read = λ c input. trace input c.schedulers;
  runs = λ t. is_scheduled t.mode;
  Gives = λ c t text. IsStepsText c t text;
  Promises = λ c. (t : Trace) → IsValidTrace c.schedulers t → Protocol (setup_of c t);
}
