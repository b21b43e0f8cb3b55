-- The language of the command `recorded`, inputs of recorded operations (`recorded_traces`).
-- This simulator's own: the sources do not speak of it.
use Rattle.std.specs.Prelude.{ℕ, List, true}
use Rattle.ea_frame.specs.Language.{Language}
use Rattle.ea_model.specs.declared.trace.Trace.{Trace}
use Rattle.ea_model.specs.declared.settings.Rules.{Rules}
use Rattle.ea_model.specs.Settings.{by_rules}
use Rattle.ea_model.specs.Trace.{IsValidTrace}
use Rattle.ea_machine.specs.Machine.{start}
use Rattle.ea_machine.specs.Setup.{setup_of}
use Rattle.ea_sound.specs.MachineLaws.{Protocol}
use Rattle.ea_recorded.specs.Language.{Recorded, recorded}
use Rattle.ea_recorded.specs.Order.{EndsLines}
use Rattle.ea_recorded.specs.Output.{IsRecordedText}

-- an input asks that a trace be run by its lines in their order, and has the text of that run; by
-- whatever rules, each run of a trace keeps the protocol, and the turns that each line is given at
-- most suffice
abbrev pub recorded_traces : Language
recorded_traces = record {
  Request = Recorded;
  read = λ c input. recorded input c.schedulers;
  runs = λ asked. true;
  Gives = λ c asked text. IsRecordedText c asked text;
  Promises = λ c. (r : Rules) (t : Trace) → IsValidTrace c.schedulers t
      → (let setup = setup_of (by_rules r c) t in
      Protocol setup × ((lines : List ℕ) → EndsLines setup (start setup) lines));
}
