-- The language of the command `types`, inputs with several types (`typed_traces`).
-- This simulator's own: the sources do not speak of it.
use Rattle.std.specs.Prelude.{true}
use Rattle.ea_frame.specs.Language.{Language}
use Rattle.ea_model.specs.declared.trace.Trace.{Trace}
use Rattle.ea_model.specs.Trace.{IsValidTrace}
use Rattle.ea_machine.specs.Setup.{setup_of}
use Rattle.ea_sound.specs.MachineLaws.{Protocol}
use Rattle.ea_types.specs.Output.{IsTypesText, TypedTraces, asked_for}

-- an input asks that the traces of its types be run, each on its own carriers, and has the texts of
-- their courses; each run of a trace keeps the protocol
abbrev pub typed_traces : Language
typed_traces = record {
  Request = TypedTraces;
  read = λ c input. asked_for c input;
  runs = λ asked. true;
  Gives = λ c asked text. IsTypesText c asked text;
  Promises = λ c. (t : Trace) → IsValidTrace c.schedulers t → Protocol (setup_of c t);
}
