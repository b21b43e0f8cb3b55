-- The language of the command `contents`, inputs with writes and reads (`contents_traces`).
-- This simulator's own: the sources do not speak of it.
use Rattle.std.specs.Prelude.{◌≡◌, ℕ, List}
use Rattle.ea_frame.specs.Language.{Language}
use Rattle.ea_model.specs.Trace.{IsValidTrace}
use Rattle.ea_model.specs.declared.settings.Config.{Config}
use Rattle.ea_model.specs.declared.trace.Trace.{Trace}
use Rattle.ea_machine.specs.Setup.{setup_of}
use Rattle.ea_sound.specs.MachineLaws.{Protocol}
use Rattle.ea_contents.specs.Agreeing.{KeepsAgreement}
use Rattle.ea_contents.specs.Language.{Request, is_run, request}
use Rattle.ea_contents.specs.Model.{CompletesAll, Script}
use Rattle.ea_contents.specs.Text.{request_text}

-- the text of what is asked for: the trace is valid, and the text is that of the run in which the
-- schedule is completed
pub record IsContentsText (c : Config) (asked : Request) (text : List ℕ) : Type 0 where
  pub valid : IsValidTrace c.schedulers asked.trace
  pub printed : text ≡ request_text c asked

-- an input asks that a trace be run with its writes and reads, and has the text of that run; each
-- run of a trace keeps the protocol, and the words of each block the list of its name, and the turns
-- that complete its schedule suffice
abbrev pub contents_traces : Language
contents_traces = record {
  Request = Request;
  read = request;
  runs = is_run;
  Gives = λ c asked text. IsContentsText c asked text;
  Promises = λ c. (t : Trace) → IsValidTrace c.schedulers t
      → Protocol (setup_of c t) × KeepsAgreement (setup_of c t)
      × ((script : Script) (turns : List ℕ) → CompletesAll (setup_of c t) script turns);
}
