-- The language of traces, as the top call has it (`traces`).
-- This simulator's own: the sources do not speak of it.
use Rattle.std.specs.Prelude.{true}
use Rattle.ea_frame.specs.Language.{Language}
use Rattle.ea_model.specs.declared.trace.Trace.{Trace}
use Rattle.ea_sound.specs.MachineLaws.{Protocol}
use Rattle.ea_top.specs.EachTrace.{EachTrace}
use Rattle.ea_top.specs.Output.{IsRunText}
use Rattle.ea_trace.specs.Language.{trace}

-- an input asks that a trace be run, of any mode, and has the texts of its courses; each run keeps
-- the protocol
abbrev pub traces : Language
traces = record {
  Request = Trace;
  read = λ c input. trace input c.schedulers;
  runs = λ t. true;
  Gives = λ c t text. IsRunText c t text;
  Promises = λ c. EachTrace Protocol c;
}
