-- The lines that a reader has taken (`HasTaken`), where they begin a trace (`WithinTrace`). The
-- newest line comes first.
use Rattle.std.specs.Prelude.{◌≡◌, ℕ, ◌++◌, Option, Some, None, Ok, Err, length, map}
use Rattle.ea_model.specs.declared.trace.Trace.{Trace}
use Rattle.ea_trace.specs.Between.{earlier_of}
use Rattle.ea_trace.specs.Knows.{Knows}
use Rattle.ea_trace.specs.Language.{Earlier, WordLines, read_after, trace_of, turns_after}
use Rattle.ea_trace.specs.Lines.{line_of_words}
use Rattle.ea_trace.specs.declared.fault.TraceFault.{TraceFault}
use Rattle.ea_trace.specs.declared.reader.TraceReader.{TraceReader}

-- how many lines were taken
abbrev pub lines_taken : TraceReader → ℕ
lines_taken r = r.taken

-- what is known of these lines, of which none is refused, tells what they give with later ones
pub record Tells (n : ℕ) (lines : WordLines) (r : TraceReader) : Type 0 where
  pub earlier : Earlier
  pub known : Knows n earlier r.seen
  pub turns : r.turns.items ≡ turns_after earlier
  pub said : earlier ≡ earlier_of lines
  pub count : length earlier ≡ length lines
  pub later : (later : WordLines)
      → trace_of n (lines ++ later) ≡ read_after n earlier (map line_of_words later)

-- a refused line decides, whatever comes later
abbrev pub Decides : ℕ → WordLines → TraceReader → Option TraceFault → Type 0
Decides n lines r None = Tells n lines r
Decides n lines r (Some f) = (later : WordLines) → trace_of n (lines ++ later) ≡ Err f

-- a reader for n schedulers has taken these lines
pub record HasTaken (n : ℕ) (lines : WordLines) (r : TraceReader) : Type 0 where
  pub count : lines_taken r ≡ length lines
  pub decides : Decides n lines r r.refused

-- it is so of n and the lines that were taken, where they and some later ones are a trace
abbrev pub WithinTrace : (ℕ → Earlier → Type 0) → TraceReader → Type 0
WithinTrace P r = (n : ℕ) (lines later : WordLines) (t : Trace) → HasTaken n lines r
    → trace_of n (lines ++ later) ≡ Ok t → P n (earlier_of lines)
