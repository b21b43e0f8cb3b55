-- The lines of operations, and those of the trace that they are.
use Rattle.std.specs.Prelude.{◌≡◌, ℕ, List, All, map}
use Rattle.ea_trace.specs.Lines.{line_of_words}
use Rattle.ea_trace.specs.Ranges.{HasRanges}
use Rattle.ea_trace.specs.Taken.{HasTaken}
use Rattle.ea_trace.specs.declared.lines.Line.TheVariants.{Operation}
use Rattle.ea_recorded.specs.Language.{Placed, Told, words_of}
use Rattle.ea_recorded.specs.declared.lines.OwnLine.{OwnLine}
use Rattle.ea_recorded.specs.declared.lines.RecordedLine.{RecordedLine}
use Rattle.ea_recorded.specs.declared.lines.RecordedLine.TheVariants as line
use Rattle.ea_recorded.specs.declared.sections.TraceLines.{TraceLines}

abbrev pub PlacedLines : Type 0
PlacedLines = List Placed

abbrev pub ToldLines : Type 0
ToldLines = List Told

-- its words say its operation
abbrev pub IsSaid : Told → Type 0
IsSaid t = line_of_words t.words ≡ Operation t.own.op

-- the numbers of its operation, but for a scheduler's, are in their ranges
abbrev pub IsInRange : OwnLine → Type 0
IsInRange l = HasRanges l.op

abbrev pub IsLineInRange : RecordedLine → Type 0
IsLineInRange (line.Operation i op) = HasRanges op
IsLineInRange other = Unit {0}

-- these lines are told by those
pub record AreTold (told : ToldLines) (lines : List OwnLine) : Type 0 where
  pub own : lines ≡ map (λ t. t.own) told
  pub said : All IsSaid told
  pub ranges : All IsInRange lines

abbrev pub IsTold : List OwnLine → Type 0
IsTold lines = (told : ToldLines) × AreTold told lines

-- the numbers that lines of a trace have in the input
abbrev pub numbers_of : PlacedLines → List ℕ
numbers_of ls = map (λ l. l.number) ls

-- a reader for n schedulers has taken these lines
pub record HasLines (n : ℕ) (ls : PlacedLines) (t : TraceLines) : Type 0 where
  pub taken : HasTaken n (words_of ls) t.reader
  pub numbers : t.numbers.items ≡ numbers_of ls
