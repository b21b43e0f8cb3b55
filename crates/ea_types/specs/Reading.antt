-- What the reading of the lines knows.
use Rattle.std.specs.Prelude.{◌≡◌, ℕ, ◌+◌, ◌≤◌, false, List, ◌∷◌, ◌++◌, Option, Some, None}
use Rattle.std.specs.Prelude.{All, [], length}
use Rattle.std.specs.Option.{option_map_or}
use Rattle.ea_model.specs.Words.{words}
use Rattle.ea_model.specs.declared.settings.Letter.{Letter}
use Rattle.ea_trace.specs.Language.{WordLines}
use Rattle.ea_trace.specs.Lines.{type_line}
use Rattle.ea_trace.specs.declared.fault.TraceFault.{TraceFault}
use Rattle.ea_trace.specs.declared.fault.TraceFault.TheVariants as fault
use Rattle.ea_frame.specs.Lines.{rest_lines}
use Rattle.ea_types.specs.Language.{before_first, from_first, left_on, parts_of, projection}
use Rattle.ea_types.specs.Language.{wrong_at}
use Rattle.ea_types.specs.Readers.{HasRead, TypeLines, letters_of}
use Rattle.ea_types.specs.Sections.{AreParts}
use Rattle.ea_types.specs.declared.reader.FirstLine.{FirstLine}
use Rattle.ea_types.specs.declared.reader.Reading.{Reading}

-- the first of these lines that isn't skipped, of a text of that many bytes
pub record IsFirstLine (size : ℕ) (ls : WordLines) (f : FirstLine) : Type 0 where
  pub lines : from_first ls ≡ words f.text.now ∷ rest_lines f.rest
  pub number : f.number ≡ length (before_first ls) + 1
  pub few : f.number ≤ size + 1
  pub fewer : option_map_or (λ r. f.number + length r.now) f.rest 0 ≤ size

abbrev pub IsFirst : ℕ → WordLines → Option FirstLine → Type 0
IsFirst size ls None = from_first ls ≡ []
IsFirst size ls (Some f) = IsFirstLine size ls f

-- what all lines give: the lines of each type, whose each line of each section is, and the number
-- of the first line that is wrong by itself
pub record Whole : Type 0 where
  pub lines : TypeLines
  pub parts : List (List ℕ)
  pub wrong : Option ℕ

-- the whole of these lines, of whose `types` line this is the number and these lines come after it
abbrev pub whole_of : List Letter → WordLines → ℕ → WordLines → Whole
whole_of types ls number after = record {
  lines = λ x. projection x ls;
  parts = parts_of types ls;
  wrong = wrong_at types (number + 1) false after;
}

-- before the lines that are left, of which the first has this number, n schedulers' readers have
-- taken those before, and those before with those that are left give the whole
pub record Reads (n : ℕ) (types : List Letter) (whole : Whole) (number : ℕ) (left : WordLines)
    (r : Reading) : Type 0 where
  pub letters : letters_of r.readers.items ≡ types
  pub lines : TypeLines
  pub taken : All (HasRead n lines) r.readers.items
  pub count : (x : Letter) → length (lines x) + 1 ≡ number
  pub each : (x : Letter) → lines x ++ left_on x r.inside left ≡ whole.lines x
  pub parts : AreParts types r.inside left whole.parts r.sections
  pub wrong : wrong_at types number r.inside left ≡ whole.wrong

-- the same when the `types` line was taken, after these lines
pub record BeginsWith (types : List Letter) (before left : WordLines) (whole : Whole) : Type 0 where
  pub each : (x : Letter) → (before ++ type_line x ∷ []) ++ left_on x false left ≡ whole.lines x
  pub parts : parts_of types left ≡ whole.parts
  pub wrong : wrong_at types (length before + 2) false left ≡ whole.wrong

-- a fault is that of the line with this number, which is wrong by itself, or want of memory
abbrev pub IsWrongAt : Option ℕ → TraceFault → Type 0
IsWrongAt wrong (fault.Syntax line) = wrong ≡ Some line
IsWrongAt wrong fault.OutOfMemory = Unit {0}
IsWrongAt wrong fault.NoEnd = ⊥
IsWrongAt wrong (fault.BadScheduler line) = ⊥
IsWrongAt wrong (fault.NameReused line) = ⊥
IsWrongAt wrong (fault.NotHeld line) = ⊥
IsWrongAt wrong (fault.NotAddressed line) = ⊥
IsWrongAt wrong (fault.TooMany line) = ⊥
