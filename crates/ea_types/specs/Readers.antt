-- What the readers of the types have taken.
use Rattle.std.specs.Prelude.{◌≡◌, ℕ, ◌+◌, ◌<◌, ◌^◌, Bool, false, if◌then◌else◌, List, [], ◌∷◌}
use Rattle.std.specs.Prelude.{◌++◌, Option, Some, None, Result, Ok, Err, bytes_eq, map, not}
use Rattle.std.specs.Borrow.{Bor}
use Rattle.std.specs.Option.{option_map}
use Rattle.ea_model.specs.Lists.{Items}
use Rattle.ea_model.specs.Trace.{plain}
use Rattle.ea_model.specs.declared.settings.Letter.{Letter}
use Rattle.ea_model.specs.declared.trace.Trace.{Trace}
use Rattle.ea_trace.specs.Language.{LineWords, WordLines}
use Rattle.ea_trace.specs.Lines.{letter_word, type_line}
use Rattle.ea_trace.specs.Taken.{HasTaken, lines_taken}
use Rattle.ea_trace.specs.declared.fault.TraceFault.{TraceFault}
use Rattle.ea_trace.specs.declared.fault.TraceFault.TheVariants.{OutOfMemory}
use Rattle.ea_types.specs.Language.{Answers}
use Rattle.ea_types.specs.declared.type_reader.TypeReader.{TypeReader}

-- the lines of each type
abbrev pub TypeLines : Type 0
TypeLines = Letter → WordLines

abbrev pub own_word : Option (Bor (List ℕ)) → Option (List ℕ)
own_word word = option_map (λ w. w.now) word

-- whether a line with this word for a type, if it has one, is another type's
abbrev pub is_others : Letter → Option (List ℕ) → Bool
is_others x None = false
is_others x (Some w) = not (bytes_eq w (letter_word x))

-- what a type has of a line
abbrev pub left_by : Letter → Option (List ℕ) → LineWords → LineWords
left_by x word words = if is_others x word then [] else words

-- these lines of each type, and one more
abbrev pub and_line : TypeLines → Option (List ℕ) → LineWords → TypeLines
and_line lines word words = λ x. lines x ++ left_by x word words ∷ []

-- the lines of each type after some that are skipped
abbrev pub begun_with : WordLines → TypeLines
begun_with skipped = λ x. skipped ++ type_line x ∷ []

-- a reader can take one more line
abbrev pub HasRoom : TypeReader → Type 0
HasRoom t = lines_taken t.reader + 1 < 2 ^ 32

-- a reader for n schedulers has taken the lines of its type
abbrev pub HasRead : ℕ → TypeLines → TypeReader → Type 0
HasRead n lines t = HasTaken n (lines t.letter) t.reader

abbrev pub letters_of : List TypeReader → List Letter
letters_of ts = map (λ t. t.letter) ts

-- an answer is these traces or this refusal, or there was no memory
abbrev pub GivesEach : Result (Items Trace) TraceFault → Answers → Type 0
GivesEach (Ok ts) read = read ≡ Ok (map plain ts.items)
GivesEach (Err OutOfMemory) read = Unit {0}
GivesEach (Err f) read = read ≡ Err f
