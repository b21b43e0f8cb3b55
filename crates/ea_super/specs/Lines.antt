-- What one line says, by itself. Words, names and numbers are those of traces.
-- This simulator's own: the sources do not speak of it.
use Rattle.std.specs.Prelude.{ℕ, if◌then◌else◌, List, [], ◌∷◌, Option, None, bytes_eq, codes}
use Rattle.std.specs.Prelude.{option_and_then, option_map, unwrap_or}
use Rattle.ea_model.specs.Words.{number}
use Rattle.ea_model.specs.declared.units.TheConstants.{MAX_PAGES}
use Rattle.ea_segments.specs.declared.calls.Request.{Request}
use Rattle.ea_segments.specs.declared.calls.Request.TheVariants.{Back, Take}
use Rattle.ea_trace.specs.Language.{LineWords}
use Rattle.ea_trace.specs.Lines.{bare, both_words, is_comment, name_in, only_word, pair}
use Rattle.ea_trace.specs.Lines.{scheduler_in}
use Rattle.ea_super.specs.declared.lines.Line.{Line}
use Rattle.ea_super.specs.declared.lines.Line.TheVariants as line

-- the pages of a request
abbrev pub pages_in : List ℕ → Option ℕ
pages_in word = number 1 MAX_PAGES word

abbrev pub section_line : ℕ → Line
section_line n = line.Section n

abbrev pub request_line : Request → Line
request_line q = line.Asks q

abbrev pub section_in : List (List ℕ) → Option Line
section_in ws = option_map section_line (option_and_then scheduler_in (only_word ws))

abbrev pub take_in : List (List ℕ) → Option Request
take_in ws = option_and_then (λ w. pair Take (name_in w.0) (pages_in w.1)) (both_words ws)

abbrev pub back_in : List (List ℕ) → Option Request
back_in ws = option_map Back (option_and_then name_in (only_word ws))

-- a line by its first word and the words after it
abbrev pub command : List ℕ → List (List ℕ) → Option Line
command w ws =
    if bytes_eq w (codes "super") then bare line.Super ws else (
    if bytes_eq w (codes "scheduler") then section_in ws else (
    if bytes_eq w (codes "take") then option_map request_line (take_in ws) else (
    if bytes_eq w (codes "back") then option_map request_line (back_in ws) else (
    if bytes_eq w (codes "end") then bare line.End ws else None))))

-- a line by its words; one without words and a comment are skipped
abbrev pub line_of_words : LineWords → Line
line_of_words [] = line.Skipped
line_of_words (w ∷ ws) = if is_comment w then line.Skipped
    else unwrap_or (command w ws) line.Unreadable
