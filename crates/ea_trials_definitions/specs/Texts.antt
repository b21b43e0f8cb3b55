-- Words of tests: the text of a run, from words and bytes by definitions alone.
use Rattle.std.specs.Prelude.{ℕ, Bool, true, false, if◌then◌else◌, List, [], ◌∷◌, Option, Some}
use Rattle.std.specs.Prelude.{None, Result, Ok, Err, bytes_eq, option_map}
use Rattle.std.specs.Option.{option_map_or}
use Rattle.std.specs.Result.{result_ok}
use Rattle.ea_flags.specs.declared.fault.FlagFault.{FlagFault}
use Rattle.ea_flags.specs.Flags.{flags}
use Rattle.ea_model.specs.declared.settings.Config.{Config}
use Rattle.ea_model.specs.declared.trace.Trace.{Trace}
use Rattle.ea_model.specs.Words as model
use Rattle.ea_report.specs.Text.{outcome_text}
use Rattle.ea_trace.specs.Language.{trace}
use Rattle.ea_machine.specs.Outcome.{outcome_of}

-- once the turns of the schedule are taken, each scheduler goes on until it has ended or is stopped
abbrev pub trace_text : Config → Trace → List ℕ
trace_text c t = outcome_text (outcome_of c t)

abbrev pub text_under : List ℕ → Result Config FlagFault → Option (List ℕ)
text_under input (Ok c) = option_map (trace_text c) (result_ok (trace input c.schedulers))
text_under input (Err f) = None

-- the text for an input under the configuration that the words ask for; none where one of them is
-- refused
abbrev pub text_of : List (List ℕ) → List ℕ → Option (List ℕ)
text_of words input = text_under input (flags words)

-- the lines after the first that is the given one, if there is one
abbrev pub after_line : List ℕ → List (List ℕ) → Option (List (List ℕ))
after_line wanted [] = None
after_line wanted (line ∷ lines) = if bytes_eq wanted line then Some lines
    else after_line wanted lines

-- whether these lines are among the others, in their order
abbrev pub are_among : List (List ℕ) → List (List ℕ) → Bool
are_among [] lines = true
are_among (wanted ∷ more) lines = option_map_or (are_among more) (after_line wanted lines) false

-- whether there is a text, and it has these lines in their order
abbrev pub shows : List (List ℕ) → Option (List ℕ) → Bool
shows wanted text = option_map_or (λ t. are_among wanted (model.lines t)) text false
