-- Words of tests: the histograms of a run, from words and bytes by definitions alone.
use Rattle.std.specs.Prelude.{ℕ, List, Option, None, Result, Ok, Err, option_map}
use Rattle.std.specs.Result.{result_ok}
use Rattle.ea_flags.specs.declared.fault.FlagFault.{FlagFault}
use Rattle.ea_flags.specs.Flags.{flags}
use Rattle.ea_model.specs.declared.settings.Config.{Config}
use Rattle.ea_given.specs.Layouts.{layouts_of_run}
use Rattle.ea_hist.specs.Text.{histograms_text}
use Rattle.ea_trace.specs.Language.{trace}

abbrev pub text_under : List ℕ → Result Config FlagFault → Option (List ℕ)
text_under input (Ok c) = option_map (λ t. histograms_text (layouts_of_run c t))
    (result_ok (trace input c.schedulers))
text_under input (Err f) = None

-- the text for an input under the configuration that the words ask for; none where one of them is
-- refused
abbrev pub text_of : List (List ℕ) → List ℕ → Option (List ℕ)
text_of words input = text_under input (flags words)
