-- The commands of the program: their words, and the language of each.
use Rattle.std.specs.Prelude.{if◌then◌else◌, List, [], ◌∷◌, ℕ, bytes_eq, codes, string_bytes}
use Rattle.std.specs.declared.string.String.{String}
use Rattle.ea_frame.specs.Language.{Language}
use Rattle.ea_contents.specs.Command.{contents_traces}
use Rattle.ea_hist.specs.Language.{histograms}
use Rattle.ea_recorded.specs.Command.{recorded_traces}
use Rattle.ea_steps.specs.Language.{told_steps}
use Rattle.ea_super.specs.Command.{shared_region}
use Rattle.ea_top.specs.Language.{traces}
use Rattle.ea_types.specs.Command.{typed_traces}
use Rattle.erts_alloc_run.specs.declared.commands.Command.{Command}
use Rattle.erts_alloc_run.specs.declared.commands.Command.TheVariants.{Trace, Types, Super}
use Rattle.erts_alloc_run.specs.declared.commands.Command.TheVariants.{Recorded, Histogram, Contents}
use Rattle.erts_alloc_run.specs.declared.commands.Command.TheVariants.{Steps}

-- the command that a word names; that of a trace has no name
abbrev pub named : List ℕ → Command
named word =
    if bytes_eq word (codes "types") then Types else (
    if bytes_eq word (codes "super") then Super else (
    if bytes_eq word (codes "recorded") then Recorded else (
    if bytes_eq word (codes "histogram") then Histogram else (
    if bytes_eq word (codes "contents") then Contents else (
    if bytes_eq word (codes "steps") then Steps else Trace)))))

abbrev pub language_of : Command → Language
language_of Trace = traces
language_of Types = typed_traces
language_of Super = shared_region
language_of Recorded = recorded_traces
language_of Histogram = histograms
language_of Contents = contents_traces
language_of Steps = told_steps

module _ {Z : Type 0} where
  -- the command of the first word; without words that of a trace
  abbrev pub command : List (String Z) → Command
  command [] = Trace
  command (w ∷ ws) = named (string_bytes w)

  -- the words after the first
  abbrev pub after_first : List (String Z) → List (String Z)
  after_first [] = []
  after_first (w ∷ ws) = ws

  -- the words that a command reads: all but its name
  abbrev pub words_for : Command → List (String Z) → List (String Z)
  words_for Trace ws = ws
  words_for other ws = after_first ws
