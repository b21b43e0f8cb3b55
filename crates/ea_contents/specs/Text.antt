-- The text of a run with writes and reads.
-- This simulator's own: the sources do not speak of it.
use Rattle.std.specs.Prelude.{ℕ, ◌+◌, List, [], ◌∷◌, ◌++◌, codes, decimal, flat_map}
use Rattle.std.specs.List.{range_with_len}
use Rattle.ea_model.specs.declared.outcome.Outcome.{Outcome}
use Rattle.ea_model.specs.declared.settings.Config.{Config}
use Rattle.ea_machine.specs.Outcome.{outcome}
use Rattle.ea_machine.specs.Completion.{turns_in}
use Rattle.ea_machine.specs.Setup.{Setup, setup_of}
use Rattle.ea_report.specs.Text.{line, outcome_text}
use Rattle.ea_contents.specs.Language.{Request}
use Rattle.ea_contents.specs.Model.{Moment, Script, complete, opening, play, steps_in}
use Rattle.ea_contents.specs.declared.access.AccessEntry.{AccessEntry}
use Rattle.ea_contents.specs.declared.access.AccessEntry.TheVariants.{Found, ReadOutside, ReadSkipped}
use Rattle.ea_contents.specs.declared.access.AccessEntry.TheVariants.{WriteOutside, WriteSkipped, Wrote}

-- the line of a write or a read
abbrev pub line_text : AccessEntry → List ℕ
line_text (Wrote name index) =
    line (codes "write") (decimal name ∷ decimal index ∷ codes "done" ∷ [])
line_text (Found name index value) =
    line (codes "read") (decimal name ∷ decimal index ∷ decimal value ∷ [])
line_text (WriteOutside name index) =
    line (codes "write") (decimal name ∷ decimal index ∷ codes "outside" ∷ [])
line_text (ReadOutside name index) =
    line (codes "read") (decimal name ∷ decimal index ∷ codes "outside" ∷ [])
line_text (WriteSkipped name) = line (codes "write") (decimal name ∷ codes "skipped" ∷ [])
line_text (ReadSkipped name) = line (codes "read") (decimal name ∷ codes "skipped" ∷ [])

-- the lines of schedulers from that number on, each after one with its number
abbrev pub lists_text : ℕ → List (List AccessEntry) → List ℕ
lists_text i [] = []
lists_text i (entries ∷ later) = line (codes "scheduler") (decimal i ∷ [])
    ++ flat_map line_text entries ++ lists_text (i + 1) later

-- the text of an outcome and of what came of the writes and reads of each scheduler
abbrev pub ran_text : Outcome → List (List AccessEntry) → List ℕ
ran_text o shown = outcome_text o ++ (line (codes "contents") [] ++ lists_text 1 shown)

-- the lines of each scheduler, in order
abbrev pub shown_text : Setup → Moment → List ℕ
shown_text setup c = flat_map
    (λ i. line (codes "scheduler") (decimal i ∷ []) ++ flat_map line_text (c.shown i))
    (range_with_len 1 setup.schedulers)

-- the text after these turns of all kinds: that of the steps among them, then the writes and reads
abbrev pub text_after : Setup → Script → List ℕ → List ℕ
text_after setup script turns =
    outcome_text (outcome setup (steps_in setup script (opening setup) turns))
    ++ (line (codes "contents") [] ++ shown_text setup (play setup script turns))

-- the text of what an input asks for: its schedule is completed
abbrev pub request_text : Config → Request → List ℕ
request_text c r = let setup = setup_of c r.trace in
    text_after setup r.script (complete setup r.script (turns_in r.trace.mode))
