-- What code finds of carriers in a run as it stands (`found_in`), and the lines that it adds by that.
use Rattle.std.specs.Prelude.{◌≡◌, ℕ, ◌++◌, ◌&&◌, not, List, Option, option_map}
use Rattle.ea_model.specs.declared.carriers.CarrierLine.{CarrierLine}
use Rattle.ea_machine.specs.Outcome.{line_of}
use Rattle.ea_machine.specs.Setup.{Setup}
use Rattle.ea_machine.specs.Stops.{run_with_stops}
use Rattle.ea_given.specs.declared.run.GivenRun.{GivenRun}
use Rattle.ea_given.specs.Between.{carrier_in}
use Rattle.ea_given.specs.Runs.{Tells}
use Rattle.ea_steps.specs.ChangedLines.{gone_if, gone_lines, has_gone, is_number, made_lines}
use Rattle.ea_steps.specs.ChangedLines.{shrunk_lines}

-- the line of a carrier, if it is there after these turns
abbrev pub found_in : Setup → List ℕ → ℕ → Option CarrierLine
found_in setup turns number =
    option_map line_of (carrier_in setup (run_with_stops setup turns) number)

module _ (run : GivenRun) (text grown : List ℕ) (made : Option ℕ) where
  -- the text has grown by the line of a carrier that has gone, if it has and isn't the last one
  abbrev pub AddsGoneIf : Option ℕ → ℕ → Type 0
  AddsGoneIf last number = Tells (λ setup turns. grown ≡ text ++ gone_if
      (not (is_number last number) && has_gone made (found_in setup turns) number) number) run

  -- by those of all of these that have gone
  abbrev pub AddsGone : Option ℕ → List ℕ → Type 0
  AddsGone last numbers = Tells (λ setup turns.
      grown ≡ text ++ gone_lines made (found_in setup turns) last numbers) run

  -- by that of a carrier that has fewer pages than this
  abbrev pub AddsShrunk : Option CarrierLine → Type 0
  AddsShrunk before = Tells (λ setup turns.
      grown ≡ text ++ shrunk_lines made (found_in setup turns) before) run

  -- by that of the carrier that was made
  abbrev pub AddsMade : Type 0
  AddsMade = Tells (λ setup turns. grown ≡ text ++ made_lines made (found_in setup turns)) run
