use Rattle.std.proofs.Common.{◌≡◌, ◌&&◌, true, map, sym, ap, subst, ◌∙◌}
use Rattle.std.specs.Prelude.{IsOkAnd}
use Rattle.ea_sound.proofs.Plain.{same-schedule}
use Rattle.ea_sound.proofs.Protocols.{always-protocol}
use Rattle.ea_trace.specs.Language.{no_stops}
use Rattle.ea_contents.specs.Command.{IsContentsText}
use Rattle.ea_contents.specs.Language.{is_run}
use Rattle.ea_contents.specs.Script.{script_of, sections_of}
use Rattle.ea_contents.specs.Text.{ran_text}
use Rattle.ea_contents.proofs.Completed.{all-end}
use Rattle.ea_contents.proofs.Kept.{always-agrees}
use Rattle.ea_contents.proofs.Printing.{contents-text}
use Rattle.ea_contents.proofs.part.ContentsPartPart.text_of.Goals as goal

pub returns-clause-text : goal.returns-clause-text
returns-clause-text c =
    let d = c.args.config in
    let read = c.in_ok-read.read in
    let known = c.in_ok-read.ensures in
    let t = read.trace in
    let ran = c.in_ok-ran.ran in
    let text = c.in_ok-print_contents.field-0.items in
    subst (λ asked. IsOkAnd asked (λ r. (is_run r ≡ true) × IsContentsText d r text))
    (sym known.given) (
      ap (λ b. b && no_stops t.stops.items) (same-schedule t.mode) ∙ sym c.is_run.ensures
          ∙ c.if-not-is_run.false,
      contents-text d t (script_of (sections_of read)) ran.outcome
          (map (λ l. l.items) ran.shown.items) text known.valid c.in_ok-ran.ensures.outcome
          c.in_ok-ran.ensures.shown
          (c.in_ok-print_contents.ensures
          ∙ ap (λ lists. ran_text ran.outcome (map (λ l. l.items) lists)) c.as_slice.ensures),
    )

pub returns-clause-promised : goal.returns-clause-promised
returns-clause-promised c = λ t valid. (
  always-protocol c.args.config t c.requires.config valid,
  always-agrees c.args.config t c.requires.config valid,
  all-end c.args.config t c.requires.config valid,
)
