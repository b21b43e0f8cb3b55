use Rattle.std.proofs.Common.{◌≡◌, true, sym, ap, subst, ◌∙◌}
use Rattle.std.specs.Prelude.{IsOkAnd}
use Rattle.ea_model.specs.Trace.{is_scheduled}
use Rattle.ea_sound.proofs.Plain.{same-schedule, valid-plain}
use Rattle.ea_sound.proofs.Protocols.{always-protocol}
use Rattle.ea_hist.specs.Language.{IsHistograms}
use Rattle.ea_hist.specs.Text.{histograms_text}
use Rattle.ea_hist.proofs.Traces.{plain-layouts, plain-text}
use Rattle.ea_hist.proofs.part.HistogramsPart.text_of.Goals as goal

pub returns-clause-text : goal.returns-clause-text
returns-clause-text c =
    let d = c.args.config in
    let t = c.in_ok-trace.trace in
    let layouts = c.in_ok-layouts.layouts.items in
    let text = c.in_ok-print_histograms.field-0.items in
    subst (λ read. IsOkAnd read (λ x. (is_scheduled x.mode ≡ true) × IsHistograms d x text))
    (sym c.in_ok-trace.ensures.given) (
      same-schedule t.mode ∙ sym c.is_scheduled.ensures ∙ c.if-not-is_scheduled.false,
      record {
        valid = valid-plain d.schedulers t c.in_ok-trace.ensures.valid;
        printed = c.in_ok-print_histograms.ensures ∙ ap histograms_text c.as_slice.ensures
            ∙ sym (plain-text layouts) ∙ ap histograms_text c.in_ok-layouts.ensures
            ∙ ap histograms_text (sym (plain-layouts d t));
      },
    )

pub returns-clause-promised : goal.returns-clause-promised
returns-clause-promised c = λ t valid. always-protocol c.args.config t c.requires.config valid
