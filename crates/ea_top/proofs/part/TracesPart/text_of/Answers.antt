use Rattle.std.proofs.Common.{◌≡◌, true, refl, sym, subst}
use Rattle.std.specs.Prelude.{IsOkAnd}
use Rattle.ea_model.specs.Trace.{plain}
use Rattle.ea_sound.proofs.Protocols.{always-protocol}
use Rattle.ea_top.specs.Output.{IsRunText}
use Rattle.ea_top.proofs.Texts.{run-text}
use Rattle.ea_top.proofs.part.TracesPart.text_of.Goals as goal

pub returns-clause-text : goal.returns-clause-text
returns-clause-text g c =
    let d = c.args.config in
    let t = c.in_ok-trace.trace in
    let text = c.in_ok-print_run.field-0.items in
    subst (λ read. IsOkAnd read (λ t. (true ≡ true) × IsRunText d t text))
    (sym c.in_ok-trace.ensures.given) (
      refl,
      subst (IsRunText d (plain t)) (sym c.in_ok-print_run.ensures)
          (run-text d t c.in_ok-outcome.outcome c.requires.config c.in_ok-outcome.ensures),
    )

pub returns-clause-promised : goal.returns-clause-promised
returns-clause-promised g c = λ t valid. always-protocol c.args.config t c.requires.config valid
