use Rattle.std.proofs.Common.{◌≡◌, true, sym, subst, ◌∙◌}
use Rattle.std.specs.Prelude.{IsOkAnd}
use Rattle.ea_model.specs.Trace.{is_scheduled}
use Rattle.ea_sound.proofs.Plain.{same-schedule, valid-plain}
use Rattle.ea_sound.proofs.Protocols.{always-protocol}
use Rattle.ea_steps.specs.Language.{IsStepsText}
use Rattle.ea_steps.proofs.Traces.{plain-steps}
use Rattle.ea_steps.proofs.part.StepsPart.text_of.Goals as goal

pub returns-clause-text : goal.returns-clause-text
returns-clause-text c =
    let d = c.args.config in
    let t = c.in_ok-trace.trace in
    let text = c.in_ok-tell.field-0.items in
    subst (λ read. IsOkAnd read (λ x. (is_scheduled x.mode ≡ true) × IsStepsText d x text))
    (sym c.in_ok-trace.ensures.given) (
      same-schedule t.mode ∙ sym c.is_scheduled.ensures ∙ c.if-not-is_scheduled.false,
      record {
        valid = valid-plain d.schedulers t c.in_ok-trace.ensures.valid;
        printed = c.in_ok-tell.ensures ∙ sym (plain-steps d t);
      },
    )

pub returns-clause-promised : goal.returns-clause-promised
returns-clause-promised c = λ t valid. always-protocol c.args.config t c.requires.config valid
