use Rattle.std.proofs.Common.{◌≡◌, true, refl, sym, ap, subst, ◌∙◌}
use Rattle.std.specs.Prelude.{IsOkAnd}
use Rattle.ea_model.specs.Outcome.{plain_outcome}
use Rattle.ea_model.specs.Settings.{IsValidConfig, by_rules}
use Rattle.ea_machine.specs.Outcome.{outcome}
use Rattle.ea_machine.specs.Setup.{setup_of}
use Rattle.ea_sound.proofs.Protocols.{always-protocol}
use Rattle.ea_recorded.specs.Order.{recorded_turns}
use Rattle.ea_recorded.specs.Output.{IsRecordedText}
use Rattle.ea_recorded.proofs.Operating.{each-line-ends}
use Rattle.ea_recorded.proofs.Printing.{recorded-text}
use Rattle.ea_recorded.proofs.Ruling.{valid-by}
use Rattle.ea_recorded.proofs.part.RecordedPartPart.text_of.Goals as goal

pub run_in_order-requires-clause-config : goal.run_in_order-requires-clause-config
run_in_order-requires-clause-config c = subst IsValidConfig (sym c.by_rules-config.ensures)
    (valid-by c.in_ok-read.read.rules c.args.config c.requires.config)

pub returns-clause-text : goal.returns-clause-text
returns-clause-text c =
    let d = c.args.config in
    let read = c.in_ok-read.read in
    let known = c.in_ok-read.ensures in
    let text = c.in_ok-print.field-0.items in
    let setup = setup_of (by_rules read.rules d) read.trace in
    subst (λ asked. IsOkAnd asked (λ a. (true ≡ true) × IsRecordedText d a text))
    (sym known.given) (
      refl,
      recorded-text d read.rules read.trace read.order.items c.in_ok-outcome.outcome text
          known.valid
          (subst (λ k. plain_outcome c.in_ok-outcome.outcome ≡ (let setup = setup_of k read.trace in
          outcome setup (recorded_turns setup c.as_slice.result.now))) c.by_rules-config.ensures
          c.in_ok-outcome.ensures
          ∙ ap (λ order. outcome setup (recorded_turns setup order)) c.as_slice.ensures)
          c.in_ok-print.ensures,
    )

pub returns-clause-promised : goal.returns-clause-promised
returns-clause-promised c = λ r t valid.
    let d = by_rules r c.args.config in
    let sound = valid-by r c.args.config c.requires.config in
    (always-protocol d t sound valid, each-line-ends d t sound valid)
