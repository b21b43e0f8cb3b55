use Rattle.std.proofs.Common.{◌≡◌, List, map, true, refl, sym, ap, subst, ◌∙◌}
use Rattle.std.specs.Prelude.{IsOkAnd}
use Rattle.std.proofs.lemmas.List.Elements.{All-map, All-weaker}
use Rattle.ea_model.specs.Outcome.{plain_outcome}
use Rattle.ea_model.specs.Trace.{IsValidTrace, plain}
use Rattle.ea_sound.proofs.Plain.{valid-plain}
use Rattle.ea_sound.proofs.Protocols.{always-protocol}
use Rattle.ea_types.specs.Output.{IsTypesText, asked_in, parts_text}
use Rattle.ea_types.proofs.Outcomes.{asked-read, same-text}
use Rattle.ea_types.proofs.part.TypedTracesPart.text_of.Goals as goal

pub returns-clause-text : goal.returns-clause-text
returns-clause-text g c =
    let d = c.args.config in
    let input = c.args.input.now in
    let read = c.in_ok-read.read in
    let known = c.in_ok-read.ensures in
    let os = c.in_ok-outcomes.outcomes.items in
    let text = c.in_ok-print_parts.field-0.items in
    subst (λ asked. IsOkAnd asked (λ a. (true ≡ true) × IsTypesText d a text))
    (sym (asked-read d input read known.given known.letters known.parts)) (
      refl,
      record {
        valid = All-map (IsValidTrace d.schedulers) plain read.traces.items
            (All-weaker (IsValidTrace d.schedulers) (λ t. IsValidTrace d.schedulers (plain t))
            (valid-plain d.schedulers) read.traces.items known.valid);
        outcomes = map plain_outcome os;
        each = c.in_ok-outcomes.ensures;
        printed = c.in_ok-print_parts.ensures
            ∙ ap (λ l. parts_text l c.as_slice-2.result.now) c.as_slice.ensures
            ∙ ap (λ o. parts_text read.letters.items o) c.as_slice-2.ensures
            ∙ sym (same-text read.letters.items os);
      },
    )

pub returns-clause-promised : goal.returns-clause-promised
returns-clause-promised g c = λ t valid. always-protocol c.args.config t c.requires.config valid
