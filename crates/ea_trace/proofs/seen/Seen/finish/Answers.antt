use Rattle.std.proofs.Common.{◌≡◌, map, Ok, Some, None, refl, sym, ap, ◌∙◌}
use Rattle.std.specs.List.{find}
use Rattle.std.specs.Option.{option_map}
use Rattle.ea_model.specs.Trace.{plain_mode}
use Rattle.ea_model.specs.declared.trace.Trace.{Trace}
use Rattle.ea_trace.specs.Language.{and_last, is_unaddressed, letter_after, mode_after, stage_after}
use Rattle.ea_trace.specs.Language.{takes_in, texts_after, with_turns}
use Rattle.ea_trace.specs.declared.stages.Stage.TheVariants as at
use Rattle.ea_trace.proofs.Reading.{trace_same}
use Rattle.ea_trace.proofs.seen.Seen.finish.Goals as goal

pub returns : goal.returns
returns c = λ n earlier k same.
    let stage : stage_after earlier ≡ at.Ended = sym k.stage ∙ c.in-Ended.is in
    let letter : letter_after earlier ≡ Some c.in-Some-Some.letter = sym k.letter
    ∙ c.in-Some-Some.is-0 in
    let mode : mode_after earlier ≡ Some (plain_mode c.in-Some-Some.mode) = sym k.mode
    ∙ ap (option_map plain_mode) c.in-Some-Some.is-1 in
    let found : find (is_unaddressed earlier) (takes_in earlier) ≡ None =
    sym (c.unaddressed-unaddressed.ensures n earlier k) ∙ c.in_default-unaddressed.is in
    let s = c.args.self in
    let last : and_last s.section (map (λ text. text.items) s.texts.items) s.text.items
    ≡ texts_after earlier = rw (k.section, k.texts, k.text) refl in
    let read : Trace = record {
      letter = c.in-Some-Some.letter;
      texts = c.in_ok-with_last.field-0;
      stops = s.stops;
      mode = c.with_turns.result;
      greatest = s.greatest;
    } in
    rw (stage, letter, mode, found) (ap Ok (trace_same c.in-Some-Some.letter
    (plain_mode c.in-Some-Some.mode) earlier read refl (c.in_ok-with_last.ensures ∙ last)
    (c.with_turns.ensures ∙ ap (λ ts. with_turns ts (plain_mode c.in-Some-Some.mode)) same)
    k.greatest k.stops))
