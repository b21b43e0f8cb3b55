use Rattle.std.proofs.Common.{Some, arith, length, map, ap, refl, ◌∙◌}
use Rattle.std.proofs.lemmas.List.{with_items_is}
use Rattle.std.proofs.lemmas.List.Elements.{All-same}
use Rattle.std.proofs.lemmas.Result.{on_ok_weaker}
use Rattle.ea_types.specs.Readers.{HasRead, and_line, letters_of}
use Rattle.ea_types.proofs.Steps.{reads-own}
use Rattle.ea_types.proofs.reader.Reading.take_own.Goals as goal

pub returns : goal.returns
returns c = on_ok_weaker c.push.result
    (λ pushed n number types whole words operation left h e fine own.
    let r = c.args.self.now in
    let new = with_items_is r.readers c.take_each.new.readers (omega (
      arith,
      c.take_each.auto.readers,
      ap length c.deref_mut.ensures.value,
      r.readers.ok.0,
    )) in
    reads-own n number types whole left r _ words c.args.word.now c.args.place operation h fine own
    (ap letters_of new ∙ c.take_each.ensures.letters ∙ ap letters_of c.deref_mut.ensures.value)
    (λ lines taken. All-same (HasRead n (and_line lines (Some c.args.word.now) operation)) _ _ new
    (c.in_ok-take_each.ensures.taken n lines operation
    (All-same (HasRead n lines) _ _ c.deref_mut.ensures.value taken) e)) refl
    (ap (λ ps. map (λ p. p.items) ps.items) c.push.ensures.parts) pushed c.push.ensures.begun)
    c.push.ensures.part
