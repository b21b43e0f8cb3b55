use Rattle.std.proofs.Common.{◌<◌, [], ◌∷◌, ◌++◌, length, map, sym, ap, ◌∙◌, take, arith}
use Rattle.std.proofs.lemmas.List.{map-append, take_more}
use Rattle.std.proofs.lemmas.List.Elements.{All-push, All-same}
use Rattle.ea_model.specs.declared.settings.Letter.TheVariants.{B}
use Rattle.ea_types.specs.Readers.{HasRead, begun_with}
use Rattle.ea_types.proofs.type_reader.readers_of.Goals as goal

pub loop-letter-preserved : goal.loop-letter-preserved
loop-letter-preserved c =
    let i = c.loop-letter.invariant in
    let t = c.in_ok-new.field-0 in
    let ts = c.loop-letter.readers.items in
    let xs = c.args.letters.now in
    let k = c.loop-letter.letter-index in
    let less : k < length xs = omega (arith, c.loop-letter-test.true) in
    record {
      letters = ap (map (λ r. r.letter)) c.in_ok-push.ensures.items
          ∙ map-append (λ r. r.letter) ts (t ∷ [])
          ∙ ap (λ ls. ls ++ t.letter ∷ []) i.letters
          ∙ ap (λ l. take k xs ++ l ∷ []) c.in_ok-new.ensures.letter
          ∙ sym (take_more xs k B less);
      taken = λ lines skipped size.
          let P = HasRead c.args.schedulers (begun_with lines) in
          All-same P _ _ c.in_ok-push.ensures.items (All-push P ts t (i.taken lines skipped size)
          (c.in_ok-new.ensures.taken lines skipped size));
    }
