use Rattle.std.proofs.Common.{◌<◌, length, ◌∙◌, arith}
use Rattle.std.proofs.lemmas.List.Elements.{All-from_all_within, AllWithin-more_set, AllWithin-upto}
use Rattle.ea_types.specs.Readers.{HasRead, HasRoom, and_line, own_word}
use Rattle.ea_types.proofs.Each.{at-next, kept-after, map-kept}
use Rattle.ea_types.proofs.type_reader.take_each.Goals as goal

pub returns-in_err-take-clause-letters : goal.returns-in_err-take-clause-letters
returns-in_err-take-clause-letters c = map-kept (λ t. t.letter) c.loop-reader.readers
    c.loop-reader.reader-index c.take.new.self c.reader-item.result c.take.ensures.letter
    ∙ c.loop-reader.invariant.letters

pub loop-reader-preserved : goal.loop-reader-preserved
loop-reader-preserved c =
    let i = c.loop-reader.invariant in
    let ts = c.loop-reader.readers in
    let k = c.loop-reader.reader-index in
    let v = c.take.new.self in
    let d = c.reader-item.result in
    let less : k < length ts = omega (arith, c.loop-reader-test.true, c.loop-reader.auto.readers) in
    record {
      letters = map-kept (λ t. t.letter) ts k v d c.take.ensures.letter
          ∙ i.letters;
      room = kept-after HasRoom ts k v i.room;
      taken = λ n lines words h e.
          let known = i.taken n lines words h e in
          let own = at-next (HasRead n lines) ts k d less known.1 in (
            AllWithin-more_set ts k v less (HasRead n (and_line lines (own_word c.args.word) words))
                known.0 (c.in_ok-take.ensures.taken n lines words own e),
            kept-after (HasRead n lines) ts k v known.1,
          );
    }

pub returns-clause-taken : goal.returns-clause-taken
returns-clause-taken c = λ n lines words h e.
    let P = HasRead n (and_line lines (own_word c.args.word) words) in
    let ts = c.loop-reader.readers in
    All-from_all_within P ts (AllWithin-upto P ts 0 c.loop-reader.reader-index (length ts)
    (omega (arith, c.loop-reader-test.false, c.loop-reader.auto.readers))
    (c.loop-reader.invariant.taken n lines words h e).0)
