use Rattle.std.proofs.Common.{◌≡◌, ◌++◌, ◌∷◌, [], ap, ◌∙◌, arith, length}
use Rattle.std.proofs.lemmas.List.{length_push, map-append}
use Rattle.ea_model.specs.Trace.{greatest_of}
use Rattle.ea_gen.proofs.Complete.{all_texts, greatest_more, is_generated, items_of}
use Rattle.ea_gen.proofs.Growing.{texts_more}
use Rattle.ea_gen.proofs.Valid.{valid_if_generated}
use Rattle.ea_gen.proofs.trace.make_trace.Goals as goal

pub loop-before-preserved : goal.loop-before-preserved
loop-before-preserved c =
    let made = c.in_ok-made.made in
    let texts = c.loop-before.texts.items in
    let pushed : items_of c.push.new.self.items ≡ items_of texts ++ made.text.items ∷ [] =
    ap items_of c.in_ok-push.ensures.ok ∙ map-append (λ t. t.items) texts (made.text ∷ []) in
    record {
      texts = rw pushed (texts_more c.args.seed c.args.schedulers c.args.count
          c.loop-before.before (items_of texts) c.loop-before.given.items made.text.items
          made.gives.items (omega arith) c.in_ok-made.ensures.text c.in_ok-made.ensures.gives
          ∙ c.loop-before.invariant.texts);
      greatest = c.max-greatest.ensures
          ∙ rw c.in_ok-push.ensures.ok (greatest_more texts made.text c.loop-before.greatest
          c.greatest_of.result c.loop-before.invariant.greatest
          (c.greatest_of.ensures ∙ ap greatest_of c.as_slice.ensures));
      length = omega (
        arith,
        ap length c.in_ok-push.ensures.ok,
        length_push texts made.text,
        c.loop-before.invariant.length,
      );
    }

pub returns-clause-trace : goal.returns-clause-trace
returns-clause-trace c = is_generated c.args.letter c.args.seed c.args.schedulers c.args.count
    c.loop-before.greatest c.loop-before.texts.room c.loop-before.texts.items c.new.result
    c.new.ensures (all_texts c.args.seed c.args.schedulers c.args.count c.loop-before.before
    (items_of c.loop-before.texts.items) c.loop-before.given.items (omega arith)
    c.loop-before.invariant.texts) c.loop-before.invariant.greatest

pub returns-clause-valid : goal.returns-clause-valid
returns-clause-valid c = valid_if_generated c.args.letter c.args.seed c.args.schedulers
    c.args.count _ c.requires.seed c.requires.count c.requires.room (returns-clause-trace c)
