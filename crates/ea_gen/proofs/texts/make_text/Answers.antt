use Rattle.std.proofs.Common.{◌+◌, sym, ap, ◌∙◌, ◌++◌, arith, ◌∷◌, []}
use Rattle.ea_gen.specs.Generated.{given_to}
use Rattle.ea_gen.proofs.Growing.{given_to-append, text_more}
use Rattle.ea_gen.proofs.texts.make_text.Goals as goal

pub loop-preserved : goal.loop-preserved
loop-preserved c =
    let to = c.args.section.scheduler + 1 in
    let op = c.in_ok-op.op in
    record {
      text = rw c.in_ok-push.ensures.ok (text_more c.loop.text.items op
          c.args.section.count c.loop.counter _ _ (omega arith) c.in_ok-op.ensures.op
          c.in_ok-op.ensures.after ∙ c.loop.invariant.text);
      gives = c.in_ok-note_give.ensures
          ∙ ap (λ ks. ks ++ given_to to (op ∷ [])) c.loop.invariant.gives
          ∙ sym (given_to-append to c.loop.text.items (op ∷ []))
          ∙ ap (given_to to) (sym c.in_ok-push.ensures.ok);
      name = omega (arith, ap (λ m. m.name) c.in_ok-op.ensures.after, c.loop.invariant.name);
    }
