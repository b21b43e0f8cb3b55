use Rattle.std.proofs.Common.{◌≡◌, ◌∷◌, ◌++◌, [], true, false, refl, sym, subst, ◌∙◌}
use Rattle.std.proofs.lemmas.Result.{on_ok_weaker}
use Rattle.ea_trace.specs.Taken.{HasTaken}
use Rattle.ea_types.specs.Readers.{is_others, own_word}
use Rattle.ea_types.proofs.Steps.{left-others, left-own}
use Rattle.ea_types.proofs.type_reader.TypeReader.take.Goals as goal

pub returns-then-is_others-clause-taken : goal.returns-then-is_others-clause-taken
returns-then-is_others-clause-taken c = on_ok_weaker c.take.result (λ taken n lines words h e.
    let t = c.args.self.now in
    let others : is_others t.letter (own_word c.args.word) ≡ true = sym c.is_others.ensures
    ∙ c.if-is_others.true in
    subst (λ l. HasTaken n (lines t.letter ++ l ∷ []) c.take.new.self)
    (sym (left-others t.letter (own_word c.args.word) words others))
    (taken n (lines t.letter) [] h refl)) c.take.ensures.taken

pub returns-clause-taken : goal.returns-clause-taken
returns-clause-taken c = on_ok_weaker c.take-2.result (λ taken n lines words h e.
    let t = c.args.self.now in
    let own : is_others t.letter (own_word c.args.word) ≡ false = sym c.is_others.ensures
    ∙ c.if-is_others.false in
    subst (λ l. HasTaken n (lines t.letter ++ l ∷ []) c.take-2.new.self)
    (sym (left-own t.letter (own_word c.args.word) words own))
    (taken n (lines t.letter) words h e)) c.take-2.ensures.taken
