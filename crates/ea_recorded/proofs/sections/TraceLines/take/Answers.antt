use Rattle.std.proofs.Common.{[], ◌∷◌, ◌++◌, sym, ap, subst, ◌∙◌}
use Rattle.std.proofs.lemmas.List.{map-append}
use Rattle.ea_trace.specs.Taken.{HasTaken}
use Rattle.ea_recorded.specs.Language.{Placed, words_of}
use Rattle.ea_recorded.proofs.sections.TraceLines.take.Goals as goal

pub returns-clause-taken : goal.returns-clause-taken
returns-clause-taken c = λ n ls ws h same.
    let p : Placed = record { number = c.args.number; words = ws } in
    record {
      taken = subst (λ ws. HasTaken n ws c.take.new.self)
          (sym (map-append (λ (p : Placed). p.words) ls (p ∷ [])))
          (c.in_ok-take.ensures.taken n (words_of ls) ws h.taken same);
      numbers = c.in_ok-push.ensures.items ∙ ap (λ xs. xs ++ c.args.number ∷ []) h.numbers
          ∙ sym (map-append (λ (p : Placed). p.number) ls (p ∷ []));
    }
