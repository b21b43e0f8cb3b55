use Rattle.std.proofs.Common.{◌≡◌, ◌∷◌, true, false, map, sym, ap, ◌∙◌}
use Rattle.std.proofs.lemmas.Result.{on_ok_weaker}
use Rattle.ea_model.specs.Words.{words}
use Rattle.ea_trace.specs.Between.{earlier_of}
use Rattle.ea_trace.specs.Lines.{line_of_words}
use Rattle.ea_contents.specs.Language.{blanked, is_access}
use Rattle.ea_contents.proofs.Noting.{found-other}
use Rattle.ea_contents.proofs.Taking.{blanked-access, blanked-other, reads-more, trace-of}
use Rattle.ea_contents.proofs.reader.take.Goals as goal

pub returns-then-not-is_access-clause-read : goal.returns-then-not-is_access-clause-read
returns-then-not-is_access-clause-read c = on_ok_weaker c.take.result (λ taken. λ n all left r.
    let l = words c.args.text.now in
    let a = c.args.accesses.now in
    let e : is_access l ≡ false = sym c.is_access.ensures ∙ c.if-not-is_access.true in
    reads-more n all l left c.args.trace.now a r c.take.new.self a
    (taken n r.taken (blanked l) r.has
    (c.read_line.ensures.line ∙ ap line_of_words (sym (blanked-other l e))))
    (λ t ok knows. found-other n all (earlier_of r.taken) l left a a.misplaced e knows))
    c.take.ensures.taken

pub returns-clause-read : goal.returns-clause-read
returns-clause-read c = on_ok_weaker c.take-2.result (λ taken. λ n all left r.
    let l = words c.args.text.now in
    let trace = c.args.trace.now in
    let a = c.args.accesses.now in
    let e : is_access l ≡ true = sym c.is_access.ensures ∙ c.if-not-is_access.false in
    reads-more n all l left trace a r c.take-2.new.self c.note.new.self
    (taken n r.taken (blanked l) r.has (ap line_of_words (sym (blanked-access l e))))
    (λ t ok knows. c.in_ok-note.ensures n r.taken (map blanked (l ∷ left)) t r.has
    (trace-of n all l left trace a r t ok) all left knows)) c.take-2.ensures.taken
