use Rattle.std.proofs.Common.{◌≡◌, ◌+◌, Some, false, true, is_some, sym, ap, ◌∙◌}
use Rattle.std.proofs.lemmas.Result.{on_ok_weaker}
use Rattle.ea_model.specs.Words.{words}
use Rattle.ea_trace.specs.Between.{earlier_of, in_section}
use Rattle.ea_contents.proofs.Noting.{count-earlier, finds, finds-noted, from-finds}
use Rattle.ea_contents.proofs.Noting.{misplaced-first, none-so, outside}
use Rattle.ea_contents.proofs.accesses.Accesses.note.Goals as goal

pub returns-then-not-in_section : goal.returns-then-not-in_section
returns-then-not-in_section c = λ n lines later t h ok all left knows.
    let a = c.args.self.now in
    let l = words c.args.text.now in
    let earlier = earlier_of lines in
    let none : is_some a.misplaced ≡ false = sym c.is_some.ensures ∙ c.if-is_some.false in
    let out : in_section earlier ≡ false = sym (c.in_section.ensures n lines later t h ok)
    ∙ c.if-not-in_section.true in
    misplaced-first n all earlier l left a (outside earlier l c.requires.access out)
    (finds n all earlier _ a a.misplaced none knows)
    ∙ ap (λ k. Some (k + 1)) (count-earlier lines ∙ sym h.count
    ∙ sym c.len-then-not-in_section.ensures)

pub returns : goal.returns
returns c = on_ok_weaker c.place.result (λ noted. λ n lines later t h ok all left knows.
    let a = c.args.self.now in
    let b = c.place.new.self in
    let l = words c.args.text.now in
    let earlier = earlier_of lines in
    let none : is_some a.misplaced ≡ false = sym c.is_some.ensures ∙ c.if-is_some.false in
    let inside : in_section earlier ≡ true = sym (c.in_section.ensures n lines later t h ok)
    ∙ c.if-not-in_section.false in
    let placed = noted n lines later t h ok inside in
    from-finds n all _ left b b.misplaced (placed.misplaced ∙ none-so a.misplaced none)
    (finds-noted n all earlier l left c.in-Some.access a b c.requires.access
    (sym c.access_in.ensures.exact ∙ c.in-Some.is) inside placed
    (finds n all earlier _ a a.misplaced none knows))) c.place.ensures
