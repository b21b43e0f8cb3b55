use Rattle.std.proofs.Common.{[], ◌∷◌, ◌++◌, length, sym, ap, subst}
use Rattle.std.proofs.Common.{◌∙◌, arith}
use Rattle.std.proofs.lemmas.List.{append-nil, append_assoc, length-map, take_all}
use Rattle.ea_recorded.specs.Language.{Told, own_of, section_line, unplaced}
use Rattle.ea_recorded.specs.Told.{HasLines}
use Rattle.ea_recorded.proofs.Feeding.{at_place, own-is, own-more, own-range, own-said, own_upto}
use Rattle.ea_recorded.proofs.Feeding.{section-said}
use Rattle.ea_recorded.proofs.sections.TraceLines.take_section.Goals as goal

pub loop-line-init : goal.loop-line-init
loop-line-init c = record {
  count = omega arith;
  most = omega arith;
  taken = λ n ls told h are. subst (λ xs. HasLines n xs c.take.new.self) (sym (append-nil ls)) h;
}

pub take_own-requires-clause-range : goal.take_own-requires-clause-range
take_own-requires-clause-range c =
    let (told, are) = c.requires.told in
    own-range told c.args.lines.now are c.loop-line.line-index c.loop-line-test.true _

pub take_own-requires-clause-room : goal.take_own-requires-clause-room
take_own-requires-clause-room c = omega (
  arith,
  c.loop-line.invariant.count,
  c.in_ok-take.ensures.count,
  c.requires.room,
  c.loop-line-test.true,
)

pub loop-line-preserved : goal.loop-line-preserved
loop-line-preserved c = record {
  count = omega (arith, c.in_ok-take_own.ensures.count, c.loop-line.invariant.count);
  most = omega (arith, c.loop-line-test.true);
  taken = λ n ls told h are.
      let me = c.args.me in
      let k = c.loop-line.line-index in
      let lines = c.args.lines.now in
      let below = c.loop-line-test.true in
      let t = at_place told lines are k below in
      subst (λ xs. HasLines n xs c.take_own.new.self)
      (append_assoc ls (own_upto me k told) (own_of me (t ∷ []))
      ∙ ap (λ xs. ls ++ xs) (sym (own-more told lines are k below me)))
      (c.in_ok-take_own.ensures.taken n (ls ++ own_upto me k told) t
      (c.loop-line.invariant.taken n ls told h are)
      (own-is told lines are k below _) (own-said told lines are k below));
}

pub returns-clause-count : goal.returns-clause-count
returns-clause-count c = omega (
  arith,
  c.loop-line.invariant.count,
  c.in_ok-take.ensures.count,
  c.loop-line.invariant.most,
)

pub returns-clause-taken : goal.returns-clause-taken
returns-clause-taken c = λ n ls told h are.
    let me = c.args.me in
    let k = c.loop-line.line-index in
    let head = unplaced (section_line me) in
    let begun = c.in_ok-take.ensures.taken n ls (section_line me) h
    (section-said me c.requires.scheduler) in
    let all = c.loop-line.invariant.taken n (ls ++ head ∷ []) told begun are in
    subst (λ ts. HasLines n (ls ++ head ∷ own_of me ts) c.loop-line.self)
    (take_all k told (omega (
      arith,
      c.loop-line-test.false,
      ap length are.own,
      length-map told (λ (t : Told). t.own),
    )))
    (subst (λ xs. HasLines n xs c.loop-line.self)
    (append_assoc ls (head ∷ []) (own_upto me k told)) all)
