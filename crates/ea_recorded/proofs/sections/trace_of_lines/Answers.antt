use Rattle.std.proofs.Common.{◌≡◌, List, [], ◌∷◌, ◌++◌, refl, subst, arith}
use Rattle.std.proofs.lemmas.List.{append_assoc}
use Rattle.ea_trace.specs.Lines.{type_line}
use Rattle.ea_recorded.specs.Language.{Placed, end_line, schedule_line, sections, trace_lines}
use Rattle.ea_recorded.specs.Language.{unplaced}
use Rattle.ea_recorded.specs.Told.{AreTold, HasLines, ToldLines}
use Rattle.ea_recorded.proofs.Feeding.{all-texts, all-unstopped, front-more, type-said}
use Rattle.ea_recorded.proofs.sections.trace_of_lines.Goals as goal

pub take-requires-clause-room : goal.take-requires-clause-room
take-requires-clause-room c = omega (arith, c.in_ok-trace.ensures.taken.count)

pub loop-before-init : goal.loop-before-init
loop-before-init c = record {
  most = omega arith;
  count = omega (arith, c.in_ok-take.ensures.count, c.in_ok-trace.ensures.taken.count);
  taken = λ told are. c.in_ok-take.ensures.taken c.args.schedulers [] (type_line c.args.letter)
      c.in_ok-trace.ensures (type-said c.args.letter);
}

pub take_section-requires-clause-told : goal.take_section-requires-clause-told
take_section-requires-clause-told c = c.requires.told

pub take_section-requires-clause-scheduler : goal.take_section-requires-clause-scheduler
take_section-requires-clause-scheduler c =
    omega (arith, c.requires.schedulers, c.loop-before-test.true)

pub take_section-requires-clause-room : goal.take_section-requires-clause-room
take_section-requires-clause-room c = omega (
  arith,
  c.loop-before.invariant.count,
  c.requires.few,
  c.requires.schedulers,
  c.loop-before-test.true,
)

pub loop-before-preserved : goal.loop-before-preserved
loop-before-preserved c = record {
  most = omega (arith, c.loop-before-test.true);
  count = omega (
    arith,
    c.in_ok-take_section.ensures.count,
    c.loop-before.invariant.count,
    c.requires.few,
  );
  taken = λ told are.
      let n = c.args.schedulers in
      let k = c.loop-before.before in
      subst (λ ls. HasLines n ls c.take_section.new.self) (front-more c.args.letter k told)
      (c.in_ok-take_section.ensures.taken n
      (unplaced (type_line c.args.letter) ∷ sections k 1 told) told
      (c.loop-before.invariant.taken told are) are);
}

pub take-requires-2-clause-room : goal.take-requires-2-clause-room
take-requires-2-clause-room c = omega (
  arith,
  c.loop-before.invariant.count,
  c.loop-before.invariant.most,
  c.requires.schedulers,
)

pub take-requires-3-clause-room : goal.take-requires-3-clause-room
take-requires-3-clause-room c = omega (
  arith,
  c.in_ok-take-2.ensures.count,
  c.loop-before.invariant.count,
  c.loop-before.invariant.most,
  c.requires.schedulers,
)

-- all lines were taken
all-taken : (c : goal.After-finish) (told : ToldLines) → AreTold told c.args.lines.now
    → HasLines c.args.schedulers (trace_lines c.args.schedulers c.args.letter told)
    c.take-3.new.self
all-taken c told are =
    let n = c.args.schedulers in
    let k = c.loop-before.before in
    let same : k ≡ n = omega (arith, c.loop-before.invariant.most, c.loop-before-test.false) in
    let front : List Placed = unplaced (type_line c.args.letter) ∷ sections k 1 told in
    subst (λ j. HasLines n ((unplaced (type_line c.args.letter) ∷ sections j 1 told)
    ++ unplaced schedule_line ∷ unplaced end_line ∷ []) c.take-3.new.self) same
    (subst (λ ls. HasLines n ls c.take-3.new.self)
    (append_assoc front (unplaced schedule_line ∷ []) (unplaced end_line ∷ []))
    (c.in_ok-take-3.ensures.taken n (front ++ unplaced schedule_line ∷ []) end_line
    (c.in_ok-take-2.ensures.taken n front schedule_line (c.loop-before.invariant.taken told are)
    refl) refl))

pub returns-clause-given : goal.returns-clause-given
returns-clause-given c = λ told are.
    c.finish.ensures.given c.args.schedulers (trace_lines c.args.schedulers c.args.letter told)
    (all-taken c told are)

pub returns-clause-valid : goal.returns-clause-valid
returns-clause-valid c =
    let (told, are) = c.requires.told in
    c.finish.ensures.valid c.args.schedulers (trace_lines c.args.schedulers c.args.letter told)
    (all-taken c told are)

pub returns-clause-unstopped : goal.returns-clause-unstopped
returns-clause-unstopped c =
    let (told, are) = c.requires.told in
    all-unstopped c.args.schedulers c.args.letter told are.said c.requires.schedulers
    c.finish.result (returns-clause-given c told are)

pub returns-clause-texts : goal.returns-clause-texts
returns-clause-texts c =
    let (told, are) = c.requires.told in
    all-texts c.args.schedulers c.args.letter told are.said c.requires.schedulers
    c.finish.result (returns-clause-given c told are) (returns-clause-valid c)
