use Rattle.std.proofs.Common.{◌≡◌, ◌+◌, take, sym, ap, subst, ◌∙◌, arith}
use Rattle.std.proofs.lemmas.List.{take_all}
use Rattle.ea_trace.specs.Lines.{type_line}
use Rattle.ea_trace.specs.Taken.{HasTaken}
use Rattle.ea_types.proofs.Beginning.{skipped-more, type-said}
use Rattle.ea_types.proofs.type_reader.TypeReader.new.Goals as goal

pub loop-count-preserved : goal.loop-count-preserved
loop-count-preserved c =
    let i = c.loop-count.invariant in
    let k = c.loop-count._count in
    let n = c.args.schedulers in
    record {
      count = c.in_ok-take.ensures.count ∙ ap (λ j. j + 1) i.count;
      taken = λ lines skipped size. skipped-more n lines k c.loop-count.reader c.take.new.self
          skipped (omega (arith, size, c.loop-count-test.true)) (i.taken lines skipped size)
          (λ words h e. c.in_ok-take.ensures.taken n (take k lines) words h e);
    }

pub returns-clause-taken : goal.returns-clause-taken
returns-clause-taken c = λ lines skipped size.
    let i = c.loop-count.invariant in
    let n = c.args.schedulers in
    let all : take c.loop-count._count lines ≡ lines = take_all c.loop-count._count lines
    (omega (arith, size, c.loop-count-test.false)) in
    c.in_ok-take-2.ensures.taken n lines (type_line c.args.letter)
    (subst (λ ls. HasTaken n ls c.loop-count.reader) all (i.taken lines skipped size))
    (sym (type-said c.args.letter))
