use Rattle.std.proofs.Common.{◌+◌, [], ◌∷◌, length, get_or, sym, ap, ◌∙◌, subst, arith}
use Rattle.std.proofs.lemmas.List.{append_assoc, length-append}
use Rattle.ea_table.specs.Working.{IsAtWork, IsThrough}
use Rattle.ea_table.specs.Boards.{IsAtRestAt, IsAtWorkAt}
use Rattle.ea_types.proofs.Growing.{between, within, yielded, yields}
use Rattle.ea_types.proofs.Tabled.{each-more}
use Rattle.ea_types.proofs.at_work.finish_all.Goals as goal

pub loop-one-init : goal.loop-one-init
loop-one-init c = record {
  all = c.into_iter-one-iterator.ensures.into_iter_gives.0;
  many = ap length c.new-finished.ensures.items;
  rest = λ bs i at k b f less. absurd (omega (arith, less));
}

pub finish-requires-clause-works : goal.finish-requires-clause-works
finish-requires-clause-works c =
    let l = c.loop-one in
    let one = c.in-Some.one in
    let rest = c.next.new.self.rest.items in
    let all = yields l.yielded l.one-iterator.rest.items one rest c.args.working.items
    c.in-Some.ensures.steps.0 l.invariant.all in
    subst IsAtWork (between l.yielded one rest c.args.working.items all one)
    (c.requires.works (length l.yielded) one
    (within l.yielded one rest c.args.working.items all))

pub finish-requires-clause-through : goal.finish-requires-clause-through
finish-requires-clause-through c = λ kept.
    let l = c.loop-one in
    let one = c.in-Some.one in
    let rest = c.next.new.self.rest.items in
    let all = yields l.yielded l.one-iterator.rest.items one rest c.args.working.items
    c.in-Some.ensures.steps.0 l.invariant.all in
    subst IsThrough (between l.yielded one rest c.args.working.items all one)
    (c.requires.through (length l.yielded) one
    (within l.yielded one rest c.args.working.items all))

pub loop-one-preserved : goal.loop-one-preserved
loop-one-preserved c =
    let l = c.loop-one in
    let i = l.invariant in
    let one = c.in-Some.one in
    let rest = c.next.new.self.rest.items in
    let ws = c.args.working.items in
    let n = length l.yielded in
    let new = c.finish.result in
    let all = yields l.yielded l.one-iterator.rest.items one rest ws c.in-Some.ensures.steps.0
    i.all in
    record {
      all = append_assoc l.yielded (one ∷ []) rest ∙ all;
      many = ap length c.in_ok-push.ensures.items ∙ length-append l.finished.items (new ∷ [])
          ∙ ap (λ k. k + 1) i.many ∙ sym (length-append l.yielded (one ∷ []));
      rest = λ bs j at k b f less.
          each-more (IsAtRestAt j) bs n l.finished.items i.many (i.rest bs j at) new
          (λ a. c.finish.ensures.rest (get_or bs n a).table.shared.key.config
          (get_or bs n a).table.shared.key.trace.now (get_or bs n a).table.shared.table_id j
          (subst (IsAtWorkAt j (get_or bs n a)) (between l.yielded one rest ws all one)
          (at.each n a one (omega (arith, within l.yielded one rest ws all, at.count)))))
          c.push.new.self.items c.in_ok-push.ensures.items k b f
          (omega (arith, less, length-append l.yielded (one ∷ [])));
    }

pub returns : goal.returns
returns c = λ bs j at.
    let l = c.loop-one in
    let i = l.invariant in
    let whole = yielded l.yielded l.one-iterator.rest.items c.args.working.items
    (sym l.one-iterator.rest.ok.0 ∙ c.in-None.ensures.steps.0) i.all in
    record {
      count = i.many ∙ ap length whole ∙ at.count;
      each = λ k b f less. i.rest bs j at k b f (omega (arith, less, ap length whole, at.count));
    }
