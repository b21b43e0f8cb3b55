use Rattle.std.proofs.Common.{◌≡◌, ◌+◌, ◌<◌, [], ◌∷◌, length, get_or, refl, sym, ap, ◌∙◌, subst}
use Rattle.std.proofs.Common.{arith}
use Rattle.std.proofs.lemmas.List.{append_assoc, get_or_default, get_or-set_other, length-append}
use Rattle.std.proofs.lemmas.List.{length-set}
use Rattle.ea_table.specs.declared.board.Board.{Board}
use Rattle.ea_table.specs.Threads.{IsOfRun}
use Rattle.ea_types.specs.Tables.{RestAt}
use Rattle.ea_types.proofs.Seats.{rest-here}
use Rattle.ea_types.proofs.Growing.{all-zip, between, one-more, within, yielded, yields}
use Rattle.ea_types.proofs.threads.gather_all.Goals as goal

pub loop-board-init : goal.loop-board-init
loop-board-init c = record {
  all = c.into_iter-board-iterator.ensures.into_iter_gives.0;
  place = refl;
  count = refl;
  later = λ k d from. refl;
  many = ap length c.new-outcomes.ensures;
  printed = λ k t o less. absurd (omega (arith, less));
}

pub gather_run-requires-clause-all : goal.gather_run-requires-clause-all
gather_run-requires-clause-all c =
    let l = c.loop-board in
    let board = c.in-Some.board in
    let rest = c.next.new.self.rest.items in
    let bs = c.args.boards.items in
    let n = c.args.config.schedulers in
    let m = c.index_mut.result.now in
    let own = c.replace-own.result in
    let all = yields l.yielded l.board-iterator.rest.items board rest bs
    c.in-Some.ensures.steps.0 l.invariant.all in
    let here : get_or bs l.place board ≡ board =
    ap (λ k. get_or bs k board) (sym l.invariant.place)
    ∙ between l.yielded board rest bs all board in
    let less : l.place < length bs =
    omega (arith, within l.yielded board rest bs all, l.invariant.place) in
    let same : own ≡ get_or c.args.finished.items l.place m =
    c.replace-own.ensures.value ∙ c.index_mut.ensures.value
    ∙ l.invariant.later l.place m (omega arith) in
    let at : RestAt board n own.items =
    subst (λ b. RestAt b n own.items) here
    (subst (λ v. RestAt (get_or bs l.place board) n v.items) (sym same)
    (c.requires.rest l.place board m less)) in
    at.count

pub gather_run-requires-clause-each : goal.gather_run-requires-clause-each
gather_run-requires-clause-each c =
    let l = c.loop-board in
    let board = c.in-Some.board in
    let rest = c.next.new.self.rest.items in
    let bs = c.args.boards.items in
    let n = c.args.config.schedulers in
    let m = c.index_mut.result.now in
    let own = c.replace-own.result in
    let all = yields l.yielded l.board-iterator.rest.items board rest bs
    c.in-Some.ensures.steps.0 l.invariant.all in
    let here : get_or bs l.place board ≡ board =
    ap (λ k. get_or bs k board) (sym l.invariant.place)
    ∙ between l.yielded board rest bs all board in
    let less : l.place < length bs =
    omega (arith, within l.yielded board rest bs all, l.invariant.place) in
    let same : own ≡ get_or c.args.finished.items l.place m =
    c.replace-own.ensures.value ∙ c.index_mut.ensures.value
    ∙ l.invariant.later l.place m (omega arith) in
    let at : RestAt board n own.items =
    subst (λ b. RestAt b n own.items) here
    (subst (λ v. RestAt (get_or bs l.place board) n v.items) (sym same)
    (c.requires.rest l.place board m less)) in
    let t = c.index-traces-place.result in
    let boards = c.requires.boards in
    let there : l.place < length c.args.traces.now = omega (arith, less, boards.count) in
    rest-here c.args.config t board n own.items
    (subst (λ (b : Board). b.table.shared.key.config ≡ c.args.config) here
    (boards.config l.place board there))
    (subst (λ (b : Board). b.table.shared.key.trace.now ≡ t) here
    (boards.trace l.place board t there ∙ sym c.index-traces-place.is)) at

pub loop-board-preserved : goal.loop-board-preserved
loop-board-preserved c =
    let l = c.loop-board in
    let i = l.invariant in
    let board = c.in-Some.board in
    let rest = c.next.new.self.rest.items in
    let bs = c.args.boards.items in
    let os = l.outcomes.items in
    let o = c.in_ok-gather_run.field-0 in
    let all = yields l.yielded l.board-iterator.rest.items board rest bs
    c.in-Some.ensures.steps.0 i.all in
    let less : l.place < length c.args.traces.now =
    omega (arith, within l.yielded board rest bs all, i.place, c.requires.boards.count) in
    record {
      all = append_assoc l.yielded (board ∷ []) rest ∙ all;
      place = length-append l.yielded (board ∷ []) ∙ ap (λ n. n + 1) i.place;
      count = length-set l.finished.items l.place c.replace-own.new.dest ∙ i.count;
      later = λ k d from.
          get_or-set_other l.finished.items l.place k c.replace-own.new.dest d
          (λ same. omega (arith, from, same))
          ∙ i.later k d (omega (arith, from));
      many = ap length c.in_ok-push.ensures.ok ∙ length-append os (o ∷ [])
          ∙ ap (λ n. n + 1) i.many;
      printed = λ k t x within'.
          one-more (λ j y. IsOfRun c.args.config (get_or c.args.traces.now j t) y) l.place os i.many
          (λ j y below. i.printed j t y below) o
          (subst (λ s. IsOfRun c.args.config s o) (get_or_default c.args.traces.now l.place
          c.index-traces-place.result t less)
          (subst (λ s. IsOfRun c.args.config s o) c.index-traces-place.is c.in_ok-gather_run.ensures))
          c.push.new.self.items c.in_ok-push.ensures.ok k x within';
    }

pub returns : goal.returns
returns c =
    let l = c.loop-board in
    let i = l.invariant in
    let whole = yielded l.yielded l.board-iterator.rest.items c.args.boards.items
    (sym l.board-iterator.rest.ok.0 ∙ c.in-None.ensures.steps.0) i.all in
    let count : length c.args.traces.now ≡ l.place =
    sym c.requires.boards.count ∙ sym (ap length whole) ∙ i.place in
    all-zip (IsOfRun c.args.config) c.args.traces.now l.outcomes.items (count ∙ sym i.many)
    (λ k t o less. i.printed k t o (omega (arith, less, count)))
