use Rattle.std.proofs.Common.{◌≡◌, ◌+◌, ◌<◌, [], ◌∷◌, ◌++◌, drop, length, get_or, take, sym, ap}
use Rattle.std.proofs.Common.{◌∙◌, subst, arith}
use Rattle.std.proofs.lemmas.List.{get_or_default, length-append}
use Rattle.ea_table.specs.declared.board.Board.{Board}
use Rattle.ea_table.specs.Threads.{IsFresh}
use Rattle.ea_types.proofs.Growing.{item-at, one-more, written}
use Rattle.ea_types.proofs.Seats.{at-table, fresh-more, fresh-none}
use Rattle.ea_types.proofs.threads.seat_all.Goals as goal

pub loop-trace-init : goal.loop-trace-init
loop-trace-init c = record {
  count = ap length c.new-boards.ensures.items;
  config = λ k b less. absurd (omega (arith, less));
  trace = λ k b t less. absurd (omega (arith, less));
  many = c.in_ok-workers.ensures.count;
  fresh = λ j d less. fresh-none (j + 1) _ _ c.new-boards.ensures.items
      (c.in_ok-workers.ensures.none j d less);
}

pub loop-trace-preserved : goal.loop-trace-preserved
loop-trace-preserved c =
    let l = c.loop-trace in
    let i = l.invariant in
    let z = c.args.config in
    let ts = c.args.traces.now in
    let n = l.trace-index in
    let t' = c.trace-item.result in
    let board = c.in_ok-board.field-0.board in
    let e = c.in_ok-board.ensures in
    let row = c.in_ok-row.row.items in
    let cols = l.workers in
    let new = c.add_row.new.columns in
    let push = c.in_ok-push.ensures.items in
    let less : n < length ts = c.loop-trace-test.true in
    let count : length new ≡ length cols.items =
    c.in_ok-add_row.ensures.count ∙ ap length c.deref_mut.ensures.value in
    let back = written cols.len new cols.items (count ∙ sym cols.ok.0) in
    record {
      count = ap length push ∙ length-append l.boards.items (board ∷ []) ∙ ap (λ k. k + 1) i.count;
      config = one-more (λ k (b : Board). b.table.shared.key.config ≡ z) n l.boards.items i.count i.config
          board e.config c.push.new.self.items push;
      trace = λ k b t within'. one-more (λ j (x : Board). x.table.shared.key.trace.now ≡ get_or ts j t) n
          l.boards.items i.count (λ j x below. i.trace j x t below) board
          (e.trace ∙ c.trace-item.is ∙ get_or_default ts n t' t less) c.push.new.self.items push k
          b within';
      many = ap length back ∙ count ∙ i.many;
      fresh = λ j d below.
          let there : j < length row = omega (arith, below, c.in_ok-row.ensures.all) in
          let item = item-at row j there in
          let was : j < length c.deref_mut.result.now =
          omega (arith, below, i.many, ap length c.deref_mut.ensures.value) in
          fresh-more l.boards.items (j + 1) (get_or cols.items j d).items (i.fresh j d below)
          board item.0
          (at-table z t' (j + 1) board item.0 e.config e.trace (subst
          (IsFresh z t' board.table.shared.table_id (j + 1)) (item.1 item.0)
          (c.in_ok-row.ensures.each board.table.shared.table_id e.each j item.0 below)))
          c.push.new.self.items push
          (get_or (take cols.len (new ++ drop (length new) cols.items)) j d).items
          (ap (λ xs. (get_or xs j d).items) back
          ∙ c.in_ok-add_row.ensures.each j d item.0 was
          ∙ ap (λ xs. (get_or xs j d).items ++ get_or row j item.0 ∷ []) c.deref_mut.ensures.value
          ∙ ap (λ w. (get_or cols.items j d).items ++ w ∷ []) (item.1 item.0));
    }
