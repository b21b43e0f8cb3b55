use Rattle.std.proofs.Common.{◌≡◌, ℕ, ◌+◌, ◌<◌, length, get_or}
use Rattle.ea_model.specs.declared.trace.Trace.{Trace}
use Rattle.ea_table.specs.declared.board.Board.{Board}
use Rattle.ea_types.specs.Tables.{AreFresh}
use Rattle.ea_types.proofs.threads.seat_all.Given as goal

abbrev pub invariant-loop-trace : goal.invariant-loop-trace
invariant-loop-trace l = record {
  count : length l.boards.items ≡ l.trace-index;
  config : (k : ℕ) (b : Board) → k < l.trace-index
      → (get_or l.boards.items k b).table.shared.key.config ≡ l.fn.config;
  trace : (k : ℕ) (b : Board) (t : Trace) → k < l.trace-index
      → (get_or l.boards.items k b).table.shared.key.trace.now ≡ get_or l.fn.traces k t;
  many : length l.workers.items ≡ l.fn.config.schedulers;
  fresh : (j : ℕ) (d : _) → j < l.fn.config.schedulers
      → AreFresh l.boards.items (j + 1) (get_or l.workers.items j d).items;
}
