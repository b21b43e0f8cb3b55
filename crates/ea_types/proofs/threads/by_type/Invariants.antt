use Rattle.std.proofs.Common.{◌≡◌, ℕ, ◌<◌, ◌++◌, length, get_or}
use Rattle.ea_table.specs.declared.board.Board.{Board}
use Rattle.ea_types.specs.Tables.{RestAt}
use Rattle.ea_types.proofs.threads.by_type.Given as goal

abbrev pub invariant-loop-row : goal.invariant-loop-row
invariant-loop-row l = record {
  all : l.yielded ++ l.row-iterator.rest.items ≡ l.fn.rows.items;
  many : length l.columns.items ≡ length l.fn.boards;
  rest : (k : ℕ) (b : Board) (d : _) → k < length l.fn.boards
      → RestAt (get_or l.fn.boards k b) (length l.yielded) (get_or l.columns.items k d).items;
}
