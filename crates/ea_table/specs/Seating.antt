-- Seats, passes and their table: when a pass is at its board.
use Rattle.std.specs.Prelude.{◌≡◌}
use Rattle.atomic_table.specs.Seated.{TableId}
use Rattle.ea_table.specs.declared.board.Board.{Board}
use Rattle.ea_table.specs.declared.pass.Pass.{Pass}
use Rattle.ea_table.specs.declared.views.View.{View}

-- a seat with this view is one of that table, and its run has the schedulers and the greatest name
-- of the board
pub record IsAt (b : Board) (id : TableId) (v : View) : Type 0 where
  pub table : id ≡ b.table.shared.table_id
  pub schedulers : v.config.schedulers ≡ b.schedulers
  pub greatest : v.trace.greatest ≡ b.greatest

-- the seat of the pass is one
abbrev pub IsSeatedAt : Board → Pass → Type 0
IsSeatedAt b p = IsAt b p.seat.table_id p.seat.me.0
