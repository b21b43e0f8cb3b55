use Rattle.std.proofs.Common.{subst, sym, arith}
use mathlib.Core.Option.{none}
use Rattle.atomic_table.specs.Table.{step}
use Rattle.ea_machine.specs.Rows.{Got, TakeTry}
use Rattle.ea_table.specs.Ruling.{DidRow}
use Rattle.ea_table.proofs.Seating.{tries}
use Rattle.ea_table.proofs.Told.{spot-row}
use Rattle.ea_table.proofs.pass.Pass.take_try.Goals as goal

pub swap-found-requires : goal.swap-found-requires
swap-found-requires c =
    let b = c.args.board.now in
    let s = c.args.self.now in
    let at = c.requires.seated in (
      at.table,
      omega (arith, b.words, c.name_place-place.ensures, c.requires.name),
      tries b s s.seat.me.1 at c.args.me c.requires.scheduler
          (step b.table.shared.table_id.slots c.name_place-place.result 0 0 none) c.args.name
          c.requires.name c.requires.wanted c.name_place-place.result c.name_place-place.ensures,
    )

pub returns-clause-row : goal.returns-clause-row
returns-clause-row c =
    let m = c.args.self.now.seat.me in
    let n = c.swap-found.new.seat.me in
    subst (λ o. DidRow c.args.me (TakeTry c.args.name) (Got o) m.0 n.0) (sym c.block_spot.ensures)
    (spot-row m n c.args.me c.swap-found.result c.args.name c.swap-found.ensures.2
    c.requires.wanted c.decode_node.result
    (c.decode_node.ensures.coded, c.decode_node.ensures.only))
