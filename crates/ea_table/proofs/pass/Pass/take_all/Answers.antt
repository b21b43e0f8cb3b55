use Rattle.std.proofs.Common.{refl, arith}
use mathlib.Core.Option.{none}
use Rattle.atomic_table.specs.Table.{step}
use Rattle.ea_machine.specs.Nodes.{first_node}
use Rattle.ea_machine.specs.Rows.{TakeAll}
use Rattle.ea_machine.specs.Table.{answer}
use Rattle.ea_table.specs.Ruling.{acting}
use Rattle.ea_table.proofs.Seating.{takes-all}
use Rattle.ea_table.proofs.Told.{head-row, reads-row, s}
use Rattle.ea_table.proofs.pass.Pass.take_all.Goals as goal

pub swap-found-requires : goal.swap-found-requires
swap-found-requires c =
    let b = c.args.board.now in
    let s = c.args.self.now in
    let at = c.requires.seated in (
      at.table,
      omega (arith, b.words, c.requires.scheduler, c.head_place.ensures),
      takes-all b s s.seat.me.1 at c.args.me c.requires.scheduler
          (step b.table.shared.table_id.slots c.head_place.result 0 0 none) c.requires.wanted
          c.head_place.result c.head_place.ensures,
    )

pub returns-clause-row : goal.returns-clause-row
unfolding answer
returns-clause-row c =
    let m = c.args.self.now.seat.me in
    let n = c.swap-found.new.seat.me in
    let took = c.swap-found.ensures.2 in
    let reads = reads-row m n c.args.me c.swap-found.result TakeAll took c.requires.wanted in
    head-row m n c.args.me c.swap-found.result TakeAll took c.requires.wanted
    (first_node ((s m n c.args.me c.swap-found.result TakeAll took c.requires.wanted).queues
    (acting m.0).number))
    c.decode_node.result refl reads (c.decode_node.ensures.coded, c.decode_node.ensures.only)
