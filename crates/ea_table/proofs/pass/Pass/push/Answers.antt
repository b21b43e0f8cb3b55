use Rattle.std.proofs.Common.{refl, arith}
use mathlib.Core.Option.{none}
use Rattle.atomic_table.specs.Table.{step}
use Rattle.ea_machine.specs.Rows.{Done, Push}
use Rattle.ea_machine.specs.Table.{answer}
use Rattle.ea_table.proofs.Seating.{pushes}
use Rattle.ea_table.proofs.Told.{did}
use Rattle.ea_table.proofs.Worded.{codable}
use Rattle.ea_table.proofs.pass.Pass.push.Goals as goal

pub encode_node-new-requires : goal.encode_node-new-requires
encode_node-new-requires c =
    let b = c.args.board.now in
    codable b.schedulers b.greatest c.args.node b.few b.small c.requires.node

pub swap-found-requires : goal.swap-found-requires
swap-found-requires c =
    let b = c.args.board.now in
    let s = c.args.self.now in
    let at = c.requires.seated in (
      at.table,
      omega (arith, b.words, c.requires.target, c.head_place.ensures),
      pushes b s s.seat.me.1 at c.args.me c.requires.scheduler
          (step b.table.shared.table_id.slots c.head_place.result c.encode_node-new.result 0 none)
          c.args.node c.args.to c.requires.node c.requires.target c.requires.wanted
          c.head_place.result c.encode_node-new.result c.head_place.ensures
          c.encode_node-new.ensures,
    )

pub returns-clause-row : goal.returns-clause-row
unfolding answer
returns-clause-row c =
    let m = c.args.self.now.seat.me in
    let n = c.swap-found.new.seat.me in
    did m n c.args.me c.swap-found.result (Push c.args.node c.args.to) c.swap-found.ensures.2
    c.requires.wanted Done refl
