use Rattle.std.proofs.Common.{refl, arith}
use mathlib.Core.Option.{none}
use Rattle.atomic_table.specs.Table.{step}
use Rattle.ea_machine.specs.Rows.{Done, Give}
use Rattle.ea_machine.specs.Table.{answer}
use Rattle.ea_table.proofs.Seating.{gives}
use Rattle.ea_table.proofs.Told.{did}
use Rattle.ea_machine.specs.declared.nodes.Node.TheVariants.{Block}
use Rattle.ea_table.proofs.Worded.{codable}
use Rattle.ea_table.proofs.pass.Pass.give.Goals as goal

pub encode_node-new-requires : goal.encode_node-new-requires
encode_node-new-requires c =
    let b = c.args.board.now in
    codable b.schedulers b.greatest (Block c.args.name c.args.spot) b.few b.small
    (c.requires.name.0, c.requires.name.1, c.requires.spot)

pub store-requires : goal.store-requires
store-requires c =
    let b = c.args.board.now in
    let s = c.args.self.now in
    let at = c.requires.seated in (
      at.table,
      omega (arith, b.words, c.name_place-place.ensures, c.requires.name),
      gives b s s.seat.me.1 at c.args.me c.requires.scheduler
          (step b.table.shared.table_id.slots c.name_place-place.result c.encode_node-new.result 0
          none)
          (record { name = c.args.name; spot = c.args.spot }) c.requires.name c.requires.wanted
          c.name_place-place.result c.encode_node-new.result c.name_place-place.ensures
          c.encode_node-new.ensures,
    )

pub returns-clause-row : goal.returns-clause-row
unfolding answer
returns-clause-row c =
    let m = c.args.self.now.seat.me in
    let n = c.store.new.seat.me in
    did m n c.args.me c.encode_node-new.result
    (Give (record { name = c.args.name; spot = c.args.spot })) c.store.ensures.2
    c.requires.wanted Done refl
