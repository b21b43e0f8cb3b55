use Rattle.std.proofs.Common.{refl, arith}
use mathlib.Core.Option.{none}
use Rattle.atomic_table.specs.Table.{step}
use Rattle.ea_machine.specs.Rows.{Done, Link}
use Rattle.ea_machine.specs.Table.{answer}
use Rattle.ea_table.proofs.Coding.{link-to}
use Rattle.ea_table.proofs.Seating.{links}
use Rattle.ea_table.proofs.Told.{did}
use Rattle.ea_table.proofs.pass.Pass.link.Goals as goal

pub store-requires : goal.store-requires
store-requires c =
    let b = c.args.board.now in
    let s = c.args.self.now in
    let at = c.requires.seated in
    let place = c.link_place-place.ensures in (
      at.table,
      omega (arith, b.words, place, link-to b.schedulers b.greatest c.args.node c.requires.node),
      links b s s.seat.me.1 at c.args.me c.requires.scheduler
          (step b.table.shared.table_id.slots c.link_place-place.result s.older 0 none) c.args.node
          c.args.to c.requires.node c.requires.target c.requires.wanted c.link_place-place.result
          s.older place s.older_is,
    )

pub returns-clause-row : goal.returns-clause-row
unfolding answer
returns-clause-row c =
    let m = c.args.self.now.seat.me in
    let n = c.store.new.seat.me in
    did m n c.args.me c.args.self.now.older (Link c.args.node c.args.to) c.store.ensures.2
    c.requires.wanted Done refl
