use Rattle.std.proofs.Common.{subst, arith}
use mathlib.Core.Option.{none}
use Rattle.atomic_table.specs.Table.{step}
use Rattle.ea_table.proofs.Coding.{link-to}
use Rattle.ea_table.proofs.Seating.{takes-link}
use Rattle.ea_table.proofs.Told.{passes-row, rests-row}
use Rattle.ea_machine.specs.Rows.{Passes}
use Rattle.ea_table.specs.Ruling.{DidRow}
use Rattle.ea_machine.specs.Rows.{TakeLink}
use Rattle.ea_table.proofs.pass.Pass.take_link.Goals as goal

pub swap-found-requires : goal.swap-found-requires
swap-found-requires c =
    let b = c.args.board.now in
    let s = c.args.self.now in
    let at = c.requires.seated in
    let place = c.link_place-place.ensures in (
      at.table,
      omega (arith, b.words, place, link-to b.schedulers b.greatest c.args.node c.requires.node),
      takes-link b s s.seat.me.1 at c.args.me c.requires.scheduler
          (step b.table.shared.table_id.slots c.link_place-place.result 0 0 none) c.args.node
          c.requires.node c.requires.next c.requires.wanted c.link_place-place.result place,
    )

pub returns-then-found-eq-NO_NODE-clause-row : goal.returns-then-found-eq-NO_NODE-clause-row
returns-then-found-eq-NO_NODE-clause-row c =
    rests-row c.args.self.now.seat.me c.swap-found.new.seat.me c.args.me c.swap-found.result
    c.swap-found.ensures.2 c.requires.wanted c.if-found-eq-NO_NODE.true

pub returns-in-Some-clause-row : goal.returns-in-Some-clause-row
returns-in-Some-clause-row c =
    let m = c.args.self.now.seat.me in
    let n = c.swap-found.new.seat.me in
    subst (λ o. DidRow c.args.me TakeLink (Passes o) m.0 n.0) c.in-Some.is
    (passes-row m n c.args.me c.swap-found.result c.swap-found.ensures.2 c.requires.wanted
    c.decode_node.result c.if-found-eq-NO_NODE.false
    (c.decode_node.ensures.coded, c.decode_node.ensures.only))

pub returns-in-None-clause-row : goal.returns-in-None-clause-row
returns-in-None-clause-row c =
    let m = c.args.self.now.seat.me in
    let n = c.swap-found.new.seat.me in
    subst (λ o. DidRow c.args.me TakeLink (Passes o) m.0 n.0) c.in-None.is
    (passes-row m n c.args.me c.swap-found.result c.swap-found.ensures.2 c.requires.wanted
    c.decode_node.result c.if-found-eq-NO_NODE.false
    (c.decode_node.ensures.coded, c.decode_node.ensures.only))
