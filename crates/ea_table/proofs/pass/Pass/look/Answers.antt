use Rattle.std.proofs.Common.{subst, arith}
use mathlib.Core.Option.{none}
use Rattle.atomic_table.specs.Table.{step}
use Rattle.ea_table.proofs.OwnerCodes.{DecodesOwner}
use Rattle.ea_table.proofs.OwnerSteps.{looks}
use Rattle.ea_table.proofs.OwnerTold.{saw-row}
use Rattle.ea_table.proofs.pass.Pass.look.Goals as goal

pub load-found-requires : goal.load-found-requires
load-found-requires c =
    let b = c.args.board.now in
    let s = c.args.self.now.seat in
    let place = c.owner_place-place in (
      c.requires.seated.table,
      omega (arith, b.words, place.ensures, c.requires.carrier),
      looks b s.table_id s.id s.me.0 s.me.1 c.requires.seated c.args.carrier c.requires.carrier
          place.result place.ensures c.args.me c.args.self.now.single c.requires.wanted
          (step b.table.shared.table_id.slots place.result 0 0 none),
    )

pub returns-clause-row : goal.returns-clause-row
returns-clause-row c =
    saw-row c.args.self.now.seat.me c.load-found.new.seat.me c.args.me c.load-found.result
    c.args.carrier c.load-found.ensures.2 c.requires.wanted c.in-Some.word
    (subst (DecodesOwner c.load-found.result) c.in-Some.is
    (c.decode.ensures.coded, c.decode.ensures.only))
