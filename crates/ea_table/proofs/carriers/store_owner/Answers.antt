use Rattle.std.proofs.Common.{arith}
use mathlib.Core.Option.{none}
use Rattle.atomic_table.specs.Table.{step}
use Rattle.ea_table.proofs.OwnerSteps.{stores}
use Rattle.ea_table.proofs.carriers.store_owner.Goals as goal

pub store-requires : goal.store-requires
store-requires c =
    let b = c.args.board.now in
    let s = c.args.seat.now in
    let place = c.owner_place-place in (
      c.requires.seated.table,
      omega (arith, b.words, place.ensures, c.requires.carrier),
      stores b s.table_id s.id s.me.0 s.me.1 c.requires.seated c.args.carrier c.requires.carrier
          place.result place.ensures c.args.word c.encode.result c.encode.ensures
          c.requires.stores
          (step b.table.shared.table_id.slots place.result c.encode.result 0 none),
    )
