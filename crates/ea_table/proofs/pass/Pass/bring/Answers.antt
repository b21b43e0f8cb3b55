use Rattle.std.proofs.Common.{arith}
use mathlib.Core.Option.{none}
use Rattle.atomic_table.specs.Table.{step}
use Rattle.ea_word.specs.Codes.{owner_code}
use Rattle.ea_table.proofs.OwnerSteps.{claims-slot, there-so}
use Rattle.ea_table.proofs.OwnerTold.{bring-idle, bring-stores, idle-of}
use Rattle.ea_table.proofs.pass.Pass.bring.Goals as goal

pub load-requires : goal.load-requires
load-requires c =
    let b = c.args.board.now in
    let p = c.args.self.now in
    let s = p.seat in
    let place = c.owner_place-place in (
      c.requires.seated.table,
      omega (arith, b.words, place.ensures, c.requires.carrier),
      claims-slot b s.table_id s.id s.me.0 s.me.1 c.requires.seated c.args.carrier
          c.requires.carrier place.result place.ensures p.single p.unclaimed c.requires.brings.has,
    )

pub store_owner-requires-clause-stores : goal.store_owner-requires-clause-stores
store_owner-requires-clause-stores c =
    let b = c.args.board.now in
    let p = c.args.self.now in
    let s = p.seat in
    let place = c.owner_place-place in
    bring-stores p.older c.args.carrier c.args.content c.args.word s.me (idle-of p)
    c.requires.carrier.0 c.requires.brings
    (step b.table.shared.table_id.slots place.result 0 0 none)
    (there-so b s.table_id s.id s.me.0 s.me.1 c.requires.seated c.args.carrier c.requires.carrier
    place.result place.ensures) c.load.result c.load.new.seat.me c.load.ensures.2
    c.slot_place.result c.slot_place.ensures c.exchange.new.seat.me c.exchange.ensures.3

pub invariant_of-self : goal.invariant_of-self
invariant_of-self c =
    let b = c.args.board.now in
    let p = c.args.self.now in
    let s = p.seat in
    let place = c.owner_place-place in
    let i = bring-idle p.older c.args.carrier c.args.content c.args.word s.me (idle-of p)
    c.requires.carrier.0 c.requires.brings
    (step b.table.shared.table_id.slots place.result 0 0 none)
    (there-so b s.table_id s.id s.me.0 s.me.1 c.requires.seated c.args.carrier c.requires.carrier
    place.result place.ensures) c.load.result c.load.new.seat.me c.load.ensures.2
    c.slot_place.result c.slot_place.ensures c.exchange.new.seat.me c.exchange.ensures.3
    c.store_owner.new.seat.me (owner_code c.args.word) c.store_owner.ensures.took in
    record { bare = i.bare; unclaimed = i.unclaimed; single = i.single; older_is = i.older_is }
