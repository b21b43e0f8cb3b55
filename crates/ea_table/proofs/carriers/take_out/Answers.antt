use Rattle.std.proofs.Common.{ap, ◌∙◌, arith}
use Rattle.std.specs.Prelude.{None, Some}
use mathlib.Core.Option.{none}
use Rattle.atomic_table.specs.Table.{Me, step}
use Rattle.ea_table.specs.declared.views.View.{View}
use Rattle.ea_table.specs.Slots.{Slot}
use Rattle.ea_table.proofs.OwnerSteps.{yields-slot}
use Rattle.ea_table.proofs.OwnerTold.{at-same, held, put-in}
use Rattle.ea_table.proofs.carriers.take_out.Goals as goal

pub exchange-found-requires : goal.exchange-found-requires
exchange-found-requires c =
    let m = c.args.seat.now.me in
    let slot = c.requires.slot in (
      c.requires.seated.table,
      (
        Some slot.0,
        held c.args.carrier (Some slot.0) m slot.1 c.slot_place.result c.slot_place.ensures,
      ),
    )

pub load-requires : goal.load-requires
load-requires c =
    let b = c.args.board.now in
    let s = c.args.seat.now in
    let t = c.exchange-found.new.seat in
    let e = c.exchange-found.ensures in
    let slot = c.requires.slot in
    let place = c.owner_place-place in (
      e.0 ∙ c.requires.seated.table,
      omega (arith, b.words, place.ensures, c.requires.carrier),
      yields-slot b t.table_id t.id t.me.0 t.me.1
          (at-same b s.table_id t.table_id s.me.0 t.me.0 c.requires.seated e.0
          (ap (λ (p : Me Slot View). p.0.config) e.3) (ap (λ (p : Me Slot View). p.0.trace) e.3))
          c.args.carrier c.requires.carrier place.result place.ensures
          (put-in c.args.carrier (Some slot.0) s.me slot.1 t.me c.slot_place.result None
          c.slot_place.ensures e.3)
          (step b.table.shared.table_id.slots place.result 0 0 none),
    )
