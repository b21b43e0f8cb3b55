use Rattle.std.proofs.Common.{refl}
use Rattle.ea_machine.specs.Rows.{Done, Settle}
use Rattle.ea_table.proofs.OwnerTold.{at-same}
use Rattle.ea_table.proofs.Told.{caller-did, run-after}
use Rattle.ea_table.proofs.shared.TableSharedShared.settle_employed.Goals as goal

pub invariant_of-self : goal.invariant_of-self
invariant_of-self c =
    let p = c.args.self.now.pass in
    let q = c.settle_employed.new.self in
    let w = c.requires.wanted in
    let run = run-after c.args.me (Settle w.content) Done p.seat.me.0 q.seat.me.0
    (c.settle_employed.ensures.row w.content w.emptied w.wants) in
    record {
      seated = at-same c.args.self.now.board.now p.seat.table_id q.seat.table_id p.seat.me.0
          q.seat.me.0 c.args.self.now.seated c.settle_employed.ensures.seated run.0 run.1;
    }

pub returns-clause-stays : goal.returns-clause-stays
returns-clause-stays c =
    let w = c.requires.wanted in
    let run = run-after c.args.me (Settle w.content) Done c.args.self.now.pass.seat.me.0
    c.settle_employed.new.self.seat.me.0 (c.settle_employed.ensures.row w.content w.emptied w.wants)
    in (refl, run.0, run.1)

pub returns-clause-row : goal.returns-clause-row
returns-clause-row c = λ x emptied wants.
    caller-did c.args.me (Settle x) Done c.args.self.now.pass.seat.me.0
    c.settle_employed.new.self.seat.me.0 (c.settle_employed.ensures.row x emptied wants)
