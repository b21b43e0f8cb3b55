use Rattle.ea_machine.specs.Rows.{Create, Done}
use Rattle.ea_table.proofs.Told.{caller-did}
use Rattle.ea_table.proofs.shared.TableSharedShared.create.Goals as goal

pub returns-clause-row : goal.returns-clause-row
returns-clause-row c =
    caller-did c.args.me (Create c.args.carrier) Done
    c.args.self.now.pass.seat.me.0 c.create.new.self.seat.me.0 c.create.ensures.row
