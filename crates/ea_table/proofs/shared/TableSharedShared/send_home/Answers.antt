use Rattle.ea_machine.specs.Rows.{Done, SendHome}
use Rattle.ea_table.proofs.Told.{caller-did}
use Rattle.ea_table.proofs.shared.TableSharedShared.send_home.Goals as goal

pub returns-clause-row : goal.returns-clause-row
returns-clause-row c =
    caller-did c.args.me (SendHome c.args.content) Done
    c.args.self.now.pass.seat.me.0 c.send_home.new.self.seat.me.0 c.send_home.ensures.row
