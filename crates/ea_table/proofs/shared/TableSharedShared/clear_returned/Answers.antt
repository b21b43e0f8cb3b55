use Rattle.std.proofs.Common.{Some}
use Rattle.ea_machine.specs.Rows.{Clear, Home}
use Rattle.ea_table.proofs.Told.{caller-did}
use Rattle.ea_table.proofs.shared.TableSharedShared.clear_returned.Goals as goal

pub returns-clause-row : goal.returns-clause-row
returns-clause-row c =
    caller-did c.args.me (Clear c.args.carrier) (Home (Some c.clear_returned.result))
    c.args.self.now.pass.seat.me.0 c.clear_returned.new.self.seat.me.0 c.clear_returned.ensures.row
