use Rattle.std.proofs.Common.{None}
use Rattle.ea_machine.specs.Rows.{Clear, Home}
use Rattle.ea_table.proofs.Told.{caller-did}
use Rattle.ea_table.proofs.shared.TableSharedShared.clear_own.Goals as goal

pub returns-clause-row : goal.returns-clause-row
returns-clause-row c =
    caller-did c.args.me (Clear c.args.carrier) (Home None)
    c.args.self.now.pass.seat.me.0 c.clear_own.new.self.seat.me.0 c.clear_own.ensures.row
