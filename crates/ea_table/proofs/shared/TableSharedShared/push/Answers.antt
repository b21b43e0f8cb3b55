use Rattle.ea_machine.specs.Rows.{Done, Push}
use Rattle.ea_table.proofs.Told.{caller-did}
use Rattle.ea_table.proofs.shared.TableSharedShared.push.Goals as goal

pub returns-clause-row : goal.returns-clause-row
returns-clause-row c =
    caller-did c.args.me (Push c.args.node c.args.to) Done
    c.args.self.now.pass.seat.me.0 c.push.new.self.seat.me.0 c.push.ensures.row
