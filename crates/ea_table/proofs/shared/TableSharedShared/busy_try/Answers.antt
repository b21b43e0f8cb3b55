use Rattle.ea_machine.specs.Rows.{BusyTry}
use Rattle.ea_table.specs.Handing.{told}
use Rattle.ea_table.proofs.Told.{caller-did}
use Rattle.ea_table.proofs.shared.TableSharedShared.busy_try.Goals as goal

pub returns-clause-row : goal.returns-clause-row
returns-clause-row c =
    caller-did c.args.me (BusyTry c.args.carrier c.args.seen) (told c.busy_try.result)
    c.args.self.now.pass.seat.me.0 c.busy_try.new.self.seat.me.0 c.busy_try.ensures.row
