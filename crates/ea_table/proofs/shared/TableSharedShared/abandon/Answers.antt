use Rattle.ea_machine.specs.Rows.{Abandon, Done}
use Rattle.ea_table.proofs.Told.{caller-did}
use Rattle.ea_table.proofs.shared.TableSharedShared.abandon.Goals as goal

pub returns-clause-row : goal.returns-clause-row
returns-clause-row c =
    caller-did c.args.me (Abandon c.args.content) Done
    c.args.self.now.pass.seat.me.0 c.abandon.new.self.seat.me.0 c.abandon.ensures.row
