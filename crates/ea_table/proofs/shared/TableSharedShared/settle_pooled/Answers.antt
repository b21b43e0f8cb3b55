use Rattle.ea_machine.specs.Rows.{Done, Settle}
use Rattle.ea_table.proofs.Told.{caller-did}
use Rattle.ea_table.proofs.shared.TableSharedShared.settle_pooled.Goals as goal

pub returns-clause-row : goal.returns-clause-row
returns-clause-row c =
    caller-did c.args.me (Settle c.args.content) Done
    c.args.self.now.pass.seat.me.0 c.settle_pooled.new.self.seat.me.0 c.settle_pooled.ensures.row
