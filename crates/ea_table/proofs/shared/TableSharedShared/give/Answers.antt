use Rattle.ea_machine.specs.Rows.{Done, Give}
use Rattle.ea_table.proofs.Told.{caller-did}
use Rattle.ea_table.proofs.shared.TableSharedShared.give.Goals as goal

pub returns-clause-row : goal.returns-clause-row
returns-clause-row c =
    caller-did c.args.me (Give (record { name = c.args.name; spot = c.args.spot })) Done
    c.args.self.now.pass.seat.me.0 c.give.new.self.seat.me.0 c.give.ensures.row
