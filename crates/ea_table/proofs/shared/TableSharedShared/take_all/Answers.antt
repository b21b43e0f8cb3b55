use Rattle.ea_machine.specs.Rows.{Head, TakeAll}
use Rattle.ea_table.proofs.Told.{caller-did}
use Rattle.ea_table.proofs.shared.TableSharedShared.take_all.Goals as goal

pub returns-clause-row : goal.returns-clause-row
returns-clause-row c =
    caller-did c.args.me TakeAll (Head c.take_all.result)
    c.args.self.now.pass.seat.me.0 c.take_all.new.self.seat.me.0 c.take_all.ensures.row
