use Rattle.ea_machine.specs.Rows.{Got, TakeTry}
use Rattle.ea_table.proofs.Told.{caller-did}
use Rattle.ea_table.proofs.shared.TableSharedShared.take_try.Goals as goal

pub returns-clause-row : goal.returns-clause-row
returns-clause-row c =
    caller-did c.args.me (TakeTry c.args.name) (Got c.take_try.result)
    c.args.self.now.pass.seat.me.0 c.take_try.new.self.seat.me.0 c.take_try.ensures.row
