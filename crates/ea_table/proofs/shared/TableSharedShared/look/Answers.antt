use Rattle.ea_machine.specs.Rows.{Look, Saw}
use Rattle.ea_table.proofs.Told.{caller-did}
use Rattle.ea_table.proofs.shared.TableSharedShared.look.Goals as goal

pub returns-clause-row : goal.returns-clause-row
returns-clause-row c =
    caller-did c.args.me (Look c.args.carrier) (Saw c.look.result)
    c.args.self.now.pass.seat.me.0 c.look.new.self.seat.me.0 c.look.ensures.row
