use Rattle.ea_machine.specs.Rows.{TakeLink}
use Rattle.ea_shared.specs.Links.{told_by}
use Rattle.ea_table.proofs.Told.{caller-did}
use Rattle.ea_table.proofs.shared.TableSharedShared.take_link.Goals as goal

pub returns-clause-row : goal.returns-clause-row
returns-clause-row c =
    caller-did c.args.me TakeLink (told_by c.take_link.result)
    c.args.self.now.pass.seat.me.0 c.take_link.new.self.seat.me.0 c.take_link.ensures.row
