use Rattle.ea_machine.specs.Rows.{FetchTry}
use Rattle.ea_table.specs.Handing.{told}
use Rattle.ea_table.proofs.Told.{caller-did}
use Rattle.ea_table.proofs.shared.TableSharedShared.fetch_try.Goals as goal

pub returns-clause-row : goal.returns-clause-row
returns-clause-row c =
    caller-did c.args.me (FetchTry c.args.carrier c.args.seen) (told c.fetch_try.result)
    c.args.self.now.pass.seat.me.0 c.fetch_try.new.self.seat.me.0 c.fetch_try.ensures.row
