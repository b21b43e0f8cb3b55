use Rattle.ea_table.proofs.OwnerRows.{busy-try}
use Rattle.ea_table.proofs.pass.Pass.busy_try.Goals as goal

pub try_for-requires-clause-wanted : goal.try_for-requires-clause-wanted
try_for-requires-clause-wanted c =
    busy-try c.args.self.now.seat.me.0 c.args.me c.args.carrier c.args.seen c.requires.wanted
