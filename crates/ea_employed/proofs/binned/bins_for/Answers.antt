use Rattle.std.proofs.Common.{arith}
use Rattle.ea_employed.proofs.binned.bins_for.Goals as goal

pub returns-clause-places : goal.returns-clause-places
returns-clause-places c = omega (arith, c.in_ok-reserve.ensures.ok)
