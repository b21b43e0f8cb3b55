use Rattle.std.proofs.Common.{refl}
use Rattle.ea_types.proofs.given.TypedRun.next.Goals as goal

pub last-requires-clause-over : goal.last-requires-clause-over
last-requires-clause-over c = c.in_default.ensures.none refl
