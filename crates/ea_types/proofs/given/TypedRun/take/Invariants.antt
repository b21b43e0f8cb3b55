use Rattle.std.proofs.Common.{◌-◌, ◌≤◌}
use Rattle.std.specs.Prelude.{replicate}
use Rattle.ea_types.specs.Given.{HasTaken}
use Rattle.ea_types.proofs.given.TypedRun.take.Given as goal

abbrev pub invariant-loop-left : goal.invariant-loop-left
invariant-loop-left l = (l.left ≤ l.count)
    × HasTaken (replicate (l.count - l.left) l.me) l.initial.self l.self

abbrev pub decreases-loop-left : goal.decreases-loop-left
decreases-loop-left l = l.left
