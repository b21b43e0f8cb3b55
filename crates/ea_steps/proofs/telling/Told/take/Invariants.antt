use Rattle.std.proofs.Common.{◌-◌, ◌≤◌}
use Rattle.std.specs.Prelude.{replicate}
use Rattle.ea_given.specs.Runs.{HasTaken}
use Rattle.ea_steps.specs.Told.{CountsAll, TellsMore}
use Rattle.ea_steps.proofs.telling.Told.take.Given as goal

abbrev pub invariant-loop-left : goal.invariant-loop-left
invariant-loop-left l = (l.left ≤ l.turns)
    × HasTaken (replicate (l.turns - l.left) l.me) l.initial.run l.run
    × TellsMore (replicate (l.turns - l.left) l.me) l.initial.run l.initial.self l.self
    × CountsAll l.self l.run

abbrev pub decreases-loop-left : goal.decreases-loop-left
decreases-loop-left l = l.left
