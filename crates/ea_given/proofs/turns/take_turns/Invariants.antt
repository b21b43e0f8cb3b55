use Rattle.std.proofs.Common.{◌-◌, ◌≤◌}
use Rattle.ea_given.specs.Running.{Took}
use Rattle.ea_given.proofs.turns.take_turns.Given as goal

abbrev pub invariant-loop-left : goal.invariant-loop-left
invariant-loop-left l = (l.left ≤ l.count)
    × Took (l.count - l.left) l.initial.scheduler l.initial.shared l.scheduler l.shared

abbrev pub decreases-loop-left : goal.decreases-loop-left
decreases-loop-left l = l.left
