use Rattle.std.proofs.Common.{◌-◌, ◌≤◌}
use Rattle.std.specs.Prelude.{replicate}
use Rattle.ea_contents.proofs.Played.{Taken}
use Rattle.ea_contents.proofs.playing.Play.take.Given as goal

abbrev pub invariant-loop-left : goal.invariant-loop-left
invariant-loop-left l = (l.left ≤ l.count)
    × Taken (replicate (l.count - l.left) l.me) l.initial.self l.self

abbrev pub decreases-loop-left : goal.decreases-loop-left
decreases-loop-left l = l.left
