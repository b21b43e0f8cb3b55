use Rattle.std.proofs.Common.{◌-◌}
use Rattle.ea_postree.proofs.Levels.{HasComeTo}
use Rattle.ea_postree.proofs.paths.first_leaf.Given as goal

abbrev pub invariant-loop-node : goal.invariant-loop-node
invariant-loop-node l = HasComeTo l.value l.leaves l.maxima l.node

abbrev pub decreases-loop-node : goal.decreases-loop-node
decreases-loop-node l = l.leaves - l.node
