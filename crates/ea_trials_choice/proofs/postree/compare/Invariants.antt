use Rattle.std.proofs.Common.{◌≡◌, length}
use Rattle.ea_trials_choice.proofs.postree.compare.Given as goal

abbrev pub invariant-loop-position : goal.invariant-loop-position
invariant-loop-position g l = length l.tree ≡ l.positions
