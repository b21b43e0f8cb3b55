use Rattle.std.proofs.Common.{◌≡◌, ℕ, ◌<◌, ◌≤◌, length, drop}
use Rattle.ea_postree.specs.Maxima.{IsGreater}
use Rattle.ea_postree.proofs.paths.update_all.Given as goal

abbrev pub invariant-loop-node : goal.invariant-loop-node
invariant-loop-node l = record {
  within : l.node ≤ l.leaves;
  greater : (n : ℕ) → 1 ≤ n → l.node ≤ n → n < l.leaves → IsGreater l.maxima n;
  leaves : drop l.leaves l.maxima ≡ drop l.leaves l.initial.maxima;
  long : length l.maxima ≡ length l.initial.maxima;
}

abbrev pub decreases-loop-node : goal.decreases-loop-node
decreases-loop-node l = l.node
