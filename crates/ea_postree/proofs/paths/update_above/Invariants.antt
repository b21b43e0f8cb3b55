use Rattle.std.proofs.Common.{◌≡◌, ◌≢◌, ℕ, ◌/◌, ◌<◌, ◌≤◌, length, drop}
use Rattle.ea_postree.specs.Maxima.{IsGreater}
use Rattle.ea_postree.proofs.paths.update_above.Given as goal

abbrev pub invariant-loop-node : goal.invariant-loop-node
invariant-loop-node l = record {
  within : l.node < length l.maxima;
  others : (n : ℕ) → 1 ≤ n → n < l.leaves → n ≢ l.node / 2 → IsGreater l.maxima n;
  leaves : drop l.leaves l.maxima ≡ drop l.leaves l.initial.maxima;
  long : length l.maxima ≡ length l.initial.maxima;
}

abbrev pub decreases-loop-node : goal.decreases-loop-node
decreases-loop-node l = l.node
