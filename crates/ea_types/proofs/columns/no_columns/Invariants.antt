use Rattle.std.proofs.Common.{◌≡◌, ℕ, ◌<◌, ◌≤◌, [], length, get_or}
use Rattle.ea_types.proofs.columns.no_columns.Given as goal

abbrev pub invariant-loop : goal.invariant-loop
invariant-loop g l = record {
  within : l.counter ≤ l.fn.count;
  many : length l.columns.items ≡ l.counter;
  none : (k : ℕ) (d : _) → k < l.counter → (get_or l.columns.items k d).items ≡ [];
}
