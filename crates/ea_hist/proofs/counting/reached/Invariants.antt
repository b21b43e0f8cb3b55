use Rattle.std.proofs.Common.{◌≡◌, ◌≤◌, ◌+◌, drop}
use Rattle.ea_hist.specs.Intervals as intervals
use Rattle.ea_hist.proofs.counting.reached.Given as goal

abbrev pub invariant-loop-border : goal.invariant-loop-border
invariant-loop-border l = record {
  rest : l.count + intervals.reached l.units (drop l.border-index l.borders)
      ≡ intervals.reached l.units l.borders;
  few : l.count ≤ l.border-index;
}
