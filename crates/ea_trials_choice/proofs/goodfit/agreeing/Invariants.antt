use Rattle.std.proofs.Common.{◌≡◌, ◌<◌, ◌≤◌}
use Rattle.std.specs.Prelude.{All}
use Rattle.std.specs.List.Sorted.{IsPermutation}
use Rattle.ea_trials_choice.proofs.goodfit.agreeing.Given as goal

-- the bins hold what the list does
abbrev pub invariant-loop-step : goal.invariant-loop-step
invariant-loop-step l = record {
  same : IsPermutation l.bins.held l.plain.items;
  some : All (λ g. 0 < g.size) l.plain.items;
  within : l.agreeing ≤ l.step;
}
