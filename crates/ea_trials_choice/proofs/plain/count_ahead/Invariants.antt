use Rattle.std.proofs.Common.{◌≡◌, ◌+◌, ◌≤◌, drop, length}
use Rattle.ea_model.specs.GoodFit.{ahead}
use Rattle.ea_trials_choice.proofs.plain.count_ahead.Given as goal

abbrev pub invariant-loop-other : goal.invariant-loop-other
invariant-loop-other l = record {
  rest :
      l.count + length (ahead (λ x. x.address) (λ x. x.size) (drop l.other-index l.gaps) l.gap)
      ≡ length (ahead (λ x. x.address) (λ x. x.size) l.gaps l.gap);
  few : l.count ≤ l.other-index;
}
