use Rattle.std.proofs.Common.{◌≡◌, vec_len}
use Rattle.ea_trials_choice.proofs.sizemap.many_steps_agree_with_a_walk.Given as goal

-- the map holds what the list does
abbrev pub invariant-loop-step : goal.invariant-loop-step
invariant-loop-step g l = record {
  most : l.map.most ≡ 12;
  len : vec_len l.held ≡ 40;
  same : l.map.held ≡ l.held.items;
}
