use Rattle.std.proofs.Common.{◌≡◌, vec_len}
use Rattle.ea_trials_choice.proofs.keytree.many_steps_agree_with_a_walk.Given as goal

-- the tree holds what the list does
abbrev pub invariant-loop-step : goal.invariant-loop-step
invariant-loop-step g l = record {
  width : l.tree.width ≡ 91;
  len : vec_len l.held ≡ 40;
  same : l.tree.keys ≡ l.held.items;
}
