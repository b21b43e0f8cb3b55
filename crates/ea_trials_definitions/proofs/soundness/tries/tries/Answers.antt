use Rattle.std.proofs.Common.{refl}
use Rattle.ea_model.specs.Instance.{unused_from}
use Rattle.ea_machine.specs.Table.{answer, effect}
use Rattle.ea_machine.specs.Machine.{after, step_at}
use Rattle.ea_trials_definitions.proofs.soundness.tries.tries.Goals as goal

pub returns-clause-no_failure_busy : goal.returns-clause-no_failure_busy
unfolding unused_from answer effect after step_at
returns-clause-no_failure_busy c = refl

pub returns-clause-released : goal.returns-clause-released
unfolding unused_from answer effect after step_at
returns-clause-released c = refl

pub returns-clause-pooled_again : goal.returns-clause-pooled_again
unfolding unused_from answer effect after step_at
returns-clause-pooled_again c = refl

pub returns-clause-another_created : goal.returns-clause-another_created
unfolding unused_from answer effect after step_at
returns-clause-another_created c = refl

pub returns-clause-no_failure_fetched : goal.returns-clause-no_failure_fetched
unfolding unused_from answer effect after step_at
returns-clause-no_failure_fetched c = refl

pub returns-clause-left_in_a_walk : goal.returns-clause-left_in_a_walk
unfolding unused_from answer effect after step_at
returns-clause-left_in_a_walk c = refl

pub returns-clause-fetched : goal.returns-clause-fetched
unfolding unused_from answer effect after step_at
returns-clause-fetched c = refl

pub returns-clause-no_failure_fetching_back : goal.returns-clause-no_failure_fetching_back
unfolding unused_from answer effect after step_at
returns-clause-no_failure_fetching_back c = refl

pub returns-clause-fetched_back : goal.returns-clause-fetched_back
unfolding unused_from answer effect after step_at
returns-clause-fetched_back c = refl
