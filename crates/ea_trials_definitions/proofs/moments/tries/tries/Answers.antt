use Rattle.std.proofs.Common.{refl}
use Rattle.ea_model.specs.Instance.{unused_from}
use Rattle.ea_machine.specs.Table.{answer, effect}
use Rattle.ea_machine.specs.Machine.{after, step_at}
use Rattle.ea_trials_definitions.proofs.moments.tries.tries.Goals as goal

pub returns-clause-pooled : goal.returns-clause-pooled
unfolding unused_from answer effect after step_at
returns-clause-pooled c = refl

pub returns-clause-to_be_busy : goal.returns-clause-to_be_busy
unfolding unused_from answer effect after step_at
returns-clause-to_be_busy c = refl

pub returns-clause-block_in_the_hand : goal.returns-clause-block_in_the_hand
unfolding unused_from answer effect after step_at
returns-clause-block_in_the_hand c = refl

pub returns-clause-busy : goal.returns-clause-busy
unfolding unused_from answer effect after step_at
returns-clause-busy c = refl

pub returns-clause-to_be_settled : goal.returns-clause-to_be_settled
unfolding unused_from answer effect after step_at
returns-clause-to_be_settled c = refl

pub returns-clause-block_released : goal.returns-clause-block_released
unfolding unused_from answer effect after step_at
returns-clause-block_released c = refl

pub returns-clause-busy_passed_over : goal.returns-clause-busy_passed_over
unfolding unused_from answer effect after step_at
returns-clause-busy_passed_over c = refl

pub returns-clause-settled : goal.returns-clause-settled
unfolding unused_from answer effect after step_at
returns-clause-settled c = refl

pub returns-clause-to_be_fetched : goal.returns-clause-to_be_fetched
unfolding unused_from answer effect after step_at
returns-clause-to_be_fetched c = refl

pub returns-clause-fetched : goal.returns-clause-fetched
unfolding unused_from answer effect after step_at
returns-clause-fetched c = refl

pub returns-clause-lost_to_a_busy_word : goal.returns-clause-lost_to_a_busy_word
unfolding unused_from answer effect after step_at
returns-clause-lost_to_a_busy_word c = refl

pub returns-clause-still_busy : goal.returns-clause-still_busy
unfolding unused_from answer effect after step_at
returns-clause-still_busy c = refl

pub returns-clause-lost_to_another_gap : goal.returns-clause-lost_to_another_gap
unfolding unused_from answer effect after step_at
returns-clause-lost_to_another_gap c = refl

pub returns-clause-still_pooled : goal.returns-clause-still_pooled
unfolding unused_from answer effect after step_at
returns-clause-still_pooled c = refl

pub returns-clause-fetched_before_the_try : goal.returns-clause-fetched_before_the_try
unfolding unused_from answer effect after step_at
returns-clause-fetched_before_the_try c = refl

pub returns-clause-busy_try_lost : goal.returns-clause-busy_try_lost
unfolding unused_from answer effect after step_at
returns-clause-busy_try_lost c = refl

pub returns-clause-still_fetched : goal.returns-clause-still_fetched
unfolding unused_from answer effect after step_at
returns-clause-still_fetched c = refl

pub returns-clause-second_wants_it : goal.returns-clause-second_wants_it
unfolding unused_from answer effect after step_at
returns-clause-second_wants_it c = refl

pub returns-clause-third_wants_it : goal.returns-clause-third_wants_it
unfolding unused_from answer effect after step_at
returns-clause-third_wants_it c = refl

pub returns-clause-second_has_it : goal.returns-clause-second_has_it
unfolding unused_from answer effect after step_at
returns-clause-second_has_it c = refl

pub returns-clause-third_lost_it : goal.returns-clause-third_lost_it
unfolding unused_from answer effect after step_at
returns-clause-third_lost_it c = refl

pub returns-clause-second_keeps_it : goal.returns-clause-second_keeps_it
unfolding unused_from answer effect after step_at
returns-clause-second_keeps_it c = refl

pub returns-clause-third_has_nothing : goal.returns-clause-third_has_nothing
unfolding unused_from answer effect after step_at
returns-clause-third_has_nothing c = refl

pub returns-clause-third_creates_another : goal.returns-clause-third_creates_another
unfolding unused_from answer effect after step_at
returns-clause-third_creates_another c = refl
