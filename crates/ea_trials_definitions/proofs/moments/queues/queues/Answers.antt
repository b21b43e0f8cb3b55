use Rattle.std.proofs.Common.{refl}
use Rattle.ea_model.specs.Instance.{unused_from}
use Rattle.ea_machine.specs.Table.{answer, effect}
use Rattle.ea_machine.specs.Machine.{after, step_at}
use Rattle.ea_trials_definitions.proofs.moments.queues.queues.Goals as goal

pub returns-clause-to_be_given : goal.returns-clause-to_be_given
unfolding unused_from answer effect after step_at
returns-clause-to_be_given c = refl

pub returns-clause-not_given_yet : goal.returns-clause-not_given_yet
unfolding unused_from answer effect after step_at
returns-clause-not_given_yet c = refl

pub returns-clause-given : goal.returns-clause-given
unfolding unused_from answer effect after step_at
returns-clause-given c = refl

pub returns-clause-held_no_longer : goal.returns-clause-held_no_longer
unfolding unused_from answer effect after step_at
returns-clause-held_no_longer c = refl

pub returns-clause-given_and_alive : goal.returns-clause-given_and_alive
unfolding unused_from answer effect after step_at
returns-clause-given_and_alive c = refl

pub returns-clause-taken : goal.returns-clause-taken
unfolding unused_from answer effect after step_at
returns-clause-taken c = refl

pub returns-clause-given_no_longer : goal.returns-clause-given_no_longer
unfolding unused_from answer effect after step_at
returns-clause-given_no_longer c = refl

pub returns-clause-to_be_queued : goal.returns-clause-to_be_queued
unfolding unused_from answer effect after step_at
returns-clause-to_be_queued c = refl

pub returns-clause-fetched_meanwhile : goal.returns-clause-fetched_meanwhile
unfolding unused_from answer effect after step_at
returns-clause-fetched_meanwhile c = refl

pub returns-clause-with_the_former_employer : goal.returns-clause-with_the_former_employer
unfolding unused_from answer effect after step_at
returns-clause-with_the_former_employer c = refl

pub returns-clause-to_be_forwarded : goal.returns-clause-to_be_forwarded
unfolding unused_from answer effect after step_at
returns-clause-to_be_forwarded c = refl

pub returns-clause-forwarded : goal.returns-clause-forwarded
unfolding unused_from answer effect after step_at
returns-clause-forwarded c = refl

pub returns-clause-forwarded_and_linked : goal.returns-clause-forwarded_and_linked
unfolding unused_from answer effect after step_at
returns-clause-forwarded_and_linked c = refl

pub returns-clause-allocated_on_its_way : goal.returns-clause-allocated_on_its_way
unfolding unused_from answer effect after step_at
returns-clause-allocated_on_its_way c = refl

pub returns-clause-newest_first : goal.returns-clause-newest_first
unfolding unused_from answer effect after step_at
returns-clause-newest_first c = refl

pub returns-clause-queue_taken : goal.returns-clause-queue_taken
unfolding unused_from answer effect after step_at
returns-clause-queue_taken c = refl

pub returns-clause-walk_begun : goal.returns-clause-walk_begun
unfolding unused_from answer effect after step_at
returns-clause-walk_begun c = refl

pub returns-clause-newest_passed : goal.returns-clause-newest_passed
unfolding unused_from answer effect after step_at
returns-clause-newest_passed c = refl

pub returns-clause-oldest_left : goal.returns-clause-oldest_left
unfolding unused_from answer effect after step_at
returns-clause-oldest_left c = refl

pub returns-clause-walk_rests : goal.returns-clause-walk_rests
unfolding unused_from answer effect after step_at
returns-clause-walk_rests c = refl

pub returns-clause-passed_all_the_same : goal.returns-clause-passed_all_the_same
unfolding unused_from answer effect after step_at
returns-clause-passed_all_the_same c = refl

pub returns-clause-no_new_walk : goal.returns-clause-no_new_walk
unfolding unused_from answer effect after step_at
returns-clause-no_new_walk c = refl

pub returns-clause-both_queued : goal.returns-clause-both_queued
unfolding unused_from answer effect after step_at
returns-clause-both_queued c = refl

pub returns-clause-linked_in_the_rest : goal.returns-clause-linked_in_the_rest
unfolding unused_from answer effect after step_at
returns-clause-linked_in_the_rest c = refl

pub returns-clause-walk_at_its_end : goal.returns-clause-walk_at_its_end
unfolding unused_from answer effect after step_at
returns-clause-walk_at_its_end c = refl

pub returns-clause-worked_off : goal.returns-clause-worked_off
unfolding unused_from answer effect after step_at
returns-clause-worked_off c = refl

pub returns-clause-all_released : goal.returns-clause-all_released
unfolding unused_from answer effect after step_at
returns-clause-all_released c = refl

pub returns-clause-both_linked : goal.returns-clause-both_linked
unfolding unused_from answer effect after step_at
returns-clause-both_linked c = refl

pub returns-clause-second_waits : goal.returns-clause-second_waits
unfolding unused_from answer effect after step_at
returns-clause-second_waits c = refl

pub returns-clause-first_looked_at : goal.returns-clause-first_looked_at
unfolding unused_from answer effect after step_at
returns-clause-first_looked_at c = refl

pub returns-clause-both_on_their_way : goal.returns-clause-both_on_their_way
unfolding unused_from answer effect after step_at
returns-clause-both_on_their_way c = refl

pub returns-clause-first_released : goal.returns-clause-first_released
unfolding unused_from answer effect after step_at
returns-clause-first_released c = refl

pub returns-clause-none_waits : goal.returns-clause-none_waits
unfolding unused_from answer effect after step_at
returns-clause-none_waits c = refl

pub returns-clause-second_looked_at : goal.returns-clause-second_looked_at
unfolding unused_from answer effect after step_at
returns-clause-second_looked_at c = refl

pub returns-clause-second_in_the_pool : goal.returns-clause-second_in_the_pool
unfolding unused_from answer effect after step_at
returns-clause-second_in_the_pool c = refl

pub returns-clause-second_released : goal.returns-clause-second_released
unfolding unused_from answer effect after step_at
returns-clause-second_released c = refl
