use Rattle.std.proofs.Common.{refl}
use Rattle.ea_model.specs.Instance.{unused_from}
use Rattle.ea_machine.specs.Table.{answer, effect}
use Rattle.ea_machine.specs.Machine.{after, step_at}
use Rattle.ea_trials_definitions.proofs.soundness.homeward.homeward.Goals as goal

pub returns-clause-no_failure_returning : goal.returns-clause-no_failure_returning
unfolding unused_from answer effect after step_at
returns-clause-no_failure_returning c = refl

pub returns-clause-freed_by_the_owner : goal.returns-clause-freed_by_the_owner
unfolding unused_from answer effect after step_at
returns-clause-freed_by_the_owner c = refl

pub returns-clause-sent_home_and_collected : goal.returns-clause-sent_home_and_collected
unfolding unused_from answer effect after step_at
returns-clause-sent_home_and_collected c = refl

pub returns-clause-no_failure_moving : goal.returns-clause-no_failure_moving
unfolding unused_from answer effect after step_at
returns-clause-no_failure_moving c = refl

pub returns-clause-old_block_queued : goal.returns-clause-old_block_queued
unfolding unused_from answer effect after step_at
returns-clause-old_block_queued c = refl

pub returns-clause-new_block_placed : goal.returns-clause-new_block_placed
unfolding unused_from answer effect after step_at
returns-clause-new_block_placed c = refl

pub returns-clause-still_on_its_way : goal.returns-clause-still_on_its_way
unfolding unused_from answer effect after step_at
returns-clause-still_on_its_way c = refl

pub returns-clause-created : goal.returns-clause-created
unfolding unused_from answer effect after step_at
returns-clause-created c = refl
