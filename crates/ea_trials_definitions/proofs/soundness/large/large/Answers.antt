use Rattle.std.proofs.Common.{refl}
use Rattle.ea_model.specs.Instance.{unused_from}
use Rattle.ea_machine.specs.Table.{answer, effect}
use Rattle.ea_machine.specs.Machine.{after, step_at}
use Rattle.ea_trials_definitions.proofs.soundness.large.large.Goals as goal

pub returns-clause-no_failure_migrating : goal.returns-clause-no_failure_migrating
unfolding unused_from answer effect after step_at
returns-clause-no_failure_migrating c = refl

pub returns-clause-moved_by_another : goal.returns-clause-moved_by_another
unfolding unused_from answer effect after step_at
returns-clause-moved_by_another c = refl

pub returns-clause-old_single_released : goal.returns-clause-old_single_released
unfolding unused_from answer effect after step_at
returns-clause-old_single_released c = refl

pub returns-clause-renamed_in_its_place : goal.returns-clause-renamed_in_its_place
unfolding unused_from answer effect after step_at
returns-clause-renamed_in_its_place c = refl

pub returns-clause-single_cleared : goal.returns-clause-single_cleared
unfolding unused_from answer effect after step_at
returns-clause-single_cleared c = refl

pub returns-clause-no_failure_fixed : goal.returns-clause-no_failure_fixed
unfolding unused_from answer effect after step_at
returns-clause-no_failure_fixed c = refl

pub returns-clause-moved_by_another_too : goal.returns-clause-moved_by_another_too
unfolding unused_from answer effect after step_at
returns-clause-moved_by_another_too c = refl

pub returns-clause-single_cleared_too : goal.returns-clause-single_cleared_too
unfolding unused_from answer effect after step_at
returns-clause-single_cleared_too c = refl
