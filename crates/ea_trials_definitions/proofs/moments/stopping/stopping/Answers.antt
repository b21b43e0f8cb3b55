use Rattle.std.proofs.Common.{refl}
use Rattle.ea_model.specs.Instance.{unused_from}
use Rattle.ea_machine.specs.Table.{answer, effect}
use Rattle.ea_machine.specs.Machine.{after, step_at}
use Rattle.ea_trials_definitions.proofs.moments.stopping.stopping.Goals as goal

pub returns-clause-before_its_last_step : goal.returns-clause-before_its_last_step
unfolding unused_from answer effect after step_at
returns-clause-before_its_last_step c = refl

pub returns-clause-try_left : goal.returns-clause-try_left
unfolding unused_from answer effect after step_at
returns-clause-try_left c = refl

pub returns-clause-still_pooled : goal.returns-clause-still_pooled
unfolding unused_from answer effect after step_at
returns-clause-still_pooled c = refl

pub returns-clause-still_listed : goal.returns-clause-still_listed
unfolding unused_from answer effect after step_at
returns-clause-still_listed c = refl

pub returns-clause-name_kept : goal.returns-clause-name_kept
unfolding unused_from answer effect after step_at
returns-clause-name_kept c = refl

pub returns-clause-still_busy : goal.returns-clause-still_busy
unfolding unused_from answer effect after step_at
returns-clause-still_busy c = refl

pub returns-clause-content_in_its_hand : goal.returns-clause-content_in_its_hand
unfolding unused_from answer effect after step_at
returns-clause-content_in_its_hand c = refl

pub returns-clause-counted_in_its_hand : goal.returns-clause-counted_in_its_hand
unfolding unused_from answer effect after step_at
returns-clause-counted_in_its_hand c = refl

pub returns-clause-others_go_on : goal.returns-clause-others_go_on
unfolding unused_from answer effect after step_at
returns-clause-others_go_on c = refl

pub returns-clause-not_linked : goal.returns-clause-not_linked
unfolding unused_from answer effect after step_at
returns-clause-not_linked c = refl

pub returns-clause-link_left : goal.returns-clause-link_left
unfolding unused_from answer effect after step_at
returns-clause-link_left c = refl

pub returns-clause-walk_waits : goal.returns-clause-walk_waits
unfolding unused_from answer effect after step_at
returns-clause-walk_waits c = refl

pub returns-clause-on_its_way_for_good : goal.returns-clause-on_its_way_for_good
unfolding unused_from answer effect after step_at
returns-clause-on_its_way_for_good c = refl
