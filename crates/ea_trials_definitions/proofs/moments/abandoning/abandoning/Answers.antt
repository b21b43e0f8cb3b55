use Rattle.std.proofs.Common.{refl}
use Rattle.ea_model.specs.Instance.{unused_from}
use Rattle.ea_machine.specs.Table.{answer, effect}
use Rattle.ea_machine.specs.Machine.{after, step_at}
use Rattle.ea_trials_definitions.proofs.moments.abandoning.abandoning.Goals as goal

pub returns-clause-not_there_yet : goal.returns-clause-not_there_yet
unfolding unused_from answer effect after step_at
returns-clause-not_there_yet c = refl

pub returns-clause-to_be_created : goal.returns-clause-to_be_created
unfolding unused_from answer effect after step_at
returns-clause-to_be_created c = refl

pub returns-clause-created : goal.returns-clause-created
unfolding unused_from answer effect after step_at
returns-clause-created c = refl

pub returns-clause-to_be_abandoned : goal.returns-clause-to_be_abandoned
unfolding unused_from answer effect after step_at
returns-clause-to_be_abandoned c = refl

pub returns-clause-employed_until_then : goal.returns-clause-employed_until_then
unfolding unused_from answer effect after step_at
returns-clause-employed_until_then c = refl

pub returns-clause-abandoned : goal.returns-clause-abandoned
unfolding unused_from answer effect after step_at
returns-clause-abandoned c = refl

pub returns-clause-employs_nothing : goal.returns-clause-employs_nothing
unfolding unused_from answer effect after step_at
returns-clause-employs_nothing c = refl

pub returns-clause-owned_all_the_same : goal.returns-clause-owned_all_the_same
unfolding unused_from answer effect after step_at
returns-clause-owned_all_the_same c = refl

pub returns-clause-to_be_fetched : goal.returns-clause-to_be_fetched
unfolding unused_from answer effect after step_at
returns-clause-to_be_fetched c = refl

pub returns-clause-fetched : goal.returns-clause-fetched
unfolding unused_from answer effect after step_at
returns-clause-fetched c = refl

pub returns-clause-fetched_content : goal.returns-clause-fetched_content
unfolding unused_from answer effect after step_at
returns-clause-fetched_content c = refl

pub returns-clause-held_names : goal.returns-clause-held_names
unfolding unused_from answer effect after step_at
returns-clause-held_names c = refl

pub returns-clause-old_block_held : goal.returns-clause-old_block_held
unfolding unused_from answer effect after step_at
returns-clause-old_block_held c = refl

pub returns-clause-new_block_held : goal.returns-clause-new_block_held
unfolding unused_from answer effect after step_at
returns-clause-new_block_held c = refl

pub returns-clause-old_block_in_the_hand : goal.returns-clause-old_block_in_the_hand
unfolding unused_from answer effect after step_at
returns-clause-old_block_in_the_hand c = refl

pub returns-clause-both_allocated : goal.returns-clause-both_allocated
unfolding unused_from answer effect after step_at
returns-clause-both_allocated c = refl

pub returns-clause-old_block_released : goal.returns-clause-old_block_released
unfolding unused_from answer effect after step_at
returns-clause-old_block_released c = refl

pub returns-clause-new_block_left : goal.returns-clause-new_block_left
unfolding unused_from answer effect after step_at
returns-clause-new_block_left c = refl

pub returns-clause-abandoned_again : goal.returns-clause-abandoned_again
unfolding unused_from answer effect after step_at
returns-clause-abandoned_again c = refl

pub returns-clause-single_to_be_created : goal.returns-clause-single_to_be_created
unfolding unused_from answer effect after step_at
returns-clause-single_to_be_created c = refl

pub returns-clause-single_employed : goal.returns-clause-single_employed
unfolding unused_from answer effect after step_at
returns-clause-single_employed c = refl

pub returns-clause-single_to_be_cleared : goal.returns-clause-single_to_be_cleared
unfolding unused_from answer effect after step_at
returns-clause-single_to_be_cleared c = refl

pub returns-clause-single_employed_until_then : goal.returns-clause-single_employed_until_then
unfolding unused_from answer effect after step_at
returns-clause-single_employed_until_then c = refl

pub returns-clause-single_without_block : goal.returns-clause-single_without_block
unfolding unused_from answer effect after step_at
returns-clause-single_without_block c = refl

pub returns-clause-single_cleared : goal.returns-clause-single_cleared
unfolding unused_from answer effect after step_at
returns-clause-single_cleared c = refl

pub returns-clause-main_carrier_from_the_start : goal.returns-clause-main_carrier_from_the_start
unfolding unused_from answer effect after step_at
returns-clause-main_carrier_from_the_start c = refl

pub returns-clause-main_carrier_of_the_other : goal.returns-clause-main_carrier_of_the_other
unfolding unused_from answer effect after step_at
returns-clause-main_carrier_of_the_other c = refl

pub returns-clause-no_other_carrier : goal.returns-clause-no_other_carrier
unfolding unused_from answer effect after step_at
returns-clause-no_other_carrier c = refl

pub returns-clause-main_carrier_never_abandoned : goal.returns-clause-main_carrier_never_abandoned
unfolding unused_from answer effect after step_at
returns-clause-main_carrier_never_abandoned c = refl

pub returns-clause-main_carrier_nearly_empty : goal.returns-clause-main_carrier_nearly_empty
unfolding unused_from answer effect after step_at
returns-clause-main_carrier_nearly_empty c = refl

pub returns-clause-main_carrier_never_cleared : goal.returns-clause-main_carrier_never_cleared
unfolding unused_from answer effect after step_at
returns-clause-main_carrier_never_cleared c = refl

pub returns-clause-no_step_more : goal.returns-clause-no_step_more
unfolding unused_from answer effect after step_at
returns-clause-no_step_more c = refl
