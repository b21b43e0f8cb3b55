use Rattle.std.proofs.Common.{refl}
use Rattle.std.specs.Fmt.{digits}
use Rattle.ea_model.specs.GoodFit.{bin_of, powers}
use Rattle.ea_model.specs.Instance.{power_from, unused_from}
use Rattle.ea_model.specs.Region.{highest_end}
use Rattle.ea_machine.specs.Table.{answer, effect}
use Rattle.ea_machine.specs.Machine.{after, step_at}
use Rattle.ea_trials_definitions.proofs.machine.node_rules.node_rules.Goals as goal

pub returns-clause-carriers_by_no_rule : goal.returns-clause-carriers_by_no_rule
unfolding digits unused_from bin_of powers power_from highest_end answer effect after step_at
returns-clause-carriers_by_no_rule c = refl

pub returns-clause-power_of_two : goal.returns-clause-power_of_two
unfolding digits unused_from bin_of powers power_from highest_end answer effect after step_at
returns-clause-power_of_two c = refl

pub returns-clause-least_pages_where_no_power_fits : goal.returns-clause-least_pages_where_no_power_fits
unfolding digits unused_from bin_of powers power_from highest_end answer effect after step_at
returns-clause-least_pages_where_no_power_fits c = refl

pub returns-clause-end_of_the_highest_run : goal.returns-clause-end_of_the_highest_run
unfolding digits unused_from bin_of powers power_from highest_end answer effect after step_at
returns-clause-end_of_the_highest_run c = refl

pub returns-clause-main_carrier_at_the_front : goal.returns-clause-main_carrier_at_the_front
unfolding digits unused_from bin_of powers power_from highest_end answer effect after step_at
returns-clause-main_carrier_at_the_front c = refl

pub returns-clause-both_of_carriers : goal.returns-clause-both_of_carriers
unfolding digits unused_from bin_of powers power_from highest_end answer effect after step_at
returns-clause-both_of_carriers c = refl

pub returns-clause-abandoned_by_no_rule : goal.returns-clause-abandoned_by_no_rule
unfolding digits unused_from bin_of powers power_from highest_end answer effect after step_at
returns-clause-abandoned_by_no_rule c = refl

pub returns-clause-held_back : goal.returns-clause-held_back
unfolding digits unused_from bin_of powers power_from highest_end answer effect after step_at
returns-clause-held_back c = refl

pub returns-clause-full_at_the_start : goal.returns-clause-full_at_the_start
unfolding digits unused_from bin_of powers power_from highest_end answer effect after step_at
returns-clause-full_at_the_start c = refl

pub returns-clause-none_without_the_rule : goal.returns-clause-none_without_the_rule
unfolding digits unused_from bin_of powers power_from highest_end answer effect after step_at
returns-clause-none_without_the_rule c = refl

pub returns-clause-never_above : goal.returns-clause-never_above
unfolding digits unused_from bin_of powers power_from highest_end answer effect after step_at
returns-clause-never_above c = refl

pub returns-clause-less_by_a_release : goal.returns-clause-less_by_a_release
unfolding digits unused_from bin_of powers power_from highest_end answer effect after step_at
returns-clause-less_by_a_release c = refl

pub returns-clause-more_by_a_block : goal.returns-clause-more_by_a_block
unfolding digits unused_from bin_of powers power_from highest_end answer effect after step_at
returns-clause-more_by_a_block c = refl

pub returns-clause-less_by_a_block_that_shrinks : goal.returns-clause-less_by_a_block_that_shrinks
unfolding digits unused_from bin_of powers power_from highest_end answer effect after step_at
returns-clause-less_by_a_block_that_shrinks c = refl

pub returns-clause-same_by_a_block_that_stays : goal.returns-clause-same_by_a_block_that_stays
unfolding digits unused_from bin_of powers power_from highest_end answer effect after step_at
returns-clause-same_by_a_block_that_stays c = refl

pub returns-clause-full_by_a_block_that_is_alone : goal.returns-clause-full_by_a_block_that_is_alone
unfolding digits unused_from bin_of powers power_from highest_end answer effect after step_at
returns-clause-full_by_a_block_that_is_alone c = refl

pub returns-clause-same_by_a_release_of_that : goal.returns-clause-same_by_a_release_of_that
unfolding digits unused_from bin_of powers power_from highest_end answer effect after step_at
returns-clause-same_by_a_release_of_that c = refl

pub returns-clause-full_by_a_plan_that_fails : goal.returns-clause-full_by_a_plan_that_fails
unfolding digits unused_from bin_of powers power_from highest_end answer effect after step_at
returns-clause-full_by_a_plan_that_fails c = refl

pub returns-clause-not_yet_0 : goal.returns-clause-not_yet_0
unfolding digits unused_from bin_of powers power_from highest_end answer effect after step_at
returns-clause-not_yet_0 c = refl

pub returns-clause-not_yet_abandoned : goal.returns-clause-not_yet_abandoned
unfolding digits unused_from bin_of powers power_from highest_end answer effect after step_at
returns-clause-not_yet_abandoned c = refl

pub returns-clause-reaches_0 : goal.returns-clause-reaches_0
unfolding digits unused_from bin_of powers power_from highest_end answer effect after step_at
returns-clause-reaches_0 c = refl

pub returns-clause-abandoned_at_0 : goal.returns-clause-abandoned_at_0
unfolding digits unused_from bin_of powers power_from highest_end answer effect after step_at
returns-clause-abandoned_at_0 c = refl

pub returns-clause-less_by_a_release_in_the_hand : goal.returns-clause-less_by_a_release_in_the_hand
unfolding digits unused_from bin_of powers power_from highest_end answer effect after step_at
returns-clause-less_by_a_release_in_the_hand c = refl
