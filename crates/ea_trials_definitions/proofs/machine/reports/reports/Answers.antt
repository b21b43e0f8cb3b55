use Rattle.std.proofs.Common.{refl}
use Rattle.std.specs.Fmt.{digits}
use Rattle.ea_model.specs.GoodFit.{bin_of, powers}
use Rattle.ea_model.specs.Instance.{unused_from}
use Rattle.ea_machine.specs.Table.{answer, effect}
use Rattle.ea_machine.specs.Machine.{after, step_at}
use Rattle.ea_trials_definitions.proofs.machine.reports.reports.Goals as goal

pub returns-clause-always_moving : goal.returns-clause-always_moving
unfolding digits unused_from bin_of powers answer effect after step_at
returns-clause-always_moving c = refl

pub returns-clause-six_moves : goal.returns-clause-six_moves
unfolding digits unused_from bin_of powers answer effect after step_at
returns-clause-six_moves c = refl

pub returns-clause-beside_a_single : goal.returns-clause-beside_a_single
unfolding digits unused_from bin_of powers answer effect after step_at
returns-clause-beside_a_single c = refl

pub returns-clause-freed_before : goal.returns-clause-freed_before
unfolding digits unused_from bin_of powers answer effect after step_at
returns-clause-freed_before c = refl

pub returns-clause-eight_in_place : goal.returns-clause-eight_in_place
unfolding digits unused_from bin_of powers answer effect after step_at
returns-clause-eight_in_place c = refl

pub returns-clause-three_under_age_order : goal.returns-clause-three_under_age_order
unfolding digits unused_from bin_of powers answer effect after step_at
returns-clause-three_under_age_order c = refl

pub returns-clause-three_under_good_fit : goal.returns-clause-three_under_good_fit
unfolding digits unused_from bin_of powers answer effect after step_at
returns-clause-three_under_good_fit c = refl

pub returns-clause-five_main_carriers : goal.returns-clause-five_main_carriers
unfolding digits unused_from bin_of powers answer effect after step_at
returns-clause-five_main_carriers c = refl

pub returns-clause-three_main_carriers : goal.returns-clause-three_main_carriers
unfolding digits unused_from bin_of powers answer effect after step_at
returns-clause-three_main_carriers c = refl

pub returns-clause-four_main_carriers : goal.returns-clause-four_main_carriers
unfolding digits unused_from bin_of powers answer effect after step_at
returns-clause-four_main_carriers c = refl

pub returns-clause-gaps_never_large_enough : goal.returns-clause-gaps_never_large_enough
unfolding digits unused_from bin_of powers answer effect after step_at
returns-clause-gaps_never_large_enough c = refl

pub returns-clause-five_that_idle : goal.returns-clause-five_that_idle
unfolding digits unused_from bin_of powers answer effect after step_at
returns-clause-five_that_idle c = refl

pub returns-clause-three_always_moving : goal.returns-clause-three_always_moving
unfolding digits unused_from bin_of powers answer effect after step_at
returns-clause-three_always_moving c = refl

pub returns-clause-three_of_temporary_blocks : goal.returns-clause-three_of_temporary_blocks
unfolding digits unused_from bin_of powers answer effect after step_at
returns-clause-three_of_temporary_blocks c = refl

pub returns-clause-both_blocks_observed : goal.returns-clause-both_blocks_observed
unfolding digits unused_from bin_of powers answer effect after step_at
returns-clause-both_blocks_observed c = refl

pub returns-clause-one_block_observed : goal.returns-clause-one_block_observed
unfolding digits unused_from bin_of powers answer effect after step_at
returns-clause-one_block_observed c = refl

pub returns-clause-emptied_in_the_pool : goal.returns-clause-emptied_in_the_pool
unfolding digits unused_from bin_of powers answer effect after step_at
returns-clause-emptied_in_the_pool c = refl
