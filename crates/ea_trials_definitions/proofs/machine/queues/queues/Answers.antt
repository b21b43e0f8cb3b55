use Rattle.std.proofs.Common.{refl}
use Rattle.std.specs.Fmt.{digits}
use Rattle.ea_model.specs.GoodFit.{bin_of, powers}
use Rattle.ea_model.specs.Instance.{unused_from}
use Rattle.ea_machine.specs.Table.{answer, effect}
use Rattle.ea_machine.specs.Machine.{after, step_at}
use Rattle.ea_trials_definitions.proofs.machine.queues.queues.Goals as goal

pub returns-clause-resting_walk : goal.returns-clause-resting_walk
unfolding digits unused_from bin_of powers answer effect after step_at
returns-clause-resting_walk c = refl

pub returns-clause-take_absent : goal.returns-clause-take_absent
unfolding digits unused_from bin_of powers answer effect after step_at
returns-clause-take_absent c = refl

pub returns-clause-taken_block_moves : goal.returns-clause-taken_block_moves
unfolding digits unused_from bin_of powers answer effect after step_at
returns-clause-taken_block_moves c = refl

pub returns-clause-temporary_blocks_always_move : goal.returns-clause-temporary_blocks_always_move
unfolding digits unused_from bin_of powers answer effect after step_at
returns-clause-temporary_blocks_always_move c = refl

pub returns-clause-five_with_singles : goal.returns-clause-five_with_singles
unfolding digits unused_from bin_of powers answer effect after step_at
returns-clause-five_with_singles c = refl

pub returns-clause-two_under_address_fit : goal.returns-clause-two_under_address_fit
unfolding digits unused_from bin_of powers answer effect after step_at
returns-clause-two_under_address_fit c = refl

pub returns-clause-two_under_best_fit : goal.returns-clause-two_under_best_fit
unfolding digits unused_from bin_of powers answer effect after step_at
returns-clause-two_under_best_fit c = refl

pub returns-clause-two_under_good_fit : goal.returns-clause-two_under_good_fit
unfolding digits unused_from bin_of powers answer effect after step_at
returns-clause-two_under_good_fit c = refl

pub returns-clause-temporary_blocks_given : goal.returns-clause-temporary_blocks_given
unfolding digits unused_from bin_of powers answer effect after step_at
returns-clause-temporary_blocks_given c = refl

pub returns-clause-three_under_age_order : goal.returns-clause-three_under_age_order
unfolding digits unused_from bin_of powers answer effect after step_at
returns-clause-three_under_age_order c = refl

pub returns-clause-always_moved : goal.returns-clause-always_moved
unfolding digits unused_from bin_of powers answer effect after step_at
returns-clause-always_moved c = refl

pub returns-clause-many_singles : goal.returns-clause-many_singles
unfolding digits unused_from bin_of powers answer effect after step_at
returns-clause-many_singles c = refl

pub returns-clause-two_under_age_order : goal.returns-clause-two_under_age_order
unfolding digits unused_from bin_of powers answer effect after step_at
returns-clause-two_under_age_order c = refl

pub returns-clause-taken_among_singles : goal.returns-clause-taken_among_singles
unfolding digits unused_from bin_of powers answer effect after step_at
returns-clause-taken_among_singles c = refl

pub returns-clause-three_main_carriers : goal.returns-clause-three_main_carriers
unfolding digits unused_from bin_of powers answer effect after step_at
returns-clause-three_main_carriers c = refl

pub returns-clause-four_under_age_order : goal.returns-clause-four_under_age_order
unfolding digits unused_from bin_of powers answer effect after step_at
returns-clause-four_under_age_order c = refl

pub returns-clause-two_singles : goal.returns-clause-two_singles
unfolding digits unused_from bin_of powers answer effect after step_at
returns-clause-two_singles c = refl
