use Rattle.std.proofs.Common.{refl}
use Rattle.std.specs.Fmt.{digits}
use Rattle.ea_model.specs.GoodFit.{bin_of, powers}
use Rattle.ea_model.specs.Instance.{unused_from}
use Rattle.ea_machine.specs.Table.{answer, effect}
use Rattle.ea_machine.specs.Machine.{after, step_at}
use Rattle.ea_trials_definitions.proofs.machine.resizing.resizing.Goals as goal

pub returns-clause-in_place : goal.returns-clause-in_place
unfolding digits unused_from bin_of powers answer effect after step_at
returns-clause-in_place c = refl

pub returns-clause-shrunk_carrier : goal.returns-clause-shrunk_carrier
unfolding digits unused_from bin_of powers answer effect after step_at
returns-clause-shrunk_carrier c = refl

pub returns-clause-single_stays : goal.returns-clause-single_stays
unfolding digits unused_from bin_of powers answer effect after step_at
returns-clause-single_stays c = refl

pub returns-clause-age_order_in_the_main_carrier : goal.returns-clause-age_order_in_the_main_carrier
unfolding digits unused_from bin_of powers answer effect after step_at
returns-clause-age_order_in_the_main_carrier c = refl

pub returns-clause-moves_of_temporary_blocks : goal.returns-clause-moves_of_temporary_blocks
unfolding digits unused_from bin_of powers answer effect after step_at
returns-clause-moves_of_temporary_blocks c = refl

pub returns-clause-failed_move_keeps_the_old_block
    : goal.returns-clause-failed_move_keeps_the_old_block
unfolding digits unused_from bin_of powers answer effect after step_at
returns-clause-failed_move_keeps_the_old_block c = refl

pub returns-clause-in_place_and_moved : goal.returns-clause-in_place_and_moved
unfolding digits unused_from bin_of powers answer effect after step_at
returns-clause-in_place_and_moved c = refl

pub returns-clause-address_order_with_many_singles
    : goal.returns-clause-address_order_with_many_singles
unfolding digits unused_from bin_of powers answer effect after step_at
returns-clause-address_order_with_many_singles c = refl

pub returns-clause-age_order_best_fit : goal.returns-clause-age_order_best_fit
unfolding digits unused_from bin_of powers answer effect after step_at
returns-clause-age_order_best_fit c = refl

pub returns-clause-age_order_address_order_best_fit
    : goal.returns-clause-age_order_address_order_best_fit
unfolding digits unused_from bin_of powers answer effect after step_at
returns-clause-age_order_address_order_best_fit c = refl

pub returns-clause-age_order_with_two_singles : goal.returns-clause-age_order_with_two_singles
unfolding digits unused_from bin_of powers answer effect after step_at
returns-clause-age_order_with_two_singles c = refl

pub returns-clause-address_fit_with_three_singles
    : goal.returns-clause-address_fit_with_three_singles
unfolding digits unused_from bin_of powers answer effect after step_at
returns-clause-address_fit_with_three_singles c = refl

pub returns-clause-address_order_with_one_single : goal.returns-clause-address_order_with_one_single
unfolding digits unused_from bin_of powers answer effect after step_at
returns-clause-address_order_with_one_single c = refl

pub returns-clause-singles_shrink : goal.returns-clause-singles_shrink
unfolding digits unused_from bin_of powers answer effect after step_at
returns-clause-singles_shrink c = refl

pub returns-clause-shrinks_stay : goal.returns-clause-shrinks_stay
unfolding digits unused_from bin_of powers answer effect after step_at
returns-clause-shrinks_stay c = refl

pub returns-clause-address_fit_over_several_carriers
    : goal.returns-clause-address_fit_over_several_carriers
unfolding digits unused_from bin_of powers answer effect after step_at
returns-clause-address_fit_over_several_carriers c = refl

pub returns-clause-good_fit : goal.returns-clause-good_fit
unfolding digits unused_from bin_of powers answer effect after step_at
returns-clause-good_fit c = refl

pub returns-clause-singles_beside_a_main_carrier : goal.returns-clause-singles_beside_a_main_carrier
unfolding digits unused_from bin_of powers answer effect after step_at
returns-clause-singles_beside_a_main_carrier c = refl
