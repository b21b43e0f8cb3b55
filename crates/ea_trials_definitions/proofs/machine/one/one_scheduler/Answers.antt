use Rattle.std.proofs.Common.{refl}
use Rattle.std.specs.Fmt.{digits}
use Rattle.ea_model.specs.GoodFit.{bin_of, powers}
use Rattle.ea_model.specs.Instance.{unused_from}
use Rattle.ea_machine.specs.Table.{answer, effect}
use Rattle.ea_machine.specs.Machine.{after, step_at}
use Rattle.ea_trials_definitions.proofs.machine.one.one_scheduler.Goals as goal

pub returns-clause-first_block : goal.returns-clause-first_block
unfolding digits unused_from bin_of powers answer effect after step_at
returns-clause-first_block c = refl

pub returns-clause-zero_bytes : goal.returns-clause-zero_bytes
unfolding digits unused_from bin_of powers answer effect after step_at
returns-clause-zero_bytes c = refl

pub returns-clause-free_and_skip : goal.returns-clause-free_and_skip
unfolding digits unused_from bin_of powers answer effect after step_at
returns-clause-free_and_skip c = refl

pub returns-clause-joined_gap : goal.returns-clause-joined_gap
unfolding digits unused_from bin_of powers answer effect after step_at
returns-clause-joined_gap c = refl

pub returns-clause-spaces_and_carriage_returns : goal.returns-clause-spaces_and_carriage_returns
unfolding digits unused_from bin_of powers answer effect after step_at
returns-clause-spaces_and_carriage_returns c = refl

pub returns-clause-spaces_and_comments : goal.returns-clause-spaces_and_comments
unfolding digits unused_from bin_of powers answer effect after step_at
returns-clause-spaces_and_comments c = refl

pub returns-clause-no_line_feed_at_the_end : goal.returns-clause-no_line_feed_at_the_end
unfolding digits unused_from bin_of powers answer effect after step_at
returns-clause-no_line_feed_at_the_end c = refl

pub returns-clause-exactly_threshold : goal.returns-clause-exactly_threshold
unfolding digits unused_from bin_of powers answer effect after step_at
returns-clause-exactly_threshold c = refl

pub returns-clause-above_threshold : goal.returns-clause-above_threshold
unfolding digits unused_from bin_of powers answer effect after step_at
returns-clause-above_threshold c = refl

pub returns-clause-both_kinds : goal.returns-clause-both_kinds
unfolding digits unused_from bin_of powers answer effect after step_at
returns-clause-both_kinds c = refl

pub returns-clause-space_refused : goal.returns-clause-space_refused
unfolding digits unused_from bin_of powers answer effect after step_at
returns-clause-space_refused c = refl

pub returns-clause-main_carrier : goal.returns-clause-main_carrier
unfolding digits unused_from bin_of powers answer effect after step_at
returns-clause-main_carrier c = refl

pub returns-clause-main_carrier_just_fits : goal.returns-clause-main_carrier_just_fits
unfolding digits unused_from bin_of powers answer effect after step_at
returns-clause-main_carrier_just_fits c = refl

pub returns-clause-carrier_growth : goal.returns-clause-carrier_growth
unfolding digits unused_from bin_of powers answer effect after step_at
returns-clause-carrier_growth c = refl

pub returns-clause-best_fit : goal.returns-clause-best_fit
unfolding digits unused_from bin_of powers answer effect after step_at
returns-clause-best_fit c = refl

pub returns-clause-address_order_best_fit : goal.returns-clause-address_order_best_fit
unfolding digits unused_from bin_of powers answer effect after step_at
returns-clause-address_order_best_fit c = refl

pub returns-clause-good_fit_at_one : goal.returns-clause-good_fit_at_one
unfolding digits unused_from bin_of powers answer effect after step_at
returns-clause-good_fit_at_one c = refl

pub returns-clause-good_fit_at_three : goal.returns-clause-good_fit_at_three
unfolding digits unused_from bin_of powers answer effect after step_at
returns-clause-good_fit_at_three c = refl

pub returns-clause-address_fit : goal.returns-clause-address_fit
unfolding digits unused_from bin_of powers answer effect after step_at
returns-clause-address_fit c = refl

pub returns-clause-reused_number_by_address : goal.returns-clause-reused_number_by_address
unfolding digits unused_from bin_of powers answer effect after step_at
returns-clause-reused_number_by_address c = refl

pub returns-clause-reused_number_by_age : goal.returns-clause-reused_number_by_age
unfolding digits unused_from bin_of powers answer effect after step_at
returns-clause-reused_number_by_age c = refl

pub returns-clause-temporary_without_a_flag : goal.returns-clause-temporary_without_a_flag
unfolding digits unused_from bin_of powers answer effect after step_at
returns-clause-temporary_without_a_flag c = refl

pub returns-clause-temporary_blocks_stay : goal.returns-clause-temporary_blocks_stay
unfolding digits unused_from bin_of powers answer effect after step_at
returns-clause-temporary_blocks_stay c = refl

pub returns-clause-temporary_blocks_stay_whatever_was_set
    : goal.returns-clause-temporary_blocks_stay_whatever_was_set
unfolding digits unused_from bin_of powers answer effect after step_at
returns-clause-temporary_blocks_stay_whatever_was_set c = refl

pub returns-clause-cut_end : goal.returns-clause-cut_end
unfolding digits unused_from bin_of powers answer effect after step_at
returns-clause-cut_end c = refl

pub returns-clause-made_twice : goal.returns-clause-made_twice
unfolding digits unused_from bin_of powers answer effect after step_at
returns-clause-made_twice c = refl

pub returns-clause-never_made : goal.returns-clause-never_made
unfolding digits unused_from bin_of powers answer effect after step_at
returns-clause-never_made c = refl

pub returns-clause-refused_word : goal.returns-clause-refused_word
unfolding digits unused_from bin_of powers answer effect after step_at
returns-clause-refused_word c = refl
