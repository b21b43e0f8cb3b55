use Rattle.std.proofs.Common.{refl}
use Rattle.ea_trials_definitions.proofs.flags.given_settings.Goals as goal

pub returns-clause-no_words : goal.returns-clause-no_words
returns-clause-no_words c = refl

pub returns-clause-leading_zeros : goal.returns-clause-leading_zeros
returns-clause-leading_zeros c = refl

pub returns-clause-super_carrier_only : goal.returns-clause-super_carrier_only
returns-clause-super_carrier_only c = refl

pub returns-clause-only_super_carrier : goal.returns-clause-only_super_carrier
returns-clause-only_super_carrier c = refl

pub returns-clause-schedulers : goal.returns-clause-schedulers
returns-clause-schedulers c = refl

pub returns-clause-one_then_all : goal.returns-clause-one_then_all
returns-clause-one_then_all c = refl

pub returns-clause-all_then_one : goal.returns-clause-all_then_one
returns-clause-all_then_one c = refl

pub returns-clause-later_holds : goal.returns-clause-later_holds
returns-clause-later_holds c = refl

pub returns-clause-default_again : goal.returns-clause-default_again
returns-clause-default_again c = refl

pub returns-clause-limit_hundred : goal.returns-clause-limit_hundred
returns-clause-limit_hundred c = refl

pub returns-clause-temp_alloc_at_default : goal.returns-clause-temp_alloc_at_default
returns-clause-temp_alloc_at_default c = refl

pub returns-clause-best_fit_migrates : goal.returns-clause-best_fit_migrates
returns-clause-best_fit_migrates c = refl

pub returns-clause-best_fit_by_default : goal.returns-clause-best_fit_by_default
returns-clause-best_fit_by_default c = refl

pub returns-clause-best_fit : goal.returns-clause-best_fit
returns-clause-best_fit c = refl

pub returns-clause-limit_before_strategy : goal.returns-clause-limit_before_strategy
returns-clause-limit_before_strategy c = refl

pub returns-clause-limit_twice : goal.returns-clause-limit_twice
returns-clause-limit_twice c = refl

pub returns-clause-strategy_between : goal.returns-clause-strategy_between
returns-clause-strategy_between c = refl

pub returns-clause-address_order_best_fit : goal.returns-clause-address_order_best_fit
returns-clause-address_order_best_fit c = refl

pub returns-clause-good_fit : goal.returns-clause-good_fit
returns-clause-good_fit c = refl

pub returns-clause-address_fit : goal.returns-clause-address_fit
returns-clause-address_fit c = refl

pub returns-clause-first_fit : goal.returns-clause-first_fit
returns-clause-first_fit c = refl

pub returns-clause-good_fit_of_temp_alloc : goal.returns-clause-good_fit_of_temp_alloc
returns-clause-good_fit_of_temp_alloc c = refl

pub returns-clause-no_migration : goal.returns-clause-no_migration
returns-clause-no_migration c = refl

pub returns-clause-number_limit : goal.returns-clause-number_limit
returns-clause-number_limit c = refl

pub returns-clause-greatest_number_limit : goal.returns-clause-greatest_number_limit
returns-clause-greatest_number_limit c = refl

pub returns-clause-greatest_least_gap : goal.returns-clause-greatest_least_gap
returns-clause-greatest_least_gap c = refl

pub returns-clause-always_moves : goal.returns-clause-always_moves
returns-clause-always_moves c = refl

pub returns-clause-moves_again : goal.returns-clause-moves_again
returns-clause-moves_again c = refl

pub returns-clause-holds_anyway : goal.returns-clause-holds_anyway
returns-clause-holds_anyway c = refl

pub returns-clause-a_kilobyte : goal.returns-clause-a_kilobyte
returns-clause-a_kilobyte c = refl

pub returns-clause-greatest_threshold : goal.returns-clause-greatest_threshold
returns-clause-greatest_threshold c = refl

pub returns-clause-sizes : goal.returns-clause-sizes
returns-clause-sizes c = refl

pub returns-clause-counts : goal.returns-clause-counts
returns-clause-counts c = refl

pub returns-clause-percentages : goal.returns-clause-percentages
returns-clause-percentages c = refl

pub returns-clause-first_letters : goal.returns-clause-first_letters
returns-clause-first_letters c = refl

pub returns-clause-last_letters : goal.returns-clause-last_letters
returns-clause-last_letters c = refl
