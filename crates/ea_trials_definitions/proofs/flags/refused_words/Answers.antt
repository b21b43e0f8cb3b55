use Rattle.std.proofs.Common.{refl}
use Rattle.ea_trials_definitions.proofs.flags.refused_words.Goals as goal

pub returns-clause-no_such_strategy : goal.returns-clause-no_such_strategy
returns-clause-no_such_strategy c = refl

pub returns-clause-value_in_the_flag : goal.returns-clause-value_in_the_flag
returns-clause-value_in_the_flag c = refl

pub returns-clause-value_missing : goal.returns-clause-value_missing
returns-clause-value_missing c = refl

pub returns-clause-one_for_all_schedulers : goal.returns-clause-one_for_all_schedulers
returns-clause-one_for_all_schedulers c = refl

pub returns-clause-disabled : goal.returns-clause-disabled
returns-clause-disabled c = refl

pub returns-clause-fixed_size_allocator : goal.returns-clause-fixed_size_allocator
returns-clause-fixed_size_allocator c = refl

pub returns-clause-low_number_limit : goal.returns-clause-low_number_limit
returns-clause-low_number_limit c = refl

pub returns-clause-schedulers_online : goal.returns-clause-schedulers_online
returns-clause-schedulers_online c = refl

pub returns-clause-above_hundred_percent : goal.returns-clause-above_hundred_percent
returns-clause-above_hundred_percent c = refl

pub returns-clause-schedulers_missing : goal.returns-clause-schedulers_missing
returns-clause-schedulers_missing c = refl

pub returns-clause-no_schedulers : goal.returns-clause-no_schedulers
returns-clause-no_schedulers c = refl

pub returns-clause-too_many_schedulers : goal.returns-clause-too_many_schedulers
returns-clause-too_many_schedulers c = refl

pub returns-clause-zeros_are_digits : goal.returns-clause-zeros_are_digits
returns-clause-zeros_are_digits c = refl

pub returns-clause-eleven_digits : goal.returns-clause-eleven_digits
returns-clause-eleven_digits c = refl

pub returns-clause-no_number : goal.returns-clause-no_number
returns-clause-no_number c = refl

pub returns-clause-great_super_carrier : goal.returns-clause-great_super_carrier
returns-clause-great_super_carrier c = refl

pub returns-clause-threshold_zero : goal.returns-clause-threshold_zero
returns-clause-threshold_zero c = refl

pub returns-clause-great_threshold : goal.returns-clause-great_threshold
returns-clause-great_threshold c = refl

pub returns-clause-great_least_gap : goal.returns-clause-great_least_gap
returns-clause-great_least_gap c = refl

pub returns-clause-second_value : goal.returns-clause-second_value
returns-clause-second_value c = refl

pub returns-clause-limit_of_temp_alloc : goal.returns-clause-limit_of_temp_alloc
returns-clause-limit_of_temp_alloc c = refl

pub returns-clause-default_of_another : goal.returns-clause-default_of_another
returns-clause-default_of_another c = refl

pub returns-clause-no_truth : goal.returns-clause-no_truth
returns-clause-no_truth c = refl

pub returns-clause-not_only_super_carrier : goal.returns-clause-not_only_super_carrier
returns-clause-not_only_super_carrier c = refl

pub returns-clause-other_segment_flag : goal.returns-clause-other_segment_flag
returns-clause-other_segment_flag c = refl

pub returns-clause-literal_allocator : goal.returns-clause-literal_allocator
returns-clause-literal_allocator c = refl

pub returns-clause-executable_allocator : goal.returns-clause-executable_allocator
returns-clause-executable_allocator c = refl

pub returns-clause-system_allocator : goal.returns-clause-system_allocator
returns-clause-system_allocator c = refl

pub returns-clause-system_allocator_alone : goal.returns-clause-system_allocator_alone
returns-clause-system_allocator_alone c = refl

pub returns-clause-carrier_pool : goal.returns-clause-carrier_pool
returns-clause-carrier_pool c = refl

pub returns-clause-carrier_pool_alone : goal.returns-clause-carrier_pool_alone
returns-clause-carrier_pool_alone c = refl

pub returns-clause-tags_of_all : goal.returns-clause-tags_of_all
returns-clause-tags_of_all c = refl

pub returns-clause-most_single_carriers : goal.returns-clause-most_single_carriers
returns-clause-most_single_carriers c = refl

pub returns-clause-most_multi_carriers : goal.returns-clause-most_multi_carriers
returns-clause-most_multi_carriers c = refl

pub returns-clause-all_allocators : goal.returns-clause-all_allocators
returns-clause-all_allocators c = refl

pub returns-clause-no_such_letter : goal.returns-clause-no_such_letter
returns-clause-no_such_letter c = refl

pub returns-clause-another_letter : goal.returns-clause-another_letter
returns-clause-another_letter c = refl

pub returns-clause-letter_alone : goal.returns-clause-letter_alone
returns-clause-letter_alone c = refl

pub returns-clause-missing_at_the_end : goal.returns-clause-missing_at_the_end
returns-clause-missing_at_the_end c = refl

pub returns-clause-bad_value_first : goal.returns-clause-bad_value_first
returns-clause-bad_value_first c = refl

pub returns-clause-unknown_first : goal.returns-clause-unknown_first
returns-clause-unknown_first c = refl

pub returns-clause-unsupported_first : goal.returns-clause-unsupported_first
returns-clause-unsupported_first c = refl
