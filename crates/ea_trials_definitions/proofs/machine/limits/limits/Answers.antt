use Rattle.std.proofs.Common.{refl}
use Rattle.std.specs.Fmt.{digits}
use Rattle.ea_model.specs.GoodFit.{bin_of, powers}
use Rattle.ea_model.specs.Instance.{unused_from}
use Rattle.ea_machine.specs.Table.{answer, effect}
use Rattle.ea_machine.specs.Machine.{after, step_at}
use Rattle.ea_trials_definitions.proofs.machine.limits.limits.Goals as goal

pub returns-clause-half_is_not_sparse : goal.returns-clause-half_is_not_sparse
unfolding digits unused_from bin_of powers answer effect after step_at
returns-clause-half_is_not_sparse c = refl

pub returns-clause-less_than_half_is_sparse : goal.returns-clause-less_than_half_is_sparse
unfolding digits unused_from bin_of powers answer effect after step_at
returns-clause-less_than_half_is_sparse c = refl

pub returns-clause-gap_large_enough : goal.returns-clause-gap_large_enough
unfolding digits unused_from bin_of powers answer effect after step_at
returns-clause-gap_large_enough c = refl

pub returns-clause-gap_a_byte_too_small : goal.returns-clause-gap_a_byte_too_small
unfolding digits unused_from bin_of powers answer effect after step_at
returns-clause-gap_a_byte_too_small c = refl

pub returns-clause-gap_that_just_fits : goal.returns-clause-gap_that_just_fits
unfolding digits unused_from bin_of powers answer effect after step_at
returns-clause-gap_that_just_fits c = refl

pub returns-clause-busy_word_counted : goal.returns-clause-busy_word_counted
unfolding digits unused_from bin_of powers answer effect after step_at
returns-clause-busy_word_counted c = refl

pub returns-clause-pooled_word_counted : goal.returns-clause-pooled_word_counted
unfolding digits unused_from bin_of powers answer effect after step_at
returns-clause-pooled_word_counted c = refl

pub returns-clause-employed_word_not_counted : goal.returns-clause-employed_word_not_counted
unfolding digits unused_from bin_of powers answer effect after step_at
returns-clause-employed_word_not_counted c = refl

pub returns-clause-lost_try_counted_once : goal.returns-clause-lost_try_counted_once
unfolding digits unused_from bin_of powers answer effect after step_at
returns-clause-lost_try_counted_once c = refl

pub returns-clause-sum_is_not_sparse : goal.returns-clause-sum_is_not_sparse
unfolding digits unused_from bin_of powers answer effect after step_at
returns-clause-sum_is_not_sparse c = refl

pub returns-clause-main_carrier_is_in_the_sum : goal.returns-clause-main_carrier_is_in_the_sum
unfolding digits unused_from bin_of powers answer effect after step_at
returns-clause-main_carrier_is_in_the_sum c = refl

pub returns-clause-single_is_not_in_the_sum : goal.returns-clause-single_is_not_in_the_sum
unfolding digits unused_from bin_of powers answer effect after step_at
returns-clause-single_is_not_in_the_sum c = refl

pub returns-clause-emptied_in_the_pool : goal.returns-clause-emptied_in_the_pool
unfolding digits unused_from bin_of powers answer effect after step_at
returns-clause-emptied_in_the_pool c = refl
