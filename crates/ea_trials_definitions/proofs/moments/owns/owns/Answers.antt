use Rattle.std.proofs.Common.{refl}
use Rattle.ea_model.specs.Instance.{unused_from}
use Rattle.ea_machine.specs.Table.{answer, effect}
use Rattle.ea_machine.specs.Machine.{after, step_at}
use Rattle.ea_trials_definitions.proofs.moments.owns.owns.Goals as goal

pub returns-clause-employed : goal.returns-clause-employed
unfolding unused_from answer effect after step_at
returns-clause-employed c = refl

pub returns-clause-abandoned : goal.returns-clause-abandoned
unfolding unused_from answer effect after step_at
returns-clause-abandoned c = refl

pub returns-clause-fetched_by_the_other : goal.returns-clause-fetched_by_the_other
unfolding unused_from answer effect after step_at
returns-clause-fetched_by_the_other c = refl

pub returns-clause-in_no_list_of_the_other : goal.returns-clause-in_no_list_of_the_other
unfolding unused_from answer effect after step_at
returns-clause-in_no_list_of_the_other c = refl

pub returns-clause-own_one_first : goal.returns-clause-own_one_first
unfolding unused_from answer effect after step_at
returns-clause-own_one_first c = refl

pub returns-clause-seen_with_the_other : goal.returns-clause-seen_with_the_other
unfolding unused_from answer effect after step_at
returns-clause-seen_with_the_other c = refl

pub returns-clause-traitor_next : goal.returns-clause-traitor_next
unfolding unused_from answer effect after step_at
returns-clause-traitor_next c = refl

pub returns-clause-still_a_traitor : goal.returns-clause-still_a_traitor
unfolding unused_from answer effect after step_at
returns-clause-still_a_traitor c = refl

pub returns-clause-pool_from_the_greatest : goal.returns-clause-pool_from_the_greatest
unfolding unused_from answer effect after step_at
returns-clause-pool_from_the_greatest c = refl

pub returns-clause-abandoned_meanwhile : goal.returns-clause-abandoned_meanwhile
unfolding unused_from answer effect after step_at
returns-clause-abandoned_meanwhile c = refl

pub returns-clause-traitor_until_fetched : goal.returns-clause-traitor_until_fetched
unfolding unused_from answer effect after step_at
returns-clause-traitor_until_fetched c = refl

pub returns-clause-fetched_back : goal.returns-clause-fetched_back
unfolding unused_from answer effect after step_at
returns-clause-fetched_back c = refl

pub returns-clause-in_no_list : goal.returns-clause-in_no_list
unfolding unused_from answer effect after step_at
returns-clause-in_no_list c = refl

pub returns-clause-tried_by_both : goal.returns-clause-tried_by_both
unfolding unused_from answer effect after step_at
returns-clause-tried_by_both c = refl

pub returns-clause-not_moved_by_a_fit : goal.returns-clause-not_moved_by_a_fit
unfolding unused_from answer effect after step_at
returns-clause-not_moved_by_a_fit c = refl

pub returns-clause-moved_by_a_lost_try : goal.returns-clause-moved_by_a_lost_try
unfolding unused_from answer effect after step_at
returns-clause-moved_by_a_lost_try c = refl

pub returns-clause-looked_at_again : goal.returns-clause-looked_at_again
unfolding unused_from answer effect after step_at
returns-clause-looked_at_again c = refl

pub returns-clause-listed_on_its_way_home : goal.returns-clause-listed_on_its_way_home
unfolding unused_from answer effect after step_at
returns-clause-listed_on_its_way_home c = refl

pub returns-clause-unlisted_when_collected : goal.returns-clause-unlisted_when_collected
unfolding unused_from answer effect after step_at
returns-clause-unlisted_when_collected c = refl

pub returns-clause-last_abandoned_last : goal.returns-clause-last_abandoned_last
unfolding unused_from answer effect after step_at
returns-clause-last_abandoned_last c = refl

pub returns-clause-first_one_first : goal.returns-clause-first_one_first
unfolding unused_from answer effect after step_at
returns-clause-first_one_first c = refl

pub returns-clause-skipped_goes_last : goal.returns-clause-skipped_goes_last
unfolding unused_from answer effect after step_at
returns-clause-skipped_goes_last c = refl

pub returns-clause-second_fits : goal.returns-clause-second_fits
unfolding unused_from answer effect after step_at
returns-clause-second_fits c = refl

pub returns-clause-second_fetched : goal.returns-clause-second_fetched
unfolding unused_from answer effect after step_at
returns-clause-second_fetched c = refl

pub returns-clause-each_looked_at_once : goal.returns-clause-each_looked_at_once
unfolding unused_from answer effect after step_at
returns-clause-each_looked_at_once c = refl

pub returns-clause-pool_from_the_first : goal.returns-clause-pool_from_the_first
unfolding unused_from answer effect after step_at
returns-clause-pool_from_the_first c = refl

pub returns-clause-then_from_the_greatest : goal.returns-clause-then_from_the_greatest
unfolding unused_from answer effect after step_at
returns-clause-then_from_the_greatest c = refl

pub returns-clause-pool_moves_none : goal.returns-clause-pool_moves_none
unfolding unused_from answer effect after step_at
returns-clause-pool_moves_none c = refl
