use Rattle.std.proofs.Common.{refl}
use Rattle.ea_model.specs.Instance.{unused_from}
use Rattle.ea_machine.specs.Table.{answer, effect}
use Rattle.ea_machine.specs.Machine.{after, step_at}
use Rattle.ea_trials_definitions.proofs.moments.returning.returning.Goals as goal

pub returns-clause-pooled : goal.returns-clause-pooled
unfolding unused_from answer effect after step_at
returns-clause-pooled c = refl

pub returns-clause-to_be_fetched : goal.returns-clause-to_be_fetched
unfolding unused_from answer effect after step_at
returns-clause-to_be_fetched c = refl

pub returns-clause-fetched : goal.returns-clause-fetched
unfolding unused_from answer effect after step_at
returns-clause-fetched c = refl

pub returns-clause-fetched_content : goal.returns-clause-fetched_content
unfolding unused_from answer effect after step_at
returns-clause-fetched_content c = refl

pub returns-clause-to_be_queued : goal.returns-clause-to_be_queued
unfolding unused_from answer effect after step_at
returns-clause-to_be_queued c = refl

pub returns-clause-queued_in_the_hand : goal.returns-clause-queued_in_the_hand
unfolding unused_from answer effect after step_at
returns-clause-queued_in_the_hand c = refl

pub returns-clause-pushed : goal.returns-clause-pushed
unfolding unused_from answer effect after step_at
returns-clause-pushed c = refl

pub returns-clause-linked : goal.returns-clause-linked
unfolding unused_from answer effect after step_at
returns-clause-linked c = refl

pub returns-clause-taken : goal.returns-clause-taken
unfolding unused_from answer effect after step_at
returns-clause-taken c = refl

pub returns-clause-to_be_passed : goal.returns-clause-to_be_passed
unfolding unused_from answer effect after step_at
returns-clause-to_be_passed c = refl

pub returns-clause-passed : goal.returns-clause-passed
unfolding unused_from answer effect after step_at
returns-clause-passed c = refl

pub returns-clause-looked_at : goal.returns-clause-looked_at
unfolding unused_from answer effect after step_at
returns-clause-looked_at c = refl

pub returns-clause-released_from_the_walk : goal.returns-clause-released_from_the_walk
unfolding unused_from answer effect after step_at
returns-clause-released_from_the_walk c = refl

pub returns-clause-abandoned_by_the_other : goal.returns-clause-abandoned_by_the_other
unfolding unused_from answer effect after step_at
returns-clause-abandoned_by_the_other c = refl

pub returns-clause-to_be_busy : goal.returns-clause-to_be_busy
unfolding unused_from answer effect after step_at
returns-clause-to_be_busy c = refl

pub returns-clause-freed_in_the_hand : goal.returns-clause-freed_in_the_hand
unfolding unused_from answer effect after step_at
returns-clause-freed_in_the_hand c = refl

pub returns-clause-busy : goal.returns-clause-busy
unfolding unused_from answer effect after step_at
returns-clause-busy c = refl

pub returns-clause-to_be_settled : goal.returns-clause-to_be_settled
unfolding unused_from answer effect after step_at
returns-clause-to_be_settled c = refl

pub returns-clause-emptied_in_the_hand : goal.returns-clause-emptied_in_the_hand
unfolding unused_from answer effect after step_at
returns-clause-emptied_in_the_hand c = refl

pub returns-clause-employed_when_settled : goal.returns-clause-employed_when_settled
unfolding unused_from answer effect after step_at
returns-clause-employed_when_settled c = refl

pub returns-clause-to_be_sent_home : goal.returns-clause-to_be_sent_home
unfolding unused_from answer effect after step_at
returns-clause-to_be_sent_home c = refl

pub returns-clause-emptied_and_there : goal.returns-clause-emptied_and_there
unfolding unused_from answer effect after step_at
returns-clause-emptied_and_there c = refl

pub returns-clause-returning : goal.returns-clause-returning
unfolding unused_from answer effect after step_at
returns-clause-returning c = refl

pub returns-clause-node_in_the_hand : goal.returns-clause-node_in_the_hand
unfolding unused_from answer effect after step_at
returns-clause-node_in_the_hand c = refl

pub returns-clause-returning_in_the_queue : goal.returns-clause-returning_in_the_queue
unfolding unused_from answer effect after step_at
returns-clause-returning_in_the_queue c = refl

pub returns-clause-node_in_the_queue : goal.returns-clause-node_in_the_queue
unfolding unused_from answer effect after step_at
returns-clause-node_in_the_queue c = refl

pub returns-clause-node_linked : goal.returns-clause-node_linked
unfolding unused_from answer effect after step_at
returns-clause-node_linked c = refl

pub returns-clause-nothing_but_free : goal.returns-clause-nothing_but_free
unfolding unused_from answer effect after step_at
returns-clause-nothing_but_free c = refl

pub returns-clause-returning_meanwhile : goal.returns-clause-returning_meanwhile
unfolding unused_from answer effect after step_at
returns-clause-returning_meanwhile c = refl

pub returns-clause-to_be_collected : goal.returns-clause-to_be_collected
unfolding unused_from answer effect after step_at
returns-clause-to_be_collected c = refl

pub returns-clause-owned_until_then : goal.returns-clause-owned_until_then
unfolding unused_from answer effect after step_at
returns-clause-owned_until_then c = refl

pub returns-clause-collected : goal.returns-clause-collected
unfolding unused_from answer effect after step_at
returns-clause-collected c = refl

pub returns-clause-owned_no_longer : goal.returns-clause-owned_no_longer
unfolding unused_from answer effect after step_at
returns-clause-owned_no_longer c = refl
