use Rattle.std.proofs.Common.{refl}
use Rattle.ea_model.specs.Instance.{unused_from}
use Rattle.ea_machine.specs.Table.{answer, effect}
use Rattle.ea_machine.specs.Machine.{after, step_at}
use Rattle.ea_trials_definitions.proofs.soundness.queues.queues.Goals as goal

pub returns-clause-no_failure_forwarding : goal.returns-clause-no_failure_forwarding
unfolding unused_from answer effect after step_at
returns-clause-no_failure_forwarding c = refl

pub returns-clause-forwarded : goal.returns-clause-forwarded
unfolding unused_from answer effect after step_at
returns-clause-forwarded c = refl

pub returns-clause-fetched_meanwhile : goal.returns-clause-fetched_meanwhile
unfolding unused_from answer effect after step_at
returns-clause-fetched_meanwhile c = refl

pub returns-clause-no_failure_resting : goal.returns-clause-no_failure_resting
unfolding unused_from answer effect after step_at
returns-clause-no_failure_resting c = refl

pub returns-clause-oldest_rests : goal.returns-clause-oldest_rests
unfolding unused_from answer effect after step_at
returns-clause-oldest_rests c = refl

pub returns-clause-cleared : goal.returns-clause-cleared
unfolding unused_from answer effect after step_at
returns-clause-cleared c = refl
