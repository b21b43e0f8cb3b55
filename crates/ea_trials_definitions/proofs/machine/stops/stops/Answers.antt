use Rattle.std.proofs.Common.{refl}
use Rattle.std.specs.Fmt.{digits}
use Rattle.ea_model.specs.GoodFit.{bin_of, powers}
use Rattle.ea_model.specs.Instance.{unused_from}
use Rattle.ea_machine.specs.Table.{answer, effect}
use Rattle.ea_machine.specs.Machine.{after, step_at}
use Rattle.ea_trials_definitions.proofs.machine.stops.stops.Goals as goal

pub returns-clause-stopped_at_once : goal.returns-clause-stopped_at_once
unfolding digits unused_from bin_of powers answer effect after step_at
returns-clause-stopped_at_once c = refl

pub returns-clause-stop_at_the_end_of_its_text : goal.returns-clause-stop_at_the_end_of_its_text
unfolding digits unused_from bin_of powers answer effect after step_at
returns-clause-stop_at_the_end_of_its_text c = refl

pub returns-clause-stopped_a_step_before_its_end : goal.returns-clause-stopped_a_step_before_its_end
unfolding digits unused_from bin_of powers answer effect after step_at
returns-clause-stopped_a_step_before_its_end c = refl

pub returns-clause-stopped_before_link : goal.returns-clause-stopped_before_link
unfolding digits unused_from bin_of powers answer effect after step_at
returns-clause-stopped_before_link c = refl

pub returns-clause-stopped_while_busy : goal.returns-clause-stopped_while_busy
unfolding digits unused_from bin_of powers answer effect after step_at
returns-clause-stopped_while_busy c = refl

pub returns-clause-own_carrier_fetched_back : goal.returns-clause-own_carrier_fetched_back
unfolding digits unused_from bin_of powers answer effect after step_at
returns-clause-own_carrier_fetched_back c = refl

pub returns-clause-stopped_between_own_looks : goal.returns-clause-stopped_between_own_looks
unfolding digits unused_from bin_of powers answer effect after step_at
returns-clause-stopped_between_own_looks c = refl

pub returns-clause-stopped_after_own_try : goal.returns-clause-stopped_after_own_try
unfolding digits unused_from bin_of powers answer effect after step_at
returns-clause-stopped_after_own_try c = refl

pub returns-clause-stopped_before_traitor_try : goal.returns-clause-stopped_before_traitor_try
unfolding digits unused_from bin_of powers answer effect after step_at
returns-clause-stopped_before_traitor_try c = refl

pub returns-clause-stopped_after_traitor_try : goal.returns-clause-stopped_after_traitor_try
unfolding digits unused_from bin_of powers answer effect after step_at
returns-clause-stopped_after_traitor_try c = refl
