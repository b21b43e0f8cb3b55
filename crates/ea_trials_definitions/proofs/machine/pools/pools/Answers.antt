use Rattle.std.proofs.Common.{refl}
use Rattle.std.specs.Fmt.{digits}
use Rattle.ea_model.specs.GoodFit.{bin_of, powers}
use Rattle.ea_model.specs.Instance.{unused_from}
use Rattle.ea_machine.specs.Table.{answer, effect}
use Rattle.ea_machine.specs.Machine.{after, step_at}
use Rattle.ea_trials_definitions.proofs.machine.pools.pools.Goals as goal

pub returns-clause-abandon_and_fetch : goal.returns-clause-abandon_and_fetch
unfolding digits unused_from bin_of powers answer effect after step_at
returns-clause-abandon_and_fetch c = refl

pub returns-clause-abandoned_at_the_end : goal.returns-clause-abandoned_at_the_end
unfolding digits unused_from bin_of powers answer effect after step_at
returns-clause-abandoned_at_the_end c = refl

pub returns-clause-returned_carrier : goal.returns-clause-returned_carrier
unfolding digits unused_from bin_of powers answer effect after step_at
returns-clause-returned_carrier c = refl

pub returns-clause-forwarded_block : goal.returns-clause-forwarded_block
unfolding digits unused_from bin_of powers answer effect after step_at
returns-clause-forwarded_block c = refl

pub returns-clause-busy_carrier_skipped : goal.returns-clause-busy_carrier_skipped
unfolding digits unused_from bin_of powers answer effect after step_at
returns-clause-busy_carrier_skipped c = refl

pub returns-clause-search_limit : goal.returns-clause-search_limit
unfolding digits unused_from bin_of powers answer effect after step_at
returns-clause-search_limit c = refl

pub returns-clause-sixteen_schedulers : goal.returns-clause-sixteen_schedulers
unfolding digits unused_from bin_of powers answer effect after step_at
returns-clause-sixteen_schedulers c = refl
