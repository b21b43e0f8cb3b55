use Rattle.std.proofs.Common.{refl}
use Rattle.std.specs.Fmt.{digits}
use Rattle.ea_model.specs.GoodFit.{bin_of, powers}
use Rattle.ea_model.specs.Instance.{unused_from}
use Rattle.ea_machine.specs.Table.{answer, effect}
use Rattle.ea_machine.specs.Machine.{after, step_at}
use Rattle.ea_trials_definitions.proofs.machine.owns.owns.Goals as goal

pub returns-clause-random_1 : goal.returns-clause-random_1
unfolding digits unused_from bin_of powers answer effect after step_at
returns-clause-random_1 c = refl

pub returns-clause-random_2 : goal.returns-clause-random_2
unfolding digits unused_from bin_of powers answer effect after step_at
returns-clause-random_2 c = refl
