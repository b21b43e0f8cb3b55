use Rattle.std.proofs.Common.{refl}
use Rattle.std.specs.Fmt.{digits}
use Rattle.ea_model.specs.GoodFit.{bin_of, powers}
use Rattle.ea_model.specs.Instance.{unused_from}
use Rattle.ea_machine.specs.Table.{answer, effect}
use Rattle.ea_machine.specs.Machine.{after, step_at}
use Rattle.ea_trials_commands.proofs.recorded.worked.turns_of_lines.Goals as goal

pub returns-clause-turns : goal.returns-clause-turns
unfolding digits unused_from bin_of powers answer effect after step_at
returns-clause-turns c = refl

pub returns-clause-too_early : goal.returns-clause-too_early
unfolding digits unused_from bin_of powers answer effect after step_at
returns-clause-too_early c = refl

pub returns-clause-idle_alone : goal.returns-clause-idle_alone
unfolding digits unused_from bin_of powers answer effect after step_at
returns-clause-idle_alone c = refl

pub returns-clause-one_scheduler : goal.returns-clause-one_scheduler
unfolding digits unused_from bin_of powers answer effect after step_at
returns-clause-one_scheduler c = refl
