use Rattle.std.proofs.Common.{refl}
use Rattle.std.specs.Fmt.{digits}
use Rattle.ea_trials_commands.proofs.recorded.worked.two_schedulers.Goals as goal

pub returns-clause-texts : goal.returns-clause-texts
unfolding digits
returns-clause-texts c = refl

pub returns-clause-order : goal.returns-clause-order
unfolding digits
returns-clause-order c = refl

pub returns-clause-no_lines : goal.returns-clause-no_lines
unfolding digits
returns-clause-no_lines c = refl
