use Rattle.std.proofs.Common.{refl}
use Rattle.std.specs.Fmt.{digits}
use Rattle.ea_trials_commands.proofs.recorded.worked.ruled_inputs.Goals as goal

pub returns-clause-no_line : goal.returns-clause-no_line
unfolding digits
returns-clause-no_line c = refl

pub returns-clause-no_operation : goal.returns-clause-no_operation
unfolding digits
returns-clause-no_operation c = refl

pub returns-clause-powers : goal.returns-clause-powers
unfolding digits
returns-clause-powers c = refl

pub returns-clause-falling : goal.returns-clause-falling
unfolding digits
returns-clause-falling c = refl

pub returns-clause-in_any_order : goal.returns-clause-in_any_order
unfolding digits
returns-clause-in_any_order c = refl

pub returns-clause-all : goal.returns-clause-all
unfolding digits
returns-clause-all c = refl

pub returns-clause-texts : goal.returns-clause-texts
unfolding digits
returns-clause-texts c = refl
