use Rattle.std.proofs.Common.{refl}
use Rattle.std.specs.Fmt.{digits}
use Rattle.ea_trials_commands.proofs.contents.inputs.lines_of_a_move.Goals as goal

pub returns : goal.returns
unfolding digits
returns c = refl
