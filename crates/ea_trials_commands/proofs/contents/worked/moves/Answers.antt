use Rattle.std.proofs.Common.{refl}
use Rattle.ea_model.specs.Instance.{unused_from}
use Rattle.ea_machine.specs.Table.{answer, effect}
use Rattle.ea_machine.specs.Machine.{after, step_at}
use Rattle.ea_trials_commands.specs.Contents.{moved}
use Rattle.ea_trials_commands.proofs.contents.worked.moves.Goals as goal

pub returns : goal.returns
unfolding moved unused_from answer effect after step_at
returns c = refl
