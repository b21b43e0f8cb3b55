use Rattle.std.proofs.Common.{refl}
use Rattle.ea_model.specs.Instance.{unused_from}
use Rattle.ea_machine.specs.Table.{answer, effect}
use Rattle.ea_machine.specs.Machine.{after, step_at}
use Rattle.ea_trials_commands.specs.Contents.{fetched}
use Rattle.ea_trials_commands.proofs.contents.worked.migrates.Goals as goal

pub returns-clause-wrote : goal.returns-clause-wrote
unfolding fetched unused_from answer effect after step_at
returns-clause-wrote c = refl

pub returns-clause-found : goal.returns-clause-found
unfolding fetched unused_from answer effect after step_at
returns-clause-found c = refl
