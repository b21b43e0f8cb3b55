use Rattle.std.proofs.Common.{refl}
use Rattle.ea_trials_commands.specs.ContentsInputs.{moving_accesses}
use Rattle.ea_trials_commands.proofs.contents.inputs.accesses_of_a_move.Goals as goal

pub returns-clause-after_two : goal.returns-clause-after_two
unfolding moving_accesses
returns-clause-after_two c = refl

pub returns-clause-after_three : goal.returns-clause-after_three
unfolding moving_accesses
returns-clause-after_three c = refl

pub returns-clause-after_one : goal.returns-clause-after_one
unfolding moving_accesses
returns-clause-after_one c = refl
