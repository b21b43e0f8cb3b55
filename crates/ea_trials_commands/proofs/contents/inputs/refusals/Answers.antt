use Rattle.std.proofs.Common.{refl}
use Rattle.ea_trials_commands.specs.ContentsInputs.{of_no_name, of_no_trace, outside_sections, unread}
use Rattle.ea_trials_commands.proofs.contents.inputs.refusals.Goals as goal

pub returns-clause-trace : goal.returns-clause-trace
unfolding of_no_trace
returns-clause-trace c = refl

pub returns-clause-malformed : goal.returns-clause-malformed
unfolding unread
returns-clause-malformed c = refl

pub returns-clause-elsewhere : goal.returns-clause-elsewhere
unfolding outside_sections
returns-clause-elsewhere c = refl

pub returns-clause-unheld : goal.returns-clause-unheld
unfolding of_no_name
returns-clause-unheld c = refl
