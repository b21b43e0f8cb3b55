use Rattle.ea_contents.proofs.Completed.{all-end}
use Rattle.ea_contents.proofs.laws.all_end.Goals as goal

pub returns : goal.returns
returns c = all-end
