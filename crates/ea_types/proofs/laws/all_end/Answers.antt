use Rattle.ea_types.proofs.Ending.{all-end}
use Rattle.ea_types.proofs.laws.all_end.Goals as goal

pub returns : goal.returns
returns c = all-end
