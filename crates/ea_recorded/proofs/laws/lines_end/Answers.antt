use Rattle.ea_recorded.proofs.Operating.{each-line-ends}
use Rattle.ea_recorded.proofs.laws.lines_end.Goals as goal

pub returns : goal.returns
returns c = each-line-ends
