use Rattle.ea_types.proofs.OwnRuns.{are-own_runs}
use Rattle.ea_types.proofs.laws.own_runs.Goals as goal

pub returns : goal.returns
returns c = are-own_runs
