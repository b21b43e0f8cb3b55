use Rattle.ea_trials_schedulers.proofs.Following.{after-abandon, after-create, full}
use Rattle.ea_trials_schedulers.proofs.shared.abandoned.Goals as goal

pub abandon-requires-clause-employed : goal.abandon-requires-clause-employed
abandon-requires-clause-employed c = after-create 2 c.create.ensures.row.shared

pub returns-clause-pooled : goal.returns-clause-pooled
returns-clause-pooled c = after-abandon full c.abandon.ensures.row.shared
