use Rattle.ea_trials_schedulers.proofs.Following.{after-busy}
use Rattle.ea_trials_schedulers.proofs.shared.an_emptied_carrier_is_employed_again_and_cleared.Goals as goal

pub settle_employed-requires-clause-busy : goal.settle_employed-requires-clause-busy
settle_employed-requires-clause-busy g c =
    after-busy c.in_ok-shared.ensures.pooled c.busy_try.ensures.row.shared
