use Rattle.ea_trials_schedulers.proofs.Following.{after-busy, after-lost}
use Rattle.ea_trials_schedulers.proofs.shared.a_busy_carrier_is_not_fetched_before_it_is_settled.Goals as goal

pub settle_pooled-requires-clause-busy : goal.settle_pooled-requires-clause-busy
settle_pooled-requires-clause-busy g c =
    after-lost 1
    (after-busy c.in_ok-shared.ensures.pooled c.busy_try.ensures.row.shared)
    c.fetch_try.ensures.row.shared
