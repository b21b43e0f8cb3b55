use Rattle.ea_trials_schedulers.proofs.Following.{after-fetch}
use Rattle.ea_trials_schedulers.proofs.shared.an_empty_carrier_returns_to_who_created_it.Goals as goal

pub send_home-requires-clause-employed : goal.send_home-requires-clause-employed
send_home-requires-clause-employed g c =
    after-fetch c.in_ok-shared.ensures.pooled c.fetch_try.ensures.row.shared
