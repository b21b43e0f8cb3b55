use Rattle.ea_sched.proofs.CarrierCalling.{try-carrier, try-pooled, won-block}
use Rattle.ea_sched.proofs.StandsOn.{moves-on}
use Rattle.ea_sched.proofs.state.Scheduler.busy_try.Goals as goal

pub busy_try-requires-clause-migrates : goal.busy_try-requires-clause-migrates
busy_try-requires-clause-migrates g c = moves-on c.args.self.now c.requires.starts.row (λ off. off)

pub busy_try-requires-clause-carrier : goal.busy_try-requires-clause-carrier
busy_try-requires-clause-carrier g c = try-carrier c.args.self.now c.requires.starts.row

pub busy_try-requires-clause-seen : goal.busy_try-requires-clause-seen
busy_try-requires-clause-seen g c = try-pooled c.args.self.now c.requires.starts.row

pub release-requires : goal.release-requires
release-requires g c =
    won-block c.args.self.now c.requires.starts.row c.in-Won.content c.in-Won.ensures.row
