use Rattle.ea_sched.proofs.CarrierCalling.{clear-carrier, clear-employed, clear-leaving, clear-mine}
use Rattle.ea_sched.proofs.CarrierCalling.{clear-none, clear-own}
use Rattle.ea_sched.proofs.StandsOn.{moves-on}
use Rattle.ea_sched.proofs.state.Scheduler.clear.Goals as goal

pub clear_own-requires-clause-migrates : goal.clear_own-requires-clause-migrates
clear_own-requires-clause-migrates g c = moves-on c.args.self.now c.requires.starts.row (λ off. off)

pub clear_own-requires-clause-carrier : goal.clear_own-requires-clause-carrier
clear_own-requires-clause-carrier g c =
    clear-carrier c.args.self.now c.requires.starts.row c.number-number.ensures

pub clear_own-requires-clause-employed : goal.clear_own-requires-clause-employed
clear_own-requires-clause-employed g c =
    clear-employed c.args.self.now c.requires.starts.row c.number-number.ensures

pub clear_own-requires-clause-own : goal.clear_own-requires-clause-own
clear_own-requires-clause-own g c =
    clear-mine c.args.self.now c.requires.starts.row c.number-number.ensures

pub clear_own-requires-clause-leaves : goal.clear_own-requires-clause-leaves
clear_own-requires-clause-leaves g c = clear-leaving c.args.self.now c.requires.starts.row

pub disown-requires-clause-own : goal.disown-requires-clause-own
disown-requires-clause-own g c =
    clear-own c.args.self.now c.requires.starts.row c.number-number.ensures

pub disown-requires-clause-not_here : goal.disown-requires-clause-not_here
disown-requires-clause-not_here g c =
    clear-none c.args.self.now c.requires.starts.row c.number-number.ensures
