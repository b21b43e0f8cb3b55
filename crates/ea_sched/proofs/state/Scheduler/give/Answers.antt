use Rattle.std.proofs.Common.{refl, arith}
use Rattle.ea_machine.specs.declared.stages.Stage.TheVariants.{Giving}
use Rattle.ea_machine.specs.Rows.{Done, Give}
use Rattle.ea_sched.proofs.Calling.{give-fresh, give-more, give-name, give-spot, row-done}
use Rattle.ea_sched.proofs.state.Scheduler.give.Goals as goal

pub give-requires-clause-name : goal.give-requires-clause-name
give-requires-clause-name g c =
    let name = give-name c.args.self.now c.requires.starts.ready c.args.given c.args.to
    refl in
    omega (arith, name, c.requires.starts.greatest)

pub give-requires-clause-spot : goal.give-requires-clause-spot
give-requires-clause-spot g c =
    let spot = give-spot c.args.self.now c.requires.starts.ready c.args.given c.args.to
    refl in
    (spot.0, omega (arith, spot.1, c.requires.starts.schedulers), spot.2, spot.3)

pub give-requires-clause-fresh : goal.give-requires-clause-fresh
give-requires-clause-fresh g c = give-fresh c.args.self.now c.requires.starts.ready c.args.given
    c.args.to
    refl

pub gave-requires-clause-more : goal.gave-requires-clause-more
gave-requires-clause-more g c = give-more c.args.self.now c.requires.starts.ready c.args.given
    c.args.to
    refl

pub gave-requires-clause-name : goal.gave-requires-clause-name
gave-requires-clause-name g c =
    let s = c.args.self.now in
    let name = give-name s c.requires.starts.ready c.args.given c.args.to refl in
    omega (arith, name, s.names_upto)

pub returns-clause-row : goal.returns-clause-row
returns-clause-row g c = row-done c.args.self.now c.requires.starts.ready (Give c.args.given) Done
    (Giving c.args.given c.args.to) refl refl c.give.ensures.row
    c.gave.ensures.actor
