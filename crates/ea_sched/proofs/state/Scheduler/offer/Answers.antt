use Rattle.std.proofs.Common.{sym, ap, ◌∙◌}
use Rattle.ea_machine.specs.Operations.{giving}
use Rattle.ea_sound.proofs.Asked.{named-spot}
use Rattle.ea_sched.specs.Acting.{ready_of}
use Rattle.ea_sched.proofs.state.Scheduler.offer.Goals as goal

pub returns-in-Some-clause-actor : goal.returns-in-Some-clause-actor
returns-in-Some-clause-actor c =
    let s = c.args.self.now in
    sym (ap (giving c.args.name c.args.to (ready_of s))
    (named-spot c.args.name c.in-Some.spot s.names.held (sym c.spot_of.ensures ∙ c.in-Some.is)))
