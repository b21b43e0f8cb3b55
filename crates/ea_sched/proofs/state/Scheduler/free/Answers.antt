use Rattle.std.proofs.Common.{sym, ap, ◌∙◌}
use Rattle.ea_machine.specs.Operations.{freed}
use Rattle.ea_sound.proofs.Asked.{named-spot}
use Rattle.ea_sched.specs.Acting.{ready_of, setup_for}
use Rattle.ea_sched.proofs.state.Scheduler.free.Goals as goal

pub returns-in-Some-clause-actor : goal.returns-in-Some-clause-actor
returns-in-Some-clause-actor c =
    let s = c.args.self.now in
    let held = named-spot c.args.name c.in-Some.spot s.names.held
    (sym c.spot_of.ensures ∙ c.in-Some.is) in
    c.hand_over.ensures.actor
    ∙ sym (ap (freed (setup_for s) s.number c.args.name (ready_of s)) held)
