use Rattle.std.proofs.Common.{sym, ap, ◌∙◌}
use Rattle.ea_machine.specs.Placements.{new_carrier_by}
use Rattle.ea_sched.specs.Acting.{ready_of, setup_for}
use Rattle.ea_sched.proofs.Acts.{plans-as, made-as}
use Rattle.ea_sched.proofs.state.Scheduler.seek_new.Goals as goal

pub returns-in-Ok-clause-actor : goal.returns-in-Ok-clause-actor
returns-in-Ok-clause-actor c =
    let s = c.args.self.now in
    made-as c.prepare_planned.result _ c.prepare_planned.ensures.actor
    (sym (ap (new_carrier_by (setup_for s) s.number c.args.ask c.args.looked (ready_of s))
    (sym c.plan_carrier.ensures.plan ∙ c.in-Ok.is)))

pub returns-in-Ok-clause-memory : goal.returns-in-Ok-clause-memory
returns-in-Ok-clause-memory c =
    let s = c.args.self.now in
    plans-as c.prepare_planned.result s c.prepare_planned.ensures.memory
    (sym (ap (new_carrier_by (setup_for s) s.number c.args.ask c.args.looked (ready_of s))
    (sym c.plan_carrier.ensures.plan ∙ c.in-Ok.is)))
