use Rattle.std.proofs.Common.{sym, ap, subst, ◌∙◌}
use Rattle.std.specs.Prelude.{Some, IfSome}
use Rattle.ea_machine.specs.Reallocations.{reallocated}
use Rattle.ea_model.specs.Units.{need_of}
use Rattle.ea_sound.proofs.Asked.{named-spot}
use Rattle.ea_sched.specs.Acting.{ready_of, setup_for}
use Rattle.ea_sched.specs.Asking.{Lies}
use Rattle.ea_sched.proofs.Acts.{plans-as, made-as}
use Rattle.ea_sched.proofs.state.Scheduler.realloc.Goals as goal

pub reallocate-requires-clause-held : goal.reallocate-requires-clause-held
reallocate-requires-clause-held c =
    named-spot c.args.old c.in-Some.spot c.args.self.now.names.held
    (sym c.spot_of.ensures ∙ c.in-Some.is)

pub reallocate-requires-clause-lies : goal.reallocate-requires-clause-lies
reallocate-requires-clause-lies c =
    let s = c.args.self.now in
    let held = named-spot c.args.old c.in-Some.spot s.names.held
    (sym c.spot_of.ensures ∙ c.in-Some.is) in
    subst (λ o. IfSome o (Lies s.instance)) held c.requires.lies

pub returns-in-Some-clause-actor : goal.returns-in-Some-clause-actor
returns-in-Some-clause-actor c =
    let s = c.args.self.now in
    let held = named-spot c.args.old c.in-Some.spot s.names.held
    (sym c.spot_of.ensures ∙ c.in-Some.is) in
    made-as c.reallocate.result _ c.reallocate.ensures.actor
    (ap (λ need. reallocated (setup_for s) s.number c.args.old c.args.fresh need (ready_of s)
    (Some (record { name = c.args.old; spot = c.in-Some.spot }))) c.need.ensures
    ∙ sym (ap (reallocated (setup_for s) s.number c.args.old c.args.fresh (need_of c.args.bytes)
    (ready_of s)) held))

pub returns-in-Some-clause-memory : goal.returns-in-Some-clause-memory
returns-in-Some-clause-memory c =
    let s = c.args.self.now in
    let held = named-spot c.args.old c.in-Some.spot s.names.held
    (sym c.spot_of.ensures ∙ c.in-Some.is) in
    plans-as c.reallocate.result s c.reallocate.ensures.memory
    (ap (λ need. reallocated (setup_for s) s.number c.args.old c.args.fresh need (ready_of s)
    (Some (record { name = c.args.old; spot = c.in-Some.spot }))) c.need.ensures
    ∙ sym (ap (reallocated (setup_for s) s.number c.args.old c.args.fresh (need_of c.args.bytes)
    (ready_of s)) held))
