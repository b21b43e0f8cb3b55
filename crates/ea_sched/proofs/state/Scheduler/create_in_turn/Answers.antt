use Rattle.std.proofs.Common.{sym, ap, ◌∙◌}
use Rattle.ea_machine.specs.Placements.{making}
use Rattle.ea_sched.specs.Acting.{ready_of, setup_for}
use Rattle.ea_sched.proofs.state.Scheduler.create_in_turn.Goals as goal

pub returns-then-self-clause-actor : goal.returns-then-self-clause-actor
returns-then-self-clause-actor c =
    let s = c.args.self.now in
    sym (ap (making (setup_for s) s.number c.args.ask c.args.plan (ready_of s))
    (sym s.migrates_so ∙ c.if-self.true))

pub returns-clause-actor : goal.returns-clause-actor
returns-clause-actor c =
    let s = c.args.self.now in
    c.create.ensures.actor
    ∙ sym (ap (making (setup_for s) s.number c.args.ask c.args.plan (ready_of s))
    (sym s.migrates_so ∙ c.if-self.false))
