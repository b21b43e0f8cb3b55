use Rattle.std.proofs.Common.{sym, ap, ◌∙◌}
use Rattle.ea_machine.specs.Releases.{looked}
use Rattle.ea_sched.specs.Acting.{setup_for, standing_at}
use Rattle.ea_sched.proofs.Routing.{looked-mine, looked-others, looked-others_pool}
use Rattle.ea_sched.proofs.state.Scheduler.looked.Goals as goal

pub returns-then-instance-self-clause-turned : goal.returns-then-instance-self-clause-turned
returns-then-instance-self-clause-turned c = λ at.
    let s = c.args.self.now in
    c.release_here.ensures.turned at
    ∙ looked-mine (setup_for s) s.number c.args.hand c.args.gone (standing_at at s) c.args.seen
    c.in-Employed.instance c.in-Employed.is c.if-instance-self.true

pub returns-else-instance-self-clause-turned : goal.returns-else-instance-self-clause-turned
returns-else-instance-self-clause-turned c = λ at.
    let s = c.args.self.now in
    c.send_to.ensures (standing_at at s)
    ∙ looked-others (setup_for s) s.number c.args.hand c.args.gone (standing_at at s) c.args.seen
    c.in-Employed.instance c.in-Employed.is c.if-instance-self.false

pub returns-else-instance-self-2-clause-turned : goal.returns-else-instance-self-2-clause-turned
returns-else-instance-self-2-clause-turned c = λ at.
    let s = c.args.self.now in
    c.send_to-in-Pooled.ensures (standing_at at s)
    ∙ looked-others_pool (setup_for s) s.number c.args.hand c.args.gone (standing_at at s)
    c.args.seen c.in-Pooled.instance _ c.in-Pooled.is c.if-instance-self-2.false

pub returns-in-Busy-clause-turned : goal.returns-in-Busy-clause-turned
returns-in-Busy-clause-turned c = λ at.
    let s = c.args.self.now in
    c.send_to-in-Busy.ensures (standing_at at s)
    ∙ ap (looked (setup_for s) s.number c.args.hand c.args.gone (standing_at at s))
    (sym c.in-Busy.is)
