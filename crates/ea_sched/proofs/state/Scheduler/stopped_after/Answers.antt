use Rattle.std.proofs.Common.{sym, ◌∙◌}
use Rattle.ea_sched.proofs.Resting.{going-line, stopped-line}
use Rattle.ea_sched.proofs.state.Scheduler.stopped_after.Goals as goal

pub returns-then-stopped : goal.returns-then-stopped
returns-then-stopped c =
    stopped-line c.args.self.now.stage c.args.self.now.stop c.args.self.now.left
    (sym c.stopped.ensures ∙ c.if-stopped.true)

pub returns : goal.returns
returns c = going-line c.args.self.now.stage c.args.self.now.stop c.args.self.now.left
    (sym c.stopped.ensures ∙ c.if-stopped.false)
