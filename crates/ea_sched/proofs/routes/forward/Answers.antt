use Rattle.std.proofs.Common.{sym, ap, ◌∙◌}
use Rattle.ea_machine.specs.Releases.{forwarded}
use Rattle.ea_sched.proofs.routes.forward.Goals as goal

pub returns-in-Employed : goal.returns-in-Employed
returns-in-Employed c = λ a. c.send_to.ensures a
    ∙ ap (forwarded c.args.hand c.args.gone a) (sym c.in-Employed.is)

pub returns-in-Pooled : goal.returns-in-Pooled
returns-in-Pooled c = λ a. c.send_to-in-Pooled.ensures a
    ∙ ap (forwarded c.args.hand c.args.gone a) (sym c.in-Pooled.is)

pub returns-in-Busy : goal.returns-in-Busy
returns-in-Busy c = λ a. c.send_to-in-Busy.ensures a
    ∙ ap (forwarded c.args.hand c.args.gone a) (sym c.in-Busy.is)
