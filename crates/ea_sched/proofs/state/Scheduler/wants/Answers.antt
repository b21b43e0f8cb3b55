use Rattle.std.proofs.Common.{sym, ap, ◌∙◌}
use Rattle.ea_machine.specs.Machine.{wants_at}
use Rattle.ea_sched.specs.Wants.{is_last_at, row_told}
use Rattle.ea_sched.proofs.state.Scheduler.wants.Goals as goal

pub returns-in-Routed : goal.returns-in-Routed
returns-in-Routed c =
    let s = c.args.self.now in
    c.wanted_on.ensures s.next
    ∙ sym (ap (λ at. row_told s.number s.next (is_last_at at) (wants_at s.next at)) c.in-Routed.is)
