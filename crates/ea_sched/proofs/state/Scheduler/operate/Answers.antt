use Rattle.std.proofs.Common.{◌+◌, ◌∷◌, None, drop, sym, ap, ◌∙◌}
use Rattle.ea_machine.specs.Operations.{itself}
use Rattle.ea_machine.specs.Placements.{seek}
use Rattle.ea_sched.specs.Acting.{ready_of, setup_for}
use Rattle.ea_sched.proofs.Acts.{plans-as, made-as}
use Rattle.ea_sched.proofs.state.Scheduler.operate.Goals as goal

pub returns-in-Alloc-clause-actor : goal.returns-in-Alloc-clause-actor
returns-in-Alloc-clause-actor c =
    let s = c.args.self.now in
    let name = c.in-Alloc.name in
    made-as c.seek.result _ c.seek.ensures.actor
    (ap (λ need. seek (setup_for s) s.number (record { name = name; need = need; old = None })
    (ready_of s)) c.need-need.ensures
    ∙ sym (ap (λ op. itself (setup_for s) s.number (ready_of s)
    (op ∷ drop (s.done + 1) s.text.now)) c.in-Alloc.is))

pub returns-in-Alloc-clause-memory : goal.returns-in-Alloc-clause-memory
returns-in-Alloc-clause-memory c =
    let s = c.args.self.now in
    let name = c.in-Alloc.name in
    plans-as c.seek.result s c.seek.ensures.memory
    (ap (λ need. seek (setup_for s) s.number (record { name = name; need = need; old = None })
    (ready_of s)) c.need-need.ensures
    ∙ sym (ap (λ op. itself (setup_for s) s.number (ready_of s)
    (op ∷ drop (s.done + 1) s.text.now)) c.in-Alloc.is))
