use Rattle.std.proofs.Common.{sym, ap, ◌∙◌}
use Rattle.ea_machine.specs.declared.tasks.Task.TheVariants.{Moving}
use Rattle.ea_machine.specs.Placements.{holding, spot_of_place, stands}
use Rattle.ea_machine.specs.Tasks.{hands_over}
use Rattle.ea_sched.specs.Acting.{ready_of, setup_for}
use Rattle.ea_sched.proofs.state.Scheduler.placed.Goals as goal

pub returns-in-Some-clause-actor : goal.returns-in-Some-clause-actor
returns-in-Some-clause-actor c =
    let s = c.args.self.now in
    let name = c.args.ask.name in
    let place = c.args.place in
    let old = c.in-Some.old in
    let task = Moving old.name name place in
    c.hand_over.ensures.actor
    ∙ ap (λ h. hands_over (setup_for s) s.number task old (record (ready_of s) { held = h }))
    c.hold.ensures.held
    ∙ sym (ap (λ o. stands (setup_for s) s.number name place o
    (holding name (spot_of_place place) (ready_of s))) c.in-Some.is)
