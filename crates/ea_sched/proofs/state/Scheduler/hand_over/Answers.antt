use Rattle.std.proofs.Common.{◌≡◌, true, false, ◌==◌, sym, ap, ◌∙◌}
use Rattle.ea_machine.specs.declared.stages.Route.TheVariants.{Looking}
use Rattle.ea_machine.specs.declared.stages.Stage.TheVariants.{Routed}
use Rattle.ea_machine.specs.declared.tasks.Gone.TheVariants.{Here, Open}
use Rattle.ea_machine.specs.declared.tasks.Why.TheVariants.{For}
use Rattle.ea_machine.specs.Nodes.{without_name}
use Rattle.ea_model.specs.Instance.{owner_of}
use Rattle.ea_machine.specs.Tasks.{let_go, task_over}
use Rattle.ea_sched.specs.Acting.{ready_of, setup_for}
use Rattle.ea_sound.specs.Releasing.{freed_at}
use Rattle.ea_sound.specs.Walking.{left_if, sent}
use Rattle.ea_sched.proofs.Acts.{handed}
use Rattle.ea_sched.proofs.Placing.{handed-on}
use Rattle.ea_sound.proofs.Freed.{released-away, released-here, task-open}
use Rattle.ea_sched.proofs.state.Scheduler.hand_over.Goals as goal

pub returns-then-self-clause-actor : goal.returns-then-self-clause-actor
returns-then-self-clause-actor c =
    let s = c.args.self.now in
    let hand = c.args.hand in
    let task = c.args.task in
    ap (λ held. record (ready_of s) { held = held; stage = Routed (Looking hand) (For task) Open })
    c.let_go.ensures.held
    ∙ sym (handed-on (setup_for s) s.number (sym s.migrates_so ∙ c.if-self.true) task hand
    (ready_of s))

pub returns-then-release_if_own-clause-actor : goal.returns-then-release_if_own-clause-actor
returns-then-release_if_own-clause-actor c =
    let s = c.args.self.now in
    let hand = c.args.hand in
    let task = c.args.task in
    let own : (owner_of hand.spot.carrier == s.number) ≡ true =
    sym c.release_if_own.ensures.own ∙ c.if-release_if_own.true in
    c.finish_task.ensures.actor
    ∙ handed (task_over task Here) (ready_of s) c.release_if_own.new.instance
    (freed_at s.instance hand.spot) c.let_go.new.self.held (without_name hand.name s.names.held)
    (c.release_if_own.ensures.left ∙ ap (λ own. left_if own s.instance hand.spot) own)
    c.let_go.ensures.held
    ∙ sym (released-here (setup_for s) s.number (sym s.migrates_so ∙ c.if-self.false) (For task)
    (task_over task) (task-open task) (let_go hand.name (ready_of s)) hand own)

pub returns-else-release_if_own-clause-actor : goal.returns-else-release_if_own-clause-actor
returns-else-release_if_own-clause-actor c =
    let s = c.args.self.now in
    let hand = c.args.hand in
    let task = c.args.task in
    let other : (owner_of hand.spot.carrier == s.number) ≡ false =
    sym c.release_if_own.ensures.own ∙ c.if-release_if_own.false in
    c.send.ensures.actor
    ∙ handed (sent hand (For task)) (ready_of s) c.release_if_own.new.instance
    s.instance c.let_go.new.self.held (without_name hand.name s.names.held)
    (c.release_if_own.ensures.left ∙ ap (λ own. left_if own s.instance hand.spot) other)
    c.let_go.ensures.held
    ∙ sym (released-away (setup_for s) s.number (sym s.migrates_so ∙ c.if-self.false) (For task)
    (task_over task) (task-open task) (let_go hand.name (ready_of s)) hand other)
