use Rattle.std.proofs.Common.{◌≡◌, refl, sym, ◌∙◌}
use Rattle.ea_machine.specs.declared.stages.Stage.TheVariants.{Begin, Creating}
use Rattle.ea_machine.specs.Rows.{Create, Done}
use Rattle.ea_sched.specs.Acting.{setup_for, standing_at}
use Rattle.ea_sched.proofs.Calling.{row-done}
use Rattle.ea_sched.proofs.OwnCarriers.{asked-again}
use Rattle.ea_sched.proofs.Placing.{onward-created}
use Rattle.ea_sched.proofs.Seeking.{create-absent, create-asked, create-carrier, create-more}
use Rattle.ea_sched.proofs.Seeking.{create-on, create-own, create-plan}
use Rattle.ea_sched.proofs.state.Scheduler.make.Goals as goal

pub create-requires-clause-migrates : goal.create-requires-clause-migrates
create-requires-clause-migrates g c = c.requires.starts.migrates
    ∙ create-on c.args.self.now c.requires.starts.ready c.args.ask c.args.plan refl

pub create-requires-clause-own : goal.create-requires-clause-own
create-requires-clause-own g c =
    create-own c.args.self.now c.requires.starts.ready c.args.ask c.args.plan refl

pub create-requires-clause-carrier : goal.create-requires-clause-carrier
create-requires-clause-carrier g c = create-carrier c.args.self.now c.requires.starts.ready
    c.args.ask c.args.plan refl c.requires.starts.schedulers

pub create-requires-clause-absent : goal.create-requires-clause-absent
create-requires-clause-absent g c = create-absent c.args.self.now c.requires.starts.ready
    c.args.ask c.args.plan refl

pub invariant_of-self-clause-is_prepared : goal.invariant_of-self-clause-is_prepared
invariant_of-self-clause-is_prepared g c = λ ask p creating multi.
    absurd (let no : Begin ≡ Creating ask p = sym c.requires.stage ∙ creating in cc)

pub create-requires-2-clause-more : goal.create-requires-2-clause-more
create-requires-2-clause-more g c =
    create-more c.args.self.now c.requires.starts.ready c.args.ask c.args.plan refl

pub create-requires-2-clause-asked : goal.create-requires-2-clause-asked
create-requires-2-clause-asked g c =
    let s = c.args.self.now in
    asked-again s _ refl refl refl s.instance s.instance (λ at is. is) (λ n is. is) c.args.ask
    (create-asked s c.requires.starts.ready c.args.ask c.args.plan refl)

pub create-requires-2-clause-plan : goal.create-requires-2-clause-plan
create-requires-2-clause-plan g c =
    create-plan c.args.self.now c.requires.starts.ready c.args.ask c.args.plan refl

pub returns-clause-row : goal.returns-clause-row
returns-clause-row g c =
    let s = c.args.self.now in
    let ask = c.args.ask in
    let p = c.args.plan in
    row-done s c.requires.starts.ready (Create p.number) Done (Creating ask p) refl refl
    c.create.ensures.row
    (c.create-2.ensures.actor ∙ sym (onward-created (setup_for s) s.number
    (create-on s c.requires.starts.ready ask p refl) ask p (standing_at (Creating ask p) s)))
