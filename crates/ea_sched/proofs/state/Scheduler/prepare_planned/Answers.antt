use Rattle.std.proofs.Common.{refl, sym, ap, ◌∙◌}
use Rattle.std.specs.Prelude.{Some}
use Rattle.ea_model.specs.declared.carriers.Kind.TheVariants.{Multi}
use Rattle.ea_model.specs.Instance.{created_content}
use Rattle.ea_machine.specs.Placements.{making}
use Rattle.ea_machine.specs.Setup.{migration}
use Rattle.ea_sound.proofs.Creations.{plan-birth}
use Rattle.ea_sound.proofs.Plans.{planned-owner}
use Rattle.ea_sched.specs.Acting.{ready_of, setup_for}
use Rattle.ea_sched.proofs.Acts.{at-exit}
use Rattle.ea_sched.proofs.state.Scheduler.prepare_planned.Goals as goal

pub create_in_turn-requires-2-clause-prepared : goal.create_in_turn-requires-2-clause-prepared
create_in_turn-requires-2-clause-prepared c = λ multi.
    let s = c.args.self.now in
    let p = c.args.plan in
    ap Some (c.in_ok-carrier.ensures.carrier ∙ ap (λ n. created_content n Multi p)
    (sym (planned-owner s.instance c.args.ask.need p
    c.stands.ensures.stands.orderly.kept.instance.0 c.requires.plan)))

pub returns-clause-actor : goal.returns-clause-actor
returns-clause-actor c =
    let s = c.args.self.now in
    c.create_in_turn-2.ensures.actor
    ∙ ap (λ i. making (setup_for s) s.number c.args.ask c.args.plan
    (record (ready_of s) { instance = i }) (migration (setup_for s))) c.prepare.ensures.same

pub returns-in_err-carrier-clause-memory : goal.returns-in_err-carrier-clause-memory
returns-in_err-carrier-clause-memory c =
    let s = c.args.self.now in
    at-exit c.from_residual.result (record {
      before = ready_of s;
      ask = c.args.ask;
      plan = c.args.plan;
      is_plan = c.requires.plan;
      multi = c.if-plan.false;
      next = plan-birth s.instance c.args.ask.need c.args.plan c.requires.plan;
      is = refl;
    })
