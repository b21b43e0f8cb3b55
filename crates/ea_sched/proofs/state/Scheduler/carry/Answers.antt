use Rattle.std.proofs.Common.{subst, ◌∙◌}
use Rattle.std.proofs.lemmas.Result.{on_err_weaker, on_ok_weaker}
use Rattle.ea_machine.specs.declared.tasks.Why.TheVariants.{For, Walk}
use Rattle.ea_sched.specs.Acting.{setup_for, standing_at}
use Rattle.ea_sched.specs.Creations.{PlansFrom}
use Rattle.ea_sched.proofs.Carrying.{carried-over}
use Rattle.ea_sched.proofs.state.Scheduler.carry.Goals as goal

pub end_walk-requires : goal.end_walk-requires
end_walk-requires c = record {
  walk = c.requires.walk c.in-None.is c.in-Walk.is;
  counts = c.requires.counts;
}

pub returns-in-Walk-clause-actor : goal.returns-in-Walk-clause-actor
returns-in-Walk-clause-actor c =
    let s = c.args.self.now in
    on_ok_weaker c.end_walk.result
    (λ is at. is at ∙ carried-over (setup_for s) s.number c.args.turned (standing_at at s)
    c.args.why Walk c.in-None.is c.in-Walk.is)
    c.end_walk.ensures.actor

pub returns-in-For-clause-actor : goal.returns-in-For-clause-actor
returns-in-For-clause-actor c =
    let s = c.args.self.now in
    λ at. c.finish_task.ensures.actor ∙ carried-over (setup_for s) s.number c.args.turned
    (standing_at at s) c.args.why (For c.in-For.task) c.in-None.is c.in-For.is

pub returns-in-Walk-clause-memory : goal.returns-in-Walk-clause-memory
returns-in-Walk-clause-memory c =
    let s = c.args.self.now in
    on_err_weaker c.end_walk.result
    (λ plans at. subst (PlansFrom s) (carried-over (setup_for s) s.number c.args.turned
    (standing_at at s) c.args.why Walk c.in-None.is c.in-Walk.is) (plans at))
    c.end_walk.ensures.memory
