use Rattle.std.proofs.Common.{sym, ap, subst, ◌∙◌}
use Rattle.std.proofs.lemmas.Result.{on_err_weaker, on_ok_weaker}
use Rattle.ea_machine.specs.Machine.{onward}
use Rattle.ea_machine.specs.Walks.{ready, worked_off}
use Rattle.ea_sched.specs.Acting.{setup_for, standing_at}
use Rattle.ea_sched.specs.Creations.{PlansFrom}
use Rattle.ea_sched.proofs.Placing.{worked-on}
use Rattle.ea_sched.proofs.state.Scheduler.work_oldest.Goals as goal

pub operate_next-requires : goal.operate_next-requires
operate_next-requires c = record {
  next = c.requires.walk.next_on c.requires.on c.in-None.ensures.0;
  counts = c.requires.counts;
}

pub returns-in-None-clause-actor : goal.returns-in-None-clause-actor
returns-in-None-clause-actor c =
    let s = c.args.self.now in
    on_ok_weaker c.operate_next.result (λ is at. is
    ∙ ap (λ ns. onward (setup_for s) s.number
    (ready (record (standing_at at s) { passed = ns }))) c.in-None.ensures.1
    ∙ sym (ap (λ ns. onward (setup_for s) s.number
    (worked_off (setup_for s) s.number ns (standing_at at s))) c.in-None.ensures.0))
    c.operate_next.ensures.actor

pub returns-in-Some-clause-actor : goal.returns-in-Some-clause-actor
returns-in-Some-clause-actor c =
    let s = c.args.self.now in
    let left = c.take_oldest.new.self.nodes in
    λ at. ap (λ stage. record (standing_at stage s) { passed = left }) c.stage_of.ensures
    ∙ sym (worked-on (setup_for s) s.number (sym s.migrates_so ∙ c.requires.on) c.in-Some.node left
    (standing_at at s))
    ∙ sym (ap (λ ns. onward (setup_for s) s.number
    (worked_off (setup_for s) s.number ns (standing_at at s))) c.in-Some.ensures)

pub returns-in-None-clause-memory : goal.returns-in-None-clause-memory
returns-in-None-clause-memory c =
    let s = c.args.self.now in
    on_err_weaker c.operate_next.result (λ is at. subst (PlansFrom s)
    (ap (λ ns. onward (setup_for s) s.number
    (ready (record (standing_at at s) { passed = ns }))) c.in-None.ensures.1
    ∙ sym (ap (λ ns. onward (setup_for s) s.number
    (worked_off (setup_for s) s.number ns (standing_at at s))) c.in-None.ensures.0)) is)
    c.operate_next.ensures.memory
