use Rattle.std.proofs.Common.{◌≡◌, ◌+◌, ◌^◌, ◌<◌, None, sym, ap, subst, ◌∙◌}
use Rattle.std.proofs.lemmas.Result.{on_err_weaker, on_ok_weaker}
use Rattle.ea_machine.specs.Machine.{onward}
use Rattle.ea_sched.specs.Acting.{setup_for, standing_at}
use Rattle.ea_sched.specs.Asking.{SuitsNext}
use Rattle.ea_sched.specs.Creations.{PlansFrom}
use Rattle.ea_sched.proofs.Acts.{planned-from}
use Rattle.ea_sound.specs.Walking.{Worked, worked}
use Rattle.ea_sound.proofs.Creations.{worked-created}
use Rattle.ea_sound.proofs.Walked.{walked-none, walked-some}
use Rattle.ea_sched.proofs.state.Scheduler.work_all.Goals as goal

pub operate_next-requires : goal.operate_next-requires
operate_next-requires c =
    let s = c.args.self.now in
    let is = c.work_off.ensures in
    let none : (worked s.number s.instance s.passed.nodes).hand ≡ None =
    ap (λ (w : Worked). w.hand) (sym is) ∙ c.in-None.is in
    record {
      next = subst (λ j. SuitsNext j s) (ap (λ (w : Worked). w.instance) (sym is))
          (c.requires.walk.next c.requires.off none);
      counts = subst (λ n. n + 1 < 2 ^ 32) (sym (ap (λ (w : Worked). w.instance.created) is
          ∙ worked-created s.number s.passed.nodes s.instance)) c.requires.counts;
    }

pub returns-in-None-clause-actor : goal.returns-in-None-clause-actor
returns-in-None-clause-actor c =
    let s = c.args.self.now in
    let i = c.work_off.new.instance in
    let left = c.work_off.new.passed.nodes in
    on_ok_weaker c.operate_next.result (λ is at. is
    ∙ ap (onward (setup_for s) s.number)
    (walked-none (setup_for s) s.number (sym s.migrates_so ∙ c.requires.off) (standing_at at s)
    s.passed.nodes (c.requires.walk.passed c.requires.off) i left
    (ap (λ hand. record { instance = i; left = left; hand = hand }) (sym c.in-None.is)
    ∙ c.work_off.ensures)))
    c.operate_next.ensures.actor

pub returns-in-Some-clause-actor : goal.returns-in-Some-clause-actor
returns-in-Some-clause-actor c =
    let s = c.args.self.now in
    let i = c.work_off.new.instance in
    let left = c.work_off.new.passed.nodes in
    λ at. c.send.ensures.actor
    ∙ ap (onward (setup_for s) s.number)
    (walked-some (setup_for s) s.number (sym s.migrates_so ∙ c.requires.off) (standing_at at s)
    s.passed.nodes (c.requires.walk.passed c.requires.off) i left c.in-Some.hand
    (ap (λ hand. record { instance = i; left = left; hand = hand }) (sym c.in-Some.is)
    ∙ c.work_off.ensures))

pub returns-in-None-clause-memory : goal.returns-in-None-clause-memory
returns-in-None-clause-memory c =
    let s = c.args.self.now in
    let i = c.work_off.new.instance in
    let left = c.work_off.new.passed.nodes in
    let same = ap (λ (w : Worked). w.instance.created) c.work_off.ensures
    ∙ worked-created s.number s.passed.nodes s.instance in
    on_err_weaker c.operate_next.result (λ is at. subst (PlansFrom s)
    (ap (onward (setup_for s) s.number)
    (walked-none (setup_for s) s.number (sym s.migrates_so ∙ c.requires.off) (standing_at at s)
    s.passed.nodes (c.requires.walk.passed c.requires.off) i left
    (ap (λ hand. record { instance = i; left = left; hand = hand }) (sym c.in-None.is)
    ∙ c.work_off.ensures)))
    (planned-from i s.instance _ same is))
    c.operate_next.ensures.memory
