use Rattle.std.proofs.Common.{◌≡◌, ◌≤◌, Bor, inl, inr, sym, ap, ◌∙◌, subst, arith}
use Rattle.std.proofs.lemmas.Bool.{cases_lt}
use Rattle.ea_model.specs.declared.trace.Trace.{Trace}
use Rattle.ea_machine.specs.Setup.{migration, setup_of}
use Rattle.ea_machine.specs.Stops.{less}
use Rattle.ea_sched.specs.declared.state.Scheduler.{Scheduler}
use Rattle.ea_table.specs.declared.shared.TableShared.{TableShared}
use Rattle.ea_table.specs.Ending.{IsCounted}
use Rattle.ea_table.proofs.WorkerSteps.{Steps, just-one, step-counted, step-enters, step-less}
use Rattle.ea_table.proofs.worker.Working.step.Goals as goal

pub step_upto-requires-clause-schedulers : goal.step_upto-requires-clause-schedulers
step_upto-requires-clause-schedulers g c =
    let at = c.requires.works.4 in
    ap (λ d. d.schedulers) (at.known_config ∙ sym at.config)

pub step_upto-requires-clause-greatest : goal.step_upto-requires-clause-greatest
step_upto-requires-clause-greatest g c =
    let at = c.requires.works.4 in
    ap (λ t. t.greatest) (at.known_trace ∙ sym at.trace)

pub step_upto-requires-clause-migrates : goal.step_upto-requires-clause-migrates
step_upto-requires-clause-migrates g c =
    let at = c.requires.works.4 in
    let w = c.args.self.now in
    ap (λ d. migration (setup_of d w.shared.pass.seat.me.0.trace))
    (at.known_config ∙ sym at.config)
    ∙ ap (λ t. migration (setup_of w.scheduler.config t)) (at.known_trace ∙ sym at.trace)

pub step_upto-requires-clause-ready : goal.step_upto-requires-clause-ready
step_upto-requires-clause-ready g c = c.requires.works.4.ready

pub returns-clause-less : goal.returns-clause-less
returns-clause-less g c = λ went.
    let s = c.args.self.now.scheduler in
    let new = c.step_upto.new.self in
    let x = c.args.self.now.shared.pass.seat.me.0 in
    let y = c.step_upto.new.shared.pass.seat.me.0 in
    let e = c.in_ok-taken.ensures in
    let some : 1 ≤ c.in_ok-taken.taken = grind (arith, went) in
    step-less s new x y e.run.0 e.run.1 (c.requires.works.4.ready e.goes.0) (e.went some).1
    (just-one (Steps s new x y) c.in_ok-taken.taken e.few some (e.step some))

pub returns-clause-entry : goal.returns-clause-entry
returns-clause-entry g c = λ went.
    let s = c.args.self.now.scheduler in
    let new = c.step_upto.new.self in
    let x = c.args.self.now.shared.pass.seat.me.0 in
    let y = c.step_upto.new.shared.pass.seat.me.0 in
    let e = c.in_ok-taken.ensures in
    let some : 1 ≤ c.in_ok-taken.taken = grind (arith, went) in
    step-enters s new x y (c.requires.works.4.ready e.goes.0)
    (just-one (Steps s new x y) c.in_ok-taken.taken e.few some (e.step some))

pub returns-clause-works : goal.returns-clause-works
returns-clause-works g c = λ d t id i at.
    let s = c.args.self.now.scheduler in
    let new = c.step_upto.new.self in
    let v = c.args.self.now.shared.pass.seat.me.0 in
    let u = c.step_upto.new.shared.pass.seat.me.0 in
    let k = c.in_ok-taken.taken in
    let e = c.in_ok-taken.ensures in
    let was = at.counted e.goes.0 in
    record {
      table = e.stays.0 ∙ at.table;
      config = e.run.0 ∙ at.config;
      trace = ap (λ (r : Bor Trace). r.now) e.run.1 ∙ at.trace;
      number = e.run.2 ∙ at.number;
      known_config = e.stays.1 ∙ at.known_config;
      known_trace = e.stays.2 ∙ at.known_trace;
      ready = λ going. e.ready;
      counted = λ going. elim (cases_lt 0 k) [
        | inl some ↦ step-counted s new v u e.run.0 e.run.1 e.run.2 (e.went some).0
            (just-one (λ n. new.left ≡ less s.left n) k e.few some (e.left some).1)
            (just-one (Steps s new v u) k e.few some (e.step some)) was
        | inr none ↦
            let rest = e.rests (omega (arith, none)) in
            subst (λ (z : Scheduler). IsCounted u z) (sym rest.1)
            (subst (λ (y : TableShared). IsCounted y.pass.seat.me.0 s) (sym rest.2) was)
      ];
    }
