use Rattle.std.proofs.Common.{sym, ap, ◌∙◌}
use Rattle.std.proofs.lemmas.Result.{on_ok_weaker}
use Rattle.ea_machine.specs.Setup.{setup_of}
use Rattle.ea_machine.specs.Stops.{run_with_stops}
use Rattle.ea_machine.specs.Actor.{Actor}
use Rattle.ea_sched.specs.Wants.{works_off_at}
use Rattle.ea_steps.specs.Noting.{sent_names}
use Rattle.ea_steps.proofs.NotedNames.{adds-none, names-same}
use Rattle.ea_steps.proofs.touched.Touched.add_sent.Goals as goal

pub returns-then-works_off : goal.returns-then-works_off
returns-then-works_off c = on_ok_weaker c.add_walk.result (λ then config trace turns stands.
    let setup = setup_of config trace in
    let w = run_with_stops setup turns in
    let a = w.actors c.args.me in
    names-same setup w _ _ c.args.self.now c.add_walk.new.self
    (ap (sent_names a) (sym c.if-works_off.true ∙ c.works_off.ensures
    ∙ ap (λ (b : Actor). works_off_at b.stage) (c.at.ensures config trace turns stands).actor))
    (then config trace turns stands)) c.add_walk.ensures

pub returns : goal.returns
returns c = λ config trace turns stands.
    let setup = setup_of config trace in
    let w = run_with_stops setup turns in
    let a = w.actors c.args.me in
    names-same setup w _ _ c.args.self.now c.args.self.now
    (ap (sent_names a) (sym c.if-works_off.false ∙ c.works_off.ensures
    ∙ ap (λ (b : Actor). works_off_at b.stage) (c.at.ensures config trace turns stands).actor))
    (adds-none setup w c.args.self.now)
