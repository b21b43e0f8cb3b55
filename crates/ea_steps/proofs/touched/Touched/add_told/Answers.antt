use Rattle.std.proofs.Common.{sym, ap}
use Rattle.std.proofs.lemmas.Result.{on_ok_weaker}
use Rattle.ea_machine.specs.Setup.{setup_of}
use Rattle.ea_machine.specs.Stops.{run_with_stops}
use Rattle.ea_steps.specs.Noting.{names_told}
use Rattle.ea_steps.proofs.NotedNames.{names-same}
use Rattle.ea_steps.proofs.touched.Touched.add_told.Goals as goal

pub returns-in-TakeAll : goal.returns-in-TakeAll
returns-in-TakeAll c = on_ok_weaker c.add_taken.result (λ then config trace turns stands.
    let setup = setup_of config trace in
    let w = run_with_stops setup turns in
    names-same setup w _ _ c.args.self.now c.add_taken.new.self
    (sym (ap (λ x. names_told (w.actors c.args.me) x c.args.heard) c.in-TakeAll.is))
    (then config trace turns stands)) c.add_taken.ensures

pub returns-in-TakeLink : goal.returns-in-TakeLink
returns-in-TakeLink c = on_ok_weaker c.add_linked.result (λ then config trace turns stands.
    let setup = setup_of config trace in
    let w = run_with_stops setup turns in
    names-same setup w _ _ c.args.self.now c.add_linked.new.self
    (sym (ap (λ x. names_told (w.actors c.args.me) x c.args.heard) c.in-TakeLink.is))
    (then config trace turns stands)) c.add_linked.ensures

pub returns-in-Link : goal.returns-in-Link
returns-in-Link c = on_ok_weaker c.add_sent.result (λ then config trace turns stands.
    let setup = setup_of config trace in
    let w = run_with_stops setup turns in
    names-same setup w _ _ c.args.self.now c.add_sent.new.self
    (sym (ap (λ x. names_told (w.actors c.args.me) x c.args.heard) c.in-Link.is))
    (then config trace turns stands)) c.add_sent.ensures
