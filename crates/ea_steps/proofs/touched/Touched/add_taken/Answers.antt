use Rattle.std.proofs.Common.{sym, ap}
use Rattle.std.proofs.lemmas.Result.{on_ok_weaker}
use Rattle.ea_machine.specs.Setup.{setup_of}
use Rattle.ea_machine.specs.Stops.{run_with_stops}
use Rattle.ea_steps.specs.Noting.{if_taken}
use Rattle.ea_steps.proofs.NotedNames.{names-same}
use Rattle.ea_steps.proofs.touched.Touched.add_taken.Goals as goal

pub returns-in-Head : goal.returns-in-Head
returns-in-Head c = on_ok_weaker c.add_newest.result (λ then config trace turns stands.
    let setup = setup_of config trace in
    let w = run_with_stops setup turns in
    names-same setup w _ _ c.args.self.now c.add_newest.new.self
    (sym (ap (if_taken (w.actors c.args.me)) c.in-Head.is)) (then config trace turns stands))
    c.add_newest.ensures
