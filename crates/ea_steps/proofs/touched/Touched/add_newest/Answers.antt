use Rattle.std.proofs.Common.{sym, ap}
use Rattle.std.proofs.lemmas.Result.{on_ok_weaker}
use Rattle.ea_machine.specs.Setup.{setup_of}
use Rattle.ea_machine.specs.Stops.{run_with_stops}
use Rattle.ea_steps.specs.Noting.{taken_names}
use Rattle.ea_steps.proofs.NotedNames.{names-same}
use Rattle.ea_steps.proofs.touched.Touched.add_newest.Goals as goal

pub returns-in-None : goal.returns-in-None
returns-in-None c = on_ok_weaker c.add_operation.result (λ then config trace turns stands.
    let setup = setup_of config trace in
    let w = run_with_stops setup turns in
    names-same setup w _ _ c.args.self.now c.add_operation.new.self
    (sym (ap (taken_names (w.actors c.args.me)) c.in-None.is)) (then config trace turns stands))
    c.add_operation.ensures
