use Rattle.std.proofs.lemmas.Result.{on_ok_weaker}
use Rattle.ea_machine.specs.Setup.{setup_of}
use Rattle.ea_machine.specs.Stops.{run_with_stops}
use Rattle.ea_steps.proofs.NotedNames.{names-same}
use Rattle.ea_steps.proofs.touched.Touched.add_operation.Goals as goal

pub returns : goal.returns
returns c = on_ok_weaker c.add_some.result (λ then config trace turns stands.
    let setup = setup_of config trace in
    names-same setup (run_with_stops setup turns) _ _ c.args.self.now c.add_some.new.self
    (c.of_operation.ensures config trace turns stands) (then config trace turns stands))
    c.add_some.ensures
