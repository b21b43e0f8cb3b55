use Rattle.std.proofs.Common.{sym, ap}
use Rattle.std.proofs.lemmas.Result.{on_ok_weaker}
use Rattle.ea_machine.specs.Setup.{setup_of}
use Rattle.ea_machine.specs.Stops.{run_with_stops}
use Rattle.ea_steps.specs.Touched.{as_list}
use Rattle.ea_steps.proofs.NotedNames.{names-same}
use Rattle.ea_steps.proofs.touched.Touched.add_some.Goals as goal

pub returns-in-Some : goal.returns-in-Some
returns-in-Some c = on_ok_weaker c.add.result (λ then config trace turns stands.
    let setup = setup_of config trace in
    names-same setup (run_with_stops setup turns) _ _ c.args.self.now c.add.new.self
    (sym (ap (λ o. as_list o) c.in-Some.is)) (then config trace turns stands))
    c.add.ensures
