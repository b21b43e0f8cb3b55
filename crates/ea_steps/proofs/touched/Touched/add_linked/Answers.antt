use Rattle.std.proofs.Common.{sym, ap}
use Rattle.std.proofs.lemmas.Result.{on_ok_weaker}
use Rattle.ea_machine.specs.Setup.{setup_of}
use Rattle.ea_machine.specs.Stops.{run_with_stops}
use Rattle.ea_steps.specs.Noting.{if_linked}
use Rattle.ea_steps.proofs.NotedNames.{names-same}
use Rattle.ea_steps.proofs.touched.Touched.add_linked.Goals as goal

pub returns-in-Read : goal.returns-in-Read
returns-in-Read c = on_ok_weaker c.add_link.result (λ then config trace turns stands.
    let setup = setup_of config trace in
    let w = run_with_stops setup turns in
    names-same setup w _ _ c.args.self.now c.add_link.new.self
    (sym (ap (if_linked (w.actors c.args.me) c.args.node) c.in-Read.is))
    (then config trace turns stands)) c.add_link.ensures
