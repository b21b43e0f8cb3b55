use Rattle.std.proofs.Common.{ap, ◌∙◌}
use Rattle.std.proofs.lemmas.Result.{on_ok_weaker}
use Rattle.ea_machine.specs.Setup.{setup_of}
use Rattle.ea_machine.specs.Stops.{run_with_stops}
use Rattle.ea_machine.specs.Actor.{Actor}
use Rattle.ea_steps.specs.Touched.{blocks_of, of_operation}
use Rattle.ea_steps.proofs.NotedNames.{names-more, names-same}
use Rattle.ea_steps.proofs.touched.Touched.add_walk.Goals as goal

pub returns : goal.returns
returns c = on_ok_weaker c.add_operation.result (λ then config trace turns stands.
    let setup = setup_of config trace in
    let w = run_with_stops setup turns in
    let a = w.actors c.args.me in
    names-more setup w (blocks_of a.passed) (of_operation a) c.args.self.now c.add_nodes.new.self
    c.add_operation.new.self
    (names-same setup w _ _ c.args.self.now c.add_nodes.new.self
    (ap blocks_of (c.newest_passed.ensures
    ∙ ap (λ (b : Actor). b.passed) (c.at.ensures config trace turns stands).actor))
    (c.in_ok-add_nodes.ensures config trace turns stands))
    (then config trace turns stands)) c.add_operation.ensures
