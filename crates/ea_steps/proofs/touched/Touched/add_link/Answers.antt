use Rattle.std.proofs.Common.{sym, ap, ◌∙◌}
use Rattle.std.proofs.lemmas.Result.{on_ok_weaker}
use Rattle.ea_machine.specs.Setup.{setup_of}
use Rattle.ea_machine.specs.Stops.{run_with_stops}
use Rattle.ea_steps.specs.Noting.{linked_names, of_walk}
use Rattle.ea_steps.specs.Touched.{block_of}
use Rattle.ea_steps.proofs.NotedNames.{names-more, names-same, node-walk}
use Rattle.ea_steps.proofs.touched.Touched.add_link.Goals as goal

pub returns-in-Rest : goal.returns-in-Rest
returns-in-Rest c = on_ok_weaker c.add_operation.result (λ then config trace turns stands.
    let setup = setup_of config trace in
    let w = run_with_stops setup turns in
    names-same setup w _ _ c.args.self.now c.add_operation.new.self
    (sym (ap (linked_names (w.actors c.args.me) c.args.node) c.in-Rest.is))
    (then config trace turns stands)) c.add_operation.ensures

pub returns-in_ok-add_node-in-End : goal.returns-in_ok-add_node-in-End
returns-in_ok-add_node-in-End c = on_ok_weaker c.add_walk.result (λ then config trace turns stands.
    let setup = setup_of config trace in
    let w = run_with_stops setup turns in
    let a = w.actors c.args.me in
    names-same setup w _ _ c.args.self.now c.add_walk.new.self
    (node-walk a c.args.node ∙ sym (ap (linked_names a c.args.node) c.in-End.is))
    (names-more setup w (block_of c.args.node) (of_walk a) c.args.self.now c.add_node.new.self
    c.add_walk.new.self (c.in_ok-add_node-in-End.ensures config trace turns stands)
    (then config trace turns stands))) c.add_walk.ensures
