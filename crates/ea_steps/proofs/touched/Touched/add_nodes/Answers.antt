use Rattle.std.proofs.Common.{sym, ap, map, [], ◌∷◌, ◌++◌}
use Rattle.ea_machine.specs.Setup.{setup_of}
use Rattle.ea_machine.specs.Stops.{run_with_stops}
use Rattle.std.proofs.lemmas.Iterator.Adapters.{YieldsList-from_rev_slice}
use Rattle.std.proofs.lemmas.Iterator.Consumers.{YieldsList-end}
use Rattle.std.proofs.lemmas.List.{map-append}
use Rattle.ea_steps.specs.Touched.{blocks_of}
use Rattle.ea_steps.proofs.NotedNames.{adds-none, names-same, nodes-more}
use Rattle.ea_steps.proofs.touched.Touched.add_nodes.Goals as goal

pub loop-node-init : goal.loop-node-init
loop-node-init c = λ config trace turns stands.
    adds-none (setup_of config trace) (run_with_stops (setup_of config trace) turns) c.args.self.now

pub loop-node-preserved : goal.loop-node-preserved
loop-node-preserved c = λ config trace turns stands.
    let setup = setup_of config trace in
    let w = run_with_stops setup turns in
    let old = map (λ y. y.now) c.loop-node.yielded in
    let node = c.in-Some.node.now in
    names-same setup w (blocks_of (old ++ node ∷ [])) _ c.args.self.now c.add_node.new.self
    (ap blocks_of (sym (map-append (λ y. y.now) c.loop-node.yielded (c.in-Some.node ∷ []))))
    (nodes-more setup w old node c.args.self.now c.loop-node.self c.add_node.new.self
    (c.loop-node.invariant config trace turns stands)
    (c.in_ok-add_node.ensures config trace turns stands))

pub returns : goal.returns
returns c = λ config trace turns stands.
    let setup = setup_of config trace in
    let w = run_with_stops setup turns in
    let all = YieldsList-end (YieldsList-from_rev_slice c.args.nodes.now cc) c.loop-node.yielded _
    c.loop-node.yielded_by _ _ c.in-None.is c.next.ensures.steps in
    names-same setup w _ _ c.args.self.now c.loop-node.self (ap blocks_of all.0)
    (c.loop-node.invariant config trace turns stands)
