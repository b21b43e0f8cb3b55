use Rattle.std.proofs.Common.{map}
use Rattle.ea_machine.specs.Stops.{run_with_stops}
use Rattle.ea_given.specs.Runs.{Tells}
use Rattle.ea_steps.specs.Noting.{AddsNames}
use Rattle.ea_steps.specs.Touched.{blocks_of}
use Rattle.ea_steps.proofs.touched.Touched.add_nodes.Given as goal

abbrev pub invariant-loop-node : goal.invariant-loop-node
invariant-loop-node l = Tells (λ setup turns. AddsNames setup (run_with_stops setup turns)
    (blocks_of (map (λ y. y.now) l.yielded)) l.initial.self l.self) l.initial.run
