use Rattle.std.proofs.Common.{◌≡◌, ◌++◌, drop}
use Rattle.ea_machine.specs.Stops.{run_with_stops}
use Rattle.ea_given.specs.Runs.{Tells}
use Rattle.ea_steps.specs.Released.{gone_lines}
use Rattle.ea_steps.proofs.released.put_each_released.Given as goal

abbrev pub invariant-loop-placed : goal.invariant-loop-placed
invariant-loop-placed l = Tells (λ setup turns.
    let w = run_with_stops setup turns in
    l.text.items ++ gone_lines setup w l.entries (drop l.placed-index l.blocks)
    ≡ l.initial.text.items ++ gone_lines setup w l.entries l.blocks) l.run
