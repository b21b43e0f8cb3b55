use Rattle.std.proofs.Common.{◌≡◌, drop}
use Rattle.ea_steps.specs.Released as specs
use Rattle.ea_steps.proofs.released.is_renamed.Given as goal

abbrev pub invariant-loop-entry : goal.invariant-loop-entry
invariant-loop-entry l = specs.is_renamed (drop l.entry-index l.entries) l.name
    ≡ specs.is_renamed l.entries l.name
