use Rattle.std.proofs.Common.{◌≡◌}
use Rattle.ea_outcome.specs.Resting.{first_lines}
use Rattle.ea_outcome.proofs.outcome.lines_of.Given as goal

abbrev pub invariant-loop-before : goal.invariant-loop-before
invariant-loop-before g l = l.lines.items
    ≡ first_lines l.migrates (g.H.Rested.shared l.shared).places l.schedulers l.before
