use Rattle.std.proofs.Common.{◌≡◌, ◌++◌, length}
use Rattle.ea_types.proofs.Finds.{PrintedEach}
use Rattle.ea_types.proofs.given.TypedRun.outcomes.Given as goal

abbrev pub invariant-loop-run : goal.invariant-loop-run
invariant-loop-run l = (l.yielded ++ l.run-iterator.rest.items ≡ l.fn.self.runs.items)
    × (length l.outcomes.items ≡ length l.yielded) × PrintedEach l.yielded l.outcomes.items
