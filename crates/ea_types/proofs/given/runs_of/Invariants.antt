use Rattle.std.proofs.Common.{◌≡◌, ◌<◌, ℕ, [], get_or, length}
use Rattle.ea_model.specs.declared.trace.Trace.{Trace}
use Rattle.ea_given.specs.declared.run.GivenRun.{GivenRun}
use Rattle.ea_given.specs.Runs as one
use Rattle.ea_types.proofs.given.runs_of.Given as goal

abbrev pub invariant-loop-trace : goal.invariant-loop-trace
invariant-loop-trace l = (length l.runs.items ≡ l.trace-index)
    × ((x : ℕ) (t : Trace) (r : GivenRun) → x < l.trace-index
    → one.StandsAfter l.config (get_or l.traces x t) [] (get_or l.runs.items x r))
