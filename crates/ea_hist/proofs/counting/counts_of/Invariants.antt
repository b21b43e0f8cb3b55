use Rattle.std.proofs.Common.{◌≡◌, take}
use Rattle.ea_hist.specs.Intervals.{counts}
use Rattle.ea_hist.proofs.counting.counts_of.Given as goal

abbrev pub invariant-loop-size : goal.invariant-loop-size
invariant-loop-size l = l.counts ≡ counts (take l.size-index l.sizes)
