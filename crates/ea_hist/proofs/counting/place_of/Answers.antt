use Rattle.std.proofs.Common.{◌≡◌, ℕ, ◌+◌, arith}
use Rattle.ea_hist.specs.Intervals.{borders, interval_of, reached}
use Rattle.ea_hist.proofs.counting.place_of.Goals as goal

next : (n m : ℕ) → n ≡ m → n + 1 ≡ 1 + m
next n m e = omega (arith, e)

pub returns-clause-place : goal.returns-clause-place
unfolding borders interval_of
returns-clause-place c =
    next c.reached.result (reached c.args.units borders) c.reached.ensures.count
