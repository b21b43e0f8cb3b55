use Rattle.std.proofs.Common.{◌≡◌, ◌+◌, ℕ, drop}
use Rattle.std.specs.Prelude.{sum_by}
use Rattle.ea_segments.proofs.making.make_passes.Given as goal

abbrev pub invariant-loop-count : goal.invariant-loop-count
invariant-loop-count l = l.most + sum_by (λ (n : ℕ). n) (drop l.count-index l.count-items)
    ≡ sum_by (λ (n : ℕ). n) l.calls.items
