use Rattle.std.proofs.Common.{◌≡◌, ◌++◌, drop, filter, not}
use Rattle.std.specs.Prelude.{◌==◌}
use Rattle.ea_trials_carriers.proofs.plain.without.Given as goal

abbrev pub invariant-loop-block : goal.invariant-loop-block
invariant-loop-block l =
    l.list.items ++ filter (λ b. not (b.offset == l.offset)) (drop l.block-index l.blocks)
    ≡ filter (λ b. not (b.offset == l.offset)) l.blocks
