use Rattle.std.proofs.Common.{◌≡◌, ◌≤◌, []}
use Rattle.std.specs.Prelude.{map, replicate}
use Rattle.ea_contents.proofs.playing.none_shown.Given as goal

abbrev pub invariant-loop : goal.invariant-loop
invariant-loop l = (l.counter ≤ l.count)
    × (map (λ s. s.items) l.shown.items ≡ replicate l.counter [])
