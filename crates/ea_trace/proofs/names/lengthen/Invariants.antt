use Rattle.std.proofs.Common.{◌≡◌, ◌-◌, ℕ, get_or, length}
use Rattle.std.specs.Prelude.{vec_capacity}
use Rattle.ea_trace.proofs.names.lengthen.Given as goal

abbrev pub invariant-loop-none : goal.invariant-loop-none
invariant-loop-none g l =
    ((k : ℕ) → get_or l.table.items k l.none ≡ get_or l.initial.table.items k l.none)
    × (vec_capacity l.table ≡ vec_capacity l.initial.table)

abbrev pub decreases-loop-none : goal.decreases-loop-none
decreases-loop-none g l = l.count - length l.table.items
