use Rattle.std.proofs.Common.{◌≡◌, ℕ, ◌+◌, ◌≤◌, [], drop}
use Rattle.ea_segments.proofs.Passing.{ArePasses, waiting}
use Rattle.ea_segments.proofs.making.deal.Given as goal

abbrev pub invariant-loop-number : goal.invariant-loop-number
invariant-loop-number l =
    let a = l.fn.table.shared.key in
    (dealt : ℕ) × (l.number ≡ dealt + 1) × (dealt + 1 ≤ l.fn.schedulers)
    × (l.first.table_id ≡ l.fn.table.shared.table_id)
    × (l.first.me.1 ≡ [])
    × (l.first.me.0 ≡ waiting a (dealt + 1) (drop dealt a.calls.items))
    × ArePasses a l.fn.table.shared.table_id dealt l.passes.items
