use Rattle.std.proofs.Common.{◌≡◌, ◌++◌, drop, filter}
use Rattle.ea_model.specs.GoodFit.{is_inspected}
use Rattle.ea_trials_choice.proofs.plain.inspected.Given as goal

abbrev pub invariant-loop-gap : goal.invariant-loop-gap
invariant-loop-gap l =
    let looks_at = is_inspected (λ x. x.address) (λ x. x.size) l.depth l.gaps in
    l.list.items ++ filter looks_at (drop l.gap-index l.gaps) ≡ filter looks_at l.gaps
