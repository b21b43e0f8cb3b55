use Rattle.std.proofs.Common.{◌≡◌, ◌+◌, ◌≤◌, drop}
use Rattle.ea_model.specs.Instance.{multis}
use Rattle.ea_employed.proofs.walks.multi_count.Given as goal

abbrev pub invariant-loop-carrier : goal.invariant-loop-carrier
invariant-loop-carrier l = (l.count + multis (drop l.carrier-index l.carriers) ≡ multis l.carriers)
    × (l.count ≤ l.carrier-index)
