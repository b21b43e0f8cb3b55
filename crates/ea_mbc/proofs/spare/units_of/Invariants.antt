use Rattle.std.proofs.Common.{◌≡◌, ◌+◌, drop}
use Rattle.std.specs.Prelude.{sum_by}
use Rattle.ea_model.specs.Content.{Content}
use Rattle.ea_mbc.proofs.spare.units_of.Given as goal

-- the units of the carriers that follow are what is missing
abbrev pub invariant-loop-carrier : goal.invariant-loop-carrier
invariant-loop-carrier l =
    l.sum + sum_by (λ (m : Content). m.units) (drop l.carrier-index l.carriers)
    ≡ sum_by (λ (m : Content). m.units) l.carriers
