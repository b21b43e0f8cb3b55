use Rattle.std.proofs.Common.{◌≡◌, ◌-◌, ◌*◌, ◌^◌, ◌≤◌, take}
use Rattle.std.specs.Prelude.{sum_by}
use Rattle.std.specs.Option.{option_map_or}
use Rattle.ea_outcome.specs.Resting.{units_at}
use Rattle.ea_outcome.proofs.units.units_of.Given as goal

abbrev pub invariant-loop-place : goal.invariant-loop-place
invariant-loop-place g l = (l.units ≤ (2 ^ 32 - 1) * l.place-index)
    × (l.units ≡ sum_by (λ s. option_map_or
    (units_at l.migrates (g.H.Rested.shared l.shared).places l.schedulers) s 0)
    (take l.place-index l.spots))
