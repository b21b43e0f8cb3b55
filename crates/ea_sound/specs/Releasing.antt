-- The release of a block where carriers don't migrate. `freed_at` is the instance then. Words of
-- proofs: no clause of `run` names them.
use Rattle.std.specs.Prelude.{ℕ, Bool, true, false}
use Rattle.ea_model.specs.declared.carriers.Spot.{Spot}
use Rattle.ea_model.specs.Employment.{dismissing, disowning}
use Rattle.ea_model.specs.Instance.{Instance, employed, has_vacant, releasing_at}

-- the instance without a carrier, if that is to be deallocated
abbrev pub deallocated_if : Bool → Instance → ℕ → Instance
deallocated_if true i number = disowning (dismissing i number) number
deallocated_if false i number = i

-- the instance without the block at the spot, and without its carrier if that is left vacant
abbrev pub freed_at : Instance → Spot → Instance
freed_at i spot = deallocated_if (has_vacant spot.carrier (employed (releasing_at i spot)))
    (releasing_at i spot) spot.carrier
