-- The units of the super carrier that blocks have, wherever their carriers are. `LiesOver` says
-- that a name has such units, and `units_named` counts them.
use Rattle.std.specs.Prelude.{◌≡◌, ◌≢◌, ℕ, ◌+◌, ◌*◌, ◌<◌, ◌≤◌, Bool, true, false, ◌&&◌, ◌==◌, List, ◌++◌}
use Rattle.ea_model.specs.declared.carriers.BlockAt.{BlockAt}
use Rattle.ea_model.specs.declared.carriers.Extent.{Extent}
use Rattle.ea_model.specs.declared.units.TheConstants.{PAGE_UNITS}
use Rattle.ea_laws.specs.InOrder.{ExtentsApart}
use Rattle.ea_machine.specs.Machine.{run}
use Rattle.ea_machine.specs.Setup.{Setup}
use Rattle.ea_machine.specs.State.{State}
use Rattle.ea_machine.specs.Sums.{one_if, sum_over}
use Rattle.ea_sound.specs.Contents.{sum_everywhere}
use Rattle.ea_sound.specs.Names.{to_make}

-- whether a block of a carrier with that base has the name, and these units
abbrev pub is_over : ℕ → Extent → ℕ → BlockAt → Bool
is_over name r base b = (b.name == name)
    && ((PAGE_UNITS * base + b.offset == r.first) && (b.size == r.units))

-- how many blocks of the name have these units
abbrev pub blocks_over : Setup → ℕ → Extent → State → ℕ
blocks_over setup name r state = sum_everywhere setup
    (λ x. sum_over (λ b. one_if (is_over name r x.base b)) x.blocks) state

-- a block of the name has these units
abbrev pub LiesOver : Setup → ℕ → Extent → State → Type 0
LiesOver setup name r state = 0 < blocks_over setup name r state

-- the units of a block, if it has the name
abbrev pub units_if : Bool → ℕ → ℕ
units_if true units = units
units_if false units = 0

-- the units of the block of a name, or 0 where it has none
abbrev pub units_named : Setup → ℕ → State → ℕ
units_named setup name state = sum_everywhere setup
    (λ x. sum_over (λ b. units_if (b.name == name) b.size) x.blocks) state

-- as long as a name has a block, that keeps its units, though its carrier be fetched by others
abbrev pub KeepsUnits : Setup → Type 0
KeepsUnits setup = (name : ℕ) (r later : Extent) (turns more : List ℕ)
    → LiesOver setup name r (run setup turns) → LiesOver setup name later (run setup (turns ++ more))
    → later ≡ r

-- a name that no operation is still to make has the units that it had
abbrev pub HadUnits : Setup → Type 0
HadUnits setup = (name : ℕ) (r : Extent) (turns more : List ℕ)
    → to_make setup name (run setup turns) ≡ 0 → LiesOver setup name r (run setup (turns ++ more))
    → LiesOver setup name r (run setup turns)

-- blocks of two names have no unit in common, a name has one block at most, a block has at least one
-- unit, and all of them lie in the regions of the schedulers
pub record LieApart (setup : Setup) (state : State) : Type 0 where
  pub apart : (n m : ℕ) (r q : Extent) → n ≢ m → LiesOver setup n r state
      → LiesOver setup m q state → ExtentsApart r q
  pub one : (n : ℕ) (r q : Extent) → LiesOver setup n r state → LiesOver setup n q state → r ≡ q
  pub sized : (n : ℕ) (r : Extent) → LiesOver setup n r state → units_named setup n state ≡ r.units
  pub some : (n : ℕ) (r : Extent) → LiesOver setup n r state → 1 ≤ r.units
  pub within : (n : ℕ) (r : Extent) → LiesOver setup n r state
      → r.first + r.units ≤ PAGE_UNITS * (setup.schedulers * setup.pages)
