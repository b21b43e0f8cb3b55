-- The count of an instance, which holds back abandoning: its range, and that a carrier is abandoned
-- only where it is 0.
-- This simulator's own, after what nodes were observed to do.
use Rattle.std.specs.Prelude.{◌≡◌, ℕ, ◌≤◌, false}
use Rattle.ea_model.specs.Content.{Content}
use Rattle.ea_model.specs.declared.units.TheConstants.{MOST_COUNT}
use Rattle.ea_model.specs.Trace.{IsScheduler}
use Rattle.ea_machine.specs.Machine.{wants}
use Rattle.ea_machine.specs.Rows.{Abandon}
use Rattle.ea_machine.specs.Setup.{Setup}
use Rattle.ea_machine.specs.State.{State}

-- the count of a scheduler that abandons a carrier in its next step is 0
abbrev pub AbandonsAtZero : Setup → State → Type 0
AbandonsAtZero setup state = (s : ℕ) (x : Content) → wants (state.actors s) ≡ Abandon x
    → (state.actors s).instance.count ≡ 0

-- the count of each scheduler is at most MOST_COUNT, and without the rule `counter` it is 0
pub record CountsUpTo (setup : Setup) (state : State) : Type 0 where
  pub most : (s : ℕ) → IsScheduler setup.schedulers s
      → (state.actors s).instance.count ≤ MOST_COUNT
  pub off : setup.settings.rules.counter ≡ false → (s : ℕ) → IsScheduler setup.schedulers s
      → (state.actors s).instance.count ≡ 0
