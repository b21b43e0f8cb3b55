-- How many carriers an instance creates: no more than its scheduler has operations, beside its main
-- carrier.
use Rattle.std.specs.Prelude.{ℕ, ◌+◌, ◌≤◌, List, length}
use Rattle.ea_model.specs.declared.operations.Op.{Op}
use Rattle.ea_model.specs.Content.{Content}
use Rattle.ea_model.specs.Instance.{main_carriers}
use Rattle.ea_machine.specs.declared.tasks.Why.TheVariants.{Walk, For}
use Rattle.ea_machine.specs.declared.stages.Stage.{Stage}
use Rattle.ea_machine.specs.declared.stages.Stage.TheVariants.{Begin, Routed, Collecting, Searching}
use Rattle.ea_machine.specs.declared.stages.Stage.TheVariants.{Fetching, Creating, Giving, Taking}
use Rattle.ea_machine.specs.declared.stages.Stage.TheVariants.{Ended, Ready}
use Rattle.ea_machine.specs.Actor.{Actor}
use Rattle.ea_machine.specs.Setup.{Setup, first_page}
use Rattle.ea_machine.specs.State.{State}
use Rattle.ea_machine.specs.Tasks.{later}

-- the operations that may still create a carrier, by where the scheduler is in the present one: an
-- operation creates one at most, and none once its block is placed
abbrev pub creations_at : List Op → Stage Content → ℕ
creations_at ops Begin = length ops
creations_at ops (Routed r Walk gone) = length ops
creations_at ops (Routed r (For task) gone) = length (later ops)
creations_at ops (Collecting number) = length ops
creations_at ops (Searching ask at part) = length (later ops) + 1
creations_at ops (Fetching ask at part seen) = length (later ops) + 1
creations_at ops (Creating ask p) = length (later ops) + 1
creations_at ops (Giving given to) = length (later ops)
creations_at ops (Taking name tries left) = length (later ops)
creations_at ops Ended = 0
creations_at ops Ready = length ops

-- the carriers that the instance of a scheduler has created, and those that it may still create
abbrev pub creations : Actor → ℕ
creations a = a.instance.created + creations_at a.todo a.stage

-- those that it creates at most: its main carrier, where the settings ask for one, and one for each
-- operation
abbrev pub most_created : Setup → ℕ → ℕ
most_created setup i =
    length (main_carriers setup.settings i (first_page setup i)) + length (setup.texts i)

-- each instance has created no more carriers than its scheduler has begun operations, and its main
-- carrier
abbrev pub CreatesFew : Setup → State → Type 0
CreatesFew setup state = (i : ℕ) → creations (state.actors i) ≤ most_created setup i
