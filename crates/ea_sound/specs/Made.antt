-- The step that makes a name.
use Rattle.std.specs.Prelude.{◌≡◌, ℕ, ◌<◌, true, List, [], ◌∷◌, ◌++◌, None}
use Rattle.ea_model.specs.declared.operations.Op.{Op}
use Rattle.ea_model.specs.declared.operations.Op.TheVariants.{Realloc}
use Rattle.ea_model.specs.Trace.{makes}
use Rattle.ea_machine.specs.Machine.{run}
use Rattle.ea_machine.specs.Nodes.{named_at}
use Rattle.ea_machine.specs.Setup.{Setup}
use Rattle.ea_sound.specs.Names.{to_make}
use Rattle.ea_sound.specs.Released.{blocks_named}
use Rattle.ea_sound.specs.Turns.{HoldsAfter, actor_after}

-- the old name of a reallocation is held before the step
abbrev pub HoldsOld : Setup → List ℕ → ℕ → Op → Type 0
HoldsOld setup turns s (Realloc old fresh bytes) = HoldsAfter setup turns s old
HoldsOld setup turns s o = Unit {0}

-- the operation of scheduler s makes the name in its step after the steps `turns`: the name isn't
-- held before this step, and it is held after it; and where a block is reallocated, its old name is
-- held before
pub record IsMadeBy (setup : Setup) (turns : List ℕ) (s name : ℕ) : Type 0 where
  pub first : Op
  pub others : List Op
  pub todo : (actor_after setup turns s).todo ≡ first ∷ others
  pub makes : makes name first ≡ true
  pub absent : named_at name (actor_after setup turns s).held ≡ None
  pub holds : HoldsAfter setup (turns ++ s ∷ []) s name
  pub old : HoldsOld setup turns s first

-- a name that an operation was still to make before a step of s, and that has a block after it, is
-- the one that the operation of s makes, and s holds it then
abbrev pub MakesItsOwn : Setup → Type 0
MakesItsOwn setup = (name : ℕ) (turns : List ℕ) (s : ℕ)
    → 0 < to_make setup name (run setup turns)
    → 0 < blocks_named setup name (run setup (turns ++ s ∷ []))
    → IsMadeBy setup turns s name
