-- The heap: which names are live, and which units of the super carrier the block of each has. The
-- heap (`IsHeap`) has the names that may be used: held or given. A block in a queue, a walk or a
-- hand has units, and no name of the heap.
use Rattle.std.specs.Prelude.{◌≡◌, ◌≢◌, ◌⊎◌, ◌↔◌, ℕ, List, [], ◌∷◌, ◌++◌}
use Rattle.ea_model.specs.declared.carriers.Extent.{Extent}
use Rattle.ea_model.specs.declared.operations.Op.{Op}
use Rattle.ea_model.specs.declared.operations.Op.TheVariants as op
use Rattle.ea_laws.specs.InOrder.{ExtentsApart}
use Rattle.ea_machine.specs.Machine.{run}
use Rattle.ea_machine.specs.Setup.{Setup}
use Rattle.ea_machine.specs.State.{State}
use Rattle.ea_sound.specs.OnePlace.{IsAmong}
use Rattle.ea_sound.specs.Over.{LiesOver}
use Rattle.ea_sound.specs.Turns.{actor_after}

-- a scheduler holds the name, or it is given away and not yet taken
abbrev pub IsLive : ℕ → State → Type 0
IsLive name state = ((i : ℕ) × IsAmong name (state.actors i).held)
    ⊎ IsAmong name state.shared.given

-- the heap has the name, with these units: the name is live, and its block lies there
abbrev pub HasUnits : Setup → ℕ → Extent → State → Type 0
HasUnits setup name r state = IsLive name state × LiesOver setup name r state

-- the operation lets the name go, or makes it; a give and a take do neither
abbrev pub Changes : ℕ → Op → Type 0
Changes name (op.Alloc n bytes) = n ≡ name
Changes name (op.Free n) = n ≡ name
Changes name (op.Realloc old n bytes) = (old ≡ name) ⊎ (n ≡ name)
Changes name (op.Give n to) = ⊥
Changes name (op.Take n tries) = ⊥
Changes name op.Info = ⊥
Changes name op.Idle = ⊥

-- the first of these operations does
abbrev pub FirstChanges : ℕ → List Op → Type 0
FirstChanges name [] = ⊥
FirstChanges name (o ∷ ops) = Changes name o

-- for who reads nothing else: the live names and their units are a heap
pub record IsHeap (setup : Setup) : Type 0 where
  -- a live name has units, and only these
  pub some : (turns : List ℕ) (name : ℕ) → IsLive name (run setup turns)
      → (r : Extent) × HasUnits setup name r (run setup turns)
  pub one : (turns : List ℕ) (name : ℕ) (r q : Extent) → HasUnits setup name r (run setup turns)
      → HasUnits setup name q (run setup turns) → r ≡ q
  -- those of two names lie apart
  pub apart : (turns : List ℕ) (n m : ℕ) (r q : Extent) → n ≢ m
      → HasUnits setup n r (run setup turns) → HasUnits setup m q (run setup turns)
      → ExtentsApart r q
  -- a step of scheduler s changes nothing but at the names of the operation that s is in
  pub others : (turns : List ℕ) (s name : ℕ) (r : Extent)
      → (FirstChanges name (actor_after setup turns s).todo → ⊥)
      → HasUnits setup name r (run setup turns)
      ↔ HasUnits setup name r (run setup (turns ++ s ∷ []))
  -- a name keeps its units while it is live
  pub keeps : (turns more : List ℕ) (name : ℕ) (r : Extent)
      → HasUnits setup name r (run setup turns) → IsLive name (run setup (turns ++ more))
      → HasUnits setup name r (run setup (turns ++ more))
