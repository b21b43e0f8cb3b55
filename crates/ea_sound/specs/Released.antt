-- Names whose block is gone, and the places of blocks.
use Rattle.std.specs.Prelude.{◌≡◌, ℕ, ◌<◌, Bool, true, false, ◌&&◌, ◌==◌, List, [], ◌∷◌, ◌++◌}
use Rattle.std.specs.List.{list_any}
use Rattle.ea_model.specs.declared.carriers.BlockAt.{BlockAt}
use Rattle.ea_model.specs.declared.carriers.Place.{Place}
use Rattle.ea_model.specs.Entries.{Entry}
use Rattle.ea_model.specs.declared.entries.Entry.TheVariants as entry
use Rattle.ea_machine.specs.Setup.{Setup}
use Rattle.ea_machine.specs.State.{State}
use Rattle.ea_machine.specs.Machine.{run, step}
use Rattle.ea_machine.specs.Sums.{one_if, sum_over}
use Rattle.ea_sound.specs.Contents.{sum_everywhere}
use Rattle.ea_sound.specs.Names.{allocated, only}

-- how many blocks have the name
abbrev pub blocks_named : Setup → ℕ → State → ℕ
blocks_named setup name state = allocated setup (only name) state

-- a step of scheduler s after the steps `turns` releases the block of the name, or gives it another
-- name
pub record Releases (setup : Setup) (name : ℕ) (turns : List ℕ) (s : ℕ) : Type 0 where
  pub was : 0 < blocks_named setup name (run setup turns)
  pub gone : blocks_named setup name (step setup (run setup turns) s) ≡ 0

-- after the step of s after the steps `turns` no block has the name
abbrev pub HasNoBlock : Setup → List ℕ → ℕ → ℕ → Type 0
HasNoBlock setup turns s name = blocks_named setup name (run setup (turns ++ s ∷ [])) ≡ 0

-- no two steps of a run release the block of one name
abbrev pub ReleasesOnce : Setup → Type 0
ReleasesOnce setup = (name : ℕ) (turns more : List ℕ) (s t : ℕ) → Releases setup name turns s
    → Releases setup name (turns ++ s ∷ more) t → ⊥

-- whether an entry says that the name was made, or that it wasn't
abbrev pub says_made : ℕ → Entry → Bool
says_made k (entry.Alloc name place) = k == name
says_made k (entry.ReallocHere old fresh place) = k == fresh
says_made k (entry.ReallocMoved old fresh place) = k == fresh
says_made k (entry.ReallocQueued old fresh place to) = k == fresh
says_made k x = false

abbrev pub says_failed : ℕ → Entry → Bool
says_failed k (entry.AllocFail name need looked why) = k == name
says_failed k (entry.ReallocFail old fresh need looked why) = k == fresh
says_failed k (entry.ReallocSkipped old fresh) = k == fresh
says_failed k x = false

-- an entry of a log says so, and no block has the name: it is released, or it failed
pub record IsGone (setup : Setup) (says : Entry → Bool) (name : ℕ) (state : State) : Type 0 where
  pub scheduler : ℕ
  pub said : list_any says (state.actors scheduler).log ≡ true
  pub none : blocks_named setup name state ≡ 0

abbrev pub IsReleased : Setup → ℕ → State → Type 0
IsReleased setup name state = IsGone setup (says_made name) name state

abbrev pub HasFailed : Setup → ℕ → State → Type 0
HasFailed setup name state = IsGone setup (says_failed name) name state

-- a name of which an entry says that it failed has no block
abbrev pub FailedHaveNone : Setup → State → Type 0
FailedHaveNone setup state = (name i : ℕ)
    → list_any (says_failed name) (state.actors i).log ≡ true → blocks_named setup name state ≡ 0

-- a released name stays so whatever steps follow, and a failed one
abbrev pub StaysGone : Setup → Type 0
StaysGone setup = (name : ℕ) (turns more : List ℕ)
    → (IsReleased setup name (run setup turns) → IsReleased setup name (run setup (turns ++ more)))
    × (HasFailed setup name (run setup turns) → HasFailed setup name (run setup (turns ++ more)))

-- whether a block of a carrier has that name and place
abbrev pub is_block : ℕ → Place → ℕ → BlockAt → Bool
is_block name place number b = (b.name == name) && ((number == place.carrier)
    && ((b.offset == place.offset) && (b.size == place.size)))

-- how many blocks of the name lie at the place, wherever its carrier is
abbrev pub blocks_at : Setup → ℕ → Place → State → ℕ
blocks_at setup name place state = sum_everywhere setup
    (λ x. sum_over (λ b. one_if (is_block name place x.number b)) x.blocks) state

-- a block of the name lies at the place
abbrev pub LiesAt : Setup → ℕ → Place → State → Type 0
LiesAt setup name place state = 0 < blocks_at setup name place state

-- as long as a name has a block, that keeps its place and its units
abbrev pub KeepsPlaces : Setup → Type 0
KeepsPlaces setup = (name : ℕ) (place later : Place) (turns more : List ℕ)
    → LiesAt setup name place (run setup turns)
    → LiesAt setup name later (run setup (turns ++ more)) → later ≡ place
