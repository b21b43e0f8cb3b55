-- The run of a trace with a memory, after some turns and some writes (`StandsWith`).
use Rattle.std.specs.Prelude.{◌≡◌, ℕ, ◌+◌, ◌<◌, Bool, true, false, List, [], ◌∷◌, ◌++◌, Option}
use Rattle.std.specs.Prelude.{None, Some, length, slice_index_or}
use Rattle.ea_model.specs.declared.carriers.Extent.{Extent}
use Rattle.ea_model.specs.declared.settings.Config.{Config}
use Rattle.ea_model.specs.declared.trace.Trace.{Trace}
use Rattle.ea_machine.specs.Machine as machine
use Rattle.ea_machine.specs.Setup.{Setup, setup_of}
use Rattle.ea_machine.specs.State.{State}
use Rattle.ea_sound.specs.Over.{LiesOver, units_named}
use Rattle.ea_given.specs.Runs.{HasScheduler, StandsAfter}
use Rattle.ea_contents.specs.Agreeing.{Agree, IsWhole}
use Rattle.ea_contents.specs.declared.access.Making.{Making}
use Rattle.ea_contents.specs.Model.{holds, lists_after, lists_written}
use Rattle.ea_contents.specs.Paging.{HasWords, Paged}
use Rattle.ea_contents.specs.declared.session.Session.{Session}

-- the extent that is kept of a name, if one is
abbrev pub kept : List (Option Extent) → ℕ → Option Extent
kept extents name = slice_index_or extents name None

-- that of a name whose words are taken over, if there is one
abbrev pub kept_if : List (Option Extent) → Option ℕ → Option Extent
kept_if extents None = None
kept_if extents (Some old) = kept extents old

-- the extent of each name that has a block is kept
abbrev pub KeepsExtents : Setup → State → List (Option Extent) → Type 0
KeepsExtents setup w extents = (name : ℕ) (r : Extent) → LiesOver setup name r w
    → kept extents name ≡ Some r

-- the words of each block are there
abbrev pub AreBrought : Setup → State → Paged → Type 0
AreBrought setup w memory = (name : ℕ) (r : Extent) → LiesOver setup name r w → HasWords r memory

-- what an operation makes, unless the name is held
abbrev pub if_absent : Bool → Making → Option Making
if_absent true m = None
if_absent false m = Some m

-- what an operation of scheduler i makes, if it makes a name that the scheduler doesn't hold yet
abbrev pub yet_made_by : State → ℕ → Option Making → Option Making
yet_made_by w i None = None
yet_made_by w i (Some m) = if_absent (holds w i m.fresh) m

-- the session is that of the trace after these steps of its run, had memory so far, and the words
-- of each block in its memory are the list of its name. Of each name up to the greatest one it has
-- a place for the extent
pub record StandsWith (c : Config) (t : Trace) (turns : List ℕ) (lists : ℕ → List ℕ)
    (s : Session) : Type 0 where
  pub run : StandsAfter c t turns s.run
  pub trace : s.trace.now ≡ t
  pub texts : length t.texts.items ≡ c.schedulers
  pub stops : t.stops.items ≡ []
  pub going : s.failed ≡ false
  pub whole : IsWhole (setup_of c t) s.memory.words
  pub agrees : Agree (setup_of c t) (machine.run (setup_of c t) turns) s.memory.words lists
  pub there : AreBrought (setup_of c t) (machine.run (setup_of c t) turns) s.memory
  pub places : length s.extents.items ≡ t.greatest + 1
  pub extents : KeepsExtents (setup_of c t) (machine.run (setup_of c t) turns) s.extents.items

-- it is some session of a valid trace, after some turns and writes
abbrev pub IsSession : Session → Type 0
IsSession s = (c : Config) × (t : Trace) × (turns : List ℕ) × (lists : (ℕ → List ℕ))
    × StandsWith c t turns lists s

-- it has a scheduler of that number
abbrev pub SessionHas : ℕ → Session → Type 0
SessionHas me s = HasScheduler me s.run

-- this holds of its setup, of the turns after which it stands, and of the lists of all names
abbrev pub SessionTells : (Setup → List ℕ → (ℕ → List ℕ) → Type 0) → Session → Type 0
SessionTells P s = (c : Config) (t : Trace) (turns : List ℕ) (lists : ℕ → List ℕ)
    → StandsWith c t turns lists s → P (setup_of c t) turns lists

-- it has gone on to these turns and lists
abbrev pub SessionGoes : (Setup → List ℕ → (ℕ → List ℕ) → List ℕ)
    → (Setup → List ℕ → (ℕ → List ℕ) → ℕ → List ℕ) → Session → Session → Type 0
SessionGoes after changed s gone = (c : Config) (t : Trace) (turns : List ℕ)
    (lists : ℕ → List ℕ) → StandsWith c t turns lists s
    → StandsWith c t (after (setup_of c t) turns lists) (changed (setup_of c t) turns lists) gone

-- a scheduler has taken a turn: one step
abbrev pub HasStepped : ℕ → Session → Session → Type 0
HasStepped me = SessionGoes (λ setup turns lists. turns ++ me ∷ [])
    (λ setup turns lists. lists_after setup (machine.run setup turns) me lists)

-- a word of a name was written
abbrev pub HasWritten : ℕ → ℕ → ℕ → Session → Session → Type 0
HasWritten name index value = SessionGoes (λ setup turns lists. turns)
    (λ setup turns lists. lists_written lists name index value)

-- some scheduler holds the name
abbrev pub IsHeld : State → ℕ → Type 0
IsHeld w name = (i : ℕ) × (holds w i name ≡ true)

-- some scheduler holds the name, and the index is that of a word of its block
abbrev pub HasWord : ℕ → ℕ → Session → Type 0
HasWord name index = SessionTells (λ setup turns lists.
    IsHeld (machine.run setup turns) name × (index + 1 < units_named setup name (machine.run setup turns)))

-- unless it has failed
abbrev pub UnlessFailed : (Session → Type 0) → Session → Type 0
UnlessFailed P s = s.failed ≡ false → P s
