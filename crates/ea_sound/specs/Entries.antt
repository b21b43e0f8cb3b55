-- What the log of a scheduler says of its operations. `IsSkipped` compares with the scheduler when
-- the operation itself began (`begun`), as its queue may have been worked off before.
use Rattle.std.specs.Prelude.{◌≡◌, ◌≢◌, ◌⊎◌, ℕ, false, List, [], ◌∷◌, ◌++◌, None, Some}
use Rattle.std.specs.List.{AllZip}
use Rattle.ea_model.specs.Entries.{Entry}
use Rattle.ea_model.specs.declared.entries.Entry.TheVariants as entry
use Rattle.ea_model.specs.declared.entries.Report.{Report}
use Rattle.ea_model.specs.declared.operations.Op.{Op}
use Rattle.ea_model.specs.declared.operations.Op.TheVariants as op
use Rattle.ea_model.specs.Content.{Content}
use Rattle.ea_model.specs.Instance.{figures, owner_of}
use Rattle.ea_model.specs.Units.{need_of}
use Rattle.ea_machine.specs.declared.nodes.Named.{Named}
use Rattle.ea_machine.specs.Nodes.{named_at}
use Rattle.ea_machine.specs.Setup.{Setup, migration}
use Rattle.ea_machine.specs.Actor.{Actor}
use Rattle.ea_machine.specs.State.{State}
use Rattle.ea_machine.specs.Machine.{run, wants}
use Rattle.ea_machine.specs.Statistics.{employed_multis, employed_singles, observed}
use Rattle.ea_machine.specs.Table.{effect}
use Rattle.ea_machine.specs.Tasks.{logged}
use Rattle.ea_sound.specs.Turns.{IsBegun, actor_after, begun, log_after}
use Rattle.ea_sound.specs.Chosen.{IsPlacement, IsResized}
use Rattle.ea_sound.specs.Exhausted.{IsExhausted}
use Rattle.ea_sound.specs.Released.{HasNoBlock}
use Rattle.ea_sound.specs.Shown.{SeesEmployer, SeesItself}
use Rattle.ea_sound.specs.HandedOver.{HasTried, IsGiven, IsQueued, IsReleasedHere, IsTaken}

-- an operation makes an entry of its own kind, with its own names and numbers
abbrev pub Makes : Op → Entry → Type 0
Makes (op.Alloc name bytes) (entry.Alloc n place) = n ≡ name
Makes (op.Alloc name bytes) (entry.AllocFail n need looked why) = (n ≡ name)
    × (need ≡ need_of bytes)
Makes (op.Free name) (entry.Free n) = n ≡ name
Makes (op.Free name) (entry.FreeQueued n to) = n ≡ name
Makes (op.Free name) (entry.FreeSkipped n) = n ≡ name
Makes (op.Realloc old fresh bytes) (entry.ReallocHere o n place) = (o ≡ old) × (n ≡ fresh)
Makes (op.Realloc old fresh bytes) (entry.ReallocMoved o n place) = (o ≡ old) × (n ≡ fresh)
Makes (op.Realloc old fresh bytes) (entry.ReallocQueued o n place to) = (o ≡ old) × (n ≡ fresh)
Makes (op.Realloc old fresh bytes) (entry.ReallocFail o n need looked why) = (o ≡ old)
    × (n ≡ fresh) × (need ≡ need_of bytes)
Makes (op.Realloc old fresh bytes) (entry.ReallocSkipped o n) = (o ≡ old) × (n ≡ fresh)
Makes (op.Give name to) (entry.Give n i) = (n ≡ name) × (i ≡ to)
Makes (op.Give name to) (entry.GiveSkipped n i) = (n ≡ name) × (i ≡ to)
Makes (op.Take name tries) (entry.Take n) = n ≡ name
Makes (op.Take name tries) (entry.TakeAbsent n t) = (n ≡ name) × (t ≡ tries)
Makes op.Info (entry.Info reports) = Unit {0}
Makes op.Idle entry.Idle = Unit {0}
Makes o x = ⊥

-- the log of a scheduler has one entry for each of the operations that are done, in order, and the
-- others are left
pub record LogsEach (setup : Setup) (state : State) (i : ℕ) : Type 0 where
  pub done : List Op
  pub split : setup.texts i ≡ done ++ (state.actors i).todo
  pub each : AllZip Makes done (state.actors i).log

-- the begin of the operation is over in the step of s after the steps `turns`, and the operation
-- itself does nothing: after this step s is as it was then, but that the operation is over, this
-- entry stands last in its log, and its figures were observed. So its instance, its own lists, the
-- names that it holds and its walk are as the begin left them, and what is shared is as the row of
-- the begin left it
pub record DoesNothing (setup : Setup) (turns : List ℕ) (s : ℕ) (x : Entry) : Type 0 where
  pub begins : IsBegun setup (run setup turns) s
  pub leaves : actor_after setup (turns ++ s ∷ []) s ≡ observed (logged x (begun setup turns s))
  pub shared : (run setup (turns ++ s ∷ [])).shared
      ≡ effect s (wants (actor_after setup turns s)) (run setup turns).shared

-- the name isn't held when the operation itself begins, and the operation does nothing
pub record IsSkipped (setup : Setup) (turns : List ℕ) (s name : ℕ) (x : Entry) : Type 0 where
  pub absent : named_at name (begun setup turns s).held ≡ None
  pub nothing : DoesNothing setup turns s x

-- the figures that a report has as they are now are those of these carriers
abbrev pub Reports : Report → List Content → Type 0
Reports r xs = (r.blocks.now ≡ (figures xs).blocks) × (r.blocks_size.now ≡ (figures xs).blocks_size)
    × (r.carriers.now ≡ (figures xs).carriers) × (r.carriers_size.now ≡ (figures xs).carriers_size)

-- s released the block itself that it held under the name when the operation began, of which it
-- made the entry in its step after the steps `turns`, and no block has the name after this step
abbrev pub IsDone : Setup → List ℕ → ℕ → ℕ → Type 0
IsDone setup turns s name = HasNoBlock setup turns s name
    × IsReleasedHere setup (turns ++ s ∷ []) s name (log_after setup turns s)

-- what an entry tells, which s made in its step after the steps `turns`: a block was placed where
-- the strategy chooses, in the first carrier that fitted and that a search got, or in a carrier of
-- its own; a block keeps its spot; no place was found; a name isn't held, and nothing is done; a
-- block is gone, and s released it itself, or it went to another scheduler's queue, by who was seen
-- to employ its carrier, or, where carriers don't migrate, owns it; a name was given, or taken,
-- with its spot, or tried for in vain as often as it was to be; what carriers are employed then; and
-- an idle operation does nothing. No step makes an entry of a stop
abbrev pub Tells : Setup → List ℕ → ℕ → Entry → Type 0
Tells setup turns s (entry.Alloc name place) = IsPlacement setup turns s name place
Tells setup turns s (entry.AllocFail name need looked why) =
    IsExhausted setup turns s (entry.AllocFail name need looked why) need looked why
Tells setup turns s (entry.Free name) = IsDone setup turns s name
Tells setup turns s (entry.FreeQueued name to) = IsQueued setup turns s name to
Tells setup turns s (entry.FreeSkipped name) =
    IsSkipped setup turns s name (entry.FreeSkipped name)
Tells setup turns s (entry.ReallocHere old fresh place) =
    IsResized setup turns s old fresh place
Tells setup turns s (entry.ReallocMoved old fresh place) =
    IsPlacement setup turns s fresh place × IsDone setup turns s old
Tells setup turns s (entry.ReallocQueued old fresh place to) =
    IsPlacement setup turns s fresh place × IsQueued setup turns s old to
Tells setup turns s (entry.ReallocFail old fresh need looked why) =
    IsExhausted setup turns s (entry.ReallocFail old fresh need looked why) need looked why
Tells setup turns s (entry.ReallocSkipped old fresh) =
    IsSkipped setup turns s old (entry.ReallocSkipped old fresh)
Tells setup turns s (entry.Give name to) = IsGiven setup turns s name
Tells setup turns s (entry.GiveSkipped name to) =
    IsSkipped setup turns s name (entry.GiveSkipped name to)
Tells setup turns s (entry.Take name) = IsTaken setup turns s name
Tells setup turns s (entry.TakeAbsent name tries) = HasTried setup turns s name tries
Tells setup turns s (entry.Info reports) =
    Reports reports.mbcs (employed_multis (actor_after setup (turns ++ s ∷ []) s))
    × Reports reports.sbcs (employed_singles (actor_after setup (turns ++ s ∷ []) s))
Tells setup turns s entry.Idle = DoesNothing setup turns s entry.Idle
Tells setup turns s (entry.Stopped steps) = ⊥

-- a step of s makes at most one entry, in its own log, and this entry tells how it came about
abbrev pub EntersOne : Setup → Type 0
EntersOne setup = (turns : List ℕ) (s i : ℕ)
    → (log_after setup (turns ++ s ∷ []) i ≡ log_after setup turns i)
    ⊎ ((i ≡ s) × ((x : Entry) × (log_after setup (turns ++ s ∷ []) s
    ≡ log_after setup turns s ++ x ∷ []) × Tells setup turns s x))

-- if the name of a scheduler's operation isn't held when that begins, this is its log afterwards
abbrev pub HasSkipped : Actor → List Op → List Entry → Type 0
HasSkipped a (op.Free name ∷ ops) log = named_at name a.held ≡ None
    → log ≡ a.log ++ entry.FreeSkipped name ∷ []
HasSkipped a (op.Realloc old fresh bytes ∷ ops) log = named_at old a.held ≡ None
    → log ≡ a.log ++ entry.ReallocSkipped old fresh ∷ []
HasSkipped a (op.Give name to ∷ ops) log = named_at name a.held ≡ None
    → log ≡ a.log ++ entry.GiveSkipped name to ∷ []
HasSkipped a _ log = Unit {0}

-- an operation is skipped where its name isn't held
abbrev pub SkipsUnheld : Setup → Type 0
SkipsUnheld setup = (turns : List ℕ) (s : ℕ) → IsBegun setup (run setup turns) s
    → HasSkipped (begun setup turns s) (begun setup turns s).todo
    (log_after setup (turns ++ s ∷ []) s)

-- the entry says that a block was queued to this scheduler
abbrev pub SaysQueued : ℕ → Entry → Type 0
SaysQueued to (entry.FreeQueued name i) = i ≡ to
SaysQueued to (entry.ReallocQueued old fresh place i) = i ≡ to
SaysQueued to x = ⊥

-- where s sees another employer of the carrier of the block that its operation releases, the entry
-- that this operation makes, once it is over, says that the block was queued to that one
abbrev pub QueuesIfSeen : Setup → Type 0
QueuesIfSeen setup = (turns more : List ℕ) (s to : ℕ) (named : Named) → to ≢ s
    → SeesEmployer s named to (run setup turns)
    → (log_after setup (turns ++ s ∷ more) s ≡ log_after setup turns s)
    ⊎ ((x : Entry) × (later : List Entry) × (log_after setup (turns ++ s ∷ more) s
    ≡ log_after setup turns s ++ x ∷ later) × SaysQueued to x)

-- the entry says that a block was released, and not queued
abbrev pub SaysDone : Entry → Type 0
SaysDone (entry.Free name) = Unit {0}
SaysDone (entry.ReallocMoved old fresh place) = Unit {0}
SaysDone x = ⊥

-- where s sees that it employs that carrier itself, or makes it busy, the entry of the operation
-- says that the block was released
abbrev pub ReleasesIfSeen : Setup → Type 0
ReleasesIfSeen setup = (turns more : List ℕ) (s : ℕ) (named : Named)
    → SeesItself s named (run setup turns)
    → (log_after setup (turns ++ s ∷ more) s ≡ log_after setup turns s)
    ⊎ ((x : Entry) × (later : List Entry) × (log_after setup (turns ++ s ∷ more) s
    ≡ log_after setup turns s ++ x ∷ later) × SaysDone x)

-- the entry says that the block of a reallocation stays: it is resized in its place, or no place
-- was found
abbrev pub SaysStays : Entry → Type 0
SaysStays (entry.ReallocHere old fresh place) = Unit {0}
SaysStays (entry.ReallocFail old fresh need looked why) = Unit {0}
SaysStays x = ⊥

-- what an entry of s says of a block whose carrier has this owner: it was released if that is s,
-- and queued to the owner if that is another; or it stays
abbrev pub SaysByOwner : (s owner : ℕ) → Entry → Type 0
SaysByOwner s owner x = ((owner ≡ s) × SaysDone x) ⊎ ((owner ≢ s) × SaysQueued owner x)
    ⊎ SaysStays x

-- the first of these operations releases or reallocates this block, which the scheduler holds
abbrev pub IsOfBlock : Actor → List Op → Named → Type 0
IsOfBlock a (op.Free name ∷ ops) named = named_at name a.held ≡ Some named
IsOfBlock a (op.Realloc old fresh bytes ∷ ops) named = named_at old a.held ≡ Some named
IsOfBlock a _ named = ⊥

-- where carriers don't migrate, the entry of such an operation goes by the owner of the carrier of
-- the block
abbrev pub QueuesByOwner : Setup → Type 0
QueuesByOwner setup = migration setup ≡ false → (turns more : List ℕ) (s : ℕ) (named : Named)
    → IsBegun setup (run setup turns) s
    → IsOfBlock (begun setup turns s) (begun setup turns s).todo named
    → (log_after setup (turns ++ s ∷ more) s ≡ log_after setup turns s)
    ⊎ ((x : Entry) × (later : List Entry) × (log_after setup (turns ++ s ∷ more) s
    ≡ log_after setup turns s ++ x ∷ later) × SaysByOwner s (owner_of named.spot.carrier) x)
