-- Laws of the machine: what holds of each run of a valid trace under a valid configuration,
-- whatever steps its schedulers take. `Protocol` is all of them.
use Rattle.std.specs.Prelude.{◌≡◌, ◌≢◌, ℕ, List, [], ◌∷◌, ◌++◌, Some}
use Rattle.ea_model.specs.declared.settings.Config.{Config}
use Rattle.ea_model.specs.declared.trace.Trace.{Trace}
use Rattle.ea_model.specs.Settings.{IsValidConfig}
use Rattle.ea_model.specs.Trace.{IsValidTrace}
use Rattle.ea_machine.specs.Setup.{Setup, setup_of}
use Rattle.ea_machine.specs.State.{State}
use Rattle.ea_machine.specs.Machine.{run, step}
use Rattle.ea_machine.specs.Stops.{cut, left_after, run_with_stops}
use Rattle.ea_machine.specs.Completion.{complete}
use Rattle.ea_machine.specs.Courses.{Rests}
use Rattle.ea_sound.specs.Abandoned.{AbandonsIfDue}
use Rattle.ea_sound.specs.Backlog.{WorksOffInOrder}
use Rattle.ea_sound.specs.Reported.{ReportsGreatest}
use Rattle.ea_sound.specs.Units.{PrintsSums}
use Rattle.ea_sound.specs.Sound.{Sound}
use Rattle.ea_sound.specs.Made.{MakesItsOwn}
use Rattle.ea_sound.specs.OnePlace.{NamesInOnePlace}
use Rattle.ea_sound.specs.Over.{HadUnits, KeepsUnits, LieApart}
use Rattle.ea_sound.specs.Released.{FailedHaveNone, KeepsPlaces, ReleasesOnce, StaysGone}
use Rattle.ea_sound.specs.Exhausted.{FailsIfExhausted}
use Rattle.ea_sound.specs.Counts.{AbandonsAtZero, CountsUpTo}
use Rattle.ea_sound.specs.Entries.{EntersOne, LogsEach, QueuesByOwner, QueuesIfSeen, ReleasesIfSeen}
use Rattle.ea_sound.specs.Entries.{SkipsUnheld}
use Rattle.ea_sound.specs.Fetches.{FetchesFit}
use Rattle.ea_sound.specs.FewCreated.{CreatesFew}
use Rattle.ea_sound.specs.Grounded.{AreGrounded}
use Rattle.ea_sound.specs.Guarded.{IsGuarded}
use Rattle.ea_sound.specs.Heap.{IsHeap}
use Rattle.ea_sound.specs.Heard.{FindsOwn, HearsNoOther}
use Rattle.ea_sound.specs.Progress.{EndsByItself}
use Rattle.ea_sound.specs.Sought.{CreatesIfSought}

-- it holds at each moment: after any list of steps
abbrev pub AtEachMoment : (Setup → State → Type 0) → Setup → Type 0
AtEachMoment P setup = (turns : List ℕ) → P setup (run setup turns)

-- the log of each scheduler is that of its operations
abbrev pub LogEach : Setup → State → Type 0
LogEach setup state = (i : ℕ) → LogsEach setup state i

-- after any turns, a further turn of a scheduler that has no step left until its stop changes
-- nothing, and any other turn is a step
abbrev pub HeedsStops : Setup → Type 0
HeedsStops setup = (turns : List ℕ) (me : ℕ)
    → (left_after setup turns me ≡ Some 0
    → run_with_stops setup (turns ++ me ∷ []) ≡ run_with_stops setup turns)
    × (left_after setup turns me ≢ Some 0
    → run_with_stops setup (turns ++ me ∷ []) ≡ step setup (run_with_stops setup turns) me)

-- of the turns that complete a schedule each is taken: none is that of a stopped scheduler
abbrev pub CompletesWithin : Setup → Type 0
CompletesWithin setup = (turns : List ℕ)
    → cut setup.stops (complete setup turns) ≡ complete setup turns

-- after the turns that complete a schedule, every scheduler has ended or is stopped
abbrev pub AllComeToRest : Setup → Type 0
AllComeToRest setup = (turns : List ℕ) (s : ℕ) → Rests setup (complete setup turns) s

-- what holds of each run
pub record Protocol (setup : Setup) : Type 0 where
  -- each moment is sound, and what is printed of it are the sums of soundness
  pub sound : AtEachMoment Sound setup
  pub prints : AtEachMoment PrintsSums setup
  -- no scheduler does a row that it may not do, and its last step was as the guard says; some
  -- answers never come
  pub guarded : AtEachMoment IsGuarded setup
  pub grounded : AreGrounded setup
  pub hears : AtEachMoment HearsNoOther setup
  pub finds : AtEachMoment FindsOwn setup
  -- a carrier that is fetched fits, and an instance creates no more carriers than operations began,
  -- beside its main carrier
  pub fetches : AtEachMoment FetchesFit setup
  pub creates : AtEachMoment CreatesFew setup
  -- and one is created only where own carriers and the pool were searched in vain
  pub seeks : CreatesIfSought setup
  -- a carrier that is due after a release is abandoned, and none where the count isn't 0
  pub abandons : AbandonsIfDue setup
  pub holds_back : AtEachMoment AbandonsAtZero setup
  pub counts : AtEachMoment CountsUpTo setup
  -- each operation makes one entry, of its own kind, which tells how it came about: placements are
  -- chosen, and fails are exhausted
  pub logs : AtEachMoment LogEach setup
  pub enters : EntersOne setup
  -- a report tells its figures as they are, and the greatest ones since the last report and ever
  pub reports : ReportsGreatest setup
  -- where no place is found an operation fails, where its name isn't held it is skipped; where
  -- another employer is seen its block is queued to that, and where its scheduler sees itself the
  -- block is released; where carriers don't migrate, this goes by the owner of the carrier
  pub fails : FailsIfExhausted setup
  pub skips : SkipsUnheld setup
  pub queues : QueuesIfSeen setup
  pub releases : ReleasesIfSeen setup
  pub owners : QueuesByOwner setup
  -- what is queued to a scheduler is worked off in the order in which it came
  pub orders : WorksOffInOrder setup
  -- each name is in one place; no name is released twice, one that failed has no block, and both
  -- stay so
  pub names : AtEachMoment NamesInOnePlace setup
  pub once : ReleasesOnce setup
  pub failed : AtEachMoment FailedHaveNone setup
  pub gone : StaysGone setup
  -- a block keeps its place and its units, wherever its carrier goes; blocks of two names lie
  -- apart; a name that nobody is still to make has the units that it had, and one that gets a block
  -- is made by the scheduler whose step it was
  pub places : KeepsPlaces setup
  pub apart : AtEachMoment LieApart setup
  pub units : KeepsUnits setup
  pub had : HadUnits setup
  pub makes : MakesItsOwn setup
  -- for who reads nothing else: the live names and the units of their blocks are a heap
  pub heap : IsHeap setup
  -- who is stopped takes no step, in a completed schedule neither; and after that all have ended or
  -- are stopped
  pub stops : HeedsStops setup
  pub within : CompletesWithin setup
  pub ends : AllComeToRest setup
  -- each scheduler ends by its own steps, of which it takes no more than a number that is known
  -- before, whatever the others do; so each fair schedule comes to an end
  pub alone : EndsByItself setup

-- it holds of each setup that a valid trace has under a valid configuration
abbrev pub Always : (Setup → Type 0) → Type 0
Always P = (c : Config) (t : Trace) → IsValidConfig c → IsValidTrace c.schedulers t
    → P (setup_of c t)
