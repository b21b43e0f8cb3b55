-- The steps of a run that are told so far (`IsTold`).
use Rattle.std.specs.Prelude.{◌≡◌, ℕ, ◌+◌, ◌<◌, ◌-◌, List, ◌++◌, get_or, length, replicate}
use Rattle.ea_model.specs.declared.settings.Config.{Config}
use Rattle.ea_model.specs.declared.trace.Trace.{Trace}
use Rattle.ea_machine.specs.Completion.{complete}
use Rattle.ea_machine.specs.Setup.{Setup, setup_of}
use Rattle.ea_machine.specs.Stops.{cut}
use Rattle.ea_given.specs.declared.run.GivenRun.{GivenRun}
use Rattle.ea_given.specs.declared.heard.Heard.{Heard}
use Rattle.ea_sched.specs.declared.wants.Wanted.{Wanted}
use Rattle.ea_steps.specs.declared.counts.Counts.{Counts}
use Rattle.ea_steps.specs.declared.groups.Group as code
use Rattle.ea_steps.specs.Printed.{joined_told}
use Rattle.ea_given.specs.Between.{LooksInRow}
use Rattle.ea_given.specs.Runs.{StandsAfter}
use Rattle.ea_steps.specs.declared.joined.Joined.{Joined}
use Rattle.ea_steps.specs.declared.joined.Joined.TheVariants.{Apart, Looks, Tries}
use Rattle.ea_steps.specs.declared.telling.Told.{Told}
use Rattle.ea_steps.specs.declared.touched.Touched.{Touched}
use Rattle.ea_steps.specs.Fronts.{front_of}
use Rattle.ea_steps.specs.Noted.{IsTouched}
use Rattle.ea_steps.specs.Shown.{Shows}
use Rattle.ea_steps.specs.Taking.{AreCounted, Finishes, TakesSteps, last_after, step_after}
use Rattle.ea_steps.specs.Taking.{taken_steps}
use Rattle.ea_steps.specs.Text.{changes_text}

-- the steps of these turns are told, and counted
pub record IsTold (setup : Setup) (turns : List ℕ) (told : Told) : Type 0 where
  pub shows : Shows setup (front_of setup (taken_steps setup turns)) told.front.text.items
      told.front.last
  pub counts : AreCounted setup turns told.counts

-- it counts the steps of each scheduler of the run
abbrev pub CountsAll : Told → GivenRun → Type 0
CountsAll told run = length told.counts.owns.items ≡ run.config.schedulers

-- if all steps were told, those of these turns more are told, too
abbrev pub TellsMore : List ℕ → GivenRun → Told → Told → Type 0
TellsMore more run told after = (c : Config) (t : Trace) (turns : List ℕ)
    → StandsAfter c t turns run → IsTold (setup_of c t) turns told
    → IsTold (setup_of c t) (turns ++ more) after

-- the run has gone on until the scheduler has ended or is stopped; if all steps were told, those of
-- these turns more are told, too
abbrev pub TellsAll : ℕ → GivenRun → GivenRun → Told → Told → Type 0
TellsAll me run gone told after = (c : Config) (t : Trace) (turns : List ℕ)
    → StandsAfter c t turns run
    → (count : ℕ) × StandsAfter c t (turns ++ replicate count me) gone
    × (IsTold (setup_of c t) turns told
    → IsTold (setup_of c t) (turns ++ replicate count me) after)
    × Finishes (setup_of c t) turns me count

-- which steps may join the last of that many, by those that may join the first: looks go down from
-- carrier to carrier
abbrev pub last_joined : Joined → ℕ → Joined
last_joined Apart count = Apart
last_joined (Looks carrier) count = Looks (carrier - (count - 1))
last_joined (Tries name) count = Tries name

-- it has taken that many steps: what is noted of the first of them, and looks if there are more
pub record HasNoted (setup : Setup) (turns : List ℕ) (me count : ℕ) (touched : Touched) : Type 0
  where
    pub steps : TakesSteps setup turns me count
    pub touches : IsTouched setup (step_after setup turns me) touched
    pub looks : 1 < count → LooksInRow setup turns me count

-- the lines are those of what the last of these steps did
abbrev pub AreLines : ℕ → ℕ → Touched → GivenRun → List ℕ → Type 0
AreLines me count touched run lines = (c : Config) (t : Trace) (turns : List ℕ)
    → StandsAfter c t (turns ++ replicate count me) run
    → HasNoted (setup_of c t) turns me count touched
    → lines ≡ changes_text (setup_of c t) (last_after (setup_of c t) turns me count)

-- some run stands after such steps
abbrev pub HasNotedSome : ℕ → ℕ → Touched → GivenRun → Type 0
HasNotedSome me count touched run = (c : Config) × (t : Trace) × (turns : List ℕ)
    × StandsAfter c t (turns ++ replicate count me) run
    × HasNoted (setup_of c t) turns me count touched

-- the group that code counts of that many steps
abbrev pub counted_group : ℕ → Wanted → Heard → ℕ → Counts → code.Group
counted_group me wanted heard count counts = record {
  scheduler = me;
  wanted = wanted;
  heard = heard;
  first = record { all = counts.all + 1; own = get_or counts.owns.items (me - 1) 0 + 1 };
  last = record { all = counts.all + count; own = get_or counts.owns.items (me - 1) 0 + count };
  joined = last_joined (joined_told wanted heard) count;
}

-- the run has gone on to its end by some turns, which have the steps of the completed ones, and
-- these are told
abbrev pub TellsToEnd : GivenRun → GivenRun → Told → Told → Type 0
TellsToEnd run gone told after = (c : Config) (t : Trace) (turns : List ℕ)
    → StandsAfter c t turns run → IsTold (setup_of c t) turns told
    → (taken : List ℕ) × StandsAfter c t taken gone × IsTold (setup_of c t) taken after
    × (complete (setup_of c t) turns ≡ cut (setup_of c t).stops taken)
