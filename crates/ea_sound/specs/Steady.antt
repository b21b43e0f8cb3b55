-- What the steps of a scheduler keep of its walk and of its route, whatever the others do. Guards
-- need it beside the rule. Words of proofs: no clause of `run` names them.
use Rattle.std.specs.Prelude.{◌≡◌, ℕ, Bool, true, false, List, [], ◌∷◌, None}
use Rattle.ea_model.specs.Content.{Content}
use Rattle.ea_machine.specs.declared.owners.OwnerWord.{OwnerWord}
use Rattle.ea_machine.specs.declared.owners.OwnerWord.TheVariants as word
use Rattle.ea_model.specs.Abandonment.{is_due}
use Rattle.ea_machine.specs.declared.stages.Stage.{Stage}
use Rattle.ea_machine.specs.declared.stages.Stage.TheVariants.{Begin, Routed, Collecting, Searching}
use Rattle.ea_machine.specs.declared.stages.Stage.TheVariants.{Fetching, Creating, Giving, Taking}
use Rattle.ea_machine.specs.declared.stages.Stage.TheVariants.{Ended, Ready}
use Rattle.ea_machine.specs.declared.stages.Route.{Route}
use Rattle.ea_machine.specs.declared.stages.Route.TheVariants.{Looking, Trying, Settling}
use Rattle.ea_machine.specs.declared.stages.Route.TheVariants.{Abandoning, Sending, Clearing}
use Rattle.ea_machine.specs.declared.stages.Route.TheVariants.{Pushing, Linking}
use Rattle.ea_machine.specs.Actor.{Actor}
use Rattle.ea_machine.specs.declared.tasks.Why.{Why}
use Rattle.ea_machine.specs.declared.tasks.Why.TheVariants.{Walk, For}
use Rattle.ea_machine.specs.Rows.{Answer, Saw}
use Rattle.ea_machine.specs.Setup.{Setup, is_scheduler}
use Rattle.ea_machine.specs.State.{State}
use Rattle.ea_machine.specs.Words.{IsLargest}

-- whether a route is that of a node of the walk
abbrev pub is_walked : Why → Bool
is_walked Walk = true
is_walked (For task) = false

-- whether the passed nodes are being worked off
abbrev pub works_off : Stage Content → Bool
works_off Begin = false
works_off (Routed route why gone) = is_walked why
works_off (Collecting number) = true
works_off (Searching ask at part) = false
works_off (Fetching ask at part seen) = false
works_off (Creating ask p) = false
works_off (Giving given to) = false
works_off (Taking name tries left) = false
works_off Ended = false
works_off Ready = false

-- a word that a look can show, by what it says of the pool
abbrev pub IsShown : Setup → OwnerWord → Type 0
IsShown e (word.Pooled i largest) = (is_scheduler e i ≡ true) × IsLargest largest
IsShown e _ = Unit {0}

abbrev pub TellsShown : Setup → Answer → Type 0
TellsShown e (Saw v) = IsShown e v
TellsShown e _ = Unit {0}

module _ (e : Setup) (me count : ℕ) (employs : List Content) where
  -- the word that was seen of a carrier that is to be busy is that of an own pooled one, that of
  -- one to be fetched was shown, and a carrier that is to be abandoned is due
  abbrev pub IsSteadyRoute : Route Content → Type 0
  IsSteadyRoute (Looking hand) = Unit {0}
  IsSteadyRoute (Trying hand seen) =
      ((largest : ℕ) × (seen ≡ word.Pooled me largest)) × IsShown e seen
  IsSteadyRoute (Settling x) = Unit {0}
  IsSteadyRoute (Abandoning x) = is_due e.settings count (x ∷ employs) x ≡ true
  IsSteadyRoute (Sending x) = Unit {0}
  IsSteadyRoute (Clearing x) = Unit {0}
  IsSteadyRoute (Pushing node to) = Unit {0}
  IsSteadyRoute (Linking node to) = Unit {0}

  abbrev pub IsSteadyStage : Stage Content → Type 0
  IsSteadyStage Begin = Unit {0}
  IsSteadyStage (Routed route why gone) = IsSteadyRoute route
  IsSteadyStage (Collecting number) = Unit {0}
  IsSteadyStage (Searching ask at part) = Unit {0}
  IsSteadyStage (Fetching ask at part seen) = IsShown e seen
  IsSteadyStage (Creating ask p) = Unit {0}
  IsSteadyStage (Giving given to) = Unit {0}
  IsSteadyStage (Taking name tries left) = Unit {0}
  IsSteadyStage Ended = Unit {0}
  IsSteadyStage Ready = Unit {0}

-- where a walk is at its end and nothing is worked off, nothing is left of what it passed; and only
-- at its end is anything worked off
pub record IsSteady (e : Setup) (me : ℕ) (a : Actor) : Type 0 where
  pub walk : works_off a.stage ≡ false → a.next ≡ None → a.passed ≡ []
  pub off : works_off a.stage ≡ true → a.next ≡ None
  pub route : IsSteadyStage e me a.instance.count a.instance.contents a.stage

-- so is each scheduler
abbrev pub AreSteady : Setup → State → Type 0
AreSteady e w = (i : ℕ) → IsSteady e i (w.actors i)
