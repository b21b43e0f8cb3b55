-- That a carrier is created only where one was sought in vain.
use Rattle.std.specs.Prelude.{◌≡◌, ◌⊎◌, ℕ, ◌≤◌, ◌==◌, List, ◌∷◌, ◌++◌, None, count_by, length}
use Rattle.ea_model.specs.declared.carriers.CarrierPlan.{CarrierPlan}
use Rattle.ea_model.specs.Entries.{Entry}
use Rattle.ea_model.specs.Instance.{chosen_spot}
use Rattle.ea_machine.specs.declared.asks.Ask.{Ask}
use Rattle.ea_machine.specs.declared.stages.Stage.TheVariants.{Creating}
use Rattle.ea_machine.specs.Machine.{run}
use Rattle.ea_machine.specs.Setup.{Setup}
use Rattle.ea_sound.specs.Exhausted.{seen_since}
use Rattle.ea_sound.specs.Needs.{AsksFor}
use Rattle.ea_sound.specs.Searches.{IsSought, IsUnsought}
use Rattle.ea_sound.specs.Turns.{IsBegun, actor_after, begun, log_after}

-- the begin of an operation of s was over in a step among these turns, with this log, and the
-- operation asks for a place for a block of this need. Up to the singleblock threshold the strategy
-- had no choice among the carriers that s employed then, and, where carriers migrate, s has searched
-- its own carriers and the pool in vain, with each of its steps since then
pub record SoughtInVain (setup : Setup) (turns : List ℕ) (s need : ℕ) (log : List Entry) : Type 0
  where
    pub before : List ℕ
    pub since : List ℕ
    pub split : turns ≡ before ++ s ∷ since
    pub begins : IsBegun setup (run setup before) s
    pub same : (begun setup before s).log ≡ log
    pub asks : AsksFor (begun setup before s) (begun setup before s).todo need
    pub none : need ≤ setup.settings.sbct
        → chosen_spot (begun setup before s).instance need ≡ None
    pub looked : ℕ
    pub sought : IsUnsought setup need looked (seen_since setup before s since)
        ⊎ IsSought setup (begun setup before s).lists need looked (seen_since setup before s since)
    pub steps : count_by (λ j. j == s) since ≡ length (seen_since setup before s since)

-- who is about to create a carrier has sought one in vain in this operation
abbrev pub CreatesIfSought : Setup → Type 0
CreatesIfSought setup = (turns : List ℕ) (s : ℕ) (ask : Ask) (plan : CarrierPlan)
    → (actor_after setup turns s).stage ≡ Creating ask plan
    → SoughtInVain setup turns s ask.need (log_after setup turns s)
