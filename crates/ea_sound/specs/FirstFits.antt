-- Which carrier a search fetches: the first that fits, and isn't lost. `IsFirstFit` counts all
-- steps of the scheduler since the operation began, so no other step lies between; the first try
-- comes a step after the begin.
use Rattle.std.specs.Prelude.{◌≡◌, ℕ, ◌==◌, true, List, [], ◌∷◌, ◌++◌, None, Some, count_by}
use Rattle.std.specs.Prelude.{length}
use Rattle.ea_model.specs.declared.carriers.Spot.{Spot}
use Rattle.ea_model.specs.Content.{Content}
use Rattle.ea_model.specs.Employment.{employing}
use Rattle.ea_model.specs.Instance.{chosen_spot}
use Rattle.ea_machine.specs.declared.owners.OwnerWord.{OwnerWord}
use Rattle.ea_machine.specs.declared.stages.Stage.TheVariants.{Fetching}
use Rattle.ea_machine.specs.declared.asks.Ask.{Ask}
use Rattle.ea_machine.specs.declared.parts.Part.{Part}
use Rattle.ea_machine.specs.Searches.{Search, fits, new_search}
use Rattle.ea_machine.specs.Rows.{Won}
use Rattle.ea_machine.specs.Setup.{Setup, greatest_number}
use Rattle.ea_machine.specs.Machine.{run}
use Rattle.ea_sound.specs.Turns.{IsBegun, actor_after, answered, begun, log_after}
use Rattle.ea_sound.specs.Needs.{AsksFor}
use Rattle.ea_sound.specs.Exhausted.{seen_since}
use Rattle.ea_sound.specs.Searches.{IsNextLook, Searched, Shown, Sight}

-- the begin of the operation of s was over in a step among the steps `turns`; it asks for a place
-- for a block of this need, and the strategy had no choice. With each of its steps since then s
-- searched for a carrier: it passed the numbers before this one, since no word of theirs fits, or
-- the try to fetch was lost; and the word of this one, seen last, fits
pub record IsFirstFit (setup : Setup) (turns : List ℕ) (s need number : ℕ) (seen : OwnerWord)
    : Type 0 where
  pub before : List ℕ
  pub since : List ℕ
  pub split : turns ≡ before ++ s ∷ since
  pub begins : IsBegun setup (run setup before) s
  pub same : (begun setup before s).log ≡ log_after setup turns s
  pub asks : AsksFor (begun setup before s) (begun setup before s).todo need
  pub none : chosen_spot (begun setup before s).instance need ≡ None
  pub passed : List Sight
  pub last : Search
  pub searched : Searched (greatest_number setup) need
      (new_search (greatest_number setup) (begun setup before s).lists) last passed
  pub next : IsNextLook last number
  pub fit : fits need seen ≡ true
  pub saw : seen_since setup before s since ≡ passed ++ Shown number seen ∷ []
  pub steps : count_by (λ j. j == s) since ≡ length (seen_since setup before s since)

-- s fetches this carrier in its step after the steps `turns`, for a block of this need: the one of
-- the number that was the first to fit, by a try that is won. The strategy's choice is in it
pub record IsFetched (setup : Setup) (turns : List ℕ) (s need : ℕ) (x : Content) : Type 0 where
  pub ask : Ask
  pub number : ℕ
  pub part : Part
  pub seen : OwnerWord
  pub stage : (actor_after setup turns s).stage ≡ Fetching ask number part seen
  pub asks : ask.need ≡ need
  pub won : answered (run setup turns) s ≡ Won x
  pub is : x.number ≡ number
  pub first : IsFirstFit setup turns s need number seen
  pub there : (spot : Spot) → chosen_spot (employing (actor_after setup turns s).instance x) need
      ≡ Some spot → spot.carrier ≡ number
