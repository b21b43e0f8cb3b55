-- Steps in a row that come to nothing, which one line tells (`groups`).
-- This simulator's own: the sources do not speak of it.
use Rattle.std.specs.Prelude.{ℕ, Bool, true, false, ◌&&◌, ◌==◌, List, [], ◌∷◌, None, Some}
use Rattle.ea_model.specs.Content.{Content}
use Rattle.ea_machine.specs.declared.parts.Part.{Part}
use Rattle.ea_machine.specs.declared.parts.Part.TheVariants.{Own, Traitors, Pool}
use Rattle.ea_machine.specs.declared.stages.Stage.{Stage}
use Rattle.ea_machine.specs.declared.stages.Stage.TheVariants.{Begin, Routed, Collecting, Searching}
use Rattle.ea_machine.specs.declared.stages.Stage.TheVariants.{Fetching, Creating, Giving, Taking}
use Rattle.ea_machine.specs.declared.stages.Stage.TheVariants.{Ended, Ready}
use Rattle.ea_machine.specs.Lists.{counts}
use Rattle.ea_machine.specs.Rows.{Answer, Done, Head, Rests, Passes, Saw, Won, Lost, Home, Got}
use Rattle.ea_steps.specs.declared.joined.Joined.{Joined}
use Rattle.ea_steps.specs.declared.joined.Joined.TheVariants.{Apart, Looks, Tries}
use Rattle.ea_steps.specs.Steps.{Step, answer_of}

-- by whether the word of the carrier counts
abbrev pub looks_unless : Bool → ℕ → Joined
looks_unless true number = Apart
looks_unless false number = Looks number

-- by what was seen of the carrier
abbrev pub looked_at : ℕ → Answer → Joined
looked_at number (Saw seen) = looks_unless (counts seen) number
looked_at number Done = Apart
looked_at number (Head newest) = Apart
looked_at number Rests = Apart
looked_at number (Passes next) = Apart
looked_at number (Won content) = Apart
looked_at number (Lost present) = Apart
looked_at number (Home content) = Apart
looked_at number (Got spot) = Apart

-- by the part of the search
abbrev pub searched_at : Part → ℕ → Answer → Joined
searched_at (Own left) number r = Apart
searched_at (Traitors left) number r = Apart
searched_at (Pool left looked) number r = looked_at number r

-- by whether the name was given
abbrev pub tried_at : ℕ → Answer → Joined
tried_at name (Got None) = Tries name
tried_at name (Got (Some spot)) = Apart
tried_at name Done = Apart
tried_at name (Head newest) = Apart
tried_at name Rests = Apart
tried_at name (Passes next) = Apart
tried_at name (Saw seen) = Apart
tried_at name (Won content) = Apart
tried_at name (Lost present) = Apart
tried_at name (Home content) = Apart

-- by where the scheduler was in its operation, and the answer of its row
abbrev pub joined_at : Stage Content → Answer → Joined
joined_at Begin r = Apart
joined_at (Routed route why gone) r = Apart
joined_at (Collecting number) r = Apart
joined_at (Searching ask at part) r = searched_at part at r
joined_at (Fetching ask at part seen) r = Apart
joined_at (Creating ask p) r = Apart
joined_at (Giving given to) r = Apart
joined_at (Taking name tries left) r = tried_at name r
joined_at Ended r = Apart
joined_at Ready r = Apart

abbrev pub joined : Step → Joined
joined s = joined_at (s.before.actors s.scheduler).stage (answer_of s)

-- whether one line may tell both: looks, or tries of one `take`
abbrev pub are_alike : Joined → Joined → Bool
are_alike (Looks a) (Looks b) = true
are_alike (Tries a) (Tries b) = a == b
are_alike (Looks a) (Tries b) = false
are_alike (Looks a) Apart = false
are_alike (Tries a) (Looks b) = false
are_alike (Tries a) Apart = false
are_alike Apart b = false

-- steps in a row that one line tells: the first and the last of them
pub record Group : Type 0 where
  pub first : Step
  pub last : Step

abbrev pub only : Step → Group
only s = record { first = s; last = s }

-- the groups with a step before them, by whether it is one of the first group
abbrev pub grouped_if : Bool → Step → Group → List Group → List Group
grouped_if true s g gs = record g { first = s } ∷ gs
grouped_if false s g gs = only s ∷ g ∷ gs

-- `quiet` says that no line tells what a step did
module _ (quiet : Step → Bool) where
  -- whether one line tells a step and the next one
  abbrev pub share_line : Step → Step → Bool
  share_line s next = (s.scheduler == next.scheduler) && (are_alike (joined s) (joined next) && quiet s)

  -- the groups of steps with one more step before them
  abbrev pub with_step : Step → List Group → List Group
  with_step s [] = only s ∷ []
  with_step s (g ∷ gs) = grouped_if (share_line s g.first) s g gs

  -- the groups of steps
  abbrev pub groups : List Step → List Group
  groups [] = []
  groups (s ∷ ss) = with_step s (groups ss)
