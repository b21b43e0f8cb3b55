-- What a search for a carrier saw. `Searched` names the lists as the search leaves them.
use Rattle.std.specs.Prelude.{◌≡◌, ◌⊎◌, ℕ, ◌<◌, ◌≤◌, Bool, true, false, ◌==◌, List, [], ◌∷◌}
use Rattle.std.specs.Prelude.{◌++◌}
use Rattle.ea_model.specs.Content.{Content}
use Rattle.ea_machine.specs.declared.owners.OwnerWord.{OwnerWord}
use Rattle.ea_machine.specs.Owners.{same_word}
use Rattle.ea_machine.specs.Setup.{Setup, greatest_number, migration}
use Rattle.ea_machine.specs.declared.stages.Stage.{Stage}
use Rattle.ea_machine.specs.declared.stages.Stage.TheVariants.{Fetching, Searching}
use Rattle.ea_machine.specs.State.{State}
use Rattle.ea_machine.specs.Rows.{Answer, Lost, Saw}
use Rattle.ea_machine.specs.Lists.{Lists}
use Rattle.ea_machine.specs.Searches.{Search, fits, goes_on, looked_in, new_search, passed}
use Rattle.ea_machine.specs.Searches.{with_counted}
use Rattle.ea_machine.specs.Machine.{step}
use Rattle.ea_sound.specs.Turns.{answered}

-- the owner word of a number was seen, or the try to fetch the carrier was lost, and another word
-- was there
pub data Sight : Type 0 where
  Shown : (number : ℕ) (seen : OwnerWord) → Sight
  Missed : (number : ℕ) (present : OwnerWord) → Sight

abbrev pub sight : Stage Content → Answer → List Sight
sight (Searching ask at part) (Saw w) = Shown at w ∷ []
sight (Fetching ask at part seen) (Lost w) = Missed at w ∷ []
sight stage r = []

abbrev pub sight_if : Bool → Stage Content → Answer → List Sight
sight_if true stage r = sight stage r
sight_if false stage r = []

-- what scheduler s saw along these steps
abbrev pub sights : Setup → State → ℕ → List ℕ → List Sight
sights setup state s [] = []
sights setup state s (j ∷ js) = sight_if (j == s) (state.actors s).stage (answered state s)
    ++ sights setup (step setup state j) s js

-- the number m is the one that the search looks at next
abbrev pub IsNextLook : Search → ℕ → Type 0
IsNextLook x m = (m ≡ x.at) × (goes_on x.part ≡ true)

module _ (greatest : ℕ) where
  -- the search goes past its next number: of its carrier it saw the first word, and read the second
  -- one last
  abbrev pub past : Search → OwnerWord → OwnerWord → Search
  past x seen present =
      passed greatest x.lists x.at (with_counted seen x.part) present

  -- a search that stood at x saw this, and then stands at y. It looks at one number after another,
  -- in the order of its parts. No word that it saw fits, or the try to fetch the carrier, which
  -- follows directly, was lost: another word was there
  abbrev pub Searched : ℕ → Search → Search → List Sight → Type 0
  Searched need x y [] = x ≡ y
  Searched need x y (Missed m w ∷ xs) = ⊥
  Searched need x y (Shown m w ∷ []) = IsNextLook x m × (fits need w ≡ false)
      × Searched need (past x w w) y []
  Searched need x y (Shown m w ∷ Shown p v ∷ xs) = IsNextLook x m × (fits need w ≡ false)
      × Searched need (past x w w) y (Shown p v ∷ xs)
  Searched need x y (Shown m w ∷ Missed p v ∷ xs) = IsNextLook x m × (fits need w ≡ true)
      × (p ≡ x.at) × (same_word v w ≡ false) × Searched need (past x w v) y xs

-- a block above the singleblock threshold isn't searched for, nor is any with migration off
abbrev pub IsUnsought : Setup → ℕ → ℕ → List Sight → Type 0
IsUnsought setup need looked seen =
    ((migration setup ≡ false) ⊎ (setup.settings.sbct < need)) × (seen ≡ []) × (looked ≡ 0)

-- with these lists a search began, and went on through its parts until no number was left in the
-- last one, or enough of its words were counted
abbrev pub IsSought : Setup → Lists → ℕ → ℕ → List Sight → Type 0
IsSought setup lists need looked seen = (migration setup ≡ true) × (need ≤ setup.settings.sbct)
    × ((last : Search) × Searched (greatest_number setup) need
    (new_search (greatest_number setup) lists) last seen
    × (goes_on last.part ≡ false) × (looked ≡ looked_in last.part))
