-- What the code keeps of a scheduler's names.
use Rattle.std.specs.Prelude.{ℕ, ◌*◌, ◌≤◌, Bool, false, List, [], ◌∷◌, Option, Some, None, is_some}
use Rattle.std.specs.List.{position_or_len}
use Rattle.ea_model.specs.declared.units.TheConstants.{MAX_OPS, MAX_SCHEDULERS}
use Rattle.ea_gen.specs.Generated.{is_within, without}
use Rattle.ea_gen.specs.declared.section.Section.{Section}

-- one of the schedulers of a run, with as many operations as a trace may have
pub record IsSection (s : Section) : Type 0 where
  pub begun : 1 ≤ s.scheduler
  pub there : s.scheduler ≤ s.schedulers
  pub few : s.schedulers ≤ MAX_SCHEDULERS
  pub room : s.schedulers * s.count ≤ MAX_OPS

-- the names in these places, in order
abbrev pub names_in : List (Option ℕ) → List ℕ
names_in [] = []
names_in (None ∷ places) = names_in places
names_in (Some name ∷ places) = name ∷ names_in places

-- whether a name in the range stands in the place
abbrev pub has_within : ℕ → ℕ → Option ℕ → Bool
has_within low high None = false
has_within low high (Some name) = is_within low high name

-- names at hand, oldest first, and between which names a scheduler's own ones are
pub record AtHand : Type 0 where
  pub names : List ℕ
  pub low : ℕ
  pub high : ℕ

-- the names without one, if there is one
abbrev pub less : Option ℕ → List ℕ → List ℕ
less None names = names
less (Some name) names = without name names

-- no place before the first has a name, and none before the first own one has an own name
pub record IsSearched (low high : ℕ) (places : List (Option ℕ)) (first first_own : ℕ) : Type 0 where
  pub any : first ≤ position_or_len is_some places
  pub own : first_own ≤ position_or_len (has_within low high) places
