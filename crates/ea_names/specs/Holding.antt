-- Names with the spots of their blocks, in a table: the names that it holds, and those that have
-- places.
use Rattle.std.specs.Prelude.{◌≡◌, ◌≢◌, ℕ, ◌+◌, ◌/◌, ◌≤◌, Bool, true, false, List, [], ◌∷◌, ◌++◌}
use Rattle.std.specs.Prelude.{Option, None, Some, get_or, length, map}
use Rattle.ea_model.specs.declared.carriers.Spot.{Spot}
use Rattle.ea_machine.specs.declared.nodes.Named.{Named}
use Rattle.ea_names.specs.declared.groups.TheConstants.{GROUP}

-- held names by rising name, the greatest name that may be held, and which groups of names have
-- their places
pub record Holding : Type 0 where
  pub held : List Named
  pub greatest : ℕ
  pub places : List Bool

-- whether the name has a place, by which groups have theirs
abbrev pub has_place : List Bool → ℕ → Bool
has_place places name = get_or places (name / GROUP) false

-- each name has a place
abbrev pub IsWhole : Holding → Type 0
IsWhole h = (name : ℕ) → name ≤ h.greatest → has_place h.places name ≡ true

-- the names of places that follow each other, from that name on
abbrev pub held_from : ℕ → List (Option Spot) → List Named
held_from name [] = []
held_from name (None ∷ spots) = held_from (name + 1) spots
held_from name (Some spot ∷ spots) = record { name = name; spot = spot }
    ∷ held_from (name + 1) spots

-- the names of groups, from that name on
abbrev pub held_in : ℕ → List (List (Option Spot)) → List Named
held_in name [] = []
held_in name (group ∷ groups) = held_from name group ++ held_in (name + GROUP) groups

-- a group has no place, or all of its places
abbrev pub IsGroup : List (Option Spot) → Type 0
IsGroup group = group ≢ [] → length group ≡ GROUP

-- whether the group has its places
abbrev pub has_places : List (Option Spot) → Bool
has_places [] = false
has_places (spot ∷ spots) = true

-- which groups have their places
abbrev pub places_in : List (List (Option Spot)) → List Bool
places_in groups = map has_places groups
