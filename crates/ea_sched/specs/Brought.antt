-- The names that operations bring to their scheduler, and that need places.
use Rattle.std.specs.Prelude.{◌≡◌, ℕ, Bool, true, List, Option, None, Some, All}
use Rattle.ea_model.specs.declared.operations.Op.{Op}
use Rattle.ea_model.specs.declared.operations.Op.TheVariants.{Alloc, Free, Realloc}
use Rattle.ea_model.specs.declared.operations.Op.TheVariants.{Give, Take, Info, Idle}
use Rattle.ea_names.specs.Holding.{has_place}

-- the name that the operation brings to its scheduler, if it brings one
abbrev pub name_brought : Op → Option ℕ
name_brought (Alloc name bytes) = Some name
name_brought (Free name) = None
name_brought (Realloc old fresh bytes) = Some fresh
name_brought (Give name to) = None
name_brought (Take name tries) = Some name
name_brought Info = None
name_brought Idle = None

-- whether the name has a place, if it is one
abbrev pub is_placed : List Bool → Option ℕ → Bool
is_placed places None = true
is_placed places (Some name) = has_place places name

-- each name that the operations bring has a place
abbrev pub HavePlaces : List Bool → List Op → Type 0
HavePlaces places text = All (λ o. is_placed places (name_brought o) ≡ true) text
