-- Whose line a line is.
use Rattle.std.specs.Prelude.{◌≡◌, ℕ, ◌<◌, Bool, true, false, List, ◌∷◌, Option, Some, None, length}
use Rattle.ea_model.specs.Words.{words}
use Rattle.ea_model.specs.declared.settings.Letter.{Letter}
use Rattle.ea_trace.specs.Language.{LineWords}
use Rattle.ea_trace.specs.declared.keywords.Keyword.{Keyword}
use Rattle.ea_types.specs.Language.{begins, begins_by, inside_after, inside_by, is_own, is_wrong}
use Rattle.ea_types.specs.Language.{place_in}
use Rattle.ea_types.specs.declared.sorting.Whose.{Whose}
use Rattle.ea_types.specs.declared.sorting.Whose.TheVariants.{Common, Own}

-- a line of all types, with this keyword if it has one
pub record IsCommon (inside : Bool) (line : LineWords) (keyword : Option Keyword) : Type 0 where
  pub own : is_own inside line ≡ false
  pub after : inside_after inside line ≡ inside_by inside keyword
  pub section : begins line ≡ begins_by keyword

-- an operation line: the word of a type's letter, at that place among the types, and the operation
pub record IsOwn (types : List Letter) (inside : Bool) (line : LineWords) (word : List ℕ)
    (place : ℕ) (operation : LineWords) : Type 0 where
  pub own : is_own inside line ≡ true
  pub all : line ≡ word ∷ operation
  pub among : place_in types word ≡ Some place
  pub within : place < length types

abbrev pub IsWhose : List Letter → Bool → LineWords → Whose → Type 0
IsWhose types inside line (Common keyword) = IsCommon inside line keyword
IsWhose types inside line (Own word place operation) = IsOwn types inside line word.now place
    (words operation.now)

abbrev pub Sorts : List Letter → Bool → LineWords → Option (Whose) → Type 0
Sorts types inside line None = is_wrong types inside line ≡ true
Sorts types inside line (Some whose) = (is_wrong types inside line ≡ false)
    × IsWhose types inside line whose
