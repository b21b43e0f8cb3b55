-- Whose each line of the sections that were begun is.
use Rattle.std.specs.Prelude.{◌≡◌, ℕ, Bool, true, false, List, [], ◌∷◌, ◌++◌, map}
use Rattle.ea_model.specs.declared.settings.Letter.{Letter}
use Rattle.ea_trace.specs.Language.{WordLines}
use Rattle.ea_types.specs.Language.{parts_of, places_in}
use Rattle.ea_types.specs.declared.sections.Sections.{Sections}

-- the sections that are over, and the last one if one was begun
abbrev pub and_part : Bool → List (List ℕ) → List ℕ → List (List ℕ)
and_part true parts part = parts ++ part ∷ []
and_part false parts part = parts

abbrev pub parts_over : Sections → List (List ℕ)
parts_over s = map (λ p. p.items) s.parts.items

-- whose each line of all sections is
abbrev pub all_parts : Sections → List (List ℕ)
all_parts s = and_part s.begun (parts_over s) s.part.items

-- the same with the lines that are left, which stand after operation lines or not
abbrev pub parts_with : Bool → List (List ℕ) → List ℕ → List Letter → Bool → WordLines
    → List (List ℕ)
parts_with true parts part types inside left = parts
    ++ (part ++ places_in types inside left) ∷ parts_of types left
parts_with false parts part types inside left = parts ++ parts_of types left

-- the sections so far and the lines that are left make these parts; before the first section no
-- operation lines stand
pub record AreParts (types : List Letter) (inside : Bool) (left : WordLines)
    (parts : List (List ℕ)) (s : Sections) : Type 0 where
  pub all : parts_with s.begun (parts_over s) s.part.items types inside left ≡ parts
  pub outside : s.begun ≡ false → (inside ≡ false) × (s.part.items ≡ [])
