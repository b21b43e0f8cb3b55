-- The writes and reads of an input, by where they stand.
use Rattle.std.specs.Prelude.{ℕ, zero, suc, ◌≤◌, ◌==◌, List, [], ◌∷◌, filter, map}
use Rattle.std.specs.Prelude.{slice_index_or}
use Rattle.ea_contents.specs.declared.access.Access.{Access}
use Rattle.ea_contents.specs.declared.input.ContentsInput.{ContentsInput}
use Rattle.ea_contents.specs.declared.input.Placed.{Placed}
use Rattle.ea_contents.specs.Model.{Script}

-- those of a section that stand after its first d operations, in order
abbrev pub accesses_at : ℕ → List Placed → List Access
accesses_at d placed = map (λ p. p.access) (filter (λ p. p.after == d) placed)

-- the list of scheduler i, of lists that begin with scheduler 1's
abbrev pub list_for : {A : Type 0} → List (List A) → ℕ → List A
list_for lists zero = []
list_for lists (suc i) = slice_index_or lists i []

-- the writes and reads of all sections, scheduler 1's first
abbrev pub script_of : List (List Placed) → Script
script_of sections i d = accesses_at d (list_for sections i)

-- the sections of an input
abbrev pub sections_of : ContentsInput → List (List Placed)
sections_of input = map (λ s. s.items) input.sections.items

-- each stands after as many operations as the one before it or more, and after that many at least
abbrev pub RisesFrom : ℕ → List Placed → Type 0
RisesFrom least [] = Unit {0}
RisesFrom least (p ∷ placed) = (least ≤ p.after) × RisesFrom p.after placed

-- those of a section stand in the order of its operations
abbrev pub IsRising : List Placed → Type 0
IsRising placed = RisesFrom 0 placed
