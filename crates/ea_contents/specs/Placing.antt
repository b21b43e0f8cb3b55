-- Where a scheduler stands in its section.
use Rattle.std.specs.Prelude.{◌≡◌, ℕ, ◌<◌, ◌≤◌, ◌==◌, Bool, true, false, List, [], ◌∷◌, Option}
use Rattle.std.specs.Prelude.{None, Some, drop, length}
use Rattle.ea_contents.specs.declared.access.Access.{Access}
use Rattle.ea_contents.specs.declared.input.Placed.{Placed}
use Rattle.ea_contents.specs.Script.{RisesFrom, accesses_at}

-- the first of these writes and reads, if it stands after d operations
abbrev pub first_if : Bool → Access → Option Access
first_if true access = Some access
first_if false access = None

abbrev pub next_at : ℕ → List Placed → Option Access
next_at d [] = None
next_at d (p ∷ placed) = first_if (p.after == d) p.access

-- the first of these writes and reads
abbrev pub first_of : List Access → Option Access
first_of [] = None
first_of (a ∷ later) = Some a

-- a scheduler has made that many of the writes and reads of its section, and ended d operations;
-- of those that stand after d operations it has made `past`
pub record IsAt (placed : List Placed) (made d past : ℕ) : Type 0 where
  pub here : drop past (accesses_at d placed) ≡ accesses_at d (drop made placed)
  pub later : (n : ℕ) → d < n → accesses_at n placed ≡ accesses_at n (drop made placed)
  pub rises : RisesFrom d (drop made placed)
  pub few : past ≤ length (accesses_at d placed)
