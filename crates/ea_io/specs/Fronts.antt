-- A prefix that an end took or gave before a call broke off.
use Rattle.std.specs.Prelude.{◌≡◌, ℕ, ◌≤◌, Option, List, ◌++◌, length}
use Rattle.std.specs.Io.KnownBytes.{Appends, Consumes}

-- known bytes grow by some front of the text
abbrev pub AppendsFront : Option (List ℕ) → Option (List ℕ) → List ℕ → Type 0
AppendsFront old new text = (front rest : List ℕ) × (text ≡ front ++ rest) × Appends old new front

-- known bytes lose at most this many at their front
abbrev pub ConsumesAtMost : Option (List ℕ) → Option (List ℕ) → ℕ → Type 0
ConsumesAtMost old new n = (bytes : List ℕ) × (length bytes ≤ n) × Consumes old new bytes

-- known bytes lose this many at their front
abbrev pub ConsumesMany : Option (List ℕ) → Option (List ℕ) → ℕ → Type 0
ConsumesMany old new n = (bytes : List ℕ) × (length bytes ≡ n) × Consumes old new bytes
