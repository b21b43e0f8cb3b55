-- The first position with at least a given value.
use Rattle.std.specs.Prelude.{ℕ, ◌<◌, ◌≤◌, List, length, slice_index}

-- p is the least position with at least that value
pub record IsFirstAtLeast (value : ℕ) (vs : List ℕ) (p : ℕ) : Type 0 where
  pub within : p < length vs
  pub great : value ≤ slice_index vs p
  pub first : (q : ℕ) → q < p → slice_index vs q < value
