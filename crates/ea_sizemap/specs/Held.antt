-- Sizes by position (`Sizes`): the least size that is large enough, and the lowest and the highest
-- position that holds a size.
use Rattle.std.specs.Prelude.{◌≡◌, ℕ, ◌<◌, ◌≤◌, List, All, Contains, length, slice_index}

-- the greatest size that may be held, and the size held by each position, 0 where none is
pub record Sizes : Type 0 where
  pub most : ℕ
  pub held : List ℕ

-- s is the least of the sizes that is at least `size`
pub record IsLeastAtLeast (size : ℕ) (ss : List ℕ) (s : ℕ) : Type 0 where
  pub great : size ≤ s
  pub held : Contains ss s
  pub least : All (λ t. size ≤ t → s ≤ t) ss

-- p is the lowest position that holds the size
pub record IsLowestOf (size : ℕ) (ss : List ℕ) (p : ℕ) : Type 0 where
  pub within : p < length ss
  pub held : slice_index ss p ≡ size
  pub lowest : (q : ℕ) → slice_index ss q ≡ size → p ≤ q

-- p is the highest position that holds the size
pub record IsHighestOf (size : ℕ) (ss : List ℕ) (p : ℕ) : Type 0 where
  pub within : p < length ss
  pub held : slice_index ss p ≡ size
  pub highest : (q : ℕ) → q < length ss → slice_index ss q ≡ size → q ≤ p
