-- How a tree is stored in an array: a flat complete binary tree. The root is node 1, and nodes 2n
-- and 2n + 1 are below node n. This file serves private functions and invariants.
use Rattle.std.specs.Prelude.{◌≡◌, ℕ, ◌+◌, ◌*◌, ◌^◌, ◌<◌, ◌≤◌, ◌++◌, max, List, length, drop, take}
use Rattle.std.specs.Prelude.{replicate, slice_index}
use Rattle.std.specs.Int.{IsPowerOfTwo}

-- the node has the greater value of the two below it
abbrev pub IsGreater : List ℕ → ℕ → Type 0
IsGreater tree node = slice_index tree node ≡ max (slice_index tree (2 * node))
    (slice_index tree (2 * node + 1))

-- a tree with that many leaves
pub record IsTree (leaves : ℕ) (maxima : List ℕ) : Type 0 where
  pub power : IsPowerOfTwo leaves
  pub long : length maxima ≡ 2 * leaves
  pub greater : (node : ℕ) → 1 ≤ node → node < leaves → IsGreater maxima node

-- there is memory for a tree with a leaf for each position
abbrev pub HasRoom : ℕ → ℕ → Type 0
HasRoom positions capacity = (room : ℕ) × IsPowerOfTwo room × (positions ≤ room)
    × (2 * room ≤ capacity)

-- there is memory for a leaf for each position, and the tree has those of the first positions, or
-- of all; leaves after those of the positions have 0
pub record IsKept (positions leaves capacity : ℕ) (maxima : List ℕ) : Type 0 where
  pub tree : IsTree leaves maxima
  pub small : positions < 2 ^ 32
  pub room : HasRoom positions capacity
  pub unused : (p : ℕ) → positions ≤ p → slice_index (drop leaves maxima) p ≡ 0

-- the values of the leaves, and 0 for each position after the last leaf
abbrev pub values : ℕ → ℕ → List ℕ → List ℕ
values positions leaves maxima = take positions (drop leaves maxima ++ replicate positions 0)

-- the leaves of the second tree have the values of the first one's, and 0 after the last of those
abbrev pub HasValues : ℕ → List ℕ → ℕ → List ℕ → Type 0
HasValues leaves maxima wider after = (p : ℕ)
    → slice_index (drop wider after) p ≡ slice_index (drop leaves maxima) p
