-- Keys at places of any order, and the places that hold none. This file serves private functions
-- and invariants.
use Rattle.std.specs.Prelude.{◌≡◌, ℕ, ◌+◌, ◌<◌, List, Option, Some, None, length}
use Rattle.std.specs.Prelude.{slice_index, slice_index_or, sum_by}

-- a key is one, and none is not
abbrev pub one_of : Option ℕ → ℕ
one_of None = 0
one_of (Some k) = 1

-- how many places hold a key
unfoldable pub held_count : List (Option ℕ) → ℕ
held_count keys = sum_by one_of keys

-- the places of the list hold no key, each of them is there once, and all others hold one
pub record AreFree (keys : List (Option ℕ)) (free : List ℕ) : Type 0 where
  pub within : (i : ℕ) → i < length free → slice_index free i < length keys
  pub empty : (i : ℕ) → i < length free → slice_index_or keys (slice_index free i) None ≡ None
  pub once : (i j : ℕ) → i < length free → j < length free
      → slice_index free i ≡ slice_index free j → i ≡ j
  pub count : length free + held_count keys ≡ length keys
