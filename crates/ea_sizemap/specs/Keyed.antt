-- How sizes and positions are keys. This file serves private functions and invariants.
use Rattle.std.specs.Prelude.{◌≡◌, ℕ, ◌+◌, ◌*◌, ◌/◌, ◌%◌, ◌^◌, ◌<◌, ◌≤◌, ◌==◌, if◌then◌else◌, min}
use Rattle.std.specs.Prelude.{List, Option, Some, None, length, map, slice_index_or, sum_by}
use Rattle.std.specs.List.{range_with_len}
use Rattle.ea_keytree.specs.Keys.{KeysHeld}
use Rattle.ea_sizemap.specs.Places.{AreFree, held_count}

-- the key of a position that holds the size, among `span` positions: keys rise by size, and among
-- equal sizes by position
unfoldable pub key : ℕ → ℕ → ℕ → ℕ
key span size position = size * span + position

-- the size that a key says of the position, 0 where it says none
abbrev pub size_said : ℕ → ℕ → Option ℕ → ℕ
size_said span position None = 0
size_said span position (Some k) = if k % span == position then k / span else 0

-- the size of the position, of which one key says something at most
unfoldable pub size_at : ℕ → List (Option ℕ) → ℕ → ℕ
size_at span keys position = sum_by (size_said span position) keys

abbrev pub sizes_in : ℕ → List (Option ℕ) → List ℕ
sizes_in span keys = map (size_at span keys) (range_with_len 0 span)

-- how many of the sizes are held
unfoldable pub some_count : List ℕ → ℕ
some_count sizes = sum_by (min 1) sizes

-- the keys of a map of sizes up to `most` at `span` positions, of which no position has two, and
-- the places that are free for others
pub record IsMap (most span : ℕ) (s : KeysHeld) (free : List ℕ) (capacity : ℕ) : Type 0 where
  pub width : s.width ≡ (most + 1) * span
  pub few : span < 2 ^ 32
  pub small : most < 2 ^ 32
  pub keyed : (q k : ℕ) → slice_index_or s.keys q None ≡ Some k
      → (span ≤ k) × (k < (most + 1) * span)
  pub apart : (q r j k : ℕ) → slice_index_or s.keys q None ≡ Some j
      → slice_index_or s.keys r None ≡ Some k → j % span ≡ k % span → q ≡ r
  pub are_free : AreFree s.keys free
  pub count : some_count (sizes_in span s.keys) ≡ held_count s.keys
  pub places : length s.keys ≤ span
  pub room : span ≤ length s.keys + s.room
  pub free_room : span ≤ capacity
