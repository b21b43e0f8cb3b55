-- Numbers by pages (`numbers`), of which those that are used stand one after another. `IsPaged`
-- also says that there is room for all pages.
use Rattle.std.specs.Prelude.{◌≡◌, ◌≢◌, ℕ, ◌+◌, ◌-◌, ◌*◌, ◌/◌, ◌%◌, ◌≤◌, ◌==◌, if◌then◌else◌, min}
use Rattle.std.specs.Prelude.{List, length, map, slice_index, sum_by}
use Rattle.std.specs.List.{range_with_len}
use Rattle.ea_tags.specs.declared.paged.TheConstants.{PAGE}

-- the number at place k of the page that ends at `end`, 0 where that is 0
abbrev pub number_in : List ℕ → ℕ → ℕ → ℕ
number_in used end k = if end == 0 then 0 else slice_index used (end - PAGE + k)

-- the number at i, where the pages end at `ends` in `used`
abbrev pub number : List ℕ → List ℕ → ℕ → ℕ
number ends used i = number_in used (slice_index ends (i / PAGE)) (i % PAGE)

-- that many numbers
abbrev pub numbers : ℕ → List ℕ → List ℕ → List ℕ
numbers n ends used = map (number ends used) (range_with_len 0 n)

-- how many pages are used
unfoldable pub count : List ℕ → ℕ
count ends = sum_by (min 1) ends

-- the used pages are what is there, each of them once, and there is room for all pages
pub record IsPaged (ends used : List ℕ) (capacity : ℕ) : Type 0 where
  pub whole : (k : ℕ) → slice_index ends k ≢ 0
      → (PAGE ≤ slice_index ends k) × (slice_index ends k ≤ length used)
      × (slice_index ends k % PAGE ≡ 0)
  pub apart : (j k : ℕ) → slice_index ends j ≢ 0 → slice_index ends j ≡ slice_index ends k → j ≡ k
  pub filled : length used ≡ PAGE * count ends
  pub room : PAGE * length ends ≤ capacity

-- and there are pages for that many numbers
pub record HasPages (n : ℕ) (ends used : List ℕ) (capacity : ℕ) : Type 0 where
  pub paged : IsPaged ends used capacity
  pub enough : n ≤ PAGE * length ends
