-- Counts of faults and of bytes, which stop at their last value: when one has risen.
use Rattle.std.specs.Prelude.{◌≡◌, ℕ, ◌+◌, ◌<◌, ◌≤◌, min, Option, None, Some, Result, MatchResult}

-- the greatest count; a count that stands there may have lost rises
abbrev pub last_count : ℕ
last_count = 18446744073709551615

-- the count after one more
abbrev pub next_count : ℕ → ℕ
next_count n = min (n + 1) last_count

-- the count went up by one or more, or stands at its last value
abbrev pub Rose : ℕ → ℕ → Type 0
Rose before now = next_count before ≤ now

-- the count did not rise, and is below its last value
abbrev pub Calm : ℕ → ℕ → Type 0
Calm before now = now < next_count before

-- a told number of bytes goes up by n, and stops at the last count
abbrev pub Grows : Option ℕ → Option ℕ → ℕ → Type 0
Grows None new n = Unit {0}
Grows (Some a) None n = ⊥
Grows (Some a) (Some b) n = min b last_count ≡ min (a + n) last_count

-- at Ok(n) it goes up by n, else it stays
abbrev pub WriteCounts : {E : Type 0} → Option ℕ → Option ℕ → Result ℕ E → Type 0
WriteCounts old new r = MatchResult r (λ n. Grows old new n) (λ _. Grows old new 0)
