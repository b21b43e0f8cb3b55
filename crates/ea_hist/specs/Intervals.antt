-- Intervals of sizes, each twice as long as the one before, and how many sizes lie in each
-- (`interval_of`).
-- Source of the intervals: Erlang/OTP, the module 'instrument'.
use Rattle.std.specs.Prelude.{ℕ, ◌+◌, ◌-◌, ◌*◌, ◌^◌, nat_le, ◌==◌, List, filter, length, map}
use Rattle.std.specs.List.{range_with_len}
use Rattle.ea_hist.specs.declared.counting.TheConstants.{INTERVALS}

-- the least size of an interval from 2 on, in units: 16, and twice as many in each next one
abbrev pub least_of : ℕ → ℕ
least_of interval = 16 * 2 ^ (interval - 2)

unfoldable pub borders : List ℕ
borders = map least_of (range_with_len 2 (INTERVALS - 1))

-- how many of these sizes are not above the size
abbrev pub reached : ℕ → List ℕ → ℕ
reached units sizes = length (filter (λ b. nat_le b units) sizes)

-- the interval of a size: 1 below 16 units, then the last one whose least size is not above it; the
-- last of all has no upper end
unfoldable pub interval_of : ℕ → ℕ
interval_of units = 1 + reached units borders

-- how many of the sizes lie in the interval
abbrev pub count_in : ℕ → List ℕ → ℕ
count_in interval sizes = length (filter (λ u. interval_of u == interval) sizes)

-- how many lie in each interval, interval 1 first
unfoldable pub counts : List ℕ → List ℕ
counts sizes = map (λ interval. count_in interval sizes) (range_with_len 1 INTERVALS)
