-- The powers of two up to a size, and its bin.
use Rattle.std.proofs.Common.{zero, suc, ◌≡◌, ℕ, ◌+◌, ◌<◌, ◌≤◌, refl, sym, arith}
use Rattle.std.specs.Prelude.{◌^◌, nat_lt, if◌then◌else◌}
use Rattle.ea_model.specs.GoodFit.{bin_of, powers}

pub counted : (size a n : ℕ) → 2 ^ a ≤ size → powers size a (suc n) ≡ 1 + powers size (a + 1) n
unfolding powers
counted size a n le = grind arith

pub uncounted : (size a n : ℕ) → size < 2 ^ a → powers size a (suc n) ≡ powers size (a + 1) n
unfolding powers
uncounted size a n lt = grind arith

pub powers-none : (size a : ℕ) → powers size a 0 ≡ 0
unfolding powers
powers-none size a = refl

-- what a walk up to 2 ^ 32 keeps before the power of `a`: those counted and those that are left are
-- all
abbrev pub Counts : ℕ → ℕ → ℕ → Type 0
Counts size a count = (left : ℕ) × (left + a ≡ 32) × (count + left ≤ 26)
    × (count + powers size a left ≡ powers size 6 26)

pub counted_on : (size a count : ℕ) → a < 32 → 2 ^ a ≤ size → Counts size a count
    → Counts size (a + 1) (count + 1)
counted_on size a count lt le (zero, end, few, all) = absurd (omega arith)
counted_on size a count lt le (suc n, end, few, all) =
    (n, omega arith, omega arith, omega (arith, counted size a n le))

pub passed_on : (size a count : ℕ) → a < 32 → size < 2 ^ a → Counts size a count
    → Counts size (a + 1) count
passed_on size a count lt gt (zero, end, few, all) = absurd (omega arith)
passed_on size a count lt gt (suc n, end, few, all) =
    (n, omega arith, omega arith, omega (arith, uncounted size a n gt))

pub all_counted : (size a count : ℕ) → 32 ≤ a → Counts size a count → count ≡ powers size 6 26
all_counted size a count ge (zero, end, few, all) = omega (arith, powers-none size a)
all_counted size a count ge (suc n, end, few, all) = absurd (omega arith)

small : (size k : ℕ) → size < 64 → (if nat_lt size 64 then size else k) ≡ size
small size k lt = grind arith

large : (size k : ℕ) → 64 ≤ size → (if nat_lt size 64 then size else k) ≡ k
large size k le = grind arith

pub bin_of-small : (size : ℕ) → size < 64 → size ≡ bin_of size
unfolding bin_of
bin_of-small size lt = sym (small size (63 + powers size 6 26) lt)

pub bin_of-large : (size : ℕ) → 64 ≤ size → 63 + powers size 6 26 ≡ bin_of size
unfolding bin_of
bin_of-large size le = sym (large size (63 + powers size 6 26) le)
