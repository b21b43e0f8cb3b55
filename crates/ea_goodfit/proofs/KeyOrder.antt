-- The order of the keys.
use Rattle.std.proofs.Common.{◌≡◌, ◌≢◌, ℕ, ◌+◌, ◌-◌, ◌*◌, ◌^◌, ◌<◌, ◌≤◌, false, refl, arith}
use Rattle.ea_model.specs.GoodFit.{bin_of}
use Rattle.ea_goodfit.specs.declared.gaps.BinnedGap.{BinnedGap}
use Rattle.ea_goodfit.specs.declared.fits.Fit.{Fit}
use Rattle.ea_goodfit.specs.declared.fits.Fit.TheVariants.{Good, Best, AddressOrderBest}
use Rattle.ea_goodfit.specs.Gaps.{smaller, smaller_high, takes_first}
use Rattle.ea_goodfit.specs.Keys.{key_of, width_of}
use Rattle.ea_goodfit.proofs.Bin.{bin_of-below}

low_apart : (c d a b : ℕ) → a < 2 ^ 32 → b < 2 ^ 32 → a ≢ b → c * 2 ^ 32 + a ≢ d * 2 ^ 32 + b
low_apart c d a b below beside n e = omega arith

high_apart : (c d a b : ℕ) → a < 2 ^ 32 → b < 2 ^ 32 → a ≢ b
    → c * 2 ^ 32 + (2 ^ 32 - 1 - a) ≢ d * 2 ^ 32 + (2 ^ 32 - 1 - b)
high_apart c d a b below beside n e = omega arith

-- gaps of two addresses have two keys
pub key_of-apart : (fit : Fit) (g h : BinnedGap) → g.address < 2 ^ 32 → h.address < 2 ^ 32
    → g.address ≢ h.address → key_of fit g ≢ key_of fit h
key_of-apart Good g h a b n = low_apart (bin_of g.size) (bin_of h.size) g.address h.address a b n
key_of-apart Best g h a b n = high_apart g.size h.size g.address h.address a b n
key_of-apart AddressOrderBest g h a b n = low_apart g.size h.size g.address h.address a b n

low_within : (c a n : ℕ) → a < 2 ^ 32 → c + 1 ≤ n → c * 2 ^ 32 + a < n * 2 ^ 32
low_within c a n below le = omega arith

high_within : (c a n : ℕ) → c + 1 ≤ n → c * 2 ^ 32 + (2 ^ 32 - 1 - a) < n * 2 ^ 32
high_within c a n le = omega arith

pub key_of-within : (fit : Fit) (g : BinnedGap) → g.address < 2 ^ 32
    → (fit ≢ Good → g.size + 1 < 2 ^ 32) → key_of fit g < width_of fit
key_of-within Good g a s = low_within (bin_of g.size) g.address 90 a
    (omega (arith, bin_of-below g.size))
key_of-within Best g a s = high_within g.size g.address (2 ^ 32 - 1) (omega (arith, s (λ e. cc)))
key_of-within AddressOrderBest g a s = low_within g.size g.address (2 ^ 32 - 1) a
    (omega (arith, s (λ e. cc)))

not_smaller : (g h : BinnedGap) → g.size ≤ h.size → (g.size ≡ h.size → g.address ≤ h.address)
    → smaller h g ≡ false
not_smaller g h le same = grind arith

not_smaller_high : (g h : BinnedGap) → g.size ≤ h.size
    → (g.size ≡ h.size → h.address ≤ g.address) → smaller_high h g ≡ false
not_smaller_high g h le same = grind arith

low_after : (g h : BinnedGap) → g.address < 2 ^ 32 → h.address < 2 ^ 32
    → g.size * 2 ^ 32 + g.address ≤ h.size * 2 ^ 32 + h.address → smaller h g ≡ false
low_after g h a b le = not_smaller g h (omega arith) (λ e. omega arith)

high_after : (g h : BinnedGap) → g.address < 2 ^ 32 → h.address < 2 ^ 32
    → g.size * 2 ^ 32 + (2 ^ 32 - 1 - g.address) ≤ h.size * 2 ^ 32 + (2 ^ 32 - 1 - h.address)
    → smaller_high h g ≡ false
high_after g h a b le = not_smaller_high g h (omega arith) (λ e. omega arith)

-- where gaps are found by their sizes, the one of the lesser key is taken first
pub key_of-after : (fit : Fit) (g h : BinnedGap) → fit ≢ Good → g.address < 2 ^ 32
    → h.address < 2 ^ 32 → key_of fit g ≤ key_of fit h → takes_first fit h g ≡ false
key_of-after Good g h n a b le = absurd (n refl)
key_of-after Best g h n a b le = high_after g h a b le
key_of-after AddressOrderBest g h n a b le = low_after g h a b le

fits_low : (c a n : ℕ) → a < 2 ^ 32 → n * 2 ^ 32 ≤ c * 2 ^ 32 + a → n ≤ c
fits_low c a n below le = omega arith

fits_high : (c a n : ℕ) → n * 2 ^ 32 ≤ c * 2 ^ 32 + (2 ^ 32 - 1 - a) → n ≤ c
fits_high c a n le = omega arith

-- where gaps are found by their sizes, those of at least that many units have the keys from there
pub key_of-fits : (fit : Fit) (need : ℕ) (g : BinnedGap) → fit ≢ Good → g.address < 2 ^ 32
    → need * 2 ^ 32 ≤ key_of fit g → need ≤ g.size
key_of-fits Good need g n a le = absurd (n refl)
key_of-fits Best need g n a le = fits_high g.size g.address need le
key_of-fits AddressOrderBest need g n a le = fits_low g.size g.address need a le

pub fits-key_of : (fit : Fit) (need : ℕ) (g : BinnedGap) → fit ≢ Good → need ≤ g.size
    → need * 2 ^ 32 ≤ key_of fit g
fits-key_of Good need g n le = absurd (n refl)
fits-key_of Best need g n le = omega arith
fits-key_of AddressOrderBest need g n le = omega arith
