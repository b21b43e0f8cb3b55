-- The instances of schedulers before their first operation, and their regions.
use Rattle.std.proofs.Common.{◌≡◌, ℕ, zero, suc, ◌+◌, ◌-◌, ◌*◌, ◌<◌, ◌≤◌, ap, arith}
use Rattle.std.proofs.Math.Nat.{mul-div-le, mul-le-mul_right, suc-mul}
use Rattle.ea_model.specs.declared.settings.Config.{Config}
use Rattle.ea_model.specs.declared.trace.Trace.{Trace}
use Rattle.ea_model.specs.declared.units.TheConstants.{MAX_PAGES, MEGABYTE_PAGES}
use Rattle.ea_model.specs.Instance.{new_instance}
use Rattle.ea_model.specs.Settings.{IsValidConfig, region_pages, settings_of}
use Rattle.ea_laws.specs.Kept.{Stands}
use Rattle.ea_laws.proofs.Standing.{new-Stands}
use Rattle.ea_machine.specs.Setup.{Setup, first_page, setup_of}

-- the regions of schedulers up to n
region_upto : (me n pages : ℕ) → 1 ≤ me → me ≤ n → (me - 1) * pages + pages ≤ n * pages
region_upto zero n pages some most = absurd (omega (arith, some))
region_upto (suc k) n pages some most = omega (
  arith,
  suc-mul k pages,
  ap (λ m. m * pages) (one_less k),
  mul-le-mul_right pages most,
) where
  one_less : (k : ℕ) → suc k - 1 ≡ k
  one_less k = omega arith

-- one region ends where the next begins, or before
pub regions-apart : (setup : Setup) (i j : ℕ) → 1 ≤ i → i < j
    → first_page setup i + setup.pages ≤ first_page setup j
regions-apart setup i j some below = region_upto i (j - 1) setup.pages some (omega (arith, below))

-- each region lies in the super carrier
region-within : (c : Config) (t : Trace) (me : ℕ) → IsValidConfig c → 1 ≤ me
    → me ≤ c.schedulers → first_page (setup_of c t) me + region_pages c ≤ MAX_PAGES
region-within c t me valid some most = omega (
  arith,
  region_upto me c.schedulers (region_pages c) some most,
  mul-div-le (c.scs * MEGABYTE_PAGES) c.schedulers,
  valid.space.1,
)

-- a scheduler's instance stands at its beginning
pub first-Stands : (c : Config) (t : Trace) (me : ℕ) → IsValidConfig c → 1 ≤ me
    → me ≤ c.schedulers
    → Stands
    (new_instance (settings_of c t.letter) me (first_page (setup_of c t) me) (region_pages c))
first-Stands c t me valid some most =
    new-Stands (settings_of c t.letter) me (first_page (setup_of c t) me) (region_pages c)
    (valid.settings t.letter) (some, omega (arith, most, valid.schedulers.1))
    (region-within c t me valid some most) (valid.main_carriers t.letter)
