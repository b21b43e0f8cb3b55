-- The keys by which gaps are found, and the gaps by position. This file serves private functions
-- and invariants.
use Rattle.std.specs.Prelude.{◌≡◌, ◌≢◌, ℕ, ◌+◌, ◌-◌, ◌*◌, ◌^◌, ◌<◌, ◌≤◌, List, [], ◌∷◌, Option}
use Rattle.std.specs.Prelude.{Some, None, All, AllPairs, Contains, length, map, get_or, option_map}
use Rattle.ea_model.specs.GoodFit.{bin_of}
use Rattle.ea_model.specs.Keyed.{entered}
use Rattle.ea_keytree.specs.Keys.{KeysHeld}
use Rattle.ea_goodfit.specs.declared.gaps.BinnedGap.{BinnedGap}
use Rattle.ea_goodfit.specs.declared.fits.Fit.{Fit}
use Rattle.ea_goodfit.specs.declared.fits.Fit.TheVariants.{Good, Best, AddressOrderBest}
use Rattle.ea_goodfit.specs.declared.keys.TheConstants.{BINS}
use Rattle.ea_goodfit.specs.Gaps.{address_of, IsBelow}

-- the bin or the size of a gap, whichever gaps are found by
abbrev pub class_of : Fit → ℕ → ℕ
class_of Good size = bin_of size
class_of Best size = size
class_of AddressOrderBest size = size

-- the place of an address among the keys of a class: the first is taken first
abbrev pub place_of : Fit → ℕ → ℕ
place_of Good address = address
place_of Best address = 2 ^ 32 - 1 - address
place_of AddressOrderBest address = address

abbrev pub key_of : Fit → BinnedGap → ℕ
key_of fit g = class_of fit g.size * 2 ^ 32 + place_of fit g.address

-- what keys are below
abbrev pub width_of : Fit → ℕ
width_of Good = BINS * 2 ^ 32
width_of Best = (2 ^ 32 - 1) * 2 ^ 32
width_of AddressOrderBest = (2 ^ 32 - 1) * 2 ^ 32

-- it is the gap of the least key of at least the bound
pub record IsNext (fit : Fit) (bound : ℕ) (held : List BinnedGap) (g : BinnedGap) : Type 0 where
  pub among : Contains held g
  pub great : bound ≤ key_of fit g
  pub least : All (λ h. bound ≤ key_of fit h → key_of fit g ≤ key_of fit h) held

-- the gaps of the positions that hold one, by rising address
abbrev pub by_address : List (Option BinnedGap) → List BinnedGap
by_address [] = []
by_address (None ∷ gs) = by_address gs
by_address (Some g ∷ gs) = entered address_of g (by_address gs)

-- the positions hold the gaps of these keys, no two at one address; those that hold none are free,
-- each once; and `reserved` positions more take no memory, nor does it to free any
pub record AreHeld (fit : Fit) (reserved : ℕ) (tree : KeysHeld) (gaps : List (Option BinnedGap))
    (free : List ℕ) (gaps_capacity free_capacity : ℕ) : Type 0 where
  pub width : tree.width ≡ width_of fit
  pub keys : tree.keys ≡ map (option_map (key_of fit)) gaps
  pub rising : AllPairs IsBelow (by_address gaps)
  pub bounded : All (λ g. g.address < 2 ^ 32) (by_address gaps)
  pub empty : All (λ p. get_or gaps p None ≡ None) free
  pub within : All (λ p. p < length gaps) free
  pub once : AllPairs (λ p q. p ≢ q) free
  pub count : length free + length (by_address gaps) ≡ length gaps
  pub few : reserved + length gaps < 2 ^ 32
  pub tree_room : reserved ≤ tree.room
  pub gaps_room : reserved + length gaps ≤ gaps_capacity
  pub free_room : reserved + length gaps ≤ free_capacity
