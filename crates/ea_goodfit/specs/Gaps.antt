-- The gaps of the bins, by rising address, and the one that a search finds (`found_by`).
-- GoodFit.antt of ea_model defines the bins and names their source.
use Rattle.std.specs.Prelude.{◌≢◌, ℕ, ◌+◌, ◌-◌, ◌^◌, ◌<◌, ◌≤◌, Bool, ◌&&◌, if◌then◌else◌, nat_le}
use Rattle.std.specs.Prelude.{nat_lt, ◌==◌, List, [], ◌∷◌, ◌++◌, All, Option, filter, take}
use Rattle.std.specs.List.{list_any}
use Rattle.std.specs.List.Sorted.{IsPermutation}
use Rattle.ea_model.specs.Choice.{better, first, less}
use Rattle.ea_model.specs.GoodFit.{bin_of, is_inspected, smaller_low}
use Rattle.ea_model.specs.Keyed as keyed
use Rattle.ea_goodfit.specs.declared.gaps.BinnedGap.{BinnedGap}
use Rattle.ea_goodfit.specs.declared.fits.Fit.{Fit}
use Rattle.ea_goodfit.specs.declared.fits.Fit.TheVariants.{Good, Best, AddressOrderBest}

-- how a gap is chosen, the gaps by rising address, and how many more can be inserted without memory
pub record HeldGaps : Type 0 where
  pub fit : Fit
  pub held : List BinnedGap
  pub room : ℕ

abbrev pub address_of : BinnedGap → ℕ
address_of g = g.address

-- a lies at a lower address than b
abbrev pub IsBelow : BinnedGap → BinnedGap → Type 0
IsBelow a b = keyed.IsBelow address_of a b

-- whether they are one gap
abbrev pub is_same : BinnedGap → BinnedGap → Bool
is_same a b = (a.address == b.address) && (a.size == b.size)

-- whether the gap is among them
abbrev pub is_held : BinnedGap → List BinnedGap → Bool
is_held gap gs = list_any (is_same gap) gs

-- the smaller, among equals the lower
abbrev pub smaller : BinnedGap → BinnedGap → Bool
smaller = smaller_low (λ g. g.address) (λ g. g.size)

-- the smaller, among equals the higher
abbrev pub smaller_high : BinnedGap → BinnedGap → Bool
smaller_high a b = less a.size b.size (nat_lt b.address a.address)

-- which of two gaps is taken
abbrev pub takes_first : Fit → BinnedGap → BinnedGap → Bool
takes_first Good a b = smaller a b
takes_first Best a b = smaller_high a b
takes_first AddressOrderBest a b = smaller a b

-- the gaps that a search inspects: under good fit the first `depth` of each bin, otherwise all
abbrev pub inspected_by : Fit → ℕ → List BinnedGap → List BinnedGap
inspected_by Good depth gs = filter (is_inspected (λ h. h.address) (λ h. h.size) depth gs) gs
inspected_by Best depth gs = gs
inspected_by AddressOrderBest depth gs = gs

-- those of at least `need` units among them
abbrev pub inspected_fitting : Fit → ℕ → ℕ → List BinnedGap → List BinnedGap
inspected_fitting fit depth need gs = filter (λ g. nat_le need g.size) (inspected_by fit depth gs)

-- the gap that is taken of those
abbrev pub found_by : Fit → ℕ → ℕ → List BinnedGap → Option BinnedGap
found_by fit depth need gs = first (takes_first fit) (inspected_fitting fit depth need gs)

-- the gaps of a bin
abbrev pub of_bin : ℕ → List BinnedGap → List BinnedGap
of_bin bin gs = filter (λ g. bin_of g.size == bin) gs

-- the gap that is taken of those that fit among the first `depth` of a bin
abbrev pub found_in : ℕ → ℕ → ℕ → List BinnedGap → Option BinnedGap
found_in bin depth need gs = first smaller (filter (λ g. nat_le need g.size)
    (take depth (of_bin bin gs)))

-- the better of the best so far and a gap, where that one fits
abbrev pub considered : ℕ → Option BinnedGap → BinnedGap → Option BinnedGap
considered need best g = if nat_le need g.size then better smaller best g else best

-- a gap as a list of at most one: a gap of no units is none
abbrev pub some_gap : BinnedGap → List BinnedGap
some_gap g = if nat_lt 0 g.size then g ∷ [] else []

abbrev pub gap_from : ℕ → ℕ → List BinnedGap
gap_from address size = some_gap (record { address = address; size = size })

-- a gap of `whole` units at the address is held, and no other gap begins where a block of `size`
-- units at its front ends
pub record CanCut (held : List BinnedGap) (address whole size : ℕ) : Type 0 where
  pub some : 0 < whole
  pub within : size ≤ whole
  pub fits : address + whole < 2 ^ 32
  pub bounded : whole + 1 < 2 ^ 32
  pub rest : List BinnedGap
  pub order : IsPermutation held (gap_from address whole ++ rest)
  pub free : size < whole → All (λ g. g.address ≢ address + size) rest

-- the gaps beside a block of `size` units at the address are held, and no other gap begins where
-- the one before it does
pub record CanJoin (held : List BinnedGap) (address before size behind : ℕ) : Type 0 where
  pub within : before ≤ address
  pub fits : address + size + behind < 2 ^ 32
  pub bounded : before + size + behind + 1 < 2 ^ 32
  pub rest : List BinnedGap
  pub order : IsPermutation held
      (gap_from (address - before) before ++ (gap_from (address + size) behind ++ rest))
  pub free : All (λ g. g.address ≢ address - before) rest
