-- The carriers of a set, and which of those that fit is the lowest or the oldest (`comes_first`).
-- Source of 'oldest': Erlang/OTP, 'erts_alloc', section 'The alloc_util Framework'.
use Rattle.std.specs.Prelude.{◌≡◌, ◌≢◌, ℕ, ◌<◌, ◌≤◌, Bool, false, if◌then◌else◌}
use Rattle.std.specs.Prelude.{nat_lt, nat_le, List, Option, All, Any}
use Rattle.std.specs.Prelude.{filter, map, length, get_or, option_map}
use Rattle.ea_model.specs.Choice.{first, less}
use Rattle.ea_model.specs.Keyed.{has_key, item_at}
use Rattle.ea_cset.specs.declared.keys.CarrierFit.{CarrierFit}
use Rattle.ea_cset.specs.declared.keys.Found.{Found}
use Rattle.ea_cset.specs.declared.keys.Order.{Order}
use Rattle.ea_cset.specs.declared.keys.Order.TheVariants.{Address, Age}

-- the order in which they are searched, the carriers by rising number, and how many there is room
-- for
pub record Carriers : Type 0 where
  pub order : Order
  pub held : List CarrierFit
  pub room : ℕ

-- a carrier's number
abbrev pub number_of : CarrierFit → ℕ
number_of h = h.key.number

-- the carrier with the number
abbrev pub carrier_of : List CarrierFit → ℕ → Option CarrierFit
carrier_of hs number = item_at number_of hs number

-- the carrier, with another fit if it has the number
abbrev pub with_fit : ℕ → ℕ → CarrierFit → CarrierFit
with_fit number fit h = if has_key number_of number h then record { key = h.key; fit = fit } else h

-- with another fit of the carrier with the number
abbrev pub refitted : ℕ → ℕ → List CarrierFit → List CarrierFit
refitted number fit hs = map (with_fit number fit) hs

-- whether a lies at a lower address than b
abbrev pub lower : CarrierFit → CarrierFit → Bool
lower a b = nat_lt a.key.base b.key.base

-- whether a is older than b: by birth, among equals by number
abbrev pub older : CarrierFit → CarrierFit → Bool
older a b = less a.key.birth b.key.birth (nat_lt a.key.number b.key.number)

-- whether a comes before b
abbrev pub comes_first : Order → CarrierFit → CarrierFit → Bool
comes_first Address = lower
comes_first Age = older

-- the carriers whose largest gap has at least that many units
abbrev pub fitting : ℕ → List CarrierFit → List CarrierFit
fitting need hs = filter (λ h. nat_le need h.fit) hs

-- the number of the first carrier that fits
abbrev pub first_number : (CarrierFit → CarrierFit → Bool) → ℕ → List CarrierFit → Option ℕ
first_number before need hs = option_map (λ h. h.key.number) (first before (fitting need hs))

-- the carrier that was found, and its number
abbrev pub carrier_found : Option Found → Option CarrierFit
carrier_found found = option_map (λ f. f.carrier) found

abbrev pub number_found : Option Found → Option ℕ
number_found found = option_map (λ f. f.carrier.key.number) found

-- it is the one at its place among the carriers
abbrev pub StandsIn : List CarrierFit → Found → Type 0
StandsIn hs f = (f.index < length hs) × (get_or hs f.index f.carrier ≡ f.carrier)

-- a has the lower number, and they have different bases
abbrev pub IsBefore : CarrierFit → CarrierFit → Type 0
IsBefore a b = (a.key.number < b.key.number) × (a.key.base ≢ b.key.base)

-- h has the number and fits, and no carrier that fits comes before it
pub record IsAhead (before : CarrierFit → CarrierFit → Bool) (need : ℕ) (hs : List CarrierFit)
    (number : ℕ) (h : CarrierFit) : Type 0 where
  pub number_is : h.key.number ≡ number
  pub fits : need ≤ h.fit
  pub least : All (λ other. need ≤ other.fit → before other h ≡ false) hs

-- the number is that of a held carrier that fits, and no carrier that fits comes before it
abbrev pub IsFirstOf : (CarrierFit → CarrierFit → Bool) → ℕ → List CarrierFit → ℕ → Type 0
IsFirstOf before need hs number = Any (IsAhead before need hs number) hs
