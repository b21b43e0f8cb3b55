-- How carriers stand in an order: by a number that rises along it. This file serves private
-- functions and invariants.
use Rattle.std.specs.Prelude.{◌≡◌, ℕ, ◌+◌, ◌*◌, ◌^◌, ◌<◌, ◌≤◌, Bool, nat_le, List, All, AllPairs}
use Rattle.std.specs.Prelude.{Some, length, map, slice_index, ◌⊎◌}
use Rattle.ea_model.specs.Keyed.{item_at, IsBelow}
use Rattle.ea_cset.specs.declared.keys.CarrierFit.{CarrierFit}
use Rattle.ea_cset.specs.declared.keys.Order.{Order}
use Rattle.ea_cset.specs.declared.keys.Order.TheVariants.{Address, Age}
use Rattle.ea_cset.specs.declared.ranking.Rank.{Rank}
use Rattle.ea_cset.specs.Carriers.{carrier_of, IsBefore}

-- the carriers with their keys, by rising key, and how many there is room for
pub record Ranks : Type 0 where
  pub ranks : List Rank
  pub room : ℕ

abbrev pub rank_key : Rank → ℕ
rank_key r = r.key

abbrev pub fit_of : Rank → ℕ
fit_of r = r.carrier.fit

-- whether the carrier's largest gap has at least that many units
abbrev pub fits : ℕ → Rank → Bool
fits need r = nat_le need r.carrier.fit

-- the carrier with another fit
abbrev pub refit : ℕ → Rank → Rank
refit fit r = record { key = r.key; carrier = record { key = r.carrier.key; fit = fit } }

-- the carrier is one of them, its key is at most `key`, and no other such key is greater
pub record IsLastUpTo (key : ℕ) (rs : List Rank) (r : Rank) : Type 0 where
  pub there : item_at rank_key rs r.key ≡ Some r
  pub low : r.key ≤ key
  pub last : All (λ s. s.key ≤ key → s.key ≤ r.key) rs

-- the value at the place is the fit of the carrier there, and 0 after the last one
abbrev pub IsFitAt : List Rank → List ℕ → ℕ → Type 0
IsFitAt rs values p = slice_index values p ≡ slice_index (map fit_of rs) p

abbrev pub AreFits : List Rank → List ℕ → Type 0
AreFits rs values = (p : ℕ) → IsFitAt rs values p

-- so are those before `from`, and those from `to` on
abbrev pub IsWritten : ℕ → ℕ → List Rank → List ℕ → Type 0
IsWritten from to rs values = (p : ℕ) → (p < from) ⊎ (to ≤ p) → IsFitAt rs values p

-- there is room for the carriers, memory for the room, and their fits are written
pub record IsIndexed (room capacity : ℕ) (rs : List Rank) (values : List ℕ) : Type 0 where
  pub rising : AllPairs (IsBelow rank_key) rs
  pub within : length rs ≤ room
  pub reserved : room ≤ capacity
  pub small : room < 2 ^ 32
  pub long : length values ≡ room
  pub written : AreFits rs values

-- a carrier's key in an order
abbrev pub order_key : Order → CarrierFit → ℕ
order_key Address h = h.key.base
order_key Age h = h.key.birth * 2 ^ 32 + h.key.number

-- the carrier with its key
abbrev pub rank_of : (CarrierFit → ℕ) → CarrierFit → Rank
rank_of by h = record { key = by h; carrier = h }

-- the carriers of a set stand by these keys in an order, with the set's room
pub record IsRankedBy (by : CarrierFit → ℕ) (room : ℕ) (hs : List CarrierFit) (o : Ranks) : Type 0
  where
    pub room_is : o.room ≡ room
    pub long : length o.ranks ≡ length hs
    pub rising : AllPairs (IsBelow rank_key) o.ranks
    pub all : (n : ℕ) (h : CarrierFit) → carrier_of hs n ≡ Some h
        → item_at rank_key o.ranks (by h) ≡ Some (rank_of by h)
    pub only : (k : ℕ) (r : Rank) → item_at rank_key o.ranks k ≡ Some r
        → (carrier_of hs r.carrier.key.number ≡ Some r.carrier) × (r.key ≡ by r.carrier)

-- the carriers stand by rising number and have different bases, there is room for them, and memory
-- for the room, and they stand in the order
pub record IsKept (order : Order) (room capacity : ℕ) (hs : List CarrierFit) (ranking : Ranks)
    : Type 0 where
  pub rising : AllPairs IsBefore hs
  pub small : All (λ h. h.key.number < 2 ^ 32) hs
  pub within : length hs ≤ room
  pub reserved : room ≤ capacity
  pub ranked : IsRankedBy (order_key order) room hs ranking
