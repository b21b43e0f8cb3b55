-- The carriers that an instance owns, and its region.
use Rattle.std.specs.Prelude.{◌≡◌, ℕ, ◌^◌, ◌<◌, ◌≤◌, List, All}
use Rattle.ea_model.specs.declared.carriers.OwnCarrier.{OwnCarrier}
use Rattle.ea_model.specs.declared.units.TheConstants.{NUMBERS}
use Rattle.ea_model.specs.Instance.{segments}
use Rattle.ea_model.specs.Region.{Laid, Region}
use Rattle.ea_laws.specs.Kept.{HasPages, IsRisingOwn}

-- the region's pages from `first` up to `end`, and the carriers by rising number
pub record OwnList : Type 0 where
  pub first : ℕ
  pub end : ℕ
  pub carriers : List OwnCarrier

-- the segments of the carriers are the taken ones of the region, and there is room for as many
-- carriers as an instance has numbers
pub record HaveSegments (capacity : ℕ) (own : List OwnCarrier) (region : Region) : Type 0 where
  pub room : NUMBERS ≤ capacity
  pub rising : IsRisingOwn own
  pub pages : All HasPages own
  pub taken : region.taken ≡ segments own
  pub laid : Laid region.first region.end region.taken
  pub low : region.end < 2 ^ 32
