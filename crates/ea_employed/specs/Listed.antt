-- The carriers of an instance (`CarrierList`), what their set knows of them, and the bins of their
-- gaps.
use Rattle.std.specs.Prelude.{◌≡◌, ℕ, ◌+◌, ◌*◌, ◌-◌, ◌≤◌, Bool, true, ◌&&◌}
use Rattle.std.specs.Prelude.{nat_lt, nat_le, List, Option, map}
use Rattle.std.specs.Prelude.{option_map, sum_by}
use Rattle.std.specs.Option.{option_and_then}
use Rattle.ea_model.specs.declared.settings.Strategy.{Strategy}
use Rattle.ea_model.specs.declared.carriers.Inner.{Inner}
use Rattle.ea_model.specs.declared.carriers.Candidate.{Candidate}
use Rattle.ea_model.specs.declared.carriers.Spot.{Spot}
use Rattle.ea_model.specs.Content.{Content, gaps_of, largest}
use Rattle.ea_model.specs.Choice.{choice}
use Rattle.ea_model.specs.Strategies.{candidate, candidates}
use Rattle.ea_model.specs.Instance.{content_of}
use Rattle.ea_cset.specs.declared.keys.CarrierFit.{CarrierFit}
use Rattle.ea_cset.specs.declared.keys.Found.{Found}
use Rattle.ea_cset.specs.Carriers.{Carriers, StandsIn}
use Rattle.ea_goodfit.specs.declared.gaps.BinnedGap.{BinnedGap}
use Rattle.ea_goodfit.specs.Gaps.{HeldGaps}
use Rattle.ea_model.specs.declared.units.TheConstants.{MAX_SCHEDULERS, NUMBERS, PAGE_UNITS}
use Rattle.ea_employed.specs.Binned.{fit_in, fit_of, has_bins, HavePlaces, Hold}
use Rattle.ea_employed.specs.Searches.{order_among}

-- the carriers of an instance by rising number, the strategy that chooses among their gaps, and how
-- many units they may have together where it has bins
pub record CarrierList : Type 0 where
  pub strategy : Strategy
  pub units : ℕ
  pub contents : List Content

-- what the set knows of a carrier: what tells it from the others, and its largest gap
abbrev pub held_of : Content → CarrierFit
held_of c = record {
  key = record { number = c.number; base = c.base; birth = c.birth };
  fit = largest (gaps_of c);
}

-- it is what the set knows of the carrier at its place
abbrev pub StandsAmong : List Content → Found → Type 0
StandsAmong cs f = StandsIn (map held_of cs) f

-- the spot at the offset in the carrier that was found
abbrev pub spot_in : Found → ℕ → Spot
spot_in f offset = record { carrier = f.carrier.key.number; offset = offset }

-- what the bins know of a gap
abbrev pub gap_of : Candidate → BinnedGap
gap_of x = record { address = x.address; size = x.size }

abbrev pub all_gaps : List Content → List BinnedGap
all_gaps cs = map gap_of (candidates cs)

-- the set holds the carriers in the strategy's order and has room for as many as there are
-- numbers; the strategy has its bins, which hold all gaps; and where there are bins the carriers
-- have no more units than they may, and the bins have places for all gaps of that many units
pub record IsListed (strategy : Strategy) (units : ℕ) (list : List Content) (set : Carriers)
    (bins : Option HeldGaps) : Type 0 where
  pub order : set.order ≡ order_among strategy
  pub held : set.held ≡ map held_of list
  pub room : NUMBERS * MAX_SCHEDULERS ≤ set.room
  pub fit : fit_in bins ≡ fit_of strategy
  pub gaps : Hold bins (all_gaps list)
  pub places : HavePlaces units bins
  pub few : has_bins strategy ≡ true → sum_by (λ c. c.units) list ≤ units

-- the gap that is chosen in a carrier
abbrev pub chosen_in : Inner → ℕ → Content → Option Candidate
chosen_in inner need c = option_map (candidate c) (choice inner need (gaps_of c))

-- the gap that is chosen in the carrier with the number
abbrev pub candidate_in : Inner → ℕ → List Content → ℕ → Option Candidate
candidate_in inner need cs number = option_and_then (chosen_in inner need) (content_of cs number)

-- whether the unit at the address is one of the carrier
abbrev pub spans : ℕ → Content → Bool
spans address c = nat_le (PAGE_UNITS * c.base) address
    && nat_lt address (PAGE_UNITS * c.base + c.units)

-- the gap as one of the carrier
abbrev pub located : BinnedGap → Content → Candidate
located g c = record {
  number = c.number;
  base = c.base;
  birth = c.birth;
  offset = g.address - PAGE_UNITS * c.base;
  address = g.address;
  size = g.size;
}
