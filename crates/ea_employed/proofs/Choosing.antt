-- What is chosen under each strategy.
use Rattle.std.proofs.Common.{◌≡◌, ℕ, true, false, List, sym, ap, ◌∙◌, refl}
use Rattle.std.specs.Prelude.{Option, None, Some, IsNone}
use Rattle.ea_model.specs.declared.settings.Strategy.{Strategy}
use Rattle.ea_model.specs.declared.settings.Strategy.TheVariants.{Bf, Aobf, Aoff, AoffCbf}
use Rattle.ea_model.specs.declared.settings.Strategy.TheVariants.{AoffCaobf, AgeffCaoff}
use Rattle.ea_model.specs.declared.settings.Strategy.TheVariants.{AgeffCbf, AgeffCaobf, Gf, Af}
use Rattle.ea_model.specs.declared.carriers.Candidate.{Candidate}
use Rattle.ea_model.specs.Content.{Content}
use Rattle.ea_model.specs.Choice.{first}
use Rattle.ea_model.specs.Strategies.{candidates, choice_among, large_enough, may_miss, or_else}
use Rattle.ea_model.specs.Strategies.{takes_first}
use Rattle.ea_cset.specs.declared.keys.Order.TheVariants.{Address}
use Rattle.ea_laws.proofs.Inspected.{all_inspected}
use Rattle.ea_employed.specs.Binned.{has_bins}
use Rattle.ea_employed.specs.Choices.{candidate_of}
use Rattle.ea_employed.specs.declared.choice.Choice.{Choice}
use Rattle.ea_employed.specs.Searches.{order_among, search_of}
use Rattle.ea_employed.specs.declared.strategies.Search.TheVariants.{First, Bins, Lowest}

pub first-miss_none : (s : Strategy) → search_of s ≡ First → may_miss s ≡ false
first-miss_none Bf e = absurd cc
first-miss_none Aobf e = absurd cc
first-miss_none Aoff e = refl
first-miss_none AoffCbf e = refl
first-miss_none AoffCaobf e = refl
first-miss_none AgeffCaoff e = refl
first-miss_none AgeffCbf e = refl
first-miss_none AgeffCaobf e = refl
first-miss_none Gf e = absurd cc
first-miss_none Af e = absurd cc

pub bins-Address : (s : Strategy) → has_bins s ≡ true → order_among s ≡ Address
bins-Address Bf e = refl
bins-Address Aobf e = refl
bins-Address Aoff e = refl
bins-Address AoffCbf e = refl
bins-Address AoffCaobf e = refl
bins-Address AgeffCaoff e = absurd cc
bins-Address AgeffCbf e = absurd cc
bins-Address AgeffCaobf e = absurd cc
bins-Address Gf e = refl
bins-Address Af e = refl

pub bins-has_bins : (s : Strategy) → search_of s ≡ Bins → has_bins s ≡ true
bins-has_bins Bf e = refl
bins-has_bins Aobf e = refl
bins-has_bins Aoff e = absurd cc
bins-has_bins AoffCbf e = absurd cc
bins-has_bins AoffCaobf e = absurd cc
bins-has_bins AgeffCaoff e = absurd cc
bins-has_bins AgeffCbf e = absurd cc
bins-has_bins AgeffCaobf e = absurd cc
bins-has_bins Gf e = refl
bins-has_bins Af e = absurd cc

pub lowest-af : (s : Strategy) → search_of s ≡ Lowest → s ≡ Af
lowest-af Bf e = absurd cc
lowest-af Aobf e = absurd cc
lowest-af Aoff e = absurd cc
lowest-af AoffCbf e = absurd cc
lowest-af AoffCaobf e = absurd cc
lowest-af AgeffCaoff e = absurd cc
lowest-af AgeffCbf e = absurd cc
lowest-af AgeffCaobf e = absurd cc
lowest-af Gf e = absurd cc
lowest-af Af e = refl

-- what a strategy that misses none takes first of all gaps is its choice
pub choice-all : (s : Strategy) (depth need : ℕ) (cs : List Content) (found : Option Candidate)
    → may_miss s ≡ false → found ≡ first (takes_first s) (large_enough need (candidates cs))
    → found ≡ choice_among s depth need cs
choice-all s depth need cs found miss is =
    is ∙ ap (λ xs. first (takes_first s) (large_enough need xs))
    (sym (all_inspected s depth (candidates cs) miss))

-- what is there otherwise is asked for where a strategy that may miss a gap found none
pub or_else-missed : (s : Strategy) (found : Option Choice) (other : Option Candidate)
    → IsNone found → may_miss s ≡ true
    → or_else (may_miss s) (candidate_of found) other ≡ other
or_else-missed s None other none miss = ap (λ b. or_else b None other) miss
or_else-missed s (Some x) other none miss = absurd cc
