-- The choice of address fit.
use Rattle.std.proofs.Common.{◌≡◌, ℕ, ◌<◌, ◌≤◌, List, [], ap, ◌∙◌}
use Rattle.std.proofs.Common.{arith}
use Rattle.std.specs.Prelude.{Option, Some, None}
use Rattle.std.specs.Option.{option_and_then}
use Rattle.ea_model.specs.declared.settings.Strategy.{Strategy}
use Rattle.ea_model.specs.declared.settings.Strategy.TheVariants.{Af}
use Rattle.ea_model.specs.declared.carriers.Candidate.{Candidate}
use Rattle.ea_model.specs.Content.{Content}
use Rattle.ea_model.specs.Choice.{first}
use Rattle.ea_model.specs.Strategies.{candidates, choice_among, large_enough}
use Rattle.ea_model.specs.Strategies.{inner_of, lower, only}
use Rattle.ea_model.proofs.First.{large-here, large-past}
use Rattle.ea_cset.specs.Carriers.{comes_first, first_number, Carriers}
use Rattle.ea_cset.specs.Carriers as sets
use Rattle.ea_goodfit.specs.Gaps.{HeldGaps}
use Rattle.ea_employed.specs.Listed.{candidate_in, IsListed}
use Rattle.ea_laws.proofs.Candidates.{large-all}
use Rattle.ea_employed.specs.Laid.{AreLaid}
use Rattle.ea_employed.specs.Searches.{order_among}
use Rattle.ea_employed.proofs.ByCarrier.{choice-first}
use Rattle.ea_employed.proofs.TwoCarriers.{af-GoesBy}

-- the first gap of the lowest carrier that has one is the lowest candidate
pub lowest-found : (t : Strategy) (units : ℕ) (cs now : List Content) (set : Carriers)
    (bins : Option HeldGaps) → IsListed t units cs set bins → cs ≡ now → AreLaid now
    → (s : Strategy) → t ≡ s → s ≡ Af → (number : Option ℕ) (found : Option Candidate)
    → number ≡ first_number (comes_first set.order) 1 set.held
    → found ≡ option_and_then (candidate_in (inner_of s) 1 now) number
    → found ≡ first lower (candidates now)
lowest-found t units cs now set bins listed seen laid s same af number found first_is is =
    choice-first Af sets.lower af-GoesBy 1 (omega arith) t units cs now set bins listed seen laid
    number found (first_is
    ∙ ap (λ o. first_number (comes_first o) 1 set.held) (listed.order ∙ ap order_among (same ∙ af)))
    (is ∙ ap (λ u. option_and_then (candidate_in (inner_of u) 1 now) number) af)
    ∙ ap (first lower) (large-all now laid.sound)

-- address fit chooses it, if it is large enough
pub af-none : (depth need : ℕ) (cs : List Content) → first lower (candidates cs) ≡ None
    → choice_among Af depth need cs ≡ None
af-none depth need cs none = ap (λ o. first lower (large_enough need (only o))) none

pub af-small : (depth need : ℕ) (cs : List Content) (x : Candidate)
    → first lower (candidates cs) ≡ Some x → x.size < need → choice_among Af depth need cs ≡ None
af-small depth need cs x is lt = ap (λ o. first lower (large_enough need (only o))) is
    ∙ ap (first lower) (large-past (λ (y : Candidate). y.size) need x [] lt)

pub af-large : (depth need : ℕ) (cs : List Content) (x : Candidate)
    → first lower (candidates cs) ≡ Some x → need ≤ x.size → choice_among Af depth need cs ≡ Some x
af-large depth need cs x is le = ap (λ o. first lower (large_enough need (only o))) is
    ∙ ap (first lower) (large-here (λ (y : Candidate). y.size) need x [] le)
