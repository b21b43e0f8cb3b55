-- Each strategy orders the candidates strictly.
use Rattle.std.proofs.Common.{Bool}
use Rattle.std.specs.Prelude.{nat_lt}
use Rattle.std.specs.Cmp.{IsStrictWeakOrder}
use Rattle.ea_model.specs.declared.carriers.Candidate.{Candidate}
use Rattle.ea_model.specs.declared.settings.Strategy.{Strategy}
use Rattle.ea_model.specs.declared.settings.Strategy.TheVariants.{Bf, Aobf, Aoff, AoffCbf}
use Rattle.ea_model.specs.declared.settings.Strategy.TheVariants.{AoffCaobf, AgeffCaoff, AgeffCbf}
use Rattle.ea_model.specs.declared.settings.Strategy.TheVariants.{AgeffCaobf, Gf, Af}
use Rattle.ea_model.specs.Choice.{less}
use Rattle.ea_model.proofs.Orders.{rising-order, falling-order, less-order}
use Rattle.ea_model.specs.Strategies.{takes_first, lower, older, smaller_high, smaller_low}

pub lower-order : IsStrictWeakOrder lower
lower-order = rising-order (λ (x : Candidate). x.address)

smaller_high-order : IsStrictWeakOrder smaller_high
smaller_high-order = less-order (λ x. x.size) (λ a b. nat_lt b.address a.address)
    (falling-order (λ (x : Candidate). x.address))

smaller_low-order : IsStrictWeakOrder smaller_low
smaller_low-order = less-order (λ x. x.size) lower lower-order

by_base : (t : Candidate → Candidate → Bool) → IsStrictWeakOrder t
    → IsStrictWeakOrder (λ a b. less a.base b.base (t a b))
by_base t o = less-order (λ x. x.base) t o

by_age : (t : Candidate → Candidate → Bool) → IsStrictWeakOrder t
    → IsStrictWeakOrder (λ a b. older a b (t a b))
by_age t o = less-order (λ x. x.birth) (λ a b. less a.number b.number (t a b))
    (less-order (λ x. x.number) t o)

pub takes_first-order : (s : Strategy) → IsStrictWeakOrder (takes_first s)
takes_first-order Bf = smaller_high-order
takes_first-order Aobf = smaller_low-order
takes_first-order Aoff = lower-order
takes_first-order AoffCbf = by_base smaller_high smaller_high-order
takes_first-order AoffCaobf = by_base smaller_low smaller_low-order
takes_first-order AgeffCaoff = by_age lower lower-order
takes_first-order AgeffCbf = by_age smaller_high smaller_high-order
takes_first-order AgeffCaobf = by_age smaller_low smaller_low-order
takes_first-order Gf = smaller_low-order
takes_first-order Af = lower-order
