-- Which of the gaps of two carriers is taken first.
use Rattle.std.proofs.Common.{◌≡◌, ◌≢◌, ℕ, ◌+◌, ◌*◌, ◌<◌, ◌≤◌, Bool, List, AllPairs, inl, inr}
use Rattle.std.proofs.Common.{sym, ◌∙◌, arith}
use Rattle.std.specs.Prelude.{nat_lt}
use Rattle.std.proofs.lemmas.Bool.{le-ltb, lt-ltb}
use Rattle.ea_model.specs.declared.settings.Strategy.{Strategy}
use Rattle.ea_model.specs.declared.settings.Strategy.TheVariants.{Bf, Aobf, Aoff, AoffCbf}
use Rattle.ea_model.specs.declared.settings.Strategy.TheVariants.{AoffCaobf, AgeffCaoff}
use Rattle.ea_model.specs.declared.settings.Strategy.TheVariants.{AgeffCbf, AgeffCaobf, Gf, Af}
use Rattle.ea_model.specs.declared.carriers.Candidate.{Candidate}
use Rattle.ea_model.specs.Content.{Content}
use Rattle.ea_model.specs.Choice.{less}
use Rattle.ea_model.specs.Keyed.{IsBelow}
use Rattle.ea_model.specs.Strategies.{takes_first}
use Rattle.ea_model.specs.Strategies as strategies
use Rattle.ea_cset.specs.declared.keys.CarrierFit.{CarrierFit}
use Rattle.ea_cset.specs.Carriers.{comes_first, lower, older}
use Rattle.ea_laws.specs.Kept.{ContentsApart, number_of}
use Rattle.ea_employed.specs.Laid.{AreLaid}
use Rattle.ea_employed.specs.Listed.{held_of}
use Rattle.ea_employed.specs.declared.strategies.Search.TheVariants.{First}
use Rattle.ea_employed.specs.Searches.{order_among, search_of}

-- the gap is one of the carrier, and begins in it
pub record IsOf (x : Candidate) (c : Content) : Type 0 where
  pub number : x.number ≡ c.number
  pub base : x.base ≡ c.base
  pub birth : x.birth ≡ c.birth
  pub low : 512 * c.base ≤ x.address
  pub high : x.address < 512 * c.base + c.units

-- c has the lower number, and the two have no unit in common
abbrev pub Precedes : Content → Content → Type 0
Precedes c d = IsBelow number_of c d × ContentsApart c d

pub laid-Precedes : (cs : List Content) → AreLaid cs → AllPairs Precedes cs
laid-Precedes cs laid = λ i j d lt within. (laid.rising i j d lt within, laid.apart i j d lt within)

-- of the gaps of two carriers the strategy takes first that of the carrier that comes first
abbrev pub GoesBy : Strategy → (CarrierFit → CarrierFit → Bool) → Type 0
GoesBy s comes_first = (x y : Candidate) (c d : Content) → IsOf x c → IsOf y d → Precedes c d
    → takes_first s y x ≡ comes_first (held_of d) (held_of c)

-- the lower of two gaps is that of the lower carrier, since the carriers have no unit in common
aoff-GoesBy : GoesBy Aoff lower
aoff-GoesBy x y c d i j p =
    elim p.1 [
      | inl le ↦ le-ltb y.address x.address (omega (arith, le, i.high, j.low))
          ∙ sym (le-ltb d.base c.base (omega (arith, le)))
      | inr le ↦ lt-ltb y.address x.address (omega (arith, le, i.low, j.high))
          ∙ sym (lt-ltb d.base c.base (omega (arith, le, j.low, j.high)))
    ]

-- and so it is under address fit
pub af-GoesBy : GoesBy Af lower
af-GoesBy = aoff-GoesBy

other_base : (x y : Candidate) (c d : Content) → IsOf x c → IsOf y d → ContentsApart c d
    → c.base ≢ d.base
other_base x y c d i j apart =
    elim apart [
      | inl le ↦ λ e. omega (arith, le, e, i.low, i.high)
      | inr le ↦ λ e. omega (arith, le, e, j.low, j.high)
    ]

by_base : (p q r s : ℕ) (rest : Bool) → p ≡ r → q ≡ s → r ≢ s → less q p rest ≡ nat_lt s r
by_base p q r s rest e f o = grind arith

aoffcbf-GoesBy : GoesBy AoffCbf lower
aoffcbf-GoesBy x y c d i j p = by_base x.base y.base c.base d.base _ i.base j.base
    (other_base x y c d i j p.1)

aoffcaobf-GoesBy : GoesBy AoffCaobf lower
aoffcaobf-GoesBy x y c d i j p = by_base x.base y.base c.base d.base _ i.base j.base
    (other_base x y c d i j p.1)

by_age : (x y : Candidate) (c d : Content) (rest : Bool) → IsOf x c → IsOf y d
    → c.number < d.number → strategies.older y x rest ≡ older (held_of d) (held_of c)
by_age x y c d rest i j o = let xn = i.number in let xb = i.birth in let yn = j.number in let yb =
    j.birth in grind arith

-- so it goes by the order in which it searches the carriers
pub first-GoesBy : (s : Strategy) → search_of s ≡ First → GoesBy s (comes_first (order_among s))
first-GoesBy Aoff e = aoff-GoesBy
first-GoesBy AoffCbf e = aoffcbf-GoesBy
first-GoesBy AoffCaobf e = aoffcaobf-GoesBy
first-GoesBy AgeffCaoff e = λ x y c d i j p. by_age x y c d _ i j p.0
first-GoesBy AgeffCbf e = λ x y c d i j p. by_age x y c d _ i j p.0
first-GoesBy AgeffCaobf e = λ x y c d i j p. by_age x y c d _ i j p.0
first-GoesBy Bf e = absurd cc
first-GoesBy Aobf e = absurd cc
first-GoesBy Gf e = absurd cc
first-GoesBy Af e = absurd cc
