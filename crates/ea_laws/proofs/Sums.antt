-- Blocks, gaps and headers of carriers are all their units, which are bounded.
use Rattle.std.proofs.Common.{◌≡◌, ◌+◌, ◌*◌, ◌≤◌, List, [], ◌∷◌, length, All, arith}
use Rattle.std.specs.Prelude.{sum_by}
use Rattle.std.proofs.lemmas.List.Elements.{All-head, All-tail}
use Rattle.std.proofs.lemmas.List.Sums.{sum_by-cons}
use Rattle.ea_model.specs.declared.units.TheConstants.{MAX_UNITS}
use Rattle.ea_model.specs.Content.{Content, allocated, free_units, gaps_of}
use Rattle.ea_laws.proofs.Extents.{IsOrdered}
use Rattle.ea_laws.proofs.Tiling.{Ordered-allocated, Ordered-free}

pub all-units : (cs : List Content) → All IsOrdered cs
    → sum_by (λ c. allocated c.blocks) cs + sum_by (λ c. free_units (gaps_of c)) cs + 8 * length
    cs ≡ sum_by (λ c. c.units) cs
all-units [] sound = omega arith
all-units (c ∷ cs) sound =
    omega (
      arith,
      sum_by-cons (λ (x : Content). allocated x.blocks) c cs,
      sum_by-cons (λ (x : Content). free_units (gaps_of x)) c cs,
      sum_by-cons (λ (x : Content). x.units) c cs,
      Ordered-free 8 c.units c.blocks (All-head IsOrdered c cs sound),
      all-units cs (All-tail IsOrdered c cs sound),
    )

-- the units of a carrier are no more than the largest super carrier's
abbrev pub IsSmall : Content → Type 0
IsSmall c = c.units ≤ MAX_UNITS

pub units-most : (cs : List Content) → All IsSmall cs
    → sum_by (λ c. c.units) cs ≤ MAX_UNITS * length cs
units-most [] small = omega arith
units-most (c ∷ cs) small =
    omega (
      arith,
      sum_by-cons (λ (x : Content). x.units) c cs,
      All-head IsSmall c cs small,
      units-most cs (All-tail IsSmall c cs small),
    )

pub allocated-most : (cs : List Content) → All IsOrdered cs → All IsSmall cs
    → sum_by (λ c. allocated c.blocks) cs ≤ MAX_UNITS * length cs
allocated-most [] ordered small = omega arith
allocated-most (c ∷ cs) ordered small =
    omega (
      arith,
      sum_by-cons (λ (x : Content). allocated x.blocks) c cs,
      Ordered-allocated 8 c.units c.blocks (All-head IsOrdered c cs ordered),
      All-head IsSmall c cs small,
      allocated-most cs (All-tail IsOrdered c cs ordered) (All-tail IsSmall c cs small),
    )
