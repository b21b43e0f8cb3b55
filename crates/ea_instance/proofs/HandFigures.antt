-- How many blocks so few carriers have, and the figures of carriers with one more.
use Rattle.std.proofs.Common.{◌≡◌, ℕ, ◌+◌, ◌*◌, ◌≤◌, List, [], ◌∷◌, length, ap, ◌∙◌, arith}
use Rattle.std.specs.Prelude.{All, sum_by}
use Rattle.std.proofs.lemmas.List.Elements.{All-head, All-tail, All-weaker}
use Rattle.std.proofs.lemmas.List.Sums.{sum_by-cons}
use Rattle.ea_model.specs.declared.carriers.BlockAt.{BlockAt}
use Rattle.ea_model.specs.declared.carriers.Figures.{Figures}
use Rattle.ea_model.specs.declared.units.TheConstants.{MAX_UNITS}
use Rattle.ea_model.specs.Content.{Content, allocated}
use Rattle.ea_model.specs.Instance.{figures}
use Rattle.ea_laws.specs.Kept.{HasOneBlock, IsLaidOut, IsLaidOutAlone}
use Rattle.ea_laws.proofs.Tiling.{Tiled-length}

abbrev HasFew : Content → Type 0
HasFew c = length c.blocks ≤ MAX_UNITS

laid-few : (c : Content) → IsLaidOut c → HasFew c
laid-few c laid = omega (arith, Tiled-length 8 c.units c.blocks laid.tiled, laid.low)

blocks-most : (cs : List Content) → All HasFew cs
    → sum_by (λ c. length c.blocks) cs ≤ MAX_UNITS * length cs
blocks-most [] few = omega arith
blocks-most (c ∷ cs) few = omega (
  arith,
  sum_by-cons (λ (x : Content). length x.blocks) c cs,
  All-head HasFew c cs few,
  blocks-most cs (All-tail HasFew c cs few),
)

one-block : (units : ℕ) (bs : List BlockAt) → HasOneBlock units bs → length bs ≤ 1
one-block units [] h = omega arith
one-block units (b ∷ []) h = omega arith
one-block units (b ∷ d ∷ bs) h = absurd h

pub many-blocks : (cs : List Content) → All IsLaidOut cs
    → sum_by (λ c. length c.blocks) cs ≤ MAX_UNITS * length cs
many-blocks cs laid = blocks-most cs
    (All-weaker IsLaidOut HasFew laid-few cs laid)

pub alone-blocks : (cs : List Content) → All IsLaidOutAlone cs
    → sum_by (λ c. length c.blocks) cs ≤ MAX_UNITS * length cs
alone-blocks cs laid = blocks-most cs
    (All-weaker IsLaidOutAlone HasFew
    (λ c here. omega (arith, one-block c.units c.blocks here.block)) cs laid)

same-figures : (f g : Figures) → f.blocks ≡ g.blocks → f.blocks_size ≡ g.blocks_size
    → f.carriers ≡ g.carriers → f.carriers_size ≡ g.carriers_size → f ≡ g
same-figures f g p q r s =
    ap (λ n. record f { blocks = n }) p
    ∙ ap (λ n. record f { blocks = g.blocks; blocks_size = n }) q
    ∙ ap (λ n. record g { carriers = n; carriers_size = f.carriers_size }) r
    ∙ ap (λ n. record g { carriers_size = n }) s

-- a carrier is counted with the others
pub figures-with_one : (x : Content) (cs : List Content) (f g : Figures) → f ≡ figures cs
    → g.blocks ≡ f.blocks + length x.blocks → g.blocks_size ≡ f.blocks_size + allocated x.blocks
    → g.carriers ≡ f.carriers + 1 → g.carriers_size ≡ f.carriers_size + x.units
    → g ≡ figures (x ∷ cs)
figures-with_one x cs f g is p q r s = same-figures g (figures (x ∷ cs))
    (omega (
      arith,
      p,
      ap (λ (h : Figures). h.blocks) is,
      sum_by-cons (λ (c : Content). length c.blocks) x cs,
    ))
    (omega (
      arith,
      q,
      ap (λ (h : Figures). h.blocks_size) is,
      sum_by-cons (λ (c : Content). allocated c.blocks) x cs,
    ))
    (omega (arith, r, ap (λ (h : Figures). h.carriers) is))
    (omega (
      arith,
      s,
      ap (λ (h : Figures). h.carriers_size) is,
      sum_by-cons (λ (c : Content). c.units) x cs,
    ))
