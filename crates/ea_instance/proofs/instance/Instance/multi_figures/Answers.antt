use Rattle.std.proofs.Common.{arith, ap}
use Rattle.ea_model.specs.declared.carriers.Figures.{Figures}
use Rattle.ea_laws.proofs.Standing.{multi-bounded}
use Rattle.ea_laws.proofs.Sums.{allocated-most, units-most}
use Rattle.ea_instance.proofs.Keeping.{kept-few}
use Rattle.ea_instance.proofs.HandFigures.{many-blocks}
use Rattle.ea_instance.proofs.instance.Instance.multi_figures.Goals as goal

pub returns-clause-few : goal.returns-clause-few
returns-clause-few c =
    omega (
      arith,
      kept-few _ _ _ _ _ _ _ c.self.invariant,
      ap (λ (f : Figures). f.carriers) c.figures.ensures,
    )

pub returns-clause-blocks : goal.returns-clause-blocks
returns-clause-blocks c = omega (
  arith,
  kept-few _ _ _ _ _ _ _ c.self.invariant,
  ap (λ (f : Figures). f.blocks) c.figures.ensures,
  many-blocks c.self.inside.carriers.contents c.self.invariant.stands.orderly.laid,
)

pub returns-clause-small : goal.returns-clause-small
returns-clause-small c =
    let both = multi-bounded _ c.self.invariant.stands in
    let few = kept-few _ _ _ _ _ _ _ c.self.invariant in (
      omega (
        arith,
        few,
        ap (λ (f : Figures). f.blocks_size) c.figures.ensures,
        allocated-most c.self.inside.carriers.contents both.0 both.1,
      ),
      omega (
        arith,
        few,
        ap (λ (f : Figures). f.carriers_size) c.figures.ensures,
        units-most c.self.inside.carriers.contents both.1,
      ),
    )
