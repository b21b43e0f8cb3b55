use Rattle.std.proofs.Common.{arith, refl, sym, subst, ◌≤◌, All, Contains}
use Rattle.ea_sizemap.proofs.Keying.{width_fits, says}
use Rattle.ea_sizemap.proofs.Choosing.{greatest_is, greatest_none}
use Rattle.ea_sizemap.proofs.map.SizeMap.greatest.Goals as goal

pub held_by-requires-clause-some : goal.held_by-requires-clause-some
held_by-requires-clause-some c =
    omega
    (arith, (says _ _ _ _ _ c.self.invariant _ _ c.in-Some.ensures.found.held).within)

pub held_by-requires-clause-few : goal.held_by-requires-clause-few
held_by-requires-clause-few c = c.self.invariant.few

pub held_by-requires-clause-small : goal.held_by-requires-clause-small
held_by-requires-clause-small c =
    omega (
      arith,
      (says _ _ _ _ _ c.self.invariant _ _ c.in-Some.ensures.found.held).may,
      c.self.invariant.small,
    )

pub returns-in-Some-clause-bound : goal.returns-in-Some-clause-bound
returns-in-Some-clause-bound c =
    subst (λ n. All (λ t. t ≤ n) c.args.self.now.held) (sym c.held_by.ensures.size)
    (greatest_is _ _ _ _ _ _ _ _ c.self.invariant c.self.view_is
    (width_fits _ _ c.self.invariant.small c.self.invariant.few) c.in-Some.ensures.found).0

pub returns-in-Some-clause-met : goal.returns-in-Some-clause-met
returns-in-Some-clause-met c = λ _.
    subst (Contains c.args.self.now.held) (sym c.held_by.ensures.size)
    (greatest_is _ _ _ _ _ _ _ _ c.self.invariant c.self.view_is
    (width_fits _ _ c.self.invariant.small c.self.invariant.few) c.in-Some.ensures.found).1

pub returns-in-None-clause-bound : goal.returns-in-None-clause-bound
returns-in-None-clause-bound c =
    greatest_none _ _ _ _ _ _ _ c.self.invariant c.self.view_is
    (width_fits _ _ c.self.invariant.small c.self.invariant.few)
    (c.in-None.ensures.none.0 refl)
