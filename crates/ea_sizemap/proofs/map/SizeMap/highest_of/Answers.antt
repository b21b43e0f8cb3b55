use Rattle.std.proofs.Common.{arith, ap, refl, ◌+◌, ◌-◌, sym, subst}
use Rattle.ea_sizemap.specs.Held.{IsHighestOf}
use Rattle.ea_sizemap.proofs.Keying.{floor_fits, says}
use Rattle.ea_sizemap.proofs.Choosing.{highest_is, highest_some}
use Rattle.ea_sizemap.proofs.map.SizeMap.highest_of.Goals as goal

pub key-requires : goal.key-requires
key-requires c =
    omega
    (arith, floor_fits c.self.inside.span c.args.size c.self.invariant.few (omega arith))

pub overflow_add-key : goal.overflow_add-key
overflow_add-key c =
    omega (
      arith,
      floor_fits c.self.inside.span c.args.size c.self.invariant.few (omega arith),
      c.key.ensures,
    )

pub unreachable-requires : goal.unreachable-requires
unreachable-requires c =
    highest_some _ _ _ _ _ _ _ _ c.self.invariant c.self.view_is c.requires.some
    (ap (λ x. x + (c.self.inside.span - 1)) c.key.ensures) c.requires.held
    (c.in-None.ensures.none.0 refl)

pub held_by-requires-clause-some : goal.held_by-requires-clause-some
held_by-requires-clause-some c =
    omega
    (arith, (says _ _ _ _ _ c.self.invariant _ _ c.in-Some.ensures.found.held).within)

pub held_by-requires-clause-few : goal.held_by-requires-clause-few
held_by-requires-clause-few c = c.self.invariant.few

pub held_by-requires-clause-small : goal.held_by-requires-clause-small
held_by-requires-clause-small c =
    omega (
      arith,
      (says _ _ _ _ _ c.self.invariant _ _ c.in-Some.ensures.found.held).may,
      c.self.invariant.small,
    )

pub returns : goal.returns
returns c =
    subst (IsHighestOf c.args.size c.args.self.now.held) (sym c.held_by.ensures.position)
    (highest_is _ _ _ _ _ _ _ _ _ c.self.invariant c.self.view_is c.requires.some
    (ap (λ x. x + (c.self.inside.span - 1)) c.key.ensures) c.requires.held
    c.in-Some.ensures.found)
