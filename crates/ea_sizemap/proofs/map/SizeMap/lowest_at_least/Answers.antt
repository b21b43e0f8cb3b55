use Rattle.std.proofs.Common.{arith, refl, ◌<◌, sym, subst}
use Rattle.ea_sizemap.specs.Held.{IsLeastAtLeast, IsLowestOf}
use Rattle.std.proofs.lemmas.List.Elements.{All-contains}
use Rattle.ea_sizemap.proofs.Keying.{floor_fits, says}
use Rattle.ea_sizemap.proofs.Choosing.{least_is, least_none}
use Rattle.ea_sizemap.proofs.map.SizeMap.lowest_at_least.Goals as goal

pub key-requires : goal.key-requires
key-requires c =
    omega
    (arith, floor_fits c.self.inside.span c.args.size c.self.invariant.few (omega arith))

pub held_by-requires-clause-some : goal.held_by-requires-clause-some
held_by-requires-clause-some c =
    omega
    (arith, (says _ _ _ _ _ c.self.invariant _ _ c.in-Some.ensures.found.held).within)

pub held_by-requires-clause-few : goal.held_by-requires-clause-few
held_by-requires-clause-few c = c.self.invariant.few

pub held_by-requires-clause-small : goal.held_by-requires-clause-small
held_by-requires-clause-small c =
    omega (
      arith,
      (says _ _ _ _ _ c.self.invariant _ _ c.in-Some.ensures.found.held).may,
      c.self.invariant.small,
    )

pub returns-in-Some-clause-found : goal.returns-in-Some-clause-found
returns-in-Some-clause-found c =
    subst (IsLeastAtLeast c.args.size c.args.self.now.held) (sym c.held_by.ensures.size)
    (least_is _ _ _ _ _ _ _ _ _ c.self.invariant c.self.view_is c.requires c.key.ensures
    c.in-Some.ensures.found).0

pub returns-in-Some-clause-lowest : goal.returns-in-Some-clause-lowest
returns-in-Some-clause-lowest c =
    subst (λ n. IsLowestOf n c.args.self.now.held c.held_by.result.position)
    (sym c.held_by.ensures.size)
    (subst (IsLowestOf _ c.args.self.now.held) (sym c.held_by.ensures.position)
    (least_is _ _ _ _ _ _ _ _ _ c.self.invariant c.self.view_is c.requires c.key.ensures
    c.in-Some.ensures.found).1)

pub returns-in-Some-clause-none : goal.returns-in-Some-clause-none
returns-in-Some-clause-none c = (
  λ e. cc,
  λ a.
      let w = (least_is _ _ _ _ _ _ _ _ _ c.self.invariant c.self.view_is c.requires c.key.ensures
      c.in-Some.ensures.found).0 in
      absurd
      (omega (arith, w.great, All-contains (λ s. s < c.args.size) c.args.self.now.held _ a w.held)),
)

pub returns-in-None-clause-none : goal.returns-in-None-clause-none
returns-in-None-clause-none c = (
  λ _. least_none _ _ _ _ _ _ _ _ c.self.invariant c.self.view_is c.requires c.key.ensures
      (c.in-None.ensures.none.0 refl),
  λ _. refl,
)
