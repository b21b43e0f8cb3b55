use Rattle.std.proofs.Common.{◌<◌, All, length, drop, refl, ap, subst, arith}
use Rattle.ea_postree.specs.Firsts.{IsFirstAtLeast}
use Rattle.ea_postree.proofs.Views.{values-lt, values-long, root-read, first-values, not-none}
use Rattle.ea_postree.proofs.tree.PosTree.first_at_least.Goals as goal

pub returns-then-index-value-clause-none : goal.returns-then-index-value-clause-none
returns-then-index-value-clause-none c =
    let t = c.self.inside in
    let e = root-read t.leaves t.maxima.items c.index.result.now c.self.invariant.tree
    c.index.ensures in (
      λ _. subst (All (λ v. v < c.args.value)) c.self.view_is
          (values-lt c.args.value t.positions t.leaves t.maxima.items c.self.invariant.tree
          (omega (arith, e, c.if-index-value.true))),
      λ _. refl,
    )

found : (c : goal.After-first_leaf)
    → IsFirstAtLeast c.args.value c.args.self.now c.first_leaf.result
found c =
    let t = c.self.inside in
    subst (λ vs. IsFirstAtLeast c.args.value vs c.first_leaf.result) c.self.view_is
    (first-values c.args.value t.positions t.leaves _ t.maxima.items c.first_leaf.result
    c.self.invariant c.requires
    (subst (λ m. IsFirstAtLeast c.args.value (drop t.leaves m) c.first_leaf.result)
    c.deref.ensures.value c.first_leaf.ensures))

pub overflow_cast-result : goal.overflow_cast-result
overflow_cast-result c =
    let t = c.self.inside in
    omega (
      arith,
      (found c).within,
      ap length c.self.view_is,
      values-long t.positions t.leaves t.maxima.items,
      c.self.invariant.small,
    )

pub returns-clause-none : goal.returns-clause-none
returns-clause-none c = (
  λ e. absurd (cc),
  λ a. absurd (not-none c.args.value c.args.self.now c.first_leaf.result (found c) a),
)
