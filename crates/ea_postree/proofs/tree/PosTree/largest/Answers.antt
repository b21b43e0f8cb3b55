use Rattle.std.proofs.Common.{◌<◌, ◌≤◌, All, subst}
use Rattle.std.specs.Prelude.{Contains}
use Rattle.ea_postree.specs.Maxima.{values}
use Rattle.ea_postree.proofs.Views.{values-le, values-met, root-read}
use Rattle.ea_postree.proofs.tree.PosTree.largest.Goals as goal

pub returns-clause-bound : goal.returns-clause-bound
returns-clause-bound c =
    let t = c.self.inside in
    subst (All (λ v. v ≤ c.index.result.now)) c.self.view_is
    (subst (λ top. All (λ v. v ≤ top) (values t.positions t.leaves t.maxima.items))
    (root-read t.leaves t.maxima.items c.index.result.now c.self.invariant.tree
    c.index.ensures) (values-le t.positions t.leaves t.maxima.items c.self.invariant.tree))

pub returns-clause-met : goal.returns-clause-met
returns-clause-met c =
    let t = c.self.inside in
    subst (λ vs. 0 < c.index.result.now → Contains vs c.index.result.now) c.self.view_is
    (subst (λ top. 0 < top → Contains (values t.positions t.leaves t.maxima.items) top)
    (root-read t.leaves t.maxima.items c.index.result.now c.self.invariant.tree
    c.index.ensures) (values-met t.positions t.leaves _ t.maxima.items c.self.invariant))
