use Rattle.std.proofs.Common.{ap, ◌∙◌}
use Rattle.ea_keytree.specs.Trees.{held_in}
use Rattle.ea_keytree.proofs.Holding.{held-free}
use Rattle.ea_keytree.proofs.tree.KeyTree.with_positions.Goals as goal

pub returns-clause-keys : goal.returns-clause-keys
returns-clause-keys c =
    ap held_in (c.in_ok-vec.ensures.items_if_clones_equal (λ y e. e))
    ∙ held-free c.args.positions
