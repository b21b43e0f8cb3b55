use Rattle.ea_postree.proofs.Levels.{first_found}
use Rattle.ea_postree.proofs.paths.first_leaf.Goals as goal

pub returns : goal.returns
returns c =
    first_found c.args.value c.args.leaves c.args.maxima.now c.loop-node.node c.requires.tree
    c.loop-node.invariant c.loop-node-test.false
