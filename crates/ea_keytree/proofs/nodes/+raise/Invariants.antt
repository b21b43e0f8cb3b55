use Rattle.ea_keytree.proofs.nodes.+raise.Given as goal

abbrev pub decreases-raise : goal.decreases-raise
decreases-raise l = l.width
