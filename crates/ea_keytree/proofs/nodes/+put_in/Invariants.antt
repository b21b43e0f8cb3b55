use Rattle.ea_keytree.proofs.nodes.+put_in.Given as goal

abbrev pub decreases-put_in : goal.decreases-put_in
decreases-put_in l = l.width
