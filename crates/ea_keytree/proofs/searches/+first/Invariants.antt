use Rattle.std.proofs.Common.{◌+◌, ◌*◌, min}
use Rattle.ea_keytree.proofs.searches.+first.Given as goal

-- a tree over one key has no tree below it
abbrev pub decreases-first_below : goal.decreases-first_below
decreases-first_below l = 2 * (2 * l.width + min 1 l.link)

abbrev pub decreases-first_from : goal.decreases-first_from
decreases-first_from l = 2 * (2 * l.width + min 1 l.link) + 1
