use Rattle.std.proofs.Common.{◌+◌, ◌*◌, min}
use Rattle.ea_keytree.proofs.searches.+last.Given as goal

-- a tree over one key has no tree below it
abbrev pub decreases-last_below : goal.decreases-last_below
decreases-last_below l = 2 * (2 * l.width + min 1 l.link)

abbrev pub decreases-last_up_to : goal.decreases-last_up_to
decreases-last_up_to l = 2 * (2 * l.width + min 1 l.link) + 1
