use Rattle.std.proofs.Common.{◌≡◌, drop}
use Rattle.ea_model.specs.Keyed.{item_at}
use Rattle.ea_model.proofs.keyed.item_of.Given as goal

abbrev pub invariant-loop-item : goal.invariant-loop-item
invariant-loop-item g l = item_at g.T.Keyed.key_of (drop l.item-index l.items) l.key ≡ item_at
    g.T.Keyed.key_of l.items l.key
