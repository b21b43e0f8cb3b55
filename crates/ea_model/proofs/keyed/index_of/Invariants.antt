use Rattle.std.proofs.Common.{◌≡◌, ◌+◌, drop}
use Rattle.std.specs.List.{position_or_len}
use Rattle.ea_model.specs.Keyed.{has_key, item_at}
use Rattle.ea_model.proofs.keyed.index_of.Given as goal

abbrev pub invariant-loop-index : goal.invariant-loop-index
invariant-loop-index g l =
    let key_of = g.T.Keyed.key_of in
    record {
      left : item_at key_of (drop l.index l.items) l.key ≡ item_at key_of l.items l.key;
      index : l.index + position_or_len (has_key key_of l.key)
          (drop l.index l.items) ≡ position_or_len (has_key key_of l.key) l.items;
    }
