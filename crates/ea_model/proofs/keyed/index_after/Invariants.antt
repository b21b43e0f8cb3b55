use Rattle.std.proofs.Common.{◌≡◌, ◌+◌, drop}
use Rattle.std.specs.List.{position_or_len}
use Rattle.ea_model.specs.Keyed.{is_after}
use Rattle.ea_model.proofs.keyed.index_after.Given as goal

abbrev pub invariant-loop-index : goal.invariant-loop-index
invariant-loop-index g l =
    let behind = is_after g.T.Keyed.key_of l.key in
    l.index + position_or_len behind (drop l.index l.items) ≡ position_or_len behind l.items
