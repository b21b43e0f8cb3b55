use Rattle.std.proofs.Common.{◌≡◌, ◌+◌, drop}
use Rattle.std.specs.List.{position_or_len}
use Rattle.ea_model.specs.Region.{covers}
use Rattle.ea_space.proofs.walks.index_of.Given as goal

abbrev pub invariant-loop-i : goal.invariant-loop-i
invariant-loop-i l = l.i + position_or_len (covers l.page) (drop l.i l.taken) ≡ position_or_len
    (covers l.page) l.taken
