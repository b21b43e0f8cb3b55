use Rattle.std.proofs.Common.{◌≡◌, ◌+◌, drop}
use Rattle.std.specs.List.{position_or_len}
use Rattle.ea_model.specs.Keyed.{has_key}
use Rattle.ea_search.proofs.Struck.{itself}
use Rattle.ea_search.proofs.lists.place_of.Given as goal

abbrev pub invariant-loop-place : goal.invariant-loop-place
invariant-loop-place l =
    l.place + position_or_len (has_key itself l.number) (drop l.place l.numbers)
    ≡ position_or_len (has_key itself l.number) l.numbers
