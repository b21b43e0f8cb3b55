use Rattle.std.proofs.Common.{◌≤◌, is_some}
use Rattle.std.specs.List.{position_or_len}
use Rattle.ea_gen.proofs.hand.first_name.Given as goal

abbrev pub invariant-loop-place : goal.invariant-loop-place
invariant-loop-place l = l.place ≤ position_or_len is_some l.places
