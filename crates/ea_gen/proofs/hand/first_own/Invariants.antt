use Rattle.std.proofs.Common.{◌≤◌}
use Rattle.std.specs.List.{position_or_len}
use Rattle.ea_gen.specs.Places.{has_within}
use Rattle.ea_gen.proofs.hand.first_own.Given as goal

abbrev pub invariant-loop-place : goal.invariant-loop-place
invariant-loop-place l = l.place ≤ position_or_len (has_within l.low l.high) l.places
