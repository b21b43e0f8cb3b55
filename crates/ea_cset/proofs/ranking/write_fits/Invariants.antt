use Rattle.std.proofs.Common.{◌≡◌, length}
use Rattle.ea_cset.specs.Ranks.{IsWritten}
use Rattle.ea_cset.proofs.ranking.write_fits.Given as goal

-- the places before this one are written too
abbrev pub invariant-loop-place : goal.invariant-loop-place
invariant-loop-place l = record {
  long : length l.tree ≡ length l.initial.tree;
  written : IsWritten l.place l.to l.ranks l.tree;
}
