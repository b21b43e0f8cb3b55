use Rattle.std.proofs.Common.{◌≡◌, false, take}
use Rattle.std.specs.List.{list_any}
use Rattle.ea_trace.specs.Lines.{is_star}
use Rattle.ea_trace.proofs.turns.at_star.Given as goal

abbrev pub invariant-loop-i : goal.invariant-loop-i
invariant-loop-i l = list_any is_star (take l.i l.word) ≡ false
