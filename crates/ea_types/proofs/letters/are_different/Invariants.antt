use Rattle.std.proofs.Common.{◌≡◌, length}
use Rattle.ea_types.specs.Language.{are_different}
use Rattle.ea_types.proofs.letters.are_different.Given as goal

abbrev pub invariant-loop-rest : goal.invariant-loop-rest
invariant-loop-rest l = are_different l.rest ≡ are_different l.letters

abbrev pub decreases-loop-rest : goal.decreases-loop-rest
decreases-loop-rest l = length l.rest
