use Rattle.std.proofs.Common.{◌≡◌, ◌≤◌, length}
use Rattle.ea_model.specs.Words.{words}
use Rattle.ea_model.proofs.words.first_word.Given as goal

abbrev pub invariant-loop-rest : goal.invariant-loop-rest
invariant-loop-rest l = record {
  rest : words l.rest ≡ words l.fn.line;
  shorter : length l.rest ≤ length l.fn.line;
}

abbrev pub decreases-loop-rest : goal.decreases-loop-rest
decreases-loop-rest l = length l.rest
