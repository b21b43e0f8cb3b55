use Rattle.std.proofs.Common.{◌≡◌, ◌+◌, ◌≤◌, length}
use Rattle.std.specs.Option.{option_map_or}
use Rattle.ea_trace.specs.Language.{lines_of}
use Rattle.ea_frame.specs.Lines.{rest_lines}
use Rattle.ea_types.specs.Language.{before_first, from_first}
use Rattle.ea_types.proofs.reader.first_unskipped.Given as goal

abbrev pub invariant-loop-rest : goal.invariant-loop-rest
invariant-loop-rest l = record {
  lines : from_first (rest_lines l.rest) ≡ from_first (lines_of l.fn.bytes);
  before : length (before_first (rest_lines l.rest)) + l.number
      ≡ length (before_first (lines_of l.fn.bytes));
  fewer : option_map_or (λ r. l.number + length r.now) l.rest 0 ≤ length l.fn.bytes;
}

abbrev pub decreases-loop-rest : goal.decreases-loop-rest
decreases-loop-rest l = option_map_or (λ r. length r.now + 1) l.rest 0
