use Rattle.std.proofs.Common.{◌≡◌, ◌+◌, ◌≤◌, ◌++◌, [], length}
use Rattle.std.specs.Option.{option_map_or}
use Rattle.ea_trace.specs.Language.{WordLines, lines_of}
use Rattle.ea_trace.specs.Taken.{HasTaken, lines_taken}
use Rattle.ea_trace.proofs.reader.read_trace.Given as goal

abbrev pub invariant-loop-rest : goal.invariant-loop-rest
invariant-loop-rest l = record {
  taken : (before : WordLines) × HasTaken l.schedulers before l.reader
      × (before ++ option_map_or (λ r. lines_of r.now) l.rest [] ≡ lines_of l.fn.bytes);
  fewer : option_map_or (λ r. lines_taken l.reader + length r.now) l.rest 0 ≤ length l.fn.bytes;
}

abbrev pub decreases-loop-rest : goal.decreases-loop-rest
decreases-loop-rest l = option_map_or (λ r. length r.now + 1) l.rest 0
