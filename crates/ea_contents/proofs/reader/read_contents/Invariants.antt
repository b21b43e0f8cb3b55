use Rattle.std.proofs.Common.{◌+◌, ◌≤◌, length}
use Rattle.std.specs.Option.{option_map_or}
use Rattle.ea_trace.specs.Language.{lines_of}
use Rattle.ea_trace.specs.Taken.{lines_taken}
use Rattle.ea_frame.specs.Lines.{rest_lines}
use Rattle.ea_contents.specs.Reading.{Reads}
use Rattle.ea_contents.proofs.reader.read_contents.Given as goal

abbrev pub invariant-loop-rest : goal.invariant-loop-rest
invariant-loop-rest l = record {
  reads : Reads l.schedulers (lines_of l.fn.bytes) (rest_lines l.rest) l.trace l.accesses;
  fewer : option_map_or (λ r. lines_taken l.trace + length r.now) l.rest 0 ≤ length l.fn.bytes;
}

abbrev pub decreases-loop-rest : goal.decreases-loop-rest
decreases-loop-rest l = option_map_or (λ r. length r.now + 1) l.rest 0
