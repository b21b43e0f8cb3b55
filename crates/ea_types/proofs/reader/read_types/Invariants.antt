use Rattle.std.proofs.Common.{◌+◌, ◌≤◌, length}
use Rattle.std.specs.Option.{option_map_or}
use Rattle.ea_trace.specs.Language.{lines_of}
use Rattle.ea_frame.specs.Lines.{rest_lines}
use Rattle.ea_types.specs.Reading.{Reads, whole_of}
use Rattle.ea_types.proofs.reader.read_types.Given as goal

abbrev pub invariant-loop-rest : goal.invariant-loop-rest
invariant-loop-rest l = record {
  reads : Reads l.config.schedulers l.types
      (whole_of l.types (lines_of l.fn.bytes) l.first.number (rest_lines l.first.rest))
      (l.number + 1) (rest_lines l.rest) l.reading;
  fewer : option_map_or (λ r. l.number + length r.now) l.rest 0 ≤ length l.fn.bytes;
}

abbrev pub decreases-loop-rest : goal.decreases-loop-rest
decreases-loop-rest l = option_map_or (λ r. length r.now + 1) l.rest 0
