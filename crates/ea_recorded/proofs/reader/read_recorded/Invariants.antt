use Rattle.std.proofs.Common.{◌≡◌, ◌+◌, ◌≤◌, Some, length}
use Rattle.std.specs.Prelude.{IfSome}
use Rattle.std.specs.Option.{option_map_or}
use Rattle.ea_frame.specs.Lines.{rest_lines}
use Rattle.ea_recorded.specs.Language.{recorded}
use Rattle.ea_recorded.specs.Reading.{Reads, early_left, early_refusal_in}
use Rattle.ea_recorded.proofs.reader.read_recorded.Given as goal

abbrev pub invariant-loop-rest : goal.invariant-loop-rest
invariant-loop-rest l = record {
  reads : Reads l.schedulers (recorded l.fn.bytes l.schedulers) l.reading.number
      (rest_lines l.rest) l.reading;
  fewer : option_map_or (λ r. l.reading.number + length r.now + 1) l.rest l.reading.number
      ≤ length l.fn.bytes + 2;
  early : IfSome (early_refusal_in l.fn.bytes l.schedulers)
      (λ f. early_left l.reading (rest_lines l.rest) ≡ Some f);
}

abbrev pub decreases-loop-rest : goal.decreases-loop-rest
decreases-loop-rest l = option_map_or (λ r. length r.now + 1) l.rest 0
