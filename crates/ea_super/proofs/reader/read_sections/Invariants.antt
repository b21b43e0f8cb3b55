use Rattle.std.proofs.Common.{◌≡◌, ◌+◌, ◌≤◌, length}
use Rattle.std.specs.Option.{option_map_or}
use Rattle.ea_super.specs.Knows.{Knows}
use Rattle.ea_super.specs.Language.{Earlier, requests_in}
use Rattle.ea_super.specs.Reading.{early_refusal_in}
use Rattle.ea_super.proofs.Reading.{IsLeft, read_rest}
use Rattle.ea_super.proofs.reader.read_sections.Given as goal

abbrev pub invariant-loop-rest : goal.invariant-loop-rest
invariant-loop-rest l = record {
  taken : (earlier : Earlier) × Knows l.schedulers earlier l.seen × (length earlier ≡ l.number)
      × (read_rest l.schedulers earlier l.rest ≡ requests_in l.bytes l.schedulers)
      × IsLeft l.schedulers earlier l.rest (early_refusal_in l.bytes l.schedulers);
  fewer : option_map_or (λ r. l.number + length r.now) l.rest 0 ≤ length l.bytes;
}

abbrev pub decreases-loop-rest : goal.decreases-loop-rest
decreases-loop-rest l = option_map_or (λ r. length r.now + 1) l.rest 0
