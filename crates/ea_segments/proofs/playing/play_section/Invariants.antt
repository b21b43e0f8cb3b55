use Rattle.std.proofs.Common.{◌≡◌, ◌+◌, ◌++◌, length, map, take}
use Rattle.ea_segments.specs.Requests.{asked}
use Rattle.ea_segments.specs.Seating.{known}
use Rattle.ea_segments.proofs.playing.play_section.Given as goal

abbrev pub invariant-loop-request : goal.invariant-loop-request
invariant-loop-request g l = record {
  table : l.pass.seat.table_id ≡ l.fn.pass.seat.table_id;
  number : (known l.pass).number ≡ (known l.fn.pass).number;
  left : (known l.pass).left + l.request-index ≡ length l.requests;
  mine : map asked (known l.pass).mine
      ≡ map asked (known l.fn.pass).mine ++ take l.request-index l.requests;
}
