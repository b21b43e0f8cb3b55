use Rattle.std.proofs.Common.{◌≡◌, drop}
use Rattle.ea_model.specs.Region.{Laid, lowest_run, runs}
use Rattle.ea_segments.specs.Histories.{segments}
use Rattle.ea_segments.proofs.held.lowest_start.Given as goal

abbrev pub invariant-loop-segment : goal.invariant-loop-segment
invariant-loop-segment l = record {
  laid : Laid l.at l.end (segments (drop l.segment-index l.held));
  rest : lowest_run l.pages (runs l.at l.end (segments (drop l.segment-index l.held)))
      ≡ lowest_run l.pages (runs 0 l.end (segments l.held));
}
