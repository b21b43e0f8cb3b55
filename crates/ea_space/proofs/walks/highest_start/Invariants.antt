use Rattle.std.proofs.Common.{◌≡◌, ◌≤◌}
use Rattle.ea_model.specs.Region.{highest_end, runs, Laid}
use Rattle.ea_space.proofs.walks.highest_start.Given as goal

abbrev pub invariant-loop-segment : goal.invariant-loop-segment
invariant-loop-segment l = record {
  laid : Laid l.first l.upto l.segment-iterator.iter.rest.now;
  before : l.upto ≤ l.end;
  rest : highest_end l.pages (runs l.first l.upto l.segment-iterator.iter.rest.now)
      ≡ highest_end l.pages (runs l.first l.end l.taken);
}
