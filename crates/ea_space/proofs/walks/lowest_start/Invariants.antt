use Rattle.std.proofs.Common.{◌≡◌, drop}
use Rattle.ea_model.specs.Region.{runs, lowest_run, Laid}
use Rattle.ea_space.proofs.walks.lowest_start.Given as goal

abbrev pub invariant-loop-segment : goal.invariant-loop-segment
invariant-loop-segment l = record {
  laid : Laid l.at l.end (drop l.segment-index l.taken);
  rest : lowest_run l.pages (runs l.at l.end (drop l.segment-index l.taken)) ≡ lowest_run l.pages
      (runs l.first l.end l.taken);
}
