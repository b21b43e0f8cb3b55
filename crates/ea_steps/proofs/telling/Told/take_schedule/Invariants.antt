use Rattle.std.specs.Prelude.{flat_map, replicate, take}
use Rattle.ea_given.specs.Runs.{HasTaken}
use Rattle.ea_steps.specs.Told.{CountsAll, TellsMore}
use Rattle.ea_steps.proofs.telling.Told.take_schedule.Given as goal

abbrev pub invariant-loop-turns : goal.invariant-loop-turns
invariant-loop-turns l =
    HasTaken (flat_map (λ t. replicate t.count t.scheduler) (take l.turns-index l.schedule))
    l.initial.run l.run
    × TellsMore (flat_map (λ t. replicate t.count t.scheduler) (take l.turns-index l.schedule))
    l.initial.run l.initial.self l.self
    × CountsAll l.self l.run
