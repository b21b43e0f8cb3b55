use Rattle.std.specs.Prelude.{flat_map, replicate, take}
use Rattle.ea_given.specs.Running.{AllTook}
use Rattle.ea_given.proofs.run.run_schedule.Given as goal

abbrev pub invariant-loop-turns : goal.invariant-loop-turns
invariant-loop-turns l = AllTook
    (flat_map (λ t. replicate t.count t.scheduler) (take l.turns-index l.schedule))
    l.initial.schedulers l.initial.shared l.schedulers l.shared
