use Rattle.std.proofs.Common.{◌≡◌, ◌++◌, drop}
use Rattle.ea_model.specs.Strategies.{large_enough}
use Rattle.ea_trials_choice.proofs.plain.large_enough.Given as goal

abbrev pub invariant-loop-gap : goal.invariant-loop-gap
invariant-loop-gap l =
    l.list.items ++ large_enough l.need (drop l.gap-index l.gaps) ≡ large_enough l.need l.gaps
