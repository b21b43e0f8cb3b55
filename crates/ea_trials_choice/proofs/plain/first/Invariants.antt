use Rattle.std.proofs.Common.{◌≡◌, drop, fold}
use Rattle.ea_model.specs.Choice.{better, first}
use Rattle.ea_model.specs.Strategies.{takes_first}
use Rattle.ea_trials_choice.proofs.plain.first.Given as goal

abbrev pub invariant-loop-gap : goal.invariant-loop-gap
invariant-loop-gap l =
    fold (better (takes_first l.strategy)) l.best (drop l.gap-index l.gaps)
    ≡ first (takes_first l.strategy) l.gaps
