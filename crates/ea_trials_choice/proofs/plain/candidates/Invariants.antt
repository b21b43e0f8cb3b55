use Rattle.std.proofs.Common.{◌≡◌, ◌++◌, drop}
use Rattle.ea_model.specs.Strategies.{candidates}
use Rattle.ea_trials_choice.proofs.plain.candidates.Given as goal

abbrev pub invariant-loop-carrier : goal.invariant-loop-carrier
invariant-loop-carrier l =
    l.list.items ++ candidates (drop l.carrier-index l.carriers) ≡ candidates l.carriers
