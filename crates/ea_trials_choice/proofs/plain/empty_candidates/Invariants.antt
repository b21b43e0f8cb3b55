use Rattle.std.proofs.Common.{◌≡◌, ◌++◌, drop, filter}
use Rattle.ea_model.specs.Content.{is_empty_multi}
use Rattle.ea_model.specs.Strategies.{candidates}
use Rattle.ea_trials_choice.proofs.plain.empty_candidates.Given as goal

abbrev pub invariant-loop-carrier : goal.invariant-loop-carrier
invariant-loop-carrier l =
    l.list.items ++ candidates (filter is_empty_multi (drop l.carrier-index l.carriers))
    ≡ candidates (filter is_empty_multi l.carriers)
