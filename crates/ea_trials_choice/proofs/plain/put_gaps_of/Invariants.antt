use Rattle.std.proofs.Common.{◌≡◌, ◌++◌, drop}
use Rattle.std.specs.Prelude.{map}
use Rattle.ea_model.specs.Content.{gaps_of}
use Rattle.ea_model.specs.Strategies.{candidate}
use Rattle.ea_trials_choice.proofs.plain.put_gaps_of.Given as goal

abbrev pub invariant-loop-gap : goal.invariant-loop-gap
invariant-loop-gap l =
    l.list.items ++ map (candidate l.carrier) (drop l.gap-index l.gap-items)
    ≡ l.initial.list.items ++ map (candidate l.carrier) (gaps_of l.carrier)
