use Rattle.std.proofs.Common.{◌≡◌, fold, drop, filter}
use Rattle.std.specs.Prelude.{IfSome}
use Rattle.ea_model.specs.Content.{is_empty_multi}
use Rattle.ea_model.specs.Choice.{better}
use Rattle.ea_model.specs.Strategies.{candidates, choice_empty, large_enough, lower}
use Rattle.ea_employed.specs.Choices.{candidate_of, IsChoice}
use Rattle.ea_employed.proofs.walks.lowest_empty.Given as goal

-- choosing on among the carriers that are left gives the choice among all, and the best so far is a
-- gap of one of them
abbrev pub invariant-loop-index : goal.invariant-loop-index
invariant-loop-index l = record {
  rest : fold (better lower) (candidate_of l.best)
      (large_enough l.need (candidates (filter is_empty_multi (drop l.index l.carriers))))
      ≡ choice_empty l.need l.carriers;
  choice : IfSome l.best (IsChoice l.need l.carriers);
}
