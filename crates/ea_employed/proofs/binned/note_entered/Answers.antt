use Rattle.std.proofs.Common.{◌++◌, subst}
use Rattle.std.proofs.lemmas.List.Sorted.{IsPermutation-append_right, IsPermutation-trans}
use Rattle.ea_employed.specs.Binned.{Hold}
use Rattle.ea_goodfit.specs.Gaps.{some_gap}
use Rattle.ea_employed.proofs.binned.note_entered.Goals as goal

pub returns-in-Some-clause-entered : goal.returns-in-Some-clause-entered
returns-in-Some-clause-entered c = λ held h.
    let gap = some_gap c.args.gap in
    let was = c.in-Some.bins.held in
    IsPermutation-trans c.put.new.self.held (gap ++ was) (gap ++ held) c.put.ensures.order
    (IsPermutation-append_right gap was held (subst (λ o. Hold o held) c.in-Some.is h))
