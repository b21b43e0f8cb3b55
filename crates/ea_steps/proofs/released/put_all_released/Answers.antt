use Rattle.std.proofs.Common.{sym, subst}
use Rattle.std.specs.List.Sorted.{IsNonDecreasingBy, IsPermutation}
use Rattle.std.proofs.lemmas.Result.{on_ok_weaker}
use Rattle.ea_steps.proofs.FoundBlocks.{name_at}
use Rattle.ea_steps.proofs.Releasing.{all-released}
use Rattle.ea_steps.proofs.released.put_all_released.Goals as goal

pub returns-clause-lines : goal.returns-clause-lines
returns-clause-lines c =
    let sorted = sym c.deref.ensures.value in
    on_ok_weaker c.put_each_released.result
    (all-released c.args.me c.args.touched.now c.args.run.now c.added-entries.result.now
    c.deref.result.now
    (subst (IsPermutation c.args.touched.now.blocks.items) sorted c.sort_by_name.ensures.same)
    (subst (IsNonDecreasingBy name_at) sorted c.sort_by_name.ensures.rises)
    c.added-entries.ensures c.args.text.now.items c.put_each_released.new.text.items)
    c.put_each_released.ensures
