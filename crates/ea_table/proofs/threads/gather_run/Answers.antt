use Rattle.std.proofs.Common.{ℕ, ◌+◌, ◌<◌, IsFalse, List, length}
use Rattle.std.proofs.Common.{slice_index_or, sym, subst, arith}
use Rattle.std.specs.Prelude.{IfOk}
use Rattle.std.proofs.lemmas.Result.{IfOk-weaker}
use Rattle.ea_table.specs.Ending.{IsEnd, IsLast}
use Rattle.ea_table.specs.Threads.{IsOfRun}
use Rattle.ea_table.specs.declared.worker.Finished.{Finished}
use Rattle.ea_table.proofs.Threading.{of-run}
use Rattle.ea_table.proofs.threads.gather_run.Goals as goal

pub gather-requires-clause-each : goal.gather-requires-clause-each
gather-requires-clause-each c = λ k d less.
    let id = c.args.board.table.shared.table_id in
    let had = subst (λ (xs : List Finished). (j : ℕ) (x : Finished) → j < length xs
    → IsFalse (slice_index_or xs j x).out_of_memory) c.deref.ensures.value
    (c.lacks_memory.ensures c.if-lacks_memory.false) k d
    (omega (arith, less, c.requires.all)) in
    subst (λ (xs : List Finished). IsLast c.args.config c.args.trace.now id (k + 1)
    (slice_index_or xs k d)) (sym c.from_vec.ensures) ((c.requires.each k d less).last had)

pub returns : goal.returns
returns c =
    let Ends = IsEnd c.args.config c.args.trace.now in
    IfOk-weaker c.gather.result (Ends c.args.finished.items) (IsOfRun c.args.config c.args.trace.now)
    (λ o is. of-run c.args.config c.args.trace.now c.args.finished.items c.requires.all
    (λ k d less. (c.requires.each k d less).rest
    (subst (λ (fs : List Finished). (j : ℕ) (x : Finished) → j < length fs
    → IsFalse (slice_index_or fs j x).out_of_memory) c.deref.ensures.value
    (c.lacks_memory.ensures c.if-lacks_memory.false) k d
    (omega (arith, less, c.requires.all)))) o is)
    (subst (λ fs. IfOk c.gather.result (Ends fs)) c.from_vec.ensures c.gather.ensures)
