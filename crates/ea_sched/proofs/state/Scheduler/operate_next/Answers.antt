use Rattle.std.proofs.Common.{◌+◌, drop, slice_index_or}
use Rattle.std.proofs.lemmas.List.{drop_more}
use Rattle.ea_model.specs.declared.operations.Op.TheVariants.{Alloc}
use Rattle.ea_sched.proofs.state.Scheduler.operate_next.Goals as goal

pub operate-requires-clause-fits : goal.operate-requires-clause-fits
operate-requires-clause-fits c =
    let ops = c.args.self.now.text.now in
    let k = c.args.self.now.done in
    c.requires.next (slice_index_or ops k (Alloc 0 0)) (drop (k + 1) ops)
    (drop_more ops k (Alloc 0 0) c.if-self.false)
