use Rattle.std.proofs.Common.{refl, ap}
use Rattle.std.specs.Prelude.{None, Some}
use Rattle.std.proofs.lemmas.Result.{on_err_weaker, on_ok_weaker}
use Rattle.ea_machine.specs.declared.stages.Stage.TheVariants.{Begin}
use Rattle.ea_machine.specs.Machine.{begins}
use Rattle.ea_machine.specs.Rows.{Head, TakeAll}
use Rattle.ea_sched.specs.Acting.{actor_of}
use Rattle.ea_sched.proofs.Calling.{ready-counts, row-done, row-plans, take-walked}
use Rattle.ea_sched.proofs.Calling.{taken-suits}
use Rattle.ea_sched.proofs.state.Scheduler.take_all.Goals as goal

pub take_all-requires-clause-walked : goal.take_all-requires-clause-walked
take_all-requires-clause-walked g c = take-walked c.args.self.now c.requires.starts.ready
    c.requires.next

pub operate_next-requires : goal.operate_next-requires
operate_next-requires g c = record {
  next = taken-suits c.args.self.now c.requires.starts.ready refl c.requires.next;
  counts = ready-counts c.args.self.now c.requires.starts.ready;
}

pub returns-in-None-clause-row : goal.returns-in-None-clause-row
returns-in-None-clause-row g c = on_ok_weaker c.operate_next.result
    (row-done c.args.self.now c.requires.starts.ready TakeAll (Head None) Begin
    refl (ap begins c.requires.next) c.in-None.ensures.row)
    c.operate_next.ensures.actor

pub returns-in-Some-clause-row : goal.returns-in-Some-clause-row
returns-in-Some-clause-row g c =
    let s = c.args.self.now in
    row-done s c.requires.starts.ready TakeAll (Head (Some c.in-Some.newest)) Begin
    refl (ap begins c.requires.next) c.in-Some.ensures.row
    (ap (λ stage. record (actor_of s) { stage = stage; next = Some c.in-Some.newest })
    c.requires.stage)

pub returns-in-None-clause-memory : goal.returns-in-None-clause-memory
returns-in-None-clause-memory g c = on_err_weaker c.operate_next.result
    (row-plans c.args.self.now c.requires.starts.ready TakeAll (Head None) Begin
    refl refl refl (ap begins c.requires.next) c.in-None.ensures.row)
    c.operate_next.ensures.memory
