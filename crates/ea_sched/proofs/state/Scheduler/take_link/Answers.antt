use Rattle.std.proofs.Common.{Some, ap, refl}
use Rattle.std.proofs.lemmas.Result.{on_err_weaker, on_ok_weaker}
use Rattle.ea_machine.specs.declared.stages.Stage.TheVariants.{Begin}
use Rattle.ea_machine.specs.Machine.{begins}
use Rattle.ea_machine.specs.Rows.{Rests, TakeLink}
use Rattle.ea_sound.proofs.Calls.{as-node}
use Rattle.ea_sched.specs.Acting.{actor_of}
use Rattle.ea_sched.proofs.Calling.{ended-plans, pass-few, pass-next, pass-node}
use Rattle.ea_sched.proofs.Calling.{passed-ended, passed-next, passed-works}
use Rattle.ea_sched.proofs.Calling.{ready-counts, rests-suits, row-done, row-plans}
use Rattle.ea_sched.proofs.state.Scheduler.take_link.Goals as goal

pub take_link-requires-clause-node : goal.take_link-requires-clause-node
take_link-requires-clause-node g c = as-node c.args.node c.requires.starts.schedulers
    c.requires.starts.greatest
    (pass-node c.args.self.now c.requires.starts.ready c.args.node c.requires.next)

pub take_link-requires-clause-next : goal.take_link-requires-clause-next
take_link-requires-clause-next g c =
    pass-next c.args.self.now c.requires.starts.ready c.args.node c.requires.next

pub add-requires : goal.add-requires
add-requires g c = pass-few c.args.self.now c.requires.starts.ready c.args.node c.requires.next

pub add-requires-in-Next : goal.add-requires-in-Next
add-requires-in-Next g c = pass-few c.args.self.now c.requires.starts.ready c.args.node
    c.requires.next

pub operate_next-requires : goal.operate_next-requires
operate_next-requires g c = record {
  next = rests-suits c.args.self.now c.requires.starts.ready c.args.node refl
      c.requires.next
      c.in-Rest.ensures.row;
  counts = ready-counts c.args.self.now c.requires.starts.ready;
}

pub end_walk-requires-clause-walk : goal.end_walk-requires-clause-walk
end_walk-requires-clause-walk g c =
    let works = passed-works c.args.self.now c.requires.starts.ready c.args.node refl
    c.requires.next c.add.new.self.nodes c.add.ensures c.in-End.ensures.row in
    record { passed = works.passed; next = works.next; next_on = works.next_on }

pub end_walk-requires-clause-counts : goal.end_walk-requires-clause-counts
end_walk-requires-clause-counts g c = ready-counts c.args.self.now c.requires.starts.ready

pub returns-in-Rest-clause-row : goal.returns-in-Rest-clause-row
returns-in-Rest-clause-row g c =
    let s = c.args.self.now in
    on_ok_weaker c.operate_next.result
    (λ is. row-done s c.requires.starts.ready TakeLink Rests Begin refl
    (ap begins c.requires.next) c.in-Rest.ensures.row is)
    c.operate_next.ensures.actor

pub returns-in-End-clause-row : goal.returns-in-End-clause-row
returns-in-End-clause-row g c = on_ok_weaker c.end_walk.result
    (λ is. passed-ended c.args.self.now c.requires.starts.ready c.args.node refl c.requires.next
    c.add.new.self.nodes
    c.add.ensures
    c.in-End.ensures.row (is Begin))
    c.end_walk.ensures.actor

pub returns-in-Next-clause-row : goal.returns-in-Next-clause-row
returns-in-Next-clause-row g c = passed-next c.args.self.now c.requires.starts.ready c.args.node
    refl c.requires.next c.add-in-Next.new.self.nodes
    c.add-in-Next.ensures
    c.in-Next.older c.in-Next.ensures.row
    (ap (λ stage. record (actor_of c.args.self.now) {
      stage = stage;
      passed = c.add-in-Next.new.self.nodes;
      next = Some c.in-Next.older;
    }) c.requires.stage)

pub returns-in-Rest-clause-memory : goal.returns-in-Rest-clause-memory
returns-in-Rest-clause-memory g c = on_err_weaker c.operate_next.result
    (row-plans c.args.self.now c.requires.starts.ready TakeLink Rests Begin refl refl
    refl (ap begins c.requires.next) c.in-Rest.ensures.row)
    c.operate_next.ensures.memory

pub returns-in-End-clause-memory : goal.returns-in-End-clause-memory
returns-in-End-clause-memory g c = on_err_weaker c.end_walk.result
    (λ is. ended-plans c.args.self.now c.requires.starts.ready c.args.node refl c.requires.next
    c.add.new.self.nodes c.add.ensures c.in-End.ensures.row (is Begin))
    c.end_walk.ensures.memory
