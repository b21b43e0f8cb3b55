use Rattle.std.proofs.Common.{◌+◌, ◌^◌, ◌<◌, sym, ap, subst}
use Rattle.std.proofs.lemmas.Result.{on_err_weaker, on_ok_weaker}
use Rattle.ea_machine.specs.declared.stages.Stage.TheVariants.{Collecting}
use Rattle.ea_machine.specs.Actor.{Actor}
use Rattle.ea_sched.proofs.Calling.{ready-counts}
use Rattle.ea_sched.proofs.Carrying.{home-plans, home-walked}
use Rattle.ea_sched.proofs.WalkSuiting.{works-collected}
use Rattle.ea_sched.proofs.state.Scheduler.receive.Goals as goal

pub end_walk-requires-clause-walk : goal.end_walk-requires-clause-walk
end_walk-requires-clause-walk g c = works-collected c.args.self.now c.collect.new.self
    c.collect.ensures.same c.args.number c.requires.starts.ready c.collect.ensures.row

pub end_walk-requires-clause-counts : goal.end_walk-requires-clause-counts
end_walk-requires-clause-counts g c =
    let s = c.args.self.now in
    let n = c.args.number in
    subst (λ k. k + 1 < 2 ^ 32) (sym (ap (λ (a : Actor). a.instance.created)
    (c.collect.ensures.row.is (Collecting n)))) (ready-counts s c.requires.starts.ready)

pub returns-clause-row : goal.returns-clause-row
returns-clause-row g c = on_ok_weaker c.end_walk.result
    (home-walked c.args.number c.args.self.now c.collect.new.self c.collect.ensures.same
    c.collect.ensures.row c.end_walk.new.self)
    c.end_walk.ensures.actor

pub returns-clause-memory : goal.returns-clause-memory
returns-clause-memory g c = on_err_weaker c.end_walk.result
    (home-plans c.args.number c.args.self.now c.collect.new.self c.collect.ensures.same
    c.collect.ensures.row c.requires.starts.ready)
    c.end_walk.ensures.memory
