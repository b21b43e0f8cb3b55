use Rattle.std.proofs.Common.{refl, sym, ◌∙◌, arith}
use Rattle.ea_machine.specs.declared.stages.Stage.TheVariants.{Taking}
use Rattle.ea_machine.specs.Rows.{Got, TakeTry}
use Rattle.ea_sched.specs.Acting.{setup_for, standing_at}
use Rattle.ea_sched.proofs.Calling.{onward-took, row-done, take-fresh, take-more, take-name}
use Rattle.ea_sched.proofs.state.Scheduler.take_try.Goals as goal

pub take_try-found-requires-clause-name : goal.take_try-found-requires-clause-name
take_try-found-requires-clause-name g c =
    let name = take-name c.args.self.now c.requires.starts.ready c.args.name c.args.tries
    c.args.left
    refl in
    omega (arith, name, c.requires.starts.greatest)

pub took-requires-clause-more : goal.took-requires-clause-more
took-requires-clause-more g c = take-more c.args.self.now c.requires.starts.ready c.args.name
    c.args.tries
    c.args.left refl

pub took-requires-clause-fresh : goal.took-requires-clause-fresh
took-requires-clause-fresh g c = take-fresh c.args.self.now c.requires.starts.ready c.args.name
    c.args.tries c.args.left c.take_try-found.result refl
    c.take_try-found.ensures.row

pub returns-clause-row : goal.returns-clause-row
returns-clause-row g c =
    let s = c.args.self.now in
    row-done s c.requires.starts.ready (TakeTry c.args.name) (Got c.take_try-found.result)
    (Taking c.args.name c.args.tries c.args.left) refl refl
    c.take_try-found.ensures.row
    (c.took.ensures.actor
    ∙ sym (onward-took (setup_for s) s.number c.args.name c.args.tries c.args.left
    (standing_at (Taking c.args.name c.args.tries c.args.left) s) c.take_try-found.result))
