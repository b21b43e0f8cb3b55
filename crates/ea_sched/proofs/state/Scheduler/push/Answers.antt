use Rattle.std.proofs.Common.{refl, arith}
use Rattle.ea_sound.proofs.Calls.{as-node}
use Rattle.ea_sched.proofs.Calling.{push-node, push-nowhere, push-target}
use Rattle.ea_sched.proofs.state.Scheduler.push.Goals as goal

pub push-requires-clause-target : goal.push-requires-clause-target
push-requires-clause-target g c =
    let h = c.requires.starts.row in
    omega (arith, push-target c.args.self.now h.ready refl, h.schedulers)

pub push-requires-clause-node : goal.push-requires-clause-node
push-requires-clause-node g c =
    let h = c.requires.starts.row in
    as-node c.args.node h.schedulers h.greatest (push-node c.args.self.now h.ready refl)

pub push-requires-clause-nowhere : goal.push-requires-clause-nowhere
push-requires-clause-nowhere g c = push-nowhere c.args.self.now c.requires.starts.row.ready refl
