use Rattle.std.proofs.Common.{refl, arith}
use Rattle.ea_sound.proofs.Calls.{as-node}
use Rattle.ea_sched.proofs.Calling.{link-node, link-target, link-unlinked}
use Rattle.ea_sched.proofs.state.Scheduler.link.Goals as goal

pub link-requires-clause-target : goal.link-requires-clause-target
link-requires-clause-target g c =
    let h = c.requires.starts.row in
    omega (arith, link-target c.args.self.now h.ready refl, h.schedulers)

pub link-requires-clause-node : goal.link-requires-clause-node
link-requires-clause-node g c =
    let h = c.requires.starts.row in
    as-node c.args.node h.schedulers h.greatest (link-node c.args.self.now h.ready refl)

pub link-requires-clause-unlinked : goal.link-requires-clause-unlinked
link-requires-clause-unlinked g c = link-unlinked c.args.self.now c.requires.starts.row.ready refl
