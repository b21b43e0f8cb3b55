use Rattle.ea_mem_shared.proofs.Rows.{did-busy}
use Rattle.ea_mem_shared.proofs.mem.MemSharedShared.busy_try.Goals as goal

pub returns-clause-row : goal.returns-clause-row
returns-clause-row g c = did-busy _ _ _ _ _ _ c.self.view_is c.self.invariant.2
    c.requires.migrates c.args.carrier c.requires.carrier _
    c.args.seen _ c.try_take.ensures.tried c.try_take.ensures.places
