use Rattle.ea_mem_shared.proofs.Rows.{did-create}
use Rattle.ea_mem_shared.proofs.mem.MemSharedShared.create.Goals as goal

pub returns-clause-row : goal.returns-clause-row
returns-clause-row g c = did-create _ _ _ _ _ _ c.self.view_is c.self.invariant.2
    c.requires.migrates c.args.carrier c.requires.carrier _
    c.put.ensures
