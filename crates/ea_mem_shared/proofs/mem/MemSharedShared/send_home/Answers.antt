use Rattle.ea_mem_shared.proofs.Rows.{did-send}
use Rattle.ea_mem_shared.proofs.mem.MemSharedShared.send_home.Goals as goal

pub returns-clause-row : goal.returns-clause-row
returns-clause-row g c = did-send _ _ _ _ _ _ c.self.view_is c.self.invariant.2
    c.requires.migrates c.args.carrier c.requires.carrier _
    (g.C.Carried.content c.args.content) c.requires.content.number c.args.owner
    c.requires.owner.0 c.put.ensures
