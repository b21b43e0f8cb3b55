use Rattle.ea_mem_shared.proofs.Rows.{did-link}
use Rattle.ea_mem_shared.proofs.mem.MemSharedShared.link.Goals as goal

pub returns-clause-row : goal.returns-clause-row
returns-clause-row g c = did-link _ _ _ c.link.new.self _ _ _ c.self.view_is _ _
    c.link.ensures.queues c.link.ensures.rests
