use Rattle.ea_mem_shared.proofs.Rows.{took-link}
use Rattle.ea_mem_shared.proofs.mem.MemSharedShared.take_link.Goals as goal

pub returns-clause-row : goal.returns-clause-row
returns-clause-row g c = took-link _ _ _ c.take_link.new.self _ _ _ c.self.view_is _
    c.take_link.ensures.link c.take_link.ensures.queues c.take_link.ensures.rests
