use Rattle.ea_mem_shared.proofs.Rows.{took-all}
use Rattle.ea_mem_shared.proofs.mem.MemSharedShared.take_all.Goals as goal

pub returns-clause-row : goal.returns-clause-row
returns-clause-row g c = took-all _ _ _ c.take_all.new.self _ _ _ c.self.view_is _
    c.take_all.ensures.node c.take_all.ensures.queues c.take_all.ensures.rests
