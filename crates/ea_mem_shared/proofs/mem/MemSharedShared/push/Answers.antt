use Rattle.ea_mem_shared.proofs.Rows.{did-push, nowhere-seen}
use Rattle.ea_mem_shared.proofs.mem.MemSharedShared.push.Goals as goal

pub push-requires-clause-nowhere : goal.push-requires-clause-nowhere
push-requires-clause-nowhere g c = nowhere-seen _ _ _ _ _ _ c.self.view_is c.requires.nowhere

pub returns-clause-row : goal.returns-clause-row
returns-clause-row g c = did-push _ _ _ c.push.new.self _ _ _ c.self.view_is _ _
    c.push.ensures.queues c.push.ensures.rests
