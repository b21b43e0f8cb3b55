use Rattle.ea_queues.proofs.QueueMoves.{newest}
use Rattle.ea_queues.proofs.queues.Queues.newest.Goals as goal

pub returns : goal.returns
returns c = newest _ _ _ _ _ c.self.view_is c.self.invariant _ _ c.requires c.index.ensures
