use Rattle.ea_queues.proofs.AlikeNodes.{none-standing}
use Rattle.ea_queues.proofs.QueueMoves.{becomes-laid, becomes-queues, becomes-rests, put-first}
use Rattle.ea_queues.proofs.queues.Queues.push.Goals as goal

pub invariant_of-self : goal.invariant_of-self
invariant_of-self c = becomes-laid _ _ _ _ _ _ _
    (put-first _ _ _ _ _ c.self.view_is c.self.invariant _ _ _ _ _ c.put.ensures.cells
    c.put.ensures.names c.put.ensures.carriers c.requires.node c.requires.scheduler
    (none-standing c.args.node c.args.self.now c.requires.nowhere)
    c.index-older.ensures)

pub returns-clause-queues : goal.returns-clause-queues
returns-clause-queues c = becomes-queues _ _ _ _ _ _ _
    (put-first _ _ _ _ _ c.self.view_is c.self.invariant _ _ _ _ _ c.put.ensures.cells
    c.put.ensures.names c.put.ensures.carriers c.requires.node c.requires.scheduler
    (none-standing c.args.node c.args.self.now c.requires.nowhere)
    c.index-older.ensures)

pub returns-clause-rests : goal.returns-clause-rests
returns-clause-rests c = becomes-rests _ _ _ _ _ _ _
    (put-first _ _ _ _ _ c.self.view_is c.self.invariant _ _ _ _ _ c.put.ensures.cells
    c.put.ensures.names c.put.ensures.carriers c.requires.node c.requires.scheduler
    (none-standing c.args.node c.args.self.now c.requires.nowhere)
    c.index-older.ensures)
