use Rattle.std.proofs.Common.{◌∙◌}
use Rattle.ea_queues.proofs.QueueMoves.{passes-answer, rests-answer, walks-within}
use Rattle.ea_queues.proofs.queues.Queues.link_of.Goals as goal

pub returns-then-linked : goal.returns-then-linked
returns-then-linked c = λ i next. c.passed.ensures
    ∙ passes-answer _ _ _ _ _ c.self.view_is c.self.invariant i c.args.node _
    (walks-within _ _ _ _ _ c.self.view_is c.self.invariant i c.args.node next) next
    c.at-older.ensures c.if-linked.true

pub returns-else-linked : goal.returns-else-linked
returns-else-linked c = λ i next.
    rests-answer _ _ _ _ _ c.self.view_is c.self.invariant i c.args.node _
    (walks-within _ _ _ _ _ c.self.view_is c.self.invariant i c.args.node next) next
    c.at-older.ensures c.if-linked.false
