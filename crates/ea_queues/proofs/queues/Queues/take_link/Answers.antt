use Rattle.std.proofs.Common.{◌≡◌, Bool, not, true, false, refl, ◌∙◌}
use Rattle.ea_queues.proofs.QueueMoves.{becomes-laid, becomes-rests, passes, passes-answer}
use Rattle.ea_queues.proofs.QueueMoves.{rests-answer, rests-same}
use Rattle.ea_queues.proofs.queues.Queues.take_link.Goals as goal

is-off : (b : Bool) → not b ≡ true → b ≡ false
is-off true e = absurd cc
is-off false e = refl

is-on : (b : Bool) → not b ≡ false → b ≡ true
is-on true e = refl
is-on false e = absurd cc

pub returns-then-not-cell-clause-link : goal.returns-then-not-cell-clause-link
returns-then-not-cell-clause-link c = rests-answer _ _ _ _ _ c.self.view_is c.self.invariant _ _ _
    c.requires.scheduler c.requires.next c.at-cell.ensures (is-off _ c.if-not-cell.true)

pub returns-then-not-cell-clause-rests : goal.returns-then-not-cell-clause-rests
returns-then-not-cell-clause-rests c = rests-same _ _ _ _ _ c.self.view_is c.self.invariant _ _ _
    c.requires.scheduler c.requires.next c.at-cell.ensures (is-off _ c.if-not-cell.true)

pub invariant_of-self : goal.invariant_of-self
invariant_of-self c = becomes-laid _ _ _ _ _ _ _
    (passes _ _ _ _ _ c.self.view_is c.self.invariant _ _ _ c.requires.scheduler
    c.requires.next c.at-cell.ensures (is-on _ c.if-not-cell.false))

pub returns-clause-link : goal.returns-clause-link
returns-clause-link c = c.passed.ensures
    ∙ passes-answer _ _ _ _ _ c.self.view_is c.self.invariant _ _ _ c.requires.scheduler
    c.requires.next c.at-cell.ensures (is-on _ c.if-not-cell.false)

pub returns-clause-rests : goal.returns-clause-rests
returns-clause-rests c = becomes-rests _ _ _ _ _ _ _
    (passes _ _ _ _ _ c.self.view_is c.self.invariant _ _ _ c.requires.scheduler
    c.requires.next c.at-cell.ensures (is-on _ c.if-not-cell.false))
