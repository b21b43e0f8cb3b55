use Rattle.std.proofs.Common.{◌≡◌, sym, ap, ◌∙◌, subst}
use Rattle.ea_laws.specs.Kept.{IsRisingOwn}
use Rattle.ea_instance.specs.Own.{OwnList}
use Rattle.ea_instance.proofs.Numbering.{IsNext, next_at, next_before, next_end, next_first}
use Rattle.ea_instance.proofs.Numbering.{next_none, next_past, next_up}
use Rattle.ea_instance.proofs.own.OwnCarriers.unused_number.Goals as goal

pub loop-carrier-init : goal.loop-carrier-init
loop-carrier-init c =
    let first = c.args.first in
    let own = c.args.self.now.carriers in
    let seen : c.self.inside.list.items ≡ own = ap (λ (o : OwnList). o.carriers) c.self.view_is in
    subst (λ os. IsNext first first os own) (sym (c.deref-carrier-items.ensures.value ∙ seen))
    (next_first first own (subst IsRisingOwn seen c.self.invariant.rising))

pub loop-carrier-preserved : goal.loop-carrier-preserved
loop-carrier-preserved c =
    let here = next_at _ _ _ _ _ c.loop-carrier-test.true c.loop-carrier.invariant in
    elim c.if-number-carrier-2.branch [
      | goal.then-number-carrier-2+else-number-last w ↦
          next_up _ _ _ _ _ here _ w.number-is w.if-number-carrier-2.true w.if-number-last.false
      | goal.else-number-carrier-2 w ↦
          next_past _ _ _ _ _ here _ w.number-is c.if-number-carrier.false
          w.if-number-carrier-2.false
    ]

pub returns-then-number-last : goal.returns-then-number-last
returns-then-number-last c =
    next_none _ _ _ _ _ (next_at _ _ _ _ _ c.loop-carrier-test.true c.loop-carrier.invariant)
    c.if-number-carrier-2.true c.if-number-last.true

pub returns-then-number-carrier : goal.returns-then-number-carrier
returns-then-number-carrier c =
    next_before _ _ _ _ _ (next_at _ _ _ _ _ c.loop-carrier-test.true c.loop-carrier.invariant)
    c.if-number-carrier.true

pub returns-after-loop-carrier : goal.returns-after-loop-carrier
returns-after-loop-carrier c =
    next_end _ _ _ _ _ c.loop-carrier-test.false c.loop-carrier.invariant
