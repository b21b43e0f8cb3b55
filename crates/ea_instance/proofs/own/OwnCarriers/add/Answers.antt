use Rattle.std.proofs.Common.{◌≡◌, false, length, arith, ap, sym, subst}
use Rattle.ea_model.specs.Instance.{is_used, planned_own}
use Rattle.ea_instance.specs.Own.{OwnList}
use Rattle.ea_instance.proofs.Owned.{have-with, taken-length}
use Rattle.ea_instance.proofs.own.OwnCarriers.add.Goals as goal

pub take-requires-clause-room : goal.take-requires-clause-room
take-requires-clause-room c =
    omega (
      arith,
      c.requires.room,
      taken-length _ _ c.self.inside.region c.self.invariant,
      ap (λ (o : OwnList). length o.carriers) c.self.view_is,
    )

pub invariant_of-self : goal.invariant_of-self
invariant_of-self c =
    have-with _ _ c.self.inside.region c.self.invariant (planned_own c.args.plan) _ _ _
    (sym c.enter_within.ensures.capacity) c.enter_within.ensures.items c.requires.some
    (subst (λ (o : OwnList). is_used c.args.plan.number o.carriers ≡ false)
    (sym c.self.view_is) c.requires.number) c.take.ensures.apart c.take.ensures.taken
    c.take.ensures.laid
