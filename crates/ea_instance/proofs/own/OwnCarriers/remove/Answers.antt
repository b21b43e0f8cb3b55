use Rattle.std.proofs.Common.{subst, sym}
use Rattle.ea_model.specs.Region.{IsTail}
use Rattle.ea_laws.proofs.CarrierSegments.{own_at-IsTail}
use Rattle.ea_instance.proofs.Owned.{have-without}
use Rattle.ea_instance.proofs.own.OwnCarriers.remove.Goals as goal

pub give_back-requires : goal.give_back-requires
give_back-requires c =
    let carrier = c.take_out-carrier.result in
    subst (IsTail carrier.base carrier.pages) (sym c.self.invariant.taken)
    (own_at-IsTail c.args.number carrier c.self.inside.list.items c.take_out-carrier.ensures.item
    c.self.invariant.pages)

pub invariant_of-self : goal.invariant_of-self
invariant_of-self c =
    have-without _ _ c.self.inside.region c.self.invariant c.args.number c.take_out-carrier.result
    _ _ _ (sym c.take_out-carrier.ensures.capacity) c.take_out-carrier.ensures.rest
    c.take_out-carrier.ensures.item c.give_back.ensures.cut c.give_back.ensures.laid
