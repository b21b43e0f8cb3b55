use Rattle.std.proofs.Common.{refl, sym, ap, subst, ◌∙◌}
use Rattle.std.specs.Prelude.{IfSome, IsSome}
use Rattle.ea_model.specs.Instance.{Instance, chosen_spot, employed, own_at}
use Rattle.ea_laws.specs.Spots.{IsPlaced}
use Rattle.ea_machine.specs.Placements.{placed_by}
use Rattle.ea_sched.specs.Acting.{ready_of, setup_for}
use Rattle.ea_sched.proofs.Acts.{chosen-place, stood-placed}
use Rattle.ea_sched.proofs.OwnCarriers.{asked-again, placed-block, placing-own}
use Rattle.ea_sched.proofs.state.Scheduler.place.Goals as goal

pub returns-clause-actor : goal.returns-clause-actor
returns-clause-actor c =
    let s = c.args.self.now in
    let ask = c.args.ask in
    let (spot, chosen, is, new) = chosen-place s.instance c.try_alloc.new.self
    (chosen_spot s.instance ask.need) ask.need ask.name c.in-Some.place
    (sym c.try_alloc.ensures.place ∙ c.in-Some.is) c.try_alloc.ensures.placed in
    c.placed.ensures.actor
    ∙ stood-placed (setup_for s) s.number (ready_of s) ask c.try_alloc.new.self spot
    c.in-Some.place is new
    ∙ sym (ap (placed_by (setup_for s) s.number ask (ready_of s)) chosen)

pub placed-requires-clause-asked : goal.placed-requires-clause-asked
placed-requires-clause-asked c =
    let s = c.args.self.now in
    let ask = c.args.ask in
    let new = c.try_alloc.new.self in
    let placed = subst
    (λ o. IfSome o (λ place. IsPlaced (employed s.instance) (employed new) ask.name place))
    c.in-Some.is c.try_alloc.ensures.blocks in
    asked-again s _ refl refl refl s.instance new
    (placed-block (employed s.instance) (employed new) ask.name c.in-Some.place placed)
    (λ n is. subst (λ os. IsSome (own_at os n))
    (sym (ap (λ (i : Instance). i.own) c.try_alloc.ensures.placed
    ∙ placing-own s.instance (chosen_spot s.instance ask.need) ask.need ask.name)) is)
    ask c.requires.asked
