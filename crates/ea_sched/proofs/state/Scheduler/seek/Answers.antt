use Rattle.std.proofs.Common.{refl, sym, ap, subst, ◌∙◌}
use Rattle.std.specs.Prelude.{IfSome, IsSome}
use Rattle.std.proofs.lemmas.Result.{on_err_weaker}
use Rattle.ea_model.specs.Instance.{Instance, chosen_spot, employed, own_at, refilled}
use Rattle.ea_laws.specs.Spots.{IsPlaced}
use Rattle.ea_machine.specs.Placements.{new_carrier, search_if}
use Rattle.ea_machine.specs.Setup.{migration}
use Rattle.ea_sched.specs.Acting.{ready_of, setup_for}
use Rattle.ea_sched.proofs.Acts.{chosen-place, plans-as, planned-from, made-as}
use Rattle.ea_sched.proofs.Acts.{stood-placed, unplaced}
use Rattle.ea_sound.proofs.Paths.{seek-chosen}
use Rattle.ea_sched.proofs.Placing.{seek-alone, seek-beyond}
use Rattle.ea_sched.proofs.OwnCarriers.{asked-again, placed-block, placing-own}
use Rattle.ea_sched.proofs.state.Scheduler.seek.Goals as goal

pub returns-in-Some-clause-actor : goal.returns-in-Some-clause-actor
returns-in-Some-clause-actor c =
    let s = c.args.self.now in
    let ask = c.args.ask in
    let (spot, chosen, is, new) = chosen-place s.instance c.try_alloc.new.self
    (chosen_spot s.instance ask.need) ask.need ask.name c.in-Some.place
    (sym c.try_alloc.ensures.place ∙ c.in-Some.is) c.try_alloc.ensures.placed in
    c.placed.ensures.actor
    ∙ stood-placed (setup_for s) s.number (ready_of s) ask c.try_alloc.new.self spot
    c.in-Some.place is new
    ∙ sym (seek-chosen (setup_for s) s.number (ready_of s) ask spot
    (sym c.is_alone.ensures ∙ c.if-is_alone.false) chosen)

pub returns-then-is_alone-clause-actor : goal.returns-then-is_alone-clause-actor
returns-then-is_alone-clause-actor c =
    let s = c.args.self.now in
    let e = setup_for s in
    let ask = c.args.ask in
    made-as c.seek_new.result _ c.seek_new.ensures.actor
    (ap (λ i. new_carrier e s.number ask 0 (record (ready_of s) { instance = i })) c.refill.ensures
    ∙ sym (seek-alone e s.number (ready_of s) ask (sym c.is_alone.ensures ∙ c.if-is_alone.true)))

pub returns-then-is_alone-clause-memory : goal.returns-then-is_alone-clause-memory
returns-then-is_alone-clause-memory c =
    let s = c.args.self.now in
    let e = setup_for s in
    let ask = c.args.ask in
    plans-as c.seek_new.result s
    (on_err_weaker c.seek_new.result (planned-from c.refill.new.self s.instance _
    (ap (λ (i : Instance). i.created) c.refill.ensures)) c.seek_new.ensures.memory)
    (ap (λ i. new_carrier e s.number ask 0 (record (ready_of s) { instance = i })) c.refill.ensures
    ∙ sym (seek-alone e s.number (ready_of s) ask (sym c.is_alone.ensures ∙ c.if-is_alone.true)))

pub returns-in-None-clause-actor : goal.returns-in-None-clause-actor
returns-in-None-clause-actor c =
    let s = c.args.self.now in
    let e = setup_for s in
    let ask = c.args.ask in
    let (none, same) = unplaced s.instance c.try_alloc.new.self
    (chosen_spot s.instance ask.need) ask.need ask.name
    (sym c.try_alloc.ensures.place ∙ c.in-None.is) c.try_alloc.ensures.placed in
    made-as c.seek_beyond.result _ c.seek_beyond.ensures.actor
    (ap (λ i. search_if e s.number ask (record (ready_of s) { instance = i }) (migration e))
    (c.refill-in-None.ensures ∙ ap refilled same)
    ∙ sym (seek-beyond e s.number (ready_of s) ask
    (sym c.is_alone.ensures ∙ c.if-is_alone.false) none))

pub placed-requires-clause-asked : goal.placed-requires-clause-asked
placed-requires-clause-asked c =
    let s = c.args.self.now in
    let ask = c.args.ask in
    let new = c.try_alloc.new.self in
    let placed = subst
    (λ o. IfSome o (λ place. IsPlaced (employed s.instance) (employed new) ask.name place))
    c.in-Some.is c.try_alloc.ensures.blocks in
    asked-again s _ refl refl refl s.instance new
    (placed-block (employed s.instance) (employed new) ask.name c.in-Some.place placed)
    (λ n is. subst (λ os. IsSome (own_at os n))
    (sym (ap (λ (i : Instance). i.own) c.try_alloc.ensures.placed
    ∙ placing-own s.instance (chosen_spot s.instance ask.need) ask.need ask.name)) is)
    ask c.requires.asked

pub returns-in-None-clause-memory : goal.returns-in-None-clause-memory
returns-in-None-clause-memory c =
    let s = c.args.self.now in
    let e = setup_for s in
    let ask = c.args.ask in
    let (none, same) = unplaced s.instance c.try_alloc.new.self
    (chosen_spot s.instance ask.need) ask.need ask.name
    (sym c.try_alloc.ensures.place ∙ c.in-None.is) c.try_alloc.ensures.placed in
    plans-as c.seek_beyond.result s
    (on_err_weaker c.seek_beyond.result (planned-from c.refill-in-None.new.self s.instance _
    (ap (λ (i : Instance). i.created) (c.refill-in-None.ensures ∙ ap refilled same)))
    c.seek_beyond.ensures.memory)
    (ap (λ i. search_if e s.number ask (record (ready_of s) { instance = i }) (migration e))
    (c.refill-in-None.ensures ∙ ap refilled same)
    ∙ sym (seek-beyond e s.number (ready_of s) ask
    (sym c.is_alone.ensures ∙ c.if-is_alone.false) none))
