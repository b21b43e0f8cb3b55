use Rattle.std.proofs.Common.{refl, sym, subst}
use Rattle.std.specs.Prelude.{IsSome}
use Rattle.ea_model.specs.Instance.{Instance, employed, own_at}
use Rattle.ea_sched.proofs.OwnCarriers.{asked-again, created-own, placed-block}
use Rattle.ea_sched.proofs.state.Scheduler.create_single.Goals as goal

pub placed-requires-clause-asked : goal.placed-requires-clause-asked
placed-requires-clause-asked c =
    let s = c.args.self.now in
    let ask = c.args.ask in
    let new = c.create_single-place.new.self in
    asked-again s _ refl refl refl s.instance new
    (placed-block (employed s.instance) (employed new) ask.name c.create_single-place.result
    c.create_single-place.ensures.blocks)
    (λ n is. subst (λ (i : Instance). IsSome (own_at i.own n))
    (sym c.create_single-place.ensures.created)
    (created-own s.instance ask.need c.args.plan c.requires.plan n is)) ask c.requires.asked
