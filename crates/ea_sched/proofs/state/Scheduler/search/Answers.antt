use Rattle.std.proofs.Common.{refl, subst, ◌∙◌}
use Rattle.std.proofs.lemmas.Result.{on_err_weaker, on_ok_weaker}
use Rattle.ea_machine.specs.declared.stages.Stage.TheVariants.{Searching}
use Rattle.ea_machine.specs.Rows.{Look, Saw}
use Rattle.ea_sched.specs.Creations.{PlansFrom}
use Rattle.ea_sched.proofs.Calling.{row-plans, row-done}
use Rattle.ea_sched.proofs.Looking.{looked-next, looked-still, still-reached}
use Rattle.ea_sched.proofs.Seeking.{search-carrier, search-next, search-on}
use Rattle.ea_sched.proofs.state.Scheduler.search.Goals as goal

pub look-seen-requires-clause-migrates : goal.look-seen-requires-clause-migrates
look-seen-requires-clause-migrates g c = c.requires.starts.migrates
    ∙ search-on c.args.self.now c.requires.starts.ready c.in-Searching.ask c.in-Searching.at
    c.in-Searching.part c.in-Searching.is

pub look-seen-requires-clause-carrier : goal.look-seen-requires-clause-carrier
look-seen-requires-clause-carrier g c = search-carrier c.args.self.now c.requires.starts.ready
    c.in-Searching.ask c.in-Searching.at c.in-Searching.part c.in-Searching.is
    c.requires.starts.schedulers

pub skips-requires : goal.skips-requires
skips-requires g c = record {
  next = search-next c.args.self.now c.requires.starts.ready c.in-Searching.ask
      c.in-Searching.at c.in-Searching.part c.in-Searching.is;
}

pub see-requires-clause-reached : goal.see-requires-clause-reached
see-requires-clause-reached g c =
    let s = c.args.self.now in
    let ask = c.in-Searching.ask in
    let at = c.in-Searching.at in
    let part = c.in-Searching.part in
    let h = c.requires.starts.ready in
    still-reached s (search-on s h ask at part c.in-Searching.is) ask at part c.in-Searching.is
    c.look-seen.result c.skips.new.at c.skips.new.part (c.skips.ensures.same c.if-skips.false) h

pub returns-then-skips-clause-row : goal.returns-then-skips-clause-row
returns-then-skips-clause-row g c =
    let s = c.args.self.now in
    let h = c.requires.starts.ready in
    let ask = c.in-Searching.ask in
    let at = c.in-Searching.at in
    let part = c.in-Searching.part in
    let on = search-on s h ask at part c.in-Searching.is in
    row-done s h (Look at) (Saw c.look-seen.result) (Searching ask at part) c.in-Searching.is refl
    c.look-seen.ensures.row
    (looked-next s on ask at part c.in-Searching.is c.look-seen.result c.greatest-highest.result
    c.greatest-highest.ensures c.skips.new.at c.skips.new.part
    (c.skips.ensures.unfit c.if-skips.true ask.need) (c.skips.ensures.next c.if-skips.true)
    (c.skips.ensures.stands c.if-skips.true))

pub returns-clause-row : goal.returns-clause-row
returns-clause-row g c =
    let s = c.args.self.now in
    let h = c.requires.starts.ready in
    let ask = c.in-Searching.ask in
    let at = c.in-Searching.at in
    let part = c.in-Searching.part in
    let on = search-on s h ask at part c.in-Searching.is in
    on_ok_weaker c.see.result
    (λ is. row-done s h {t = c.see.new.self} (Look at) (Saw c.look-seen.result)
    (Searching ask at part) c.in-Searching.is refl c.look-seen.ensures.row
    (is ∙ looked-still s on ask at part c.in-Searching.is c.look-seen.result c.skips.new.at
    c.skips.new.part (c.skips.ensures.same c.if-skips.false)))
    c.see.ensures.actor

pub returns-clause-memory : goal.returns-clause-memory
returns-clause-memory g c =
    let s = c.args.self.now in
    let h = c.requires.starts.ready in
    let ask = c.in-Searching.ask in
    let at = c.in-Searching.at in
    let part = c.in-Searching.part in
    let on = search-on s h ask at part c.in-Searching.is in
    on_err_weaker c.see.result
    (λ is. row-plans s h (Look at) (Saw c.look-seen.result) (Searching ask at part)
    c.in-Searching.is refl refl refl c.look-seen.ensures.row
    (subst (PlansFrom s) (looked-still s on ask at part c.in-Searching.is
    c.look-seen.result c.skips.new.at c.skips.new.part (c.skips.ensures.same c.if-skips.false))
    is))
    c.see.ensures.memory
