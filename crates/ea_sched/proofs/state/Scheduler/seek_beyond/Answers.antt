use Rattle.std.proofs.Common.{sym, ap, ◌∙◌}
use Rattle.ea_machine.specs.Placements.{search_if, search_on}
use Rattle.ea_machine.specs.Searches.{new_search}
use Rattle.ea_sched.specs.Acting.{ready_of, setup_for}
use Rattle.ea_sched.proofs.Acts.{plans-as, made-as}
use Rattle.ea_sched.proofs.state.Scheduler.seek_beyond.Goals as goal

pub returns-then-self-clause-actor : goal.returns-then-self-clause-actor
returns-then-self-clause-actor c =
    let s = c.args.self.now in
    let ask = c.args.ask in
    made-as c.search_on.result _ c.search_on.ensures.actor
    (ap (λ x. search_on (setup_for s) s.number ask x (ready_of s))
    (c.new-search.ensures.stands ∙ ap (λ g. new_search g s.lists.lists) c.greatest.ensures)
    ∙ sym (ap (search_if (setup_for s) s.number ask (ready_of s))
    (sym s.migrates_so ∙ c.if-self.true)))

pub search_on-requires-clause-on : goal.search_on-requires-clause-on
search_on-requires-clause-on c = sym c.args.self.now.migrates_so ∙ c.if-self.true

pub returns-clause-actor : goal.returns-clause-actor
returns-clause-actor c =
    let s = c.args.self.now in
    made-as c.seek_new.result _ c.seek_new.ensures.actor
    (sym (ap (search_if (setup_for s) s.number c.args.ask (ready_of s))
    (sym s.migrates_so ∙ c.if-self.false)))

pub returns-then-self-clause-memory : goal.returns-then-self-clause-memory
returns-then-self-clause-memory c =
    let s = c.args.self.now in
    let ask = c.args.ask in
    plans-as c.search_on.result s c.search_on.ensures.memory
    (ap (λ x. search_on (setup_for s) s.number ask x (ready_of s))
    (c.new-search.ensures.stands ∙ ap (λ g. new_search g s.lists.lists) c.greatest.ensures)
    ∙ sym (ap (search_if (setup_for s) s.number ask (ready_of s))
    (sym s.migrates_so ∙ c.if-self.true)))

pub returns-clause-memory : goal.returns-clause-memory
returns-clause-memory c =
    let s = c.args.self.now in
    plans-as c.seek_new.result s c.seek_new.ensures.memory
    (sym (ap (search_if (setup_for s) s.number c.args.ask (ready_of s))
    (sym s.migrates_so ∙ c.if-self.false)))
