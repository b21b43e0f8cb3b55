use Rattle.std.proofs.Common.{sym, ap, ◌∙◌, Bool}
use Rattle.std.proofs.lemmas.Result.{on_ok_weaker}
use Rattle.ea_machine.specs.Stops.{run_with_stops}
use Rattle.ea_machine.specs.Actor.{Actor}
use Rattle.ea_machine.specs.Setup.{Setup, migration, setup_of}
use Rattle.ea_sound.specs.Turns.{answered}
use Rattle.ea_sched.specs.Wants.{hand_at}
use Rattle.ea_steps.specs.Noting.{names_told}
use Rattle.ea_steps.specs.Touched.{as_list, touched}
use Rattle.ea_steps.proofs.NotedNames.{hand-told, names-same, names-told}
use Rattle.ea_steps.proofs.touched.Touched.add_blocks.Goals as goal

pub returns-then-migrating : goal.returns-then-migrating
returns-then-migrating c = on_ok_weaker c.add_some.result (λ then config trace turns stands.
    let setup = setup_of config trace in
    let w = run_with_stops setup turns in
    let a = w.actors c.args.me in
    let at = c.at-scheduler.ensures config trace turns stands in
    names-same setup w _ _ c.args.self.now c.add_some.new.self
    (ap (λ o. as_list o) c.hand.ensures ∙ ap (λ (b : Actor). as_list (hand_at b.stage)) at.actor
    ∙ hand-told a.stage
    ∙ ap (λ (b : Bool). touched b a (answered w c.args.me)) (sym c.if-migrating.true
    ∙ c.migrating.ensures ∙ ap (λ (e : Setup). migration e) at.setup_is))
    (then config trace turns stands)) c.add_some.ensures

pub returns : goal.returns
returns c = on_ok_weaker c.add_told.result (λ then config trace turns stands.
    let setup = setup_of config trace in
    let w = run_with_stops setup turns in
    let a = w.actors c.args.me in
    let at = c.at-scheduler.ensures config trace turns stands in
    names-same setup w _ _ c.args.self.now c.add_told.new.self
    (ap (λ x. names_told a x c.args.heard) (c.requires.wanted config trace turns stands)
    ∙ ap (names_told a _) (c.requires.heard config trace turns stands)
    ∙ names-told c.args.me w.shared a
    ∙ ap (λ (b : Bool). touched b a (answered w c.args.me)) (sym c.if-migrating.false
    ∙ c.migrating.ensures ∙ ap (λ (e : Setup). migration e) at.setup_is))
    (then config trace turns stands)) c.add_told.ensures
