use Rattle.std.proofs.Common.{◌≡◌, List, ℕ, ◌-◌, ◌*◌, ◌≤◌, true, ap, sym, subst, ◌∙◌, arith}
use Rattle.std.specs.Prelude.{All, nat_lt, nat_le, ◌&&◌}
use Rattle.ea_model.specs.Instance.{new_instance}
use Rattle.ea_model.specs.declared.trace.Stop.{Stop}
use Rattle.ea_model.specs.Trace.{greatest_in, stop_in}
use Rattle.ea_machine.specs.Setup.{setup_of}
use Rattle.ea_machine.specs.Statistics.{seen, unseen}
use Rattle.ea_sound.proofs.Asked.{text-upto}
use Rattle.ea_sound.proofs.Texts.{text-is}
use Rattle.ea_search.specs.Rooms.{RoomyLists}
use Rattle.ea_sched.proofs.Starting.{starts}
use Rattle.ea_sched.proofs.state.Scheduler.new.Goals as goal

pub get-requires : goal.get-requires
get-requires c = omega (
  arith,
  c.requires.texts,
  c.requires.from,
  c.requires.to,
)

pub names_for-requires : goal.names_for-requires
names_for-requires c =
    subst (All (λ o. greatest_in o ≤ c.args.trace.now.greatest))
    (sym (c.as_slice-text.ensures
    ∙ text-is c.args.trace.now.texts.items c.args.number c.get.result.now c.requires.from
    (omega (arith, c.requires.texts, c.requires.to)) c.get.ensures))
    (text-upto c.args.config c.args.trace.now c.requires.trace c.args.number)

pub invariant_of-result-clause-text_is : goal.invariant_of-result-clause-text_is
invariant_of-result-clause-text_is c =
    c.as_slice-text.ensures
    ∙ text-is c.args.trace.now.texts.items c.args.number c.get.result.now c.requires.from
    (omega (arith, c.requires.texts, c.requires.to)) c.get.ensures

is_there : (a b : ℕ) → 1 ≤ a → a ≤ b → (nat_lt 0 a && nat_le a b) ≡ true
is_there a b from to = grind arith

pub returns-clause-actor : goal.returns-clause-actor
returns-clause-actor c =
    let n = c.args.number in
    let setup = setup_of c.args.config c.args.trace.now in
    starts setup n c.in_ok-instance.instance _ _ _ _ _ _ _
    (is_there n c.args.config.schedulers c.requires.from c.requires.to)
    (c.in_ok-instance.ensures
    ∙ ap (λ s. new_instance s n ((n - 1) * c.region_pages-pages.result)
    c.region_pages-pages.result) c.of.ensures
    ∙ ap (λ p. new_instance setup.settings n ((n - 1) * p) p) c.region_pages-pages.ensures)
    (ap (λ (l : RoomyLists). l.lists) c.in_ok-lists.ensures)
    c.in_ok-names.ensures.none
    (c.as_slice-text.ensures
    ∙ text-is c.args.trace.now.texts.items n c.get.result.now c.requires.from
    (omega (arith, c.requires.texts, c.requires.to)) c.get.ensures)
    c.in_ok-passed.ensures
    (c.new-mbcs.ensures ∙ ap (λ f. seen f unseen) c.multi_figures.ensures.figures)
    (c.new-sbcs.ensures ∙ ap (λ f. seen f unseen) c.single_figures.ensures.figures)
    (c.reserve.ensures.items ∙ c.new-log.ensures)

pub invariant_of-result-clause-stop_is : goal.invariant_of-result-clause-stop_is
invariant_of-result-clause-stop_is c =
    c.stop_of-stop.ensures ∙ ap (λ (xs : List Stop). stop_in xs c.args.number) c.as_slice.ensures
