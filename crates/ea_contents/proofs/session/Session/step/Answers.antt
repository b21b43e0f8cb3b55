use Rattle.std.proofs.Common.{◌≡◌, length, ◌∷◌, ◌++◌, [], refl, sym, ap, ◌∙◌, subst, arith}
use Rattle.std.specs.Prelude.{IfSome, Some, is_some, slice_set, true, false}
use Rattle.std.specs.Vec.{with_items}
use Rattle.std.proofs.lemmas.List.{length-set, with_items_is}
use Rattle.ea_machine.specs.Setup.{setup_of}
use Rattle.ea_machine.specs.State.{State}
use Rattle.ea_sound.specs.Over.{LiesOver}
use Rattle.ea_contents.specs.Agreeing.{memory_made}
use Rattle.ea_contents.specs.Sessions.{kept_if}
use Rattle.ea_contents.specs.Stored.{IsStored}
use Rattle.ea_contents.specs.declared.session.Session.{Session}
use Rattle.ea_contents.proofs.Standing.{unstopped}
use Rattle.ea_contents.proofs.Steps.{block-stored, made-held, source-stored, stands-made}
use Rattle.ea_contents.proofs.Steps.{stands-unmade, still-has}
use Rattle.ea_contents.proofs.Steps.{unmade-yet, yet-upto}
use Rattle.ea_contents.proofs.session.Session.step.Goals as goal

pub returns-in_default : goal.returns-in_default
returns-in_default c = λ d t turns lists at.
    stands-unmade d t turns lists c.args.self.now at c.args.me _ c.in_ok-turn.ensures refl refl
    (unmade-yet d t turns lists c.args.self.now at c.args.me c.yet_to_make-making.result
    (c.yet_to_make-making.ensures d t turns lists at) c.in_default.is) refl refl

pub extent-requires-clause-stands : goal.extent-requires-clause-stands
extent-requires-clause-stands c =
    let (d, t, turns, lists, at) = c.requires.stands in
    (d, t, turns ++ c.args.me ∷ [], c.in_ok-turn.ensures d t turns at.run)

pub extent-requires-clause-scheduler : goal.extent-requires-clause-scheduler
extent-requires-clause-scheduler c =
    let (d, t, turns, lists, at) = c.requires.stands in
    still-has d t turns lists c.args.self.now at c.args.me c.turn.new.self c.in_ok-turn.ensures
    c.requires.scheduler

pub returns-in_default-extent : goal.returns-in_default-extent
returns-in_default-extent c = λ d t turns lists at.
    let later = turns ++ c.args.me ∷ [] in
    stands-unmade d t turns lists c.args.self.now at c.args.me _ c.in_ok-turn.ensures refl refl
    (made-held d t turns lists c.args.self.now at c.args.me c.yet_to_make-making.result
    c.in-Some.making (c.yet_to_make-making.ensures d t turns lists at) c.in-Some.is false
    (sym (ap is_some c.in_default-extent.is)
    ∙ c.extent.ensures.held d t later (c.in_ok-turn.ensures d t turns at.run))) refl refl

pub keep-requires-clause-source : goal.keep-requires-clause-source
keep-requires-clause-source c =
    let (d, t, turns, lists, at) = c.requires.stands in
    let later = turns ++ c.args.me ∷ [] in
    subst (λ l. IfSome (kept_if l c.in-Some.making.source)
    (λ old. IsStored old c.args.self.now.memory.words)) (sym c.deref_mut.ensures.value)
    (source-stored d t turns lists c.args.self.now at c.args.me c.in-Some.making
    (made-held d t turns lists c.args.self.now at c.args.me c.yet_to_make-making.result
    c.in-Some.making (c.yet_to_make-making.ensures d t turns lists at) c.in-Some.is true
    (sym (ap is_some c.in-Some-extent.is)
    ∙ c.extent.ensures.held d t later (c.in_ok-turn.ensures d t turns at.run))))

pub keep-requires-clause-place : goal.keep-requires-clause-place
keep-requires-clause-place c =
    let (d, t, turns, lists, at) = c.requires.stands in
    omega (
      arith,
      yet-upto d t turns lists c.args.self.now at c.args.me c.yet_to_make-making.result
          c.in-Some.making (c.yet_to_make-making.ensures d t turns lists at) c.in-Some.is,
      ap length c.deref_mut.ensures.value,
    )

pub returns : goal.returns
returns c = λ d t turns lists at.
    let later = turns ++ c.args.me ∷ [] in
    let s = c.args.self.now in
    let m = c.in-Some.making in
    let x = c.in-Some-extent.block in
    let yet = c.yet_to_make-making.ensures d t turns lists at in
    let gone = c.in_ok-turn.ensures d t turns at.run in
    let placed : c.keep.new.extents ≡ slice_set s.extents.items m.fresh (Some x) =
    c.in_ok-keep.ensures.extents ∙ ap (λ l. slice_set l m.fresh (Some x)) c.deref_mut.ensures.value in
    let many : length c.keep.new.extents ≡ s.extents.len = omega (
      arith,
      ap length placed,
      length-set s.extents.items m.fresh (Some x),
      s.extents.ok,
    ) in
    let v : Session = record {
      run = c.turn.new.self;
      trace = s.trace;
      memory = c.keep.new.memory;
      extents = with_items s.extents c.keep.new.extents;
      failed = s.failed;
    } in
    stands-made d t turns lists s at c.args.me v c.in_ok-turn.ensures refl refl m x
    (made-held d t turns lists s at c.args.me c.yet_to_make-making.result m yet c.in-Some.is true
    (sym (ap is_some c.in-Some-extent.is) ∙ c.extent.ensures.held d t later gone))
    (subst (λ (v : State). LiesOver (setup_of d t) m.fresh x v)
    (unstopped d t at.stops later) (c.in-Some-extent.ensures.lies d t later gone))
    (c.in_ok-keep.ensures.memory ∙ ap (λ l. memory_made s.memory.words (Some x)
    (kept_if l m.source)) c.deref_mut.ensures.value)
    c.in_ok-keep.ensures.there c.keep.ensures.kept
    (with_items_is s.extents c.keep.new.extents many ∙ placed)
    (yet-upto d t turns lists s at c.args.me c.yet_to_make-making.result m yet c.in-Some.is)

pub keep-requires-clause-stored : goal.keep-requires-clause-stored
keep-requires-clause-stored c =
    let (d, t, turns, lists, at) = c.requires.stands in
    let later = turns ++ c.args.me ∷ [] in
    block-stored d t turns lists c.args.self.now at c.args.me c.in-Some.making.fresh
    c.in-Some-extent.block
    (subst (λ (v : State). LiesOver (setup_of d t) c.in-Some.making.fresh
    c.in-Some-extent.block v) (unstopped d t at.stops later)
    (c.in-Some-extent.ensures.lies d t later (c.in_ok-turn.ensures d t turns at.run)))
