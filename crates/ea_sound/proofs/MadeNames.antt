-- The step in which a block gets a name that was still to be made: it is one of the scheduler whose
-- operation makes it, and that scheduler holds it then.
use Rattle.std.proofs.Common.{◌≡◌, ◌≢◌, ◌⊎◌, ℕ, ◌<◌, ◌≤◌, List, [], ◌∷◌, ◌++◌, true}
use Rattle.std.proofs.Common.{refl, sym, ap, ◌∙◌, subst, inl, inr, arith}
use Rattle.std.specs.Prelude.{Bool, false, Option, None, Some, ◌==◌, ◌||◌}
use Rattle.std.specs.List.{list_any}
use Rattle.std.proofs.lemmas.Bool.{cases_Bool, eqb-true}
use Rattle.std.proofs.lemmas.List.{append_assoc}
use Rattle.ea_model.specs.declared.carriers.Place.{Place}
use Rattle.ea_model.specs.Entries.{Entry}
use Rattle.ea_model.specs.declared.entries.Entry.TheVariants as entry
use Rattle.ea_model.specs.declared.operations.Op.{Op}
use Rattle.ea_model.specs.declared.operations.Op.TheVariants as op
use Rattle.ea_model.specs.Content.{Content}
use Rattle.ea_model.specs.Trace.{makes}
use Rattle.ea_machine.specs.Actor.{Actor}
use Rattle.ea_machine.specs.Machine.{after_row, onward, onward_at, run}
use Rattle.ea_machine.specs.Nodes.{named_at}
use Rattle.ea_machine.specs.Setup.{Setup}
use Rattle.ea_machine.specs.State.{State}
use Rattle.ea_machine.specs.Tasks.{later}
use Rattle.ea_machine.specs.Sums.{one_if}
use Rattle.ea_machine.specs.Statistics.{observed}
use Rattle.ea_machine.specs.declared.asks.Ask.{Ask}
use Rattle.ea_machine.specs.declared.nodes.Named.{Named}
use Rattle.ea_machine.specs.declared.stages.Route.{Route}
use Rattle.ea_machine.specs.declared.stages.Stage.{Stage}
use Rattle.ea_machine.specs.declared.stages.Stage.TheVariants.{Begin, Routed, Collecting, Searching}
use Rattle.ea_machine.specs.declared.stages.Stage.TheVariants.{Fetching, Creating, Giving, Taking}
use Rattle.ea_machine.specs.declared.stages.Stage.TheVariants.{Ended, Ready}
use Rattle.ea_machine.specs.declared.tasks.Gone.{Gone}
use Rattle.ea_machine.specs.declared.tasks.Task.TheVariants.{Freeing, Moving}
use Rattle.ea_machine.specs.declared.tasks.Why.TheVariants.{Walk, For}
use Rattle.ea_sound.specs.Chosen.{IsPlacement}
use Rattle.ea_sound.specs.Contents.{seats}
use Rattle.ea_sound.specs.Entries.{HasSkipped, Makes, Tells}
use Rattle.ea_sound.specs.Made.{HoldsOld, IsMadeBy, MakesItsOwn}
use Rattle.ea_sound.specs.Names.{allocated, made_in, only, to_make, unplaced}
use Rattle.ea_sound.specs.Present.{Asked, Fits, OfAsk, OfTask, OldHeld, Rule}
use Rattle.ea_sound.specs.Released.{blocks_named, says_failed}
use Rattle.ea_sound.specs.Turns.{HoldsAfter, actor_after, answered, begun, log_after}
use Rattle.ea_sound.proofs.BeginTurns.{IsInBegin, Walks, walks}
use Rattle.ea_sound.proofs.Chronicle.{SoFar}
use Rattle.ea_sound.proofs.Chronicled.{skips-unheld, so_far, turn-told}
use Rattle.ea_sound.proofs.ChroniclePlaces.{OneMore, Stays}
use Rattle.ea_sound.proofs.Fading.{make-fades}
use Rattle.ea_sound.proofs.Global.{working-scheduler}
use Rattle.ea_sound.proofs.GoneNames.{failed-none}
use Rattle.ea_sound.proofs.HandedNames.{split-snoc}
use Rattle.ea_sound.proofs.HeldBlocks.{not_held}
use Rattle.ea_sound.proofs.Numbered.{scheduler-seat}
use Rattle.ea_sound.proofs.Totals.{put-here, total-part, total-put}
use Rattle.ea_sound.proofs.TurnLists.{run-snoc, step-ended, step-is, step-mine}

-- the first of the operations makes a name that none of the others makes
pub first-makes : (name : ℕ) (ops : List Op) → 0 < made_in name ops → made_in name (later ops) ≡ 0
    → (o : Op) × (others : List Op) × (ops ≡ o ∷ others) × (makes name o ≡ true)
first-makes name [] some none = absurd (omega (arith, some))
first-makes name (o ∷ ops) some none = elim (cases_Bool (makes name o)) [
  | inl t ↦ (o, ops, refl, t)
  | inr f ↦ absurd (omega (arith, some, none, ap one_if f))
]

later-fewer : (name : ℕ) (ops : List Op) → made_in name (later ops) ≤ made_in name ops
later-fewer name [] = omega arith
later-fewer name (o ∷ ops) = omega arith

-- what is said by the last of a list is said by one of it
any-last : (says : Entry → Bool) (xs : List Entry) (x : Entry) → says x ≡ true
    → list_any says (xs ++ x ∷ []) ≡ true
any-last says [] x is = by (says x) is where
  by : (b : Bool) → b ≡ true → (b || false) ≡ true
  by true is = refl
  by false is = absurd cc
any-last says (y ∷ xs) x is = either (says y) (any-last says xs x is) where
  either : {c : Bool} (b : Bool) → c ≡ true → (b || c) ≡ true
  either true is = refl
  either false is = is

-- what is still to be made are the operations left, but where a block is moving
pub record IsMoving (st : Stage Content) : Type 0 where
  pub route : Route Content
  pub old : ℕ
  pub fresh : ℕ
  pub place : Place
  pub gone : Gone
  pub is : st ≡ Routed route (For (Moving old fresh place)) gone

pub unplaced-or : (st : Stage Content) → ((ops : List Op) → unplaced st ops ≡ ops) ⊎ IsMoving st
unplaced-or Begin = inl (λ ops. refl)
unplaced-or (Routed r Walk g) = inl (λ ops. refl)
unplaced-or (Routed r (For (Freeing n)) g) = inl (λ ops. refl)
unplaced-or (Routed r (For (Moving o n p)) g) =
    inr (record { route = r; old = o; fresh = n; place = p; gone = g; is = refl })
unplaced-or (Collecting c) = inl (λ ops. refl)
unplaced-or (Searching ask at part) = inl (λ ops. refl)
unplaced-or (Fetching ask at part seen) = inl (λ ops. refl)
unplaced-or (Creating ask p) = inl (λ ops. refl)
unplaced-or (Giving h to) = inl (λ ops. refl)
unplaced-or (Taking n tries left) = inl (λ ops. refl)
unplaced-or Ended = inl (λ ops. refl)
unplaced-or Ready = inl (λ ops. refl)

unplaced-fewer : (name : ℕ) (st : Stage Content) (ops : List Op)
    → made_in name (unplaced st ops) ≤ made_in name ops
unplaced-fewer name st ops = elim (unplaced-or st) [
  | inl same ↦ omega (arith, ap (made_in name) (same ops))
  | inr m ↦ omega (
    arith,
    later-fewer name ops,
    ap (λ s. made_in name (unplaced s ops)) m.is,
  )
]

-- a name that is held has a block, so no operation is still to make it
module _ (e : Setup) (rules : (L : List ℕ) → Rule e (run e L)) (name me : ℕ) (seat : me < seats e)
  where
    pub held-made : (M : List ℕ) → HoldsAfter e M me name → to_make e name (run e M) ≡ 0
    held-made M h = elim (cases_zero (allocated e (only name) (run e M))) [
      | inl none ↦ absurd (let never : None ≡ Some h.0 =
          sym (not_held e (run e M) me seat (rules M).kept (actor_after e M me) refl name none)
          ∙ h.1 in cc)
      | inr some ↦ omega (arith, some, (rules M).present.later name)
    ] where
      cases_zero : (n : ℕ) → (n ≡ 0) ⊎ (0 < n)
      cases_zero n = grind arith

module _ (e : Setup) (rules : (L : List ℕ) → Rule e (run e L)) (name : ℕ) (L : List ℕ) (me : ℕ)
    (still : 0 < to_make e name (run e L))
    (block : 0 < blocks_named e name (run e (L ++ me ∷ []))) where
  abbrev turn : List ℕ
  turn = L ++ me ∷ []

  abbrev a : Actor
  a = actor_after e L me

  abbrev b : Actor
  b = actor_after e turn me

  -- how many operations of a scheduler are still to make the name
  abbrev share : Actor → ℕ
  share x = made_in name (unplaced x.stage x.todo)

  made-now : to_make e name (run e turn) ≡ 0
  made-now = omega (arith, (rules turn).present.later name, block)

  works : a.stage ≢ Ended
  works q = omega (
    arith,
    still,
    made-now,
    ap (to_make e name) (run-snoc e L me ∙ step-ended e (run e L) me q),
  )

  seat : me < seats e
  seat = scheduler-seat e me (working-scheduler e (run e L) (rules L).kept me works)

  share-after : share b ≡ 0
  share-after = omega (arith, made-now, total-part share (run e turn).actors me (seats e) seat)

  share-before : 0 < share a
  share-before =
      let t = step-is e (run e L) me works in
      let q = run-snoc e L me ∙ t.1 in
      omega (
        arith,
        still,
        made-now,
        share-after,
        ap (to_make e name) q,
        ap (λ (w : State). share (w.actors me)) q,
        ap share (put-here (run e L).actors me t.0 me refl),
        total-put share (run e L).actors me t.0 (seats e) seat,
      )

  -- so what was placed in this turn or before was placed in it
  placed-now : (before since : List ℕ) → turn ≡ before ++ me ∷ since
      → HoldsAfter e (before ++ me ∷ []) me name → HoldsAfter e turn me name
  placed-now before since q h = elim (split-snoc L me before me since q) [
    | inl now ↦ subst (λ l. HoldsAfter e l me name) (ap (λ l. l ++ me ∷ []) (sym now.1)) h
    | inr earlier ↦ absurd (omega (
      arith,
      still,
      held-made e rules name me seat (before ++ me ∷ []) h,
      ap (λ l. to_make e name (run e l))
          (earlier.1 ∙ sym (append_assoc before (me ∷ []) earlier.0)),
      make-fades e rules name (before ++ me ∷ []) earlier.0,
    ))
  ]

  absent : named_at name a.held ≡ None
  absent = not_held e (run e L) me seat (rules L).kept a refl name
      (omega (arith, still, (rules L).present.later name))

  -- the entry of an operation that makes the name says that it was placed, or resized in its place
  says-same : (n m : ℕ) → n ≡ m → (name == m) ≡ true → (name == n) ≡ true
  says-same n m q is = subst (λ k. (name == k) ≡ true) (sym q) is

  name-is : (n m : ℕ) → n ≡ m → (name == m) ≡ true → n ≡ name
  name-is n m q is = q ∙ sym (eqb-true name m is)

  placed-holds : (n : ℕ) (p : Place) → n ≡ name → IsPlacement e L me n p
      → HoldsAfter e turn me name
  placed-holds n p q h = placed-now h.before h.since h.split
      (subst (λ k. HoldsAfter e (h.before ++ me ∷ []) me k) q h.holds)

  entry-holds : (o : Op) (x : Entry) → Makes o x → makes name o ≡ true → Tells e L me x
      → (says_failed name x ≡ true → ⊥) → HoldsAfter e turn me name
  entry-holds (op.Alloc m bytes) (entry.Alloc n place) of is t never =
      placed-holds n place (name-is n m of is) t
  entry-holds (op.Alloc m bytes) (entry.AllocFail n need looked why) of is t never =
      absurd (never (says-same n m of.0 is))
  entry-holds (op.Alloc m bytes) (entry.Free n) of is t never = absurd of
  entry-holds (op.Alloc m bytes) (entry.FreeQueued n to) of is t never = absurd of
  entry-holds (op.Alloc m bytes) (entry.FreeSkipped n) of is t never = absurd of
  entry-holds (op.Alloc m bytes) (entry.ReallocHere o n place) of is t never = absurd of
  entry-holds (op.Alloc m bytes) (entry.ReallocMoved o n place) of is t never = absurd of
  entry-holds (op.Alloc m bytes) (entry.ReallocQueued o n place to) of is t never = absurd of
  entry-holds (op.Alloc m bytes) (entry.ReallocFail o n need looked why) of is t never = absurd of
  entry-holds (op.Alloc m bytes) (entry.ReallocSkipped o n) of is t never = absurd of
  entry-holds (op.Alloc m bytes) (entry.Give n to) of is t never = absurd of
  entry-holds (op.Alloc m bytes) (entry.GiveSkipped n to) of is t never = absurd of
  entry-holds (op.Alloc m bytes) (entry.Take n) of is t never = absurd of
  entry-holds (op.Alloc m bytes) (entry.TakeAbsent n tries) of is t never = absurd of
  entry-holds (op.Alloc m bytes) (entry.Info reports) of is t never = absurd of
  entry-holds (op.Alloc m bytes) entry.Idle of is t never = absurd of
  entry-holds (op.Alloc m bytes) (entry.Stopped steps) of is t never = absurd of
  entry-holds (op.Realloc old m bytes) (entry.Alloc n place) of is t never = absurd of
  entry-holds (op.Realloc old m bytes) (entry.AllocFail n need looked why) of is t never = absurd of
  entry-holds (op.Realloc old m bytes) (entry.Free n) of is t never = absurd of
  entry-holds (op.Realloc old m bytes) (entry.FreeQueued n to) of is t never = absurd of
  entry-holds (op.Realloc old m bytes) (entry.FreeSkipped n) of is t never = absurd of
  entry-holds (op.Realloc old m bytes) (entry.ReallocHere o n place) of is t never =
      subst (λ k. HoldsAfter e turn me k) (name-is n m of.1 is) t.holds
  entry-holds (op.Realloc old m bytes) (entry.ReallocMoved o n place) of is t never =
      placed-holds n place (name-is n m of.1 is) t.0
  entry-holds (op.Realloc old m bytes) (entry.ReallocQueued o n place to) of is t never =
      placed-holds n place (name-is n m of.1 is) t.0
  entry-holds (op.Realloc old m bytes) (entry.ReallocFail o n need looked why) of is t never =
      absurd (never (says-same n m of.1 is))
  entry-holds (op.Realloc old m bytes) (entry.ReallocSkipped o n) of is t never =
      absurd (never (says-same n m of.1 is))
  entry-holds (op.Realloc old m bytes) (entry.Give n to) of is t never = absurd of
  entry-holds (op.Realloc old m bytes) (entry.GiveSkipped n to) of is t never = absurd of
  entry-holds (op.Realloc old m bytes) (entry.Take n) of is t never = absurd of
  entry-holds (op.Realloc old m bytes) (entry.TakeAbsent n tries) of is t never = absurd of
  entry-holds (op.Realloc old m bytes) (entry.Info reports) of is t never = absurd of
  entry-holds (op.Realloc old m bytes) entry.Idle of is t never = absurd of
  entry-holds (op.Realloc old m bytes) (entry.Stopped steps) of is t never = absurd of
  entry-holds (op.Free m) x of is t never = absurd cc
  entry-holds (op.Give m to) x of is t never = absurd cc
  entry-holds (op.Take m tries) x of is t never = absurd cc
  entry-holds op.Info x of is t never = absurd cc
  entry-holds op.Idle x of is t never = absurd cc

  -- the old name of a reallocation is held before it
  abbrev mid : Actor
  mid = begun e L me

  now : b ≡ observed (onward e me mid)
  now = ap (λ (w : State). w.actors me) (run-snoc e L me) ∙ step-mine e (run e L) me works

  -- the turn did more than a part of the begin
  stays-begun : (st : Stage Content) → mid.stage ≡ st → onward_at e me mid st ≡ mid
      → ((ops : List Op) → unplaced st ops ≡ ops) → mid.todo ≡ a.todo → ⊥
  stays-begun st q same plain todo = omega (
    arith,
    share-before,
    share-after,
    unplaced-fewer name a.stage a.todo,
    ap share (now ∙ ap (λ s. observed (onward_at e me mid s)) q ∙ ap observed same),
    ap (λ s. made_in name (unplaced s mid.todo)) q,
    ap (made_in name) (plain mid.todo ∙ todo),
  )

  module _ (old bytes : ℕ) (os : List Op) (todo : a.todo ≡ op.Realloc old name bytes ∷ os)
      (none : made_in name (later a.todo) ≡ 0) where
    asked-holds : (ask : Ask) → Asked e (run e L) a ask → HoldsAfter e L me old
    asked-holds ask asked =
        let of = subst (OfAsk ask) todo asked.of in (
          of.2.0,
          subst (λ n. named_at n a.held ≡ Some of.2.0) of.2.2
              (subst (λ o. OldHeld o a.held) of.2.1 asked.old),
        )

    skips-none : mid.stage ≡ Ready → mid.todo ≡ a.todo → named_at old mid.held ≡ None → ⊥
    skips-none ready same absent =
        let skipped = subst (λ ops. HasSkipped mid ops (log_after e turn me)) (same ∙ todo)
        (skips-unheld e L me ready) absent in
        omega (
          arith,
          block,
          failed-none e rules turn name me
              (ap (list_any (says_failed name)) skipped
              ∙ any-last (says_failed name) mid.log (entry.ReallocSkipped old name)
              (grind arith)),
        )

    walk-holds : (st : Stage Content) → mid.stage ≡ st → Walks a mid → IsInBegin st
        → HoldsAfter e L me old
    walk-holds Ready q w is = by (named_at old mid.held) refl where
      by : (o : Option Named) → named_at old mid.held ≡ o → HoldsAfter e L me old
      by None held = absurd (skips-none q w.0.1 held)
      by (Some x) held = (x, ap (named_at old) (sym w.2) ∙ held)
    walk-holds Begin q w is = absurd (stays-begun Begin q refl (λ ops. refl) w.0.1)
    walk-holds (Collecting c) q w is =
        absurd (stays-begun (Collecting c) q refl (λ ops. refl) w.0.1)
    walk-holds (Routed r Walk g) q w is =
        absurd (stays-begun (Routed r Walk g) q refl (λ ops. refl) w.0.1)
    walk-holds Ended q w is = absurd (stays-begun Ended q refl (λ ops. refl) w.0.1)
    walk-holds (Routed r (For task) g) q w is = absurd is
    walk-holds (Searching ask at part) q w is = absurd is
    walk-holds (Fetching ask at part seen) q w is = absurd is
    walk-holds (Creating ask p) q w is = absurd is
    walk-holds (Giving h to) q w is = absurd is
    walk-holds (Taking n tries left) q w is = absurd is

    walked-holds : (st : Stage Content) → a.stage ≡ st → IsInBegin st → st ≢ Ended → st ≢ Ready
        → HoldsAfter e L me old
    walked-holds st q is ended ready =
        let w = subst (λ s. Walks a (after_row e me a (answered (run e L) me) s)) (sym q)
        (walks e me a st (answered (run e L) me) is ended ready) in
        walk-holds mid.stage refl w w.1

    old-at : (st : Stage Content) → a.stage ≡ st → Fits e (run e L) me a st
        → HoldsAfter e L me old
    old-at Begin q f = walked-holds Begin q tt (λ r. absurd cc) (λ r. absurd cc)
    old-at (Routed r Walk g) q f =
        walked-holds (Routed r Walk g) q tt (λ s. absurd cc) (λ s. absurd cc)
    old-at (Collecting c) q f = walked-holds (Collecting c) q tt (λ r. absurd cc) (λ r. absurd cc)
    old-at (Routed r (For (Freeing n)) g) q f = absurd (subst (OfTask (Freeing n)) todo f.1)
    old-at (Routed r (For (Moving o n p)) g) q f = absurd (omega (
      arith,
      share-before,
      none,
      ap (λ s. made_in name (unplaced s a.todo)) q,
    ))
    old-at (Searching ask at part) q f = asked-holds ask f.0
    old-at (Fetching ask at part seen) q f = asked-holds ask f.0
    old-at (Creating ask p) q f = asked-holds ask f.0
    old-at (Giving h to) q f =
        absurd (let t : op.Realloc old name bytes ∷ os ≡ op.Give h.name to ∷ f.1.0
        = sym todo ∙ f.1.1 in cc)
    old-at (Taking n tries left) q f =
        absurd (let t : op.Realloc old name bytes ∷ os ≡ op.Take n tries ∷ f.1.0
        = sym todo ∙ f.1.1 in cc)
    old-at Ended q f = absurd (works q)
    old-at Ready q f = absurd f

  old-holds : (o : Op) (os : List Op) → a.todo ≡ o ∷ os → makes name o ≡ true
      → made_in name (later a.todo) ≡ 0 → HoldsOld e L me o
  old-holds (op.Realloc old n bytes) os todo is none =
      let same = eqb-true name n is in
      old-at old bytes os (todo ∙ ap (λ k. op.Realloc old k bytes ∷ os) (sym same)) none
      a.stage refl ((rules L).present.fits me)
  old-holds (op.Alloc n bytes) os todo is none = tt
  old-holds (op.Free n) os todo is none = tt
  old-holds (op.Give n to) os todo is none = tt
  old-holds (op.Take n tries) os todo is none = tt
  old-holds op.Info os todo is none = tt
  old-holds op.Idle os todo is none = tt

  -- the operation made its entry in this turn
  by-entry : OneMore e rules L me b → IsMadeBy e L me name
  by-entry m =
      let none : made_in name (later a.todo) ≡ 0 = omega (
        arith,
        share-after,
        ap (λ st. made_in name (unplaced st b.todo)) m.begins,
        ap (made_in name) m.left,
      ) in
      let f = first-makes name a.todo
      (omega (arith, share-before, unplaced-fewer name a.stage a.todo)) none in
      record {
        first = f.0;
        others = f.1;
        todo = f.2;
        makes = f.3;
        absent = absent;
        holds = entry-holds f.0 m.entry
            (subst (λ o. Makes o m.entry) (sym (first-is f.0 f.1 f.2 m)) m.of.makes) f.3 m.tells
            (λ said. omega (arith, block, m.none name said));
        old = old-holds f.0 f.1 f.2 f.3 none;
      } where
        same-first : (o p : Op) (os ps : List Op) → o ∷ os ≡ p ∷ ps → o ≡ p
        same-first o p os ps q = cc

        first-is : (o : Op) (os : List Op) → a.todo ≡ o ∷ os → (m : OneMore e rules L me b)
            → o ≡ m.of.first
        first-is o os q m = same-first o m.of.first os m.of.others (sym q ∙ m.of.is)

  -- or its new block is placed, and the old one is on its way
  by-moving : b.todo ≡ a.todo → IsMoving b.stage → IsMadeBy e L me name
  by-moving todo m =
      let told = subst (SoFar e turn me b) m.is (so_far e rules turn me).0 in
      let none : made_in name (later b.todo) ≡ 0 = omega (
        arith,
        share-after,
        ap (λ st. made_in name (unplaced st b.todo)) m.is,
      ) in
      let f = first-makes name b.todo (omega (
        arith,
        share-before,
        unplaced-fewer name a.stage a.todo,
        ap (made_in name) todo,
      )) none in
      record {
        first = f.0;
        others = f.1;
        todo = sym todo ∙ f.2;
        makes = f.3;
        absent = absent;
        holds = placed-now told.1.before told.1.since told.1.split
            (subst (λ k. HoldsAfter e (told.1.before ++ me ∷ []) me k)
            (task-makes f.0 f.1 (subst (OfTask (Moving m.old m.fresh m.place)) f.2 told.0) f.3)
            told.1.holds);
        old = old-holds f.0 f.1 (sym todo ∙ f.2) f.3
            (ap (λ ops. made_in name (later ops)) (sym todo) ∙ none);
      } where
        task-makes : (o : Op) (os : List Op) → OfTask (Moving m.old m.fresh m.place) (o ∷ os)
            → makes name o ≡ true → m.fresh ≡ name
        task-makes (op.Realloc old n bytes) os of is = name-is m.fresh n of.1 is
        task-makes (op.Alloc n bytes) os of is = absurd of
        task-makes (op.Free n) os of is = absurd of
        task-makes (op.Give n to) os of is = absurd of
        task-makes (op.Take n tries) os of is = absurd of
        task-makes op.Info os of is = absurd of
        task-makes op.Idle os of is = absurd of

  by-staying : Stays e rules L me b → IsMadeBy e L me name
  by-staying k = elim (unplaced-or b.stage) [
    | inl same ↦ absurd (omega (
      arith,
      share-before,
      share-after,
      unplaced-fewer name a.stage a.todo,
      ap (made_in name) (same b.todo),
      ap (made_in name) k.1,
    ))
    | inr m ↦ by-moving k.1 m
  ]

  is-made : IsMadeBy e L me name
  is-made = elim (turn-told e rules L me) [ inl k ↦ by-staying k | inr m ↦ by-entry m ]

pub makes-its_own : (e : Setup) → ((L : List ℕ) → Rule e (run e L)) → MakesItsOwn e
makes-its_own e rules name L me still block = is-made e rules name L me still block
