-- Which carriers a step may take away or leave with fewer pages, by where its scheduler is: what
-- the work of the step does to carriers, in these words.
use Rattle.std.proofs.Common.{◌≡◌, ◌≢◌, ℕ, ◌≤◌, List, [], ◌∷◌, ◌++◌, true, false, refl, sym}
use Rattle.std.proofs.Common.{ap, ◌∙◌, subst, arith}
use Rattle.std.specs.Prelude.{Option, None, Some, flat_map, ◌==◌}
use Rattle.std.proofs.lemmas.Bool.{true≢false}
use Rattle.std.proofs.lemmas.List.{map-append}
use Rattle.ea_model.specs.declared.operations.Op.{Op}
use Rattle.ea_model.specs.declared.operations.Op.TheVariants as op
use Rattle.ea_model.specs.Content.{Content}
use Rattle.ea_machine.specs.declared.nodes.Named.{Named}
use Rattle.ea_machine.specs.declared.nodes.Node.{Node}
use Rattle.ea_machine.specs.declared.nodes.Node.TheVariants.{Block, Carrier}
use Rattle.ea_machine.specs.declared.stages.Route.{Route}
use Rattle.ea_machine.specs.declared.stages.Route.TheVariants.{Looking, Trying, Settling}
use Rattle.ea_machine.specs.declared.stages.Route.TheVariants.{Abandoning, Sending, Clearing}
use Rattle.ea_machine.specs.declared.stages.Route.TheVariants.{Pushing, Linking}
use Rattle.ea_machine.specs.declared.stages.Stage.{Stage}
use Rattle.ea_machine.specs.declared.stages.Stage.TheVariants.{Begin, Routed, Collecting, Searching}
use Rattle.ea_machine.specs.declared.stages.Stage.TheVariants.{Fetching, Creating, Giving, Taking}
use Rattle.ea_machine.specs.declared.stages.Stage.TheVariants.{Ended, Ready}
use Rattle.ea_machine.specs.declared.tasks.Gone.{Gone}
use Rattle.ea_machine.specs.declared.tasks.Why.{Why}
use Rattle.ea_machine.specs.declared.tasks.Why.TheVariants.{Walk, For}
use Rattle.ea_machine.specs.Actor.{Actor}
use Rattle.ea_machine.specs.Lists.{times}
use Rattle.ea_machine.specs.Machine.{after_row, onward, wants, wants_at}
use Rattle.ea_machine.specs.Nodes.{named_at}
use Rattle.ea_machine.specs.Releases.{turned}
use Rattle.ea_machine.specs.Rows.{Answer, Done, Head, Rests, Passes, Saw, Won, Lost, Home, Got}
use Rattle.ea_machine.specs.Setup.{Setup, is_scheduler, migration}
use Rattle.ea_machine.specs.State.{State}
use Rattle.ea_machine.specs.Statistics.{observed}
use Rattle.ea_machine.specs.Sums.{one_if}
use Rattle.ea_machine.specs.Walks.{with_passed}
use Rattle.ea_sound.specs.Present.{Fits, FitsRoute, Rule}
use Rattle.ea_sound.specs.Turns.{advanced, answered}
use Rattle.ea_sound.proofs.BeginTurns.{IsInBegin, walks}
use Rattle.ea_sound.proofs.OffStages.{IsOffStage, is-off}
use Rattle.ea_sound.proofs.ShortRoutes.{turned-short}
use Rattle.ea_sound.proofs.Weights.{one-itself, sum-append}
use Rattle.ea_steps.specs.Touched.{at_begin, at_stage, blocks_of, carriers_of, cleared_by}
use Rattle.ea_steps.specs.Touched.{as_list, first_freed, may_go, may_shrink, of_operation, touched}
use Rattle.ea_steps.proofs.KeptCarriers.{AllMayGo, MayGo, RouteMayGo}
use Rattle.ea_steps.proofs.MadeCarriers.{Any, OldGoing, OpGoing}
use Rattle.ea_steps.proofs.StepCarriers.{BeginMayGo, Does, RowMayGo, step-does}

-- the number is among these
abbrev pub IsIn : ℕ → List ℕ → Type 0
IsIn c ns = 1 ≤ times c ns

in-first : (c : ℕ) (ns ms : List ℕ) → IsIn c ns → IsIn c (ns ++ ms)
in-first c ns ms h = omega (arith, h, sum-append (λ n. one_if (n == c)) ns ms)

in-second : (c : ℕ) (ns ms : List ℕ) → IsIn c ms → IsIn c (ns ++ ms)
in-second c ns ms h = omega (arith, h, sum-append (λ n. one_if (n == c)) ns ms)

-- of blocks
abbrev LiesIn : ℕ → List Named → Type 0
LiesIn c names = IsIn c (carriers_of names)

lies-first : (c : ℕ) (xs ys : List Named) → LiesIn c xs → LiesIn c (xs ++ ys)
lies-first c xs ys h = subst (IsIn c) (sym (map-append (λ (n : Named). n.spot.carrier) xs ys))
    (in-first c (carriers_of xs) (carriers_of ys) h)

lies-second : (c : ℕ) (xs ys : List Named) → LiesIn c ys → LiesIn c (xs ++ ys)
lies-second c xs ys h = subst (IsIn c) (sym (map-append (λ (n : Named). n.spot.carrier) xs ys))
    (in-second c (carriers_of xs) (carriers_of ys) h)

module _ (e : Setup) (w : State) (rule : Rule e w) (me : ℕ) (is : is_scheduler e me ≡ true) where
  abbrev a : Actor
  a = w.actors me

  abbrev r : Answer
  r = answered w me

  -- those that may go, and those that may get fewer pages
  abbrev pub Cleared : ℕ → Type 0
  Cleared c = IsIn c (may_go (migration e) a (wants a) r)

  abbrev pub Cut : ℕ → Type 0
  Cut c = IsIn c (may_shrink a)

  -- a held block that goes
  abbrev pub Going : Named → Type 0
  Going h = (n : ℕ) × (named_at n a.held ≡ Some h)
      × (migration e ≡ false → Cleared h.spot.carrier)

  abbrev May : ℕ → Type 0
  May c = MayGo Any Cut Cleared e me c

  pub going-may : (h : Named) → Going h → May h.spot.carrier
  going-may h going off own = going.2 off

  fits : (st : Stage Content) → a.stage ≡ st → Fits e w me a st
  fits st now = subst (Fits e w me a) now (rule.present.fits me)

  off-stage : migration e ≡ false → (st : Stage Content) → a.stage ≡ st → IsOffStage st
  off-stage off st now = subst IsOffStage now (is-off e w rule me is off)

  never : migration e ≡ true → migration e ≡ false → ⊥
  never on off = true≢false (sym on ∙ off)

  cleared-row : (c : ℕ) (st : Stage Content) → a.stage ≡ st
      → IsIn c (cleared_by (wants_at a.next st)) → Cleared c
  cleared-row c st now h = in-first c (cleared_by (wants a)) _
      (subst (λ st. IsIn c (cleared_by (wants_at a.next st))) (sym now) h)

  cleared-touched : migration e ≡ false → (c : ℕ) (st : Stage Content) → a.stage ≡ st
      → LiesIn c (at_stage a r st) → Cleared c
  cleared-touched off c st now h = in-second c (cleared_by (wants a)) _
      (subst (λ on. LiesIn c (touched on a r)) (sym off)
      (subst (λ st. LiesIn c (at_stage a r st)) (sym now) h))

  -- nodes whose blocks may go
  all-may : (ns : List Node) → ((c : ℕ) → LiesIn c (blocks_of ns) → May c)
      → AllMayGo Any Cut Cleared e me ns
  all-may [] h = tt
  all-may (Block n p ∷ ns) h = (
    h p.carrier (omega (arith, one-itself p.carrier)),
    all-may ns (λ c some. h c (omega (arith, some))),
  )
  all-may (Carrier n ∷ ns) h = all-may ns h

  begin-may : (z : Answer) → r ≡ z → a.stage ≡ Begin
      → BeginMayGo e me Going Cut Cleared going-may a z
  begin-may (Passes None) same now = all-may (with_passed a.next a.passed)
      (λ c some off own. cleared-touched off c Begin now
      (subst (λ z. LiesIn c (at_begin a z)) (sym same)
      (lies-first c (blocks_of (with_passed a.next a.passed)) (of_operation a) some)))
  begin-may (Passes (Some n)) same now = tt
  begin-may (Head n) same now = tt
  begin-may Rests same now = tt
  begin-may Done same now = tt
  begin-may (Saw v) same now = tt
  begin-may (Won x) same now = tt
  begin-may (Lost v) same now = tt
  begin-may (Home x) same now = tt
  begin-may (Got p) same now = tt

  module _ (y : Why) (g : Gone) where
    route-may : (z : Route Content) → a.stage ≡ Routed z y g → FitsRoute e w.shared me z
        → RouteMayGo Any Cut Cleared e me z
    route-may (Looking hand) now f = λ off own. absurd (never f.1 off)
    route-may (Trying hand seen) now f = tt
    route-may (Settling x) now f = λ off own. absurd (never f.1 off)
    route-may (Abandoning x) now f = tt
    route-may (Sending x) now f = tt
    route-may (Clearing x) now f =
        cleared-row x.number (Routed (Clearing x) y g) now (omega (arith, one-itself x.number))
    route-may (Pushing node to) now f = tt
    route-may (Linking node to) now f = tt

  -- where carriers don't migrate a route of a walk is over once its node is linked
  linked-may : (c : ℕ) (z : Route Content) (g : Gone) → a.stage ≡ Routed z Walk g
      → (turned e me z g a r).route ≡ None → LiesIn c (blocks_of a.passed) → May c
  linked-may c (Linking node to) g now over some = λ off own.
      cleared-touched off c (Routed (Linking node to) Walk g) now
      (lies-first c (blocks_of a.passed) (of_operation a) some)
  linked-may c (Pushing node to) g now over some = absurd cc
  linked-may c (Looking hand) g now over some =
      λ off own. absurd (off-stage off (Routed (Looking hand) Walk g) now)
  linked-may c (Trying hand seen) g now over some =
      λ off own. absurd (off-stage off (Routed (Trying hand seen) Walk g) now)
  linked-may c (Settling x) g now over some =
      λ off own. absurd (off-stage off (Routed (Settling x) Walk g) now)
  linked-may c (Abandoning x) g now over some =
      λ off own. absurd (off-stage off (Routed (Abandoning x) Walk g) now)
  linked-may c (Sending x) g now over some =
      λ off own. absurd (off-stage off (Routed (Sending x) Walk g) now)
  linked-may c (Clearing x) g now over some =
      λ off own. absurd (off-stage off (Routed (Clearing x) Walk g) now)

  old-may : (o : Option Named) → migration e ≡ true → OldGoing e me Going o
  old-may None on = tt
  old-may (Some h) on = λ off. absurd (never on off)

  row-may : (st : Stage Content) → st ≢ Ended → a.stage ≡ st
      → RowMayGo e me Going Cut Cleared going-may a r st
  row-may Begin ne now = begin-may r refl now
  row-may (Routed z Walk g) ne now = (
    route-may Walk g z now (fits (Routed z Walk g) now).0,
    λ over. subst (AllMayGo Any Cut Cleared e me) (sym (turned-short e me z g a r).1.0)
        (all-may a.passed (λ c some. linked-may c z g now over some)),
  )
  row-may (Routed z (For task) g) ne now =
      route-may (For task) g z now (fits (Routed z (For task) g) now).0
  row-may (Collecting n) ne now = (
    cleared-row n (Collecting n) now (omega (arith, one-itself n)),
    all-may a.passed (λ c some off own. absurd (off-stage off (Collecting n) now)),
  )
  row-may (Searching ask n part) ne now =
      let on = (fits (Searching ask n part) now).4 in (old-may ask.old on, on)
  row-may (Fetching ask n part seen) ne now =
      let on = (fits (Fetching ask n part seen) now).3 in (old-may ask.old on, on)
  row-may (Creating ask p) ne now =
      let f = fits (Creating ask p) now in (old-may ask.old f.2, f.1)
  row-may (Giving given to) ne now = tt
  row-may (Taking n tries left) ne now = tt
  row-may Ended ne now = absurd (ne refl)
  row-may Ready ne now = absurd (fits Ready now)

  -- where the begin of the operation is over, the block of the operation may go
  begin-ready : (z : Answer) → r ≡ z → a.stage ≡ Begin
      → (after_row e me a z Begin).stage ≡ Ready → migration e ≡ false → (c : ℕ)
      → LiesIn c (of_operation a) → Cleared c
  begin-ready z same now ready off c some =
      cleared-touched off c Begin now (subst (λ z. LiesIn c (at_begin a z)) (sym same) (by z ready))
    where
      by : (z : Answer) → (after_row e me a z Begin).stage ≡ Ready → LiesIn c (at_begin a z)
      by (Head None) ready = some
      by (Head (Some n)) ready = absurd cc
      by Rests ready = some
      by (Passes None) ready =
          lies-second c (blocks_of (with_passed a.next a.passed)) (of_operation a) some
      by (Passes (Some n)) ready = absurd cc
      by Done ready = absurd cc
      by (Saw v) ready = absurd cc
      by (Won x) ready = absurd cc
      by (Lost v) ready = absurd cc
      by (Home x) ready = absurd cc
      by (Got p) ready = absurd cc

  row-ready : (st : Stage Content) → a.stage ≡ st → IsInBegin st → st ≢ Ended → st ≢ Ready
      → (after_row e me a r st).stage ≡ Ready → migration e ≡ false → (c : ℕ)
      → LiesIn c (of_operation a) → Cleared c
  row-ready Begin now is ne nr ready off c some = begin-ready r refl now ready off c some
  row-ready (Routed (Linking node to) Walk g) now is ne nr ready off c some =
      cleared-touched off c (Routed (Linking node to) Walk g) now
      (lies-second c (blocks_of a.passed) (of_operation a) some)
  row-ready (Routed (Pushing node to) Walk g) now is ne nr ready off c some = absurd cc
  row-ready (Routed (Looking hand) Walk g) now is ne nr ready off c some =
      absurd (off-stage off (Routed (Looking hand) Walk g) now)
  row-ready (Routed (Trying hand seen) Walk g) now is ne nr ready off c some =
      absurd (off-stage off (Routed (Trying hand seen) Walk g) now)
  row-ready (Routed (Settling x) Walk g) now is ne nr ready off c some =
      absurd (off-stage off (Routed (Settling x) Walk g) now)
  row-ready (Routed (Abandoning x) Walk g) now is ne nr ready off c some =
      absurd (off-stage off (Routed (Abandoning x) Walk g) now)
  row-ready (Routed (Sending x) Walk g) now is ne nr ready off c some =
      absurd (off-stage off (Routed (Sending x) Walk g) now)
  row-ready (Routed (Clearing x) Walk g) now is ne nr ready off c some =
      absurd (off-stage off (Routed (Clearing x) Walk g) now)
  row-ready (Routed z (For task) g) now is ne nr ready off c some = absurd is
  row-ready (Collecting n) now is ne nr ready off c some =
      absurd (off-stage off (Collecting n) now)
  row-ready (Searching ask n part) now is ne nr ready off c some = absurd is
  row-ready (Fetching ask n part seen) now is ne nr ready off c some = absurd is
  row-ready (Creating ask p) now is ne nr ready off c some = absurd is
  row-ready (Giving given to) now is ne nr ready off c some = absurd is
  row-ready (Taking n tries left) now is ne nr ready off c some = absurd is
  row-ready Ended now is ne nr ready off c some = absurd (ne refl)
  row-ready Ready now is ne nr ready off c some = absurd (nr refl)

  -- the block of the operation lies in one of these carriers
  abbrev InOperation : List Op → ℕ → Type 0
  InOperation ops c =
      LiesIn c (flat_map (λ name. as_list (named_at name a.held)) (first_freed ops))

  in-operation : (n : ℕ) (h : Named) → named_at n a.held ≡ Some h
      → LiesIn h.spot.carrier (as_list (named_at n a.held) ++ [])
  in-operation n h there = subst (λ o. LiesIn h.spot.carrier (as_list o ++ [])) (sym there)
      (omega (arith, one-itself h.spot.carrier))

  op-going : (b : Actor) (ops : List Op) → b.held ≡ a.held → a.todo ≡ ops
      → (migration e ≡ false → (c : ℕ) → LiesIn c (of_operation a) → Cleared c)
      → OpGoing e me Going Cut Cleared going-may b ops
  op-going b [] held todo goes = tt
  op-going b (op.Alloc n bytes ∷ ops) held todo goes = tt
  op-going b (op.Free n ∷ ops) held todo goes = λ h there.
      let was = sym (ap (named_at n) held) ∙ there in
      let lies = subst (λ l. InOperation l h.spot.carrier) (sym todo) (in-operation n h was) in
      (n, was, λ off. goes off h.spot.carrier lies)
  op-going b (op.Realloc n fresh bytes ∷ ops) held todo goes = λ h there.
      let was = sym (ap (named_at n) held) ∙ there in
      let lies = subst (λ l. InOperation l h.spot.carrier) (sym todo) (in-operation n h was) in
      ((n, was, λ off. goes off h.spot.carrier lies), lies)
  op-going b (op.Give n to ∷ ops) held todo goes = tt
  op-going b (op.Take n tries ∷ ops) held todo goes = tt
  op-going b (op.Info ∷ ops) held todo goes = tt
  op-going b (op.Idle ∷ ops) held todo goes = tt

  -- the scheduler once it has done its work
  abbrev pub worked : Actor
  worked = observed (onward e me (advanced e w me))

  pub work-does : a.stage ≢ Ended → Does e me Going Cut Cleared going-may a r a.stage worked
  work-does ne = step-does e me Going Cut Cleared going-may a r
      (λ st now in_begin goes busy ready.
      let t = walks e me a st r in_begin goes busy in
      op-going (after_row e me a r st) (after_row e me a r st).todo t.2 (sym t.0.1)
      (λ off. row-ready st now in_begin goes busy ready off))
      a.stage refl (row-may a.stage ne refl)
