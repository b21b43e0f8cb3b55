-- A block that a step takes away, and that has no other name after it, is one that the step
-- touches; and each of these lies at its spot before the step.
use Rattle.std.proofs.Common.{◌≡◌, ◌≢◌, ℕ, zero, suc, ◌+◌, ◌<◌, ◌≤◌, Bool, true, false, List, []}
use Rattle.std.proofs.Common.{◌∷◌, ◌++◌}
use Rattle.std.proofs.Common.{length, refl, sym, ap, ◌∙◌, subst, inl, inr, arith}
use Rattle.std.specs.Prelude.{Option, None, Some, All, drop, flat_map, ◌||◌}
use Rattle.std.specs.List.{list_any}
use Rattle.std.proofs.lemmas.List.{append-nil}
use Rattle.std.proofs.Math.Seq.{drop-append_seam}
use Rattle.ea_model.specs.declared.carriers.Place.{Place}
use Rattle.ea_model.specs.declared.carriers.Spot.{Spot}
use Rattle.ea_model.specs.declared.entries.Entry.TheVariants as entry
use Rattle.ea_model.specs.declared.operations.Op.{Op}
use Rattle.ea_model.specs.declared.operations.Op.TheVariants as op
use Rattle.ea_model.specs.Content.{Content}
use Rattle.ea_model.specs.Entries.{Entry}
use Rattle.ea_machine.specs.Actor.{Actor, on_route}
use Rattle.ea_machine.specs.Machine.{run, step}
use Rattle.ea_machine.specs.Nodes.{Mark, first_node, name_of, named_at}
use Rattle.ea_machine.specs.Rows.{Answer, Done, Got, Head, Home, Lost, Passes, Rests, Saw, Won}
use Rattle.ea_machine.specs.Setup.{Setup, migration}
use Rattle.ea_machine.specs.State.{State}
use Rattle.ea_machine.specs.Sums.{one_if, sum_over}
use Rattle.ea_machine.specs.Walks.{with_passed}
use Rattle.ea_machine.specs.declared.nodes.Named.{Named}
use Rattle.ea_machine.specs.declared.nodes.Node.{Node}
use Rattle.ea_machine.specs.declared.nodes.Node.TheVariants.{Block, Carrier}
use Rattle.ea_machine.specs.declared.stages.Route.{Route}
use Rattle.ea_machine.specs.declared.stages.Route.TheVariants.{Looking, Trying, Settling}
use Rattle.ea_machine.specs.declared.stages.Route.TheVariants.{Abandoning, Sending, Clearing}
use Rattle.ea_machine.specs.declared.stages.Route.TheVariants.{Pushing, Linking}
use Rattle.ea_machine.specs.declared.stages.Stage.{Stage}
use Rattle.ea_machine.specs.declared.stages.Stage.TheVariants.{Begin, Routed, Collecting, Searching}
use Rattle.ea_machine.specs.declared.stages.Stage.TheVariants.{Fetching, Creating, Giving, Taking}
use Rattle.ea_machine.specs.declared.stages.Stage.TheVariants.{Ended, Ready}
use Rattle.ea_machine.specs.declared.tasks.Why.{Why}
use Rattle.ea_machine.specs.declared.tasks.Why.TheVariants.{Walk, For}
use Rattle.ea_sound.specs.Contents.{seats}
use Rattle.ea_sound.specs.Names.{allocated, of_hand, of_mark, of_named, of_node, of_route, only}
use Rattle.ea_sound.specs.Names.{only_at}
use Rattle.ea_sound.specs.Present.{Rule}
use Rattle.ea_sound.specs.Released.{blocks_named}
use Rattle.ea_sound.specs.Rule.{all_names, names_of}
use Rattle.ea_sound.specs.Turns.{answered}
use Rattle.ea_sound.proofs.BlockWeights.{only_at-itself}
use Rattle.ea_sound.proofs.Chronicled.{turn-told}
use Rattle.ea_sound.proofs.Global.{working-scheduler}
use Rattle.ea_sound.proofs.KeyedWeights.{sum-item}
use Rattle.ea_sound.proofs.Numbered.{scheduler-seat}
use Rattle.ea_sound.proofs.StandingNodes.{all-parts}
use Rattle.ea_sound.proofs.Totals.{put-here, total-part, total-put}
use Rattle.ea_sound.proofs.TurnLists.{run-snoc, step-is, step-mine}
use Rattle.ea_sound.proofs.Weights.{sum-append}
use Rattle.ea_steps.specs.Changes.{renames}
use Rattle.ea_steps.specs.Touched.{as_list, at_begin, at_route, at_stage, blocks_of}
use Rattle.ea_steps.specs.Touched.{first_freed, hand_on, of_operation, touched}
use Rattle.ea_steps.proofs.TouchedNames.{names-remain}

-- the blocks that a step touches weigh no more than the names that stand
module _ (f : ℕ → Spot → ℕ) where
  abbrev weighs : List Named → ℕ
  weighs hands = sum_over (of_named f) hands

  hand-few : (r : Route Content) → weighs (hand_on r) ≤ of_route f r
  hand-few (Looking hand) = omega arith
  hand-few (Trying hand seen) = omega arith
  hand-few (Settling x) = omega arith
  hand-few (Abandoning x) = omega arith
  hand-few (Sending x) = omega arith
  hand-few (Clearing x) = omega arith
  hand-few (Pushing node to) = omega arith
  hand-few (Linking node to) = omega arith

  stage-few : (st : Stage Content) → weighs (on_route [] hand_on st) ≤ of_hand f st
  stage-few (Routed r why gone) = hand-few r
  stage-few Begin = omega arith
  stage-few (Collecting c) = omega arith
  stage-few (Searching ask at part) = omega arith
  stage-few (Fetching ask at part seen) = omega arith
  stage-few (Creating ask p) = omega arith
  stage-few (Giving given to) = omega arith
  stage-few (Taking m tries left) = omega arith
  stage-few Ended = omega arith
  stage-few Ready = omega arith

  nodes-few : (ns : List Node) → weighs (blocks_of ns) ≡ sum_over (of_node f) ns
  nodes-few [] = refl
  nodes-few (Block m p ∷ ns) = omega (arith, nodes-few ns)
  nodes-few (Carrier c ∷ ns) = omega (arith, nodes-few ns)

  held-few : (m : ℕ) (held : List Named) → weighs (as_list (named_at m held) ++ []) ≤ weighs held
  held-few m held = by (named_at m held) refl where
    by : (o : Option Named) → named_at m held ≡ o → weighs (as_list o ++ []) ≤ weighs held
    by None q = omega arith
    by (Some x) q = omega (arith, sum-item name_of (of_named f) m x held q)

  operation-few : (ops : List Op) (held : List Named)
      → weighs (flat_map (λ m. as_list (named_at m held)) (first_freed ops)) ≤ weighs held
  operation-few [] held = omega arith
  operation-few (op.Alloc m bytes ∷ ops) held = omega arith
  operation-few (op.Free m ∷ ops) held = held-few m held
  operation-few (op.Realloc m fresh bytes ∷ ops) held = held-few m held
  operation-few (op.Give m to ∷ ops) held = omega arith
  operation-few (op.Take m tries ∷ ops) held = omega arith
  operation-few (op.Info ∷ ops) held = omega arith
  operation-few (op.Idle ∷ ops) held = omega arith

  -- the next node of a walk
  abbrev of_next : Option Node → ℕ
  of_next None = 0
  of_next (Some node) = of_node f node

  next-few : (ms : List Mark) → of_next (first_node ms) ≤ sum_over (of_mark f) ms
  next-few [] = omega arith
  next-few (m ∷ ms) = omega arith

  passed-sum : (o : Option Node) (ns : List Node)
      → sum_over (of_node f) (with_passed o ns) ≡ of_next o + sum_over (of_node f) ns
  passed-sum None ns = omega arith
  passed-sum (Some node) ns = omega arith

  module _ (a : Actor) where
    abbrev most : ℕ
    most = names_of f a + of_next a.next

    nodes-held : (ns : List Node)
        → sum_over (of_node f) ns ≤ of_next a.next + sum_over (of_node f) a.passed
        → weighs (blocks_of ns ++ of_operation a) ≤ most
    nodes-held ns less = omega (
      arith,
      less,
      sum-append (of_named f) (blocks_of ns) (of_operation a),
      nodes-few ns,
      operation-few a.todo a.held,
    )

    begin-few : (r : Answer) → weighs (at_begin a r) ≤ most
    begin-few (Head None) = omega (arith, operation-few a.todo a.held)
    begin-few (Head (Some newest)) = omega arith
    begin-few Rests = omega (arith, operation-few a.todo a.held)
    begin-few (Passes None) = nodes-held (with_passed a.next a.passed)
        (omega (arith, passed-sum a.next a.passed))
    begin-few (Passes (Some older)) = omega arith
    begin-few Done = omega arith
    begin-few (Saw seen) = omega arith
    begin-few (Won content) = omega arith
    begin-few (Lost present) = omega arith
    begin-few (Home content) = omega arith
    begin-few (Got spot) = omega arith

    route-few : (why : Why) (r : Route Content) → weighs (at_route a why r) ≤ most
    route-few Walk (Linking node to) = nodes-held a.passed (omega arith)
    route-few (For task) (Linking node to) = omega arith
    route-few why (Looking hand) = omega arith
    route-few why (Trying hand seen) = omega arith
    route-few why (Settling x) = omega arith
    route-few why (Abandoning x) = omega arith
    route-few why (Sending x) = omega arith
    route-few why (Clearing x) = omega arith
    route-few why (Pushing node to) = omega arith

    off-few : (r : Answer) (st : Stage Content) → weighs (at_stage a r st) ≤ most
    off-few r Begin = begin-few r
    off-few r (Routed route why gone) = route-few why route
    off-few r (Collecting c) = omega arith
    off-few r (Searching ask at part) = omega arith
    off-few r (Fetching ask at part seen) = omega arith
    off-few r (Creating ask p) = omega arith
    off-few r (Giving given to) = omega arith
    off-few r (Taking m tries left) = omega arith
    off-few r Ended = omega arith
    off-few r Ready = omega arith

    touched-few : (on : Bool) (r : Answer) → weighs (touched on a r) ≤ most
    touched-few true r = omega (arith, stage-few a.stage)
    touched-few false r = off-few r a.stage

-- entries that pass a test
some-pass : (p : Entry → Bool) (xs : List Entry) → 1 ≤ sum_over (λ x. one_if (p x)) xs
    → list_any p xs ≡ true
some-pass p [] some = absurd (omega (arith, some))
some-pass p (x ∷ xs) some = by (p x) (some-pass p xs) some where
  by : (b : Bool) → (1 ≤ sum_over (λ y. one_if (p y)) xs → list_any p xs ≡ true)
      → 1 ≤ one_if b + sum_over (λ y. one_if (p y)) xs → (b || list_any p xs) ≡ true
  by true later some = refl
  by false later some = later (omega (arith, some))

module _ (e : Setup) (rules : (L : List ℕ) → Rule e (run e L)) (L : List ℕ) (me : ℕ) where
  abbrev w : State
  w = run e L

  abbrev v : State
  v = step e w me

  abbrev a : Actor
  a = w.actors me

  abbrev hands : List Named
  hands = touched (migration e) a (answered w me)

  pub rule-after : Rule e v
  rule-after = subst (Rule e) (run-snoc e L me) (rules (L ++ me ∷ []))

  -- what the step adds to the log
  abbrev new_entries : List Entry
  new_entries = drop (length a.log) (v.actors me).log

  after-log : (xs : List Entry) → (v.actors me).log ≡ a.log ++ xs
      → (v.actors me).log ≡ a.log ++ new_entries
  after-log xs log = log ∙ ap (λ ys. a.log ++ ys)
      (sym (ap (drop (length a.log)) log ∙ drop-append_seam a.log xs))

  pub log-grows : (v.actors me).log ≡ a.log ++ new_entries
  log-grows =
      let now = ap (λ (u : State). (u.actors me).log) (run-snoc e L me) in
      elim (turn-told e rules L me) [
        | inl same ↦ after-log [] (sym now ∙ same.0 ∙ sym (append-nil a.log))
        | inr more ↦ after-log (more.entry ∷ []) (sym now ∙ more.log)
      ]

  module _ (works : a.stage ≢ Ended) where
    seat : me < seats e
    seat = scheduler-seat e me (working-scheduler e w (rules L).kept me works)

    -- what a step leaves of all names that stand
    remain : (f : ℕ → Spot → ℕ) (g : Entry → ℕ)
        → ((old : Named) (fresh : ℕ) (place : Place)
        → of_named f old ≤ g (entry.ReallocHere old.name fresh place))
        → all_names e f w
        ≤ all_names e f v + sum_over g new_entries + sum_over (of_named f) hands
    remain f g covers =
        let is = working-scheduler e w (rules L).kept me works in
        let t = step-is e w me works in
        let mine = step-mine e w me works in
        let same : t.0 ≡ v.actors me =
        sym (put-here w.actors me t.0 me refl) ∙ sym (ap (λ (u : State). u.actors me) t.1) in
        omega (
          arith,
          names-remain e w me is (rules L) f g covers works,
          total-put (names_of f) w.actors me t.0 (seats e) seat,
          ap (names_of f) (same ∙ mine),
          ap (λ (b : Actor). sum_over g b.log) mine,
          ap (sum_over g) log-grows,
          sum-append g a.log new_entries,
          ap (all_names e f) t.1,
        )

    -- a name whose block is gone, and that isn't renamed, is touched
    pub gone-touched : (n : ℕ) → 0 < blocks_named e n w → blocks_named e n v ≡ 0
        → list_any (renames n) new_entries ≡ false
        → 1 ≤ sum_over (of_named (only n)) hands
    gone-touched n was gone kept = by (sum_over (λ x. one_if (renames n x)) new_entries) refl where
      covers : (old : Named) (fresh : ℕ) (place : Place)
          → of_named (only n) old ≤ one_if (renames n (entry.ReallocHere old.name fresh place))
      covers old fresh place = omega arith

      by : (k : ℕ) → sum_over (λ x. one_if (renames n x)) new_entries ≡ k
          → 1 ≤ sum_over (of_named (only n)) hands
      by zero none = omega (
        arith,
        was,
        gone,
        none,
        remain (only n) (λ x. one_if (renames n x)) covers,
        (rules L).kept.names.balance (only n),
        rule-after.kept.names.balance (only n),
      )
      by (suc k) some = absurd (let never : true ≡ false =
          sym (some-pass (renames n) new_entries (omega (arith, some))) ∙ kept in cc)

    -- each touched name stands, and no two are the same
    pub touched-stands : (f : ℕ → Spot → ℕ) → sum_over (of_named f) hands ≤ allocated e f w
    touched-stands f = omega (
      arith,
      touched-few f a (migration e) (answered w me),
      ap (of_next f) ((rules L).present.walking me),
      next-few f (w.shared.rests me),
      total-part (names_of f) w.actors me (seats e) seat,
      total-part (sum_over (of_mark f)) w.shared.rests me (seats e) seat,
      (rules L).kept.names.balance f,
    )

    pub touched-lie : All (λ (h : Named). 1 ≤ allocated e (only_at h.name h.spot) w) hands
    touched-lie = all-parts (λ (h : Named). 1 ≤ allocated e (only_at h.name h.spot) w) hands
        (λ h part. omega (
          arith,
          only_at-itself h.name h.spot,
          part (of_named (only_at h.name h.spot)),
          touched-stands (only_at h.name h.spot),
        ))
