-- After each step, every scheduler is where its operation allows.
use Rattle.std.proofs.Common.{◌≡◌, ◌≢◌, ℕ, ◌<◌, ◌≤◌, List, ◌++◌, true, false, refl, sym, ap, ◌∙◌}
use Rattle.std.proofs.Common.{subst, inl, inr, arith}
use Rattle.std.specs.Prelude.{Option, None, Some, All, AllPairs}
use Rattle.std.specs.List.{AllZip}
use Rattle.std.proofs.lemmas.Bool.{cases_eq, true≢false}
use Rattle.ea_model.specs.declared.operations.Op.{Op}
use Rattle.ea_model.specs.Keyed.{IsBelow}
use Rattle.ea_laws.specs.Kept.{Stands}
use Rattle.ea_model.specs.Content.{Content}
use Rattle.ea_machine.specs.declared.nodes.Node.{Node}
use Rattle.ea_machine.specs.declared.nodes.Node.TheVariants.{Block, Carrier}
use Rattle.ea_machine.specs.declared.stages.Stage.{Stage}
use Rattle.ea_machine.specs.declared.stages.Stage.TheVariants.{Begin, Routed, Collecting, Searching}
use Rattle.ea_machine.specs.declared.stages.Stage.TheVariants.{Fetching, Creating, Giving, Taking}
use Rattle.ea_machine.specs.declared.stages.Stage.TheVariants.{Ended, Ready}
use Rattle.ea_machine.specs.declared.stages.Route.{Route}
use Rattle.ea_machine.specs.declared.stages.Route.TheVariants.{Looking, Trying, Settling}
use Rattle.ea_machine.specs.declared.stages.Route.TheVariants.{Abandoning, Sending, Clearing}
use Rattle.ea_machine.specs.declared.stages.Route.TheVariants.{Pushing, Linking}
use Rattle.ea_machine.specs.Actor.{Actor}
use Rattle.ea_machine.specs.declared.tasks.Why.{Why}
use Rattle.ea_machine.specs.declared.tasks.Gone.{Gone}
use Rattle.ea_sound.specs.Contents.{actor_sum, seats}
use Rattle.ea_sound.specs.Entries.{LogsEach, Makes}
use Rattle.ea_machine.specs.Machine.{after, after_row, begins, step, stepped, wants_at, wants_on}
use Rattle.ea_sound.specs.Names.{made_in, of_named, only, unplaced}
use Rattle.ea_machine.specs.Nodes.{first_node, name_of}
use Rattle.ea_sound.specs.Places.{MayStay}
use Rattle.ea_machine.specs.Rows.{Row}
use Rattle.ea_machine.specs.Setup.{Setup, is_scheduler}
use Rattle.ea_machine.specs.Shared.{Shared, put}
use Rattle.ea_sound.specs.Sound.{HasNothing}
use Rattle.ea_machine.specs.State.{State}
use Rattle.ea_machine.specs.Table.{answer, effect}
use Rattle.ea_sound.specs.Blocks.{EmploysMain}
use Rattle.ea_sound.specs.Moments.{with_actor}
use Rattle.ea_sound.specs.Present.{Fits, Present, Rule}
use Rattle.ea_sound.specs.Rule.{Kept, names_of}
use Rattle.ea_sound.proofs.FewBlocks.{Counting, alive, all_of, blocks_named}
use Rattle.ea_sound.proofs.KeyedWeights.{sum-item}
use Rattle.ea_sound.proofs.NodeSeats.{pushing-returning, returning-scheduler}
use Rattle.ea_sound.proofs.Numbered.{scheduler-seat}
use Rattle.ea_sound.proofs.OtherRows.{row-moves, row-rests}
use Rattle.ea_sound.proofs.PresentRows.{row-good}
use Rattle.ea_sound.proofs.PresentWalks.{GoodAfter, Never, after-good}
use Rattle.ea_sound.proofs.RowCores.{bound_of, home_of}
use Rattle.ea_sound.proofs.RowLeaves.{no_first}
use Rattle.ea_sound.proofs.SharedRows.{GivesNew, PushesNot, row-given, row-queue}
use Rattle.ea_sound.proofs.StepKept.{step-holds, step-kept, stepped-kept}
use Rattle.ea_sound.proofs.Suits.{Suits}
use Rattle.ea_sound.proofs.Totals.{put-here, put-other, total-part, total-put}
use Rattle.ea_sound.proofs.Whole.{MakesLater, fits-stays, whole}
use Rattle.ea_sound.proofs.Weights.{one-itself}

module _ (e : Setup) (w : State) (me : ℕ) (rule : Rule e w) (is : is_scheduler e me ≡ true)
    (stage : Stage Content) (goes : stage ≢ Ended) (now : (w.actors me).stage ≡ stage) where
  abbrev a : Actor
  a = w.actors me

  abbrev row : Row
  row = wants_at (w.actors me).next stage

  abbrev s : Shared
  s = effect me (wants_at (w.actors me).next stage) w.shared

  abbrev b : Actor
  b = after e me (w.actors me) (answer me (wants_at (w.actors me).next stage) w.shared) stage

  abbrev next : State
  next = with_actor w s me b

  seat : me < seats e
  seat = scheduler-seat e me is

  kept : Kept e next
  kept = stepped-kept e w me rule is stage goes now

  fitting : Fits e w me a stage
  fitting = subst (Fits e w me a) now (rule.present.fits me)

  good : GoodAfter e s me (home_of e s) (bound_of e w me) b
  unfolding after
  good = after-good e s me (home_of e s) (bound_of e w me)
      (after_row e me a (answer me row w.shared) stage) (row-good e w me is rule stage goes now)

  -- no step adds to the blocks of a name and the operations that are still to make it
  step-fewer : (n : Counting) → alive e n next ≤ alive e n w
  step-fewer n = omega (
    arith,
    good.core.few n,
    total-put (actor_sum (blocks_named n) (blocks_named n)) w.actors me b (seats e) seat,
    total-put (λ (c : Actor). made_in n.name (unplaced c.stage c.todo)) w.actors me b (seats e)
        seat,
  )

  later : MakesLater e next
  later n = omega (arith, step-fewer (all_of n), rule.present.later n)

  -- what holds of the scheduler then, and of the others, holds of each
  each : (P : ℕ → Actor → Type 0) → P me b → ((i : ℕ) → i ≢ me → P i (w.actors i)) → (i : ℕ)
      → P i (next.actors i)
  each P mine others i = elim (cases_eq i me) [
    | inl q ↦ subst (λ j. P j (put w.actors me b j)) (sym q)
        (subst (P me) (sym (put-here w.actors me b me refl)) mine)
    | inr other ↦ subst (P i) (sym (put-other w.actors me b i other)) (others i other)
  ]

  all-fit : (i : ℕ) → Fits e next i (next.actors i) (next.actors i).stage
  all-fit i = elim (cases_eq i me) [
    | inl q ↦ subst (λ j. Fits e next j (next.actors j) (next.actors j).stage) (sym q)
        (whole e next kept later me Never (λ c z. z)
        (next.actors me).stage refl
        (subst
        (λ (c : Actor). Suits e s me Never c c.stage)
        (sym (put-here w.actors me b me refl)) good.suits))
    | inr other ↦ fits-stays e next kept later i w me other rule.kept
        (put-other w.actors me b i other) (row-moves me row w.shared) (rule.present.fits i)
  ]

  logs : (i : ℕ) → LogsEach e next i
  logs i =
      let h = each
      (λ i c. (done : List Op) × (e.texts i ≡ done ++ c.todo) × AllZip Makes done c.log)
      good.core.history
      (λ i other. let h = rule.present.history i in (h.done, h.split, h.each)) i in
      record { done = h.0; split = h.1; each = h.2 }

  -- a node is pushed to a scheduler
  pushes-not : (i : ℕ) → is_scheduler e i ≡ false → PushesNot i row
  pushes-not i none = by stage now fitting where
    apart : (to : ℕ) → is_scheduler e to ≡ true → i ≢ to
    apart to some q = true≢false (sym some ∙ ap (is_scheduler e) (sym q) ∙ none)

    starts : (o : Option Node) → PushesNot i (begins o)
    starts None = tt
    starts (Some node) = tt

    on : (r : Route Content) (y : Why) (g : Gone) → a.stage ≡ Routed r y g
        → Fits e w me a (Routed r y g) → PushesNot i (wants_on r)
    on (Looking h) y g now f = tt
    on (Trying h seen) y g now f = tt
    on (Settling x) y g now f = tt
    on (Abandoning x) y g now f = tt
    on (Sending x) y g now f = tt
    on (Clearing x) y g now f = tt
    on (Pushing (Block n p) to) y g now f = apart to f.0.1
    on (Pushing (Carrier c) to) y g now f =
        let t = pushing-returning e w rule.kept me seat y g c to now in
        apart to (subst (λ j. is_scheduler e j ≡ true) (sym f.0.0)
        (returning-scheduler e w rule.kept c t.0 t.1 t.2))
    on (Linking node to) y g now f = tt

    by : (st : Stage Content) → a.stage ≡ st → Fits e w me a st → PushesNot i (wants_at a.next st)
    by Begin now f = starts a.next
    by (Routed r y g) now f = on r y g now f
    by (Collecting c) now f = tt
    by (Searching ask n part) now f = tt
    by (Fetching ask n part seen) now f = tt
    by (Creating ask p) now f = tt
    by (Giving given to) now f = tt
    by (Taking name tries left) now f = tt
    by Ended now f = tt
    by Ready now f = tt

  -- a name that is given isn't given already
  gives-new : GivesNew w.shared row
  gives-new = by stage now fitting where
    starts : (o : Option Node) → GivesNew w.shared (begins o)
    starts None = tt
    starts (Some node) = tt

    on : (r : Route Content) → GivesNew w.shared (wants_on r)
    on (Looking h) = tt
    on (Trying h seen) = tt
    on (Settling x) = tt
    on (Abandoning x) = tt
    on (Sending x) = tt
    on (Clearing x) = tt
    on (Pushing node to) = tt
    on (Linking node to) = tt

    by : (st : Stage Content) → a.stage ≡ st → Fits e w me a st
        → GivesNew w.shared (wants_at a.next st)
    by Begin now f = starts a.next
    by (Routed r y g) now f = on r
    by (Collecting c) now f = tt
    by (Searching ask n part) now f = tt
    by (Fetching ask n part seen) now f = tt
    by (Creating ask p) now f = tt
    by (Giving given to) now f = omega (
      arith,
      rule.kept.names.balance (only given.name),
      rule.kept.names.once given.name,
      total-part (names_of (only given.name)) w.actors me (seats e) seat,
      sum-item name_of (of_named (only given.name)) given.name given a.held f.0,
      one-itself given.name,
    )
    by (Taking name tries left) now f = tt
    by Ended now f = tt
    by Ready now f = tt

  nothing : (i : ℕ) → is_scheduler e i ≡ false → HasNothing i next
  nothing i none =
      let other : i ≢ me = λ q. true≢false (sym is ∙ ap (is_scheduler e) (sym q) ∙ none) in
      let same = put-other w.actors me b i other in
      let has = rule.present.nobody i none in
      record {
        own = ap (λ (c : Actor). c.instance.own) same ∙ has.own;
        contents = ap (λ (c : Actor). c.instance.contents) same ∙ has.contents;
        singles = ap (λ (c : Actor). c.instance.singles) same ∙ has.singles;
        held = ap (λ (c : Actor). c.held) same ∙ has.held;
        passed = ap (λ (c : Actor). c.passed) same ∙ has.passed;
        stage = ap (λ (c : Actor). c.stage) same ∙ has.stage;
        queue = row-queue me row w.shared i other (pushes-not i none) has.queue;
        rest = no_first (s.rests i) (row-rests me row w.shared i other ∙ ap first_node has.rest);
      }

  pub stepped-present
      : Present e (stepped e w me (w.actors me) stage (wants_at (w.actors me).next stage))
  stepped-present = record {
    walking = each (λ i c. c.next ≡ first_node (s.rests i)) good.core.walking
        (λ i other. rule.present.walking i ∙ sym (row-rests me row w.shared i other));
    fits = all-fit;
    contents = each (λ i c. All (MayStay i) c.instance.contents) good.core.stay.0
        (λ i other. rule.present.contents i);
    singles = each (λ i c. All (MayStay i) c.instance.singles) good.core.stay.1
        (λ i other. rule.present.singles i);
    history = logs;
    later = later;
    held = each (λ i c. AllPairs (IsBelow name_of) c.held) good.core.rising
        (λ i other. rule.present.held i);
    given = row-given me row w.shared gives-new rule.present.given;
    nobody = nothing;
    stands = λ off. each (λ i c. is_scheduler e i ≡ true → Stands c.instance)
        (λ _. good.core.stands off) (λ i other. rule.present.stands off i);
    main = each (λ i c. is_scheduler e i ≡ true → EmploysMain e i c.instance)
        (λ _. good.core.main) (λ i other. rule.present.main i);
    tries = rule.present.tries;
  }

step-present : (e : Setup) (w : State) (me : ℕ) → Rule e w → Present e (step e w me)
step-present e w me rule =
    step-holds e w me rule.kept (Present e) rule.present (stepped-present e w me rule)

pub step-rule : (e : Setup) (w : State) (me : ℕ) → Rule e w → Rule e (step e w me)
step-rule e w me rule =
    record { kept = step-kept e w me rule; present = step-present e w me rule }

-- so a step of anyone adds nothing
pub step-fades : (e : Setup) (w : State) (me : ℕ) → Rule e w → (n : Counting)
    → alive e n (step e w me) ≤ alive e n w
step-fades e w me rule n = step-holds e w me rule.kept (λ v. alive e n v ≤ alive e n w)
    (omega arith) (λ is stage goes now. step-fewer e w me rule is stage goes now n)
