-- A step leaves its scheduler less work of its own.
use Rattle.std.proofs.Common.{◌≡◌, ◌≢◌, ◌⊎◌, ℕ, ◌<◌, ◌≤◌, [], ◌∷◌, refl, sym, ap, ◌∙◌, inl}
use Rattle.std.proofs.Common.{inr, arith, mul-le-mul_left}
use Rattle.std.specs.Prelude.{Option, None, Some, length, map}
use Rattle.std.proofs.lemmas.Bool.{cases_lt}
use Rattle.std.proofs.lemmas.List.{length-map}
use Rattle.std.proofs.lemmas.List.Elements.{All-map, All-weaker}
use Rattle.ea_model.specs.declared.settings.Config.{Config}
use Rattle.ea_model.specs.declared.trace.Trace.{Trace}
use Rattle.ea_model.specs.Settings.{IsValidConfig}
use Rattle.ea_model.specs.Trace.{IsValidTrace}
use Rattle.ea_model.specs.Content.{Content}
use Rattle.ea_machine.specs.declared.nodes.Node.{Node}
use Rattle.ea_machine.specs.declared.tasks.Gone.{Gone}
use Rattle.ea_machine.specs.declared.tasks.Why.{Why}
use Rattle.ea_machine.specs.declared.stages.Stage.{Stage}
use Rattle.ea_machine.specs.declared.stages.Stage.TheVariants.{Begin, Routed, Collecting, Searching}
use Rattle.ea_machine.specs.declared.stages.Stage.TheVariants.{Fetching, Creating, Giving, Taking}
use Rattle.ea_machine.specs.declared.stages.Stage.TheVariants.{Ended, Ready}
use Rattle.ea_machine.specs.declared.stages.Route.{Route}
use Rattle.ea_machine.specs.declared.stages.Route.TheVariants.{Looking, Trying, Settling}
use Rattle.ea_machine.specs.declared.stages.Route.TheVariants.{Abandoning, Sending, Clearing}
use Rattle.ea_machine.specs.declared.stages.Route.TheVariants.{Pushing, Linking}
use Rattle.ea_machine.specs.Actor.{Actor}
use Rattle.ea_machine.specs.Alike.{IsNode, alike_in, are_alike}
use Rattle.ea_machine.specs.Completion.{work}
use Rattle.ea_sound.specs.Contents.{seats}
use Rattle.ea_machine.specs.Machine.{IsReached, step, wants_at, wants_on}
use Rattle.ea_machine.specs.Nodes.{Mark, pushed}
use Rattle.ea_machine.specs.Owners.{Busy, Employed}
use Rattle.ea_machine.specs.Rows.{Row, TakeAll}
use Rattle.ea_machine.specs.Setup.{Setup, greatest_number, setup_of}
use Rattle.ea_machine.specs.Shared.{Shared}
use Rattle.ea_machine.specs.State.{State}
use Rattle.ea_machine.specs.Sums.{one_if}
use Rattle.ea_machine.specs.Table.{effect, tried_at}
use Rattle.ea_sound.specs.OwnWork.{most_queued, own_work}
use Rattle.ea_sound.specs.Present.{Rule}
use Rattle.ea_sound.proofs.Asked.{reached-rule}
use Rattle.ea_sound.proofs.Calls.{queue-nodes, rest-none}
use Rattle.ea_sound.proofs.Completing.{LeavesLess, fits-less, linked-marks, rule-less}
use Rattle.ea_sound.proofs.FewNodes.{IsWithin, few-nodes, is-within}
use Rattle.ea_sound.proofs.Numbered.{no_scheduler-beyond}
use Rattle.ea_sound.proofs.SharedRows.{tried-queues}
use Rattle.ea_sound.proofs.StandingOnce.{standing-once}
use Rattle.ea_sound.proofs.Takings.{step-few, taking-fewer}
use Rattle.ea_sound.proofs.Totals.{put-here, put-other, total-part}
use Rattle.ea_sound.proofs.TurnLists.{step-shared}
use Rattle.ea_sound.proofs.Weights.{sum-map}

module _ (me : ℕ) (s : Shared) where
  -- the row leaves as many nodes in the scheduler's own queue
  abbrev LeavesQueue : Row → Type 0
  LeavesQueue row = length ((effect me row s).queues me) ≡ length (s.queues me)

  route-queue : (r : Route Content) (y : Why) (g : Gone) → LeavesLess me (Routed r y g)
      → LeavesQueue (wants_on r)
  unfolding effect
  route-queue (Looking h) y g f = refl
  route-queue (Trying h seen) y g f = ap (λ ms. length ms)
      (tried-queues (tried_at seen (s.places h.spot.carrier)) h.spot.carrier me (Busy me) s)
  route-queue (Settling x) y g f = refl
  route-queue (Abandoning x) y g f = refl
  route-queue (Sending x) y g f = refl
  route-queue (Clearing x) y g f = refl
  route-queue (Pushing node to) y g f = ap (λ ms. length ms)
      (put-other s.queues to (pushed node ∷ s.queues to) me (λ q. f (sym q)))
  route-queue (Linking node to) y g f = linked-marks node to me s.queues

  -- where the scheduler doesn't take it
  own-queue : (next : Option Node) (st : Stage Content) → LeavesLess me st
      → (st ≡ Begin → next ≢ None) → LeavesQueue (wants_at next st)
  unfolding effect
  own-queue None Begin f walks = absurd (walks refl refl)
  own-queue (Some n) Begin f walks = refl
  own-queue next (Routed r y g) f walks = route-queue r y g f
  own-queue next (Collecting c) f walks = refl
  own-queue next (Searching ask n part) f walks = refl
  own-queue next (Fetching ask n part seen) f walks =
      ap (λ ms. length ms) (tried-queues (tried_at seen (s.places n)) n me (Employed me) s)
  own-queue next (Creating ask p) f walks = refl
  own-queue next (Giving h to) f walks = refl
  own-queue next (Taking n tries left) f walks = refl
  own-queue next Ended f walks = refl
  own-queue next Ready f walks = refl

  -- where it does, the walk gets all nodes of the queue
  taken-queue : ((effect me TakeAll s).queues me ≡ [])
      × ((effect me TakeAll s).rests me ≡ s.queues me)
  unfolding effect
  taken-queue = (put-here s.queues me [] me refl, put-here s.rests me (s.queues me) me refl)

-- whether a scheduler is about to take its queue
takes-or : (next : Option Node) (st : Stage Content)
    → ((st ≡ Begin) × (next ≡ None)) ⊎ (st ≡ Begin → next ≢ None)
takes-or None Begin = inl (refl, refl)
takes-or (Some n) Begin = inr (λ q r. absurd cc)
takes-or next (Routed r y g) = inr (λ q r. absurd cc)
takes-or next (Collecting c) = inr (λ q r. absurd cc)
takes-or next (Searching ask n part) = inr (λ q r. absurd cc)
takes-or next (Fetching ask n part seen) = inr (λ q r. absurd cc)
takes-or next (Creating ask p) = inr (λ q r. absurd cc)
takes-or next (Giving h to) = inr (λ q r. absurd cc)
takes-or next (Taking n tries left) = inr (λ q r. absurd cc)
takes-or next Ended = inr (λ q r. absurd cc)
takes-or next Ready = inr (λ q r. absurd cc)

module _ (c : Config) (t : Trace) (valid : IsValidConfig c)
    (made : IsValidTrace c.schedulers t) (w : State) (reached : IsReached (setup_of c t) w) where
  abbrev e : Setup
  e = setup_of c t

  rule : Rule e w
  rule = reached-rule c t valid made w reached

  -- a queue has no more nodes than it can have
  pub queue-most : (i : ℕ) → length (w.shared.queues i) ≤ most_queued c t
  queue-most i = elim (cases_lt i (seats e)) [
    | inl seat ↦ omega (
      arith,
      length-map (w.shared.queues i) (λ m. m.node),
      few-nodes t.greatest (greatest_number e) (map (λ m. m.node) (w.shared.queues i))
          (All-map (IsWithin t.greatest (greatest_number e)) (λ m. m.node) (w.shared.queues i)
          (All-weaker (λ m. IsNode c.schedulers t.greatest m.node)
          (λ m. IsWithin t.greatest (greatest_number e) m.node)
          (λ m. is-within c.schedulers t.greatest m.node) (w.shared.queues i)
          (queue-nodes c t valid made w reached i))) (λ node. omega (
            arith,
            standing-once e w rule node,
            total-part (alike_in node) w.shared.queues i (seats e) seat,
            sum-map (λ d. one_if (are_alike node d)) (λ (m : Mark). m.node) (w.shared.queues i),
          )),
    )
    | inr past ↦ omega (
      arith,
      ap (λ ms. length ms) (rule.present.nobody i (no_scheduler-beyond e i past)).queue,
    )
  ]

  module _ (me : ℕ) (goes : (w.actors me).stage ≢ Ended) where
    abbrev a : Actor
    a = w.actors me

    abbrev v : State
    v = step e w me

    less : work e v me < work e w me
    less = rule-less e w me rule goes

    -- a step leaves its scheduler less work of its own
    pub own-less : own_work c t (v.actors me) (length (v.shared.rests me))
        < own_work c t a (length (w.shared.rests me))
    own-less = elim (takes-or a.next a.stage) [
      | inl takes ↦
          let shared : v.shared ≡ effect me TakeAll w.shared = step-shared e w me goes
          ∙ ap (λ st. effect me (wants_at a.next st) w.shared) takes.0
          ∙ ap (λ o. effect me (wants_at o Begin) w.shared) takes.1 in
          let taken = taken-queue me w.shared in
          omega (
            arith,
            less,
            queue-most me,
            ap (λ (x : Shared). length (x.queues me)) shared,
            ap (λ (x : Shared). length (x.rests me)) shared,
            ap (λ ms. length ms) taken.0,
            ap (λ ms. length ms) taken.1,
            ap (λ ms. length ms) (rest-none c t valid made w reached me takes.1),
            mul-le-mul_left (most_queued c t) (taking-fewer e w me goes takes.0 takes.1),
          )
      | inr walks ↦ omega (
        arith,
        less,
        ap (λ (x : Shared). length (x.queues me)) (step-shared e w me goes),
        own-queue me w.shared a.next a.stage
            (fits-less e w me a a.stage (rule.present.fits me)) walks,
        mul-le-mul_left (most_queued c t) (step-few e w me goes),
      )
    ]
