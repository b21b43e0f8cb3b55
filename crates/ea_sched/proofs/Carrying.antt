-- The row of a route, or of a carrier that came home, is a row of its scheduler, which has gone on
-- to the next one.
use Rattle.std.proofs.Common.{◌≡◌, ℕ, ◌+◌, ◌^◌, ◌<◌, refl, sym, ap, ◌∙◌, subst}
use Rattle.std.specs.Prelude.{None}
use Rattle.ea_model.specs.Content.{Content}
use Rattle.ea_machine.specs.declared.stages.Stage.{Stage}
use Rattle.ea_machine.specs.declared.stages.Stage.TheVariants.{Collecting, Routed}
use Rattle.ea_machine.specs.declared.stages.Route.{Route}
use Rattle.ea_machine.specs.declared.tasks.Gone.{Gone}
use Rattle.ea_machine.specs.declared.tasks.Task.{Task}
use Rattle.ea_machine.specs.declared.tasks.Why.{Why}
use Rattle.ea_machine.specs.declared.tasks.Why.TheVariants.{For, Walk}
use Rattle.ea_machine.specs.Actor.{Actor}
use Rattle.ea_machine.specs.Machine.{onward, run, wants_on}
use Rattle.ea_machine.specs.Releases.{turned}
use Rattle.ea_machine.specs.Releases as releases
use Rattle.ea_machine.specs.Rows.{Clear}
use Rattle.ea_machine.specs.Setup.{Setup}
use Rattle.ea_machine.specs.Tasks.{carried_by}
use Rattle.ea_machine.specs.Walks.{after_route, collected, worked_off}
use Rattle.ea_shared.specs.Calls.{Told}
use Rattle.ea_sound.proofs.Calls as calls
use Rattle.ea_sound.proofs.ShortRoutes.{turned-created, turned-keeps}
use Rattle.ea_sched.specs.declared.routes.Turned.{Turned}
use Rattle.ea_sched.specs.declared.state.Scheduler.{Scheduler}
use Rattle.ea_sched.specs.Acting.{IsSame, actor_of, setup_for, standing_at}
use Rattle.ea_sched.specs.Asking.{CanCount, CanWorkOff, HasMore}
use Rattle.ea_sched.specs.Creations.{HasPlanned, PlansAt, PlansFrom}
use Rattle.ea_sched.specs.Routes.{CollectedRow, TurnedRow, carried_on, turned_of}
use Rattle.ea_sched.specs.Steps.{DidRow, IsReadyAt}
use Rattle.ea_sched.proofs.Acts.{planned-from}
use Rattle.ea_sched.proofs.Calling.{left-more, ready-counts, row-plans}
use Rattle.ea_sched.proofs.StandsOn.{same-setup}
use Rattle.ea_sched.proofs.WalkSuiting.{works-turned}

-- a route that is over is left for what comes after it
pub carried-over : (e : Setup) (me : ℕ) (t : Turned) (a : Actor) (why y : Why) → t.route ≡ None
    → why ≡ y → onward e me (after_route e me y t.gone a) ≡ carried_on e me why (turned_of t a)
carried-over e me t a why y over same =
    sym (ap (λ o. onward e me (carried_by why (after_route e me why) t.gone a o)) over
    ∙ ap (λ x. onward e me (after_route e me x t.gone a)) same)

-- what is planned in a run is planned in the same one
same-plans : (s t : Scheduler) → IsSame s t → t.instance.created ≡ s.instance.created
    → (a b : Actor) → a ≡ b → PlansFrom t a → PlansFrom s b
same-plans s t same created a b is plans =
    planned-from t.instance s.instance b created
    (subst (HasPlanned (setup_for s) s.number t.instance) is
    (subst (λ n. HasPlanned (setup_for s) n t.instance a) same.number
    (subst (λ e. HasPlanned e t.number t.instance a) (same-setup s t same) plans)))

-- the row of a route was done
module _ (s t : Scheduler) (same : IsSame s t) (route : Route Content) (why : Why) (gone : Gone)
    {told new : Told} (h : IsReadyAt (Routed route why gone) s told) (left : Turned)
    (row : TurnedRow route gone s t left told new) where
  abbrev e : Setup
  e = setup_for s

  abbrev a : Actor
  a = standing_at (Routed route why gone) s

  abbrev is : turned_of left (standing_at (Routed route why gone) t)
      ≡ turned e s.number route gone a row.got
  is = row.is (Routed route why gone)

  -- a walk whose route is over may go on
  pub works-over : left.route ≡ None → why ≡ Walk → CanWorkOff t t.passed.nodes
  works-over over walk = works-turned s t same route gone
      (subst (λ y. IsReadyAt (Routed route y gone) s told) walk h) left row over

  -- the operation whose block is on the route is left
  pub task-more : (task : Task) → why ≡ For task → HasMore t
  task-more task for =
      let first = calls.task-first s.config s.trace.now h.config h.trace (run e h.turns)
      (h.turns, refl) s.number (s.number_from, s.number_to) route task gone
      (ap (λ (x : Actor). x.stage) h.actor ∙ ap (λ y. Routed route y gone) for) in
      left-more t.done t.text.now first.1 first.0
      (ap (λ (u : releases.Turned). u.actor.todo) is
      ∙ (turned-keeps e s.number route gone a row.got).1
      ∙ sym (ap (λ (x : Actor). x.todo) h.actor) ∙ first.2)

  created : t.instance.created ≡ s.instance.created
  created = ap (λ (u : releases.Turned). u.actor.instance.created) is
      ∙ turned-created e s.number route gone a row.got

  pub turned-counts : CanCount t.instance
  turned-counts = subst (λ n. n + 1 < 2 ^ 32) (sym created) (ready-counts s h)

  -- the scheduler goes on by the answer
  abbrev Goes : (Actor → Type 0) → Type 0
  Goes P = (at : Stage Content)
      → P (carried_on (setup_for t) t.number why (turned_of left (standing_at at t)))

  goes-on : carried_on (setup_for t) t.number why
      (turned_of left (standing_at (Routed route why gone) t))
      ≡ carried_on e s.number why (turned e s.number route gone a row.got)
  goes-on = ap (λ x. carried_on x t.number why
      (turned_of left (standing_at (Routed route why gone) t))) (same-setup s t same)
      ∙ ap (λ n. carried_on e n why (turned_of left (standing_at (Routed route why gone) t)))
      same.number
      ∙ ap (carried_on e s.number why) is

  pub turned-done : (v : Scheduler) → Goes (λ b. actor_of v ≡ b)
      → DidRow (Routed route why gone) s v told new
  turned-done v goes = record {
    row = wants_on route;
    got = row.got;
    wanted = refl;
    did = row.did;
    is = goes (Routed route why gone) ∙ goes-on;
  }

  pub turned-plans : Goes (PlansFrom t) → PlansAt (Routed route why gone) s told
  turned-plans plans = row-plans s h (wants_on route) row.got (Routed route why gone) refl refl
      refl refl row.did (same-plans s t same created _ _ goes-on (plans (Routed route why gone)))

-- a carrier was collected
module _ (n : ℕ) (s t : Scheduler) (same : IsSame s t) {told new : Told}
    (row : CollectedRow n s t told new) where
  -- its walk goes on
  home-on : onward (setup_for t) t.number
      (worked_off (setup_for t) t.number t.passed.nodes (standing_at (Collecting n) t))
      ≡ onward (setup_for s) s.number
      (collected (setup_for s) s.number n (standing_at (Collecting n) s))
  home-on = ap (λ d. onward d t.number
      (worked_off d t.number t.passed.nodes (standing_at (Collecting n) t))) (same-setup s t same)
      ∙ ap (λ m. onward (setup_for s) m
      (worked_off (setup_for s) m t.passed.nodes (standing_at (Collecting n) t))) same.number
      ∙ ap (λ (a : Actor). onward (setup_for s) s.number
      (worked_off (setup_for s) s.number a.passed a)) (row.is (Collecting n))

  -- and has gone on
  abbrev Walks : (Actor → Type 0) → Type 0
  Walks P = (at : Stage Content) → P (onward (setup_for t) t.number
      (worked_off (setup_for t) t.number t.passed.nodes (standing_at at t)))

  pub home-walked : (v : Scheduler) → Walks (λ b. actor_of v ≡ b)
      → DidRow (Collecting n) s v told new
  home-walked v goes = record {
    row = Clear n;
    got = row.got;
    wanted = refl;
    did = row.did;
    is = goes (Collecting n) ∙ home-on;
  }

  -- what goes on from it plans a carrier
  pub home-plans : IsReadyAt (Collecting n) s told → Walks (PlansFrom t)
      → PlansAt (Collecting n) s told
  home-plans h plans = row-plans s h (Clear n) row.got (Collecting n) refl refl refl refl row.did
      (same-plans s t same (ap (λ (a : Actor). a.instance.created) (row.is (Collecting n))) _ _
      home-on (plans (Collecting n)))
