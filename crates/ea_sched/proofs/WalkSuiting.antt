-- After a route that is over, or a carrier that was collected, the scheduler can work off its walk.
use Rattle.std.proofs.Common.{◌≡◌, ℕ, refl, sym, ap, ◌∙◌, subst}
use Rattle.std.specs.Prelude.{None}
use Rattle.ea_model.specs.Content.{Content}
use Rattle.ea_model.specs.Settings.{IsValidConfig}
use Rattle.ea_model.specs.Trace.{IsScheduler, IsValidTrace}
use Rattle.ea_machine.specs.declared.tasks.Gone.{Gone}
use Rattle.ea_machine.specs.declared.tasks.Why.TheVariants.{Walk}
use Rattle.ea_machine.specs.declared.stages.Stage.TheVariants.{Begin, Collecting, Routed}
use Rattle.ea_machine.specs.declared.stages.Route.{Route}
use Rattle.ea_machine.specs.Actor.{Actor}
use Rattle.ea_machine.specs.Machine.{IsReached, run, wants_on}
use Rattle.ea_machine.specs.Releases.{disowned, struck, turned}
use Rattle.ea_machine.specs.Releases as releases
use Rattle.ea_machine.specs.Rows.{Answer, Clear}
use Rattle.ea_machine.specs.Setup.{Setup}
use Rattle.ea_machine.specs.Shared.{Shared}
use Rattle.ea_machine.specs.State.{State}
use Rattle.ea_machine.specs.Table.{effect}
use Rattle.ea_sound.specs.Leaves.{InWalk}
use Rattle.ea_sound.specs.Moments.{at}
use Rattle.ea_sound.proofs.Assembly.{HoldsAt}
use Rattle.ea_sound.proofs.CarrierCalls.{turned-walk, walks}
use Rattle.ea_sound.proofs.ShortRoutes.{turned-keeps}
use Rattle.ea_sound.proofs.WalkCalls.{collected-walks}
use Rattle.ea_shared.specs.Calls.{Told}
use Rattle.ea_sched.specs.declared.routes.Turned.{Turned}
use Rattle.ea_sched.specs.declared.state.Scheduler.{Scheduler}
use Rattle.ea_sched.specs.Acting.{IsSame, setup_for, standing_at}
use Rattle.ea_sched.specs.Asking.{CanWorkOff}
use Rattle.ea_sched.specs.Steps.{IsReadyAt}
use Rattle.ea_sched.specs.Routes.{CollectedRow, TurnedRow, turned_of}
use Rattle.ea_sched.proofs.Calling.{in-answered}
use Rattle.ea_sched.proofs.Doing.{Answered}
use Rattle.ea_sched.proofs.StandsOn.{same-setup}
use Rattle.ea_sched.proofs.Suiting.{can-work_off}

-- what is left of the operations, and where the walk is, tell it of a scheduler in the same run
module _ (s t : Scheduler) (same : IsSame s t) (valid : IsValidConfig s.config)
    (made : IsValidTrace s.config.schedulers s.trace.now) (w : State)
    (reached : IsReached (setup_for s) w) (part : Shared) (b : Actor)
    (todo : (w.actors s.number).todo ≡ b.todo) (is : standing_at Begin t ≡ at Begin b) where
  made-same : IsValidTrace t.config.schedulers t.trace.now
  made-same = subst (λ c. IsValidTrace c.schedulers t.trace.now) (sym same.config)
      (subst (λ r. IsValidTrace s.config.schedulers r.now) (sym same.trace) made)

  pub works-same : InWalk (setup_for s) w part s.number (at Begin b)
      → CanWorkOff t t.passed.nodes
  works-same walks = can-work_off t (subst IsValidConfig (sym same.config) valid) made-same w
      (subst (λ e. IsReached e w) (sym (same-setup s t same)) reached)
      (ap (λ n. (w.actors n).todo) same.number ∙ todo ∙ sym (ap (λ (a : Actor). a.todo) is))
      part t.passed.nodes
      (subst (λ n. InWalk (setup_for t) w part n (standing_at Begin t)) (sym same.number)
      (subst (λ e. InWalk e w part s.number (standing_at Begin t)) (sym (same-setup s t same))
      (subst (InWalk (setup_for s) w part s.number) (sym is) walks)))

-- the row of a route was done, and the route is over
module _ (s t : Scheduler) (same : IsSame s t) (route : Route Content) (gone : Gone)
    {told new : Told} (h : IsReadyAt (Routed route Walk gone) s told) (left : Turned)
    (row : TurnedRow route gone s t left told new) (over : left.route ≡ None) where
  abbrev e : Setup
  e = setup_for s

  abbrev me : ℕ
  me = s.number

  abbrev a : Actor
  a = standing_at (Routed route Walk gone) s

  abbrev turn : releases.Turned
  turn = turned e me route gone a row.got

  so : turned_of left (standing_at (Routed route Walk gone) t) ≡ turn
  so = row.is (Routed route Walk gone)

  number : IsScheduler s.config.schedulers me
  number = (s.number_from, s.number_to)

  u : Answered e me a (wants_on route) row.got told new
  u = in-answered s h (wants_on route) row.got row.did

  -- it stood so in this state
  abbrev v : State
  v = run e u.turns

  came : IsReached e v
  came = (u.turns, refl)

  abbrev moved : Shared
  moved = effect me (wants_on route) v.shared

  abbrev Left : Actor → Answer → Type 0
  Left b r =
      let t = turned e me route gone b r in
      HoldsAt e v moved me (InWalk e v moved me)
      (walks s.config s.trace.now h.config h.trace v came me number route gone)
      Walk t.gone t.actor t.route

  holds : Left a row.got
  holds = subst (λ b. Left b row.got) u.actor
      (subst (Left (v.actors me)) (sym u.answered)
      (turned-walk s.config s.trace.now h.config h.trace v came me number route gone
      (ap (λ (b : Actor). b.stage) u.actor)).0)

  pub works-turned : CanWorkOff t t.passed.nodes
  works-turned = works-same s t same h.config h.trace v came moved turn.actor
      (ap (λ (b : Actor). b.todo) u.actor ∙ sym (turned-keeps e me route gone a row.got).1)
      (ap (λ (x : releases.Turned). at Begin x.actor) so)
      (subst (HoldsAt e v moved me (InWalk e v moved me)
      (walks s.config s.trace.now h.config h.trace v came me number route gone)
      Walk turn.gone turn.actor) (sym (ap (λ (x : releases.Turned). x.route) so) ∙ over) holds)

-- a carrier was collected
module _ (s t : Scheduler) (same : IsSame s t) (n : ℕ) {told : Told}
    (h : IsReadyAt (Collecting n) s told) where
  abbrev w : State
  w = run (setup_for s) h.turns

  reached : IsReached (setup_for s) w
  reached = (h.turns, refl)

  abbrev cleared : Shared
  cleared = effect s.number (Clear n) w.shared

  pub works-collected : {new : Told} → CollectedRow n s t told new → CanWorkOff t t.passed.nodes
  works-collected row = works-same s t same h.config h.trace w reached cleared
      (disowned n (struck n (standing_at (Collecting n) s))) (ap (λ (b : Actor). b.todo) h.actor)
      (row.is Begin)
      (subst (λ b. InWalk (setup_for s) w cleared s.number
      (at Begin (disowned n (struck n b)))) h.actor
      (collected-walks s.config s.trace.now h.config h.trace w reached s.number
      (s.number_from, s.number_to) n
      (ap (λ (b : Actor). b.stage) h.actor)))
