-- A scheduler can work off the nodes that its walk passed, where carriers don't migrate, and once
-- its walk is over it may do its next operation.
use Rattle.std.proofs.Common.{◌≡◌, ℕ, Bool, true, false, List, []}
use Rattle.std.proofs.Common.{◌∷◌, drop, refl, sym, ap, ◌∙◌, subst}
use Rattle.std.specs.Prelude.{◌==◌, Option, None, Some}
use Rattle.ea_model.specs.declared.carriers.Spot.{Spot}
use Rattle.ea_model.specs.Content.{Content}
use Rattle.ea_model.specs.Instance.{owner_of}
use Rattle.ea_model.specs.Settings.{IsValidConfig}
use Rattle.ea_model.specs.Trace.{IsScheduler, IsValidTrace}
use Rattle.ea_machine.specs.declared.nodes.Named.{Named}
use Rattle.ea_machine.specs.declared.nodes.Node.{Node}
use Rattle.ea_machine.specs.declared.nodes.Node.TheVariants.{Block, Carrier}
use Rattle.ea_machine.specs.declared.tasks.Why.TheVariants.{Walk}
use Rattle.ea_machine.specs.declared.stages.Stage.{Stage}
use Rattle.ea_machine.specs.declared.stages.Stage.TheVariants.{Begin}
use Rattle.ea_machine.specs.declared.stages.Route.{Route}
use Rattle.ea_machine.specs.Actor.{Actor}
use Rattle.ea_machine.specs.Machine.{IsReached}
use Rattle.ea_machine.specs.Releases.{Turned, route_of}
use Rattle.ea_machine.specs.Rows.{Passes, Rests, TakeAll, TakeLink}
use Rattle.ea_machine.specs.Setup.{Setup, is_scheduler, migration}
use Rattle.ea_machine.specs.Shared.{Shared}
use Rattle.ea_machine.specs.State.{State}
use Rattle.ea_machine.specs.Table.{answer, effect}
use Rattle.ea_machine.specs.Tasks.{carried_by}
use Rattle.ea_machine.specs.Walks.{with_passed}
use Rattle.ea_sound.specs.Leaves.{InWalk}
use Rattle.ea_sound.specs.Moments.{at}
use Rattle.ea_sound.proofs.OffWalks.{passed-carrier, passed-here}
use Rattle.ea_sound.proofs.OffWalks.{passed-own, take_all-walks, take_link-passes}
use Rattle.ea_sound.proofs.OffWalks.{take_link-rests}
use Rattle.ea_sound.proofs.OffWalks.{walk-held, walk-on}
use Rattle.ea_sound.proofs.SoundRanges.{number-scheduler}
use Rattle.ea_sched.specs.declared.state.Scheduler.{Scheduler}
use Rattle.ea_sched.specs.Acting.{actor_of, setup_for, standing_at}
use Rattle.ea_sched.specs.Asking.{CanWorkOff, SuitsNext}
use Rattle.ea_sched.proofs.AfterWalk.{suits-next}
use Rattle.ea_sound.specs.Releasing.{freed_at}
use Rattle.ea_sound.specs.Walking.{CanAllGo, CanGo, Worked, left_if, worked, worked_if}
use Rattle.ea_sound.proofs.Freed.{released-here}

-- the nodes that scheduler `me` passed
module _ (e : Setup) (v : State) (s : Shared) (me : ℕ) (is : is_scheduler e me ≡ true)
    (off : migration e ≡ false) where
  abbrev Walks : Actor → Type 0
  Walks a = InWalk e v s me (at Begin a)

  -- the oldest one
  module _ (n : ℕ) (p : Spot) (ns : List Node) (a : Actor)
      (walks : Walks (record a { passed = Block n p ∷ ns })) where
    abbrev rest : Actor
    rest = record a { passed = ns }

    abbrev hand : Named
    hand = record { name = n; spot = p }

    abbrev turn : Turned
    turn = route_of e me hand rest

    can-go : owner_of p.carrier ≡ me → CanGo a.instance p
    can-go own = record {
      block = passed-here e v s me is off (record a { passed = Block n p ∷ ns }) walks n p ns
          refl own;
      own = passed-own e v s me is off (record a { passed = Block n p ∷ ns }) walks n p ns refl own;
    }

    -- it is released, and the walk goes on with the others
    abbrev turned : Option (Route Content) → Actor
    turned o = carried_by Walk (λ gone b. at Begin b) turn.gone turn.actor o

    abbrev then : Actor
    then = record rest { instance = freed_at a.instance p }

    freed : (owner_of p.carrier == me) ≡ true → Walks then
    freed own = by turn.route refl where
      as-freed : (o : Option (Route Content)) → turn.route ≡ o → turned o ≡ at Begin then
      as-freed o same = ap turned (sym same)
          ∙ released-here e me off Walk (λ gone b. at Begin b) (λ b. refl) rest hand own

      by : (o : Option (Route Content)) → turn.route ≡ o → Walks then
      by None over = subst (InWalk e v s me) (as-freed None over)
          (walk-on e v s me is off n p ns a walks over)
      by (Some r) goes = absurd
          (let never = ap (λ (b : Actor). b.stage) (as-freed (Some r) goes) in cc)

    -- the others can go, whether or not it goes elsewhere
    left-can : (own : Bool) → (owner_of p.carrier == me) ≡ own
        → ((b : Actor) → Walks (record b { passed = ns }) → CanAllGo me b.instance ns)
        → CanAllGo me (left_if own a.instance p) ns
    left-can true own later = later then (freed own)
    left-can false own later =
        later (record a { held = hand ∷ a.held }) (walk-held e v s me is off n p ns a walks)

    -- and if none goes elsewhere the walk is over with them
    abbrev works : Bool → Worked
    works own = worked_if own (worked me (freed_at a.instance p) ns)
        (record { instance = a.instance; left = ns; hand = Some hand })

    left-walks : (own : Bool) → (owner_of p.carrier == me) ≡ own
        → ((b : Actor) → Walks (record b { passed = ns }) → (worked me b.instance ns).hand ≡ None
        → Walks (record b { instance = (worked me b.instance ns).instance; passed = [] }))
        → (works own).hand ≡ None
        → Walks (record a { instance = (works own).instance; passed = [] })
    left-walks true own later none = later then (freed own) none
    left-walks false own later none = absurd cc

  -- all of the nodes
  can-all : (ns : List Node) (a : Actor) → Walks (record a { passed = ns })
      → CanAllGo me a.instance ns
  can-all [] a walks = tt
  can-all (Block n p ∷ ns) a walks = (
    can-go n p ns a walks,
    left-can n p ns a walks (owner_of p.carrier == me) refl (λ b h. can-all ns b h),
  )
  can-all (Carrier d ∷ ns) a walks = absurd
      (passed-carrier e v s me is off (record a { passed = Carrier d ∷ ns }) walks d ns refl)

  worked-walks : (ns : List Node) (a : Actor) → Walks (record a { passed = ns })
      → (worked me a.instance ns).hand ≡ None
      → Walks (record a { instance = (worked me a.instance ns).instance; passed = [] })
  worked-walks [] a walks none = walks
  worked-walks (Block n p ∷ ns) a walks none = left-walks n p ns a walks
      (owner_of p.carrier == me) refl (λ b h. worked-walks ns b h) none
  worked-walks (Carrier d ∷ ns) a walks none = absurd
      (passed-carrier e v s me is off (record a { passed = Carrier d ∷ ns }) walks d ns refl)

-- a scheduler that has these operations left in a reached state, and is in its walk
module _ (s : Scheduler) (valid : IsValidConfig s.config)
    (made : IsValidTrace s.config.schedulers s.trace.now) (w : State)
    (reached : IsReached (setup_for s) w)
    (todo : (w.actors s.number).todo ≡ drop s.done s.text.now) (part : Shared) (ns : List Node)
    (walks : InWalk (setup_for s) w part s.number
    (at Begin (record (actor_of s) { passed = ns }))) where
  is : is_scheduler (setup_for s) s.number ≡ true
  is = number-scheduler (setup_for s) s.number (s.number_from, s.number_to)

  off : s.migrates ≡ false → migration (setup_for s) ≡ false
  off stays = sym s.migrates_so ∙ stays

  -- it can work these nodes off
  pub can-work_off : CanWorkOff s ns
  can-work_off = record {
    passed = λ stays. can-all (setup_for s) w part s.number is (off stays) ns (actor_of s) walks;
    next = λ stays none. suits-next s valid made w reached todo w part
        (worked s.number s.instance ns).instance []
        (worked-walks (setup_for s) w part s.number is (off stays) ns (actor_of s) walks none);
    next_on = λ on none. suits-next s valid made w reached todo w part s.instance ns walks;
  }

-- a scheduler that stands so in a reached state, at a stage
module _ (stage : Stage Content) (s : Scheduler) (valid : IsValidConfig s.config)
    (made : IsValidTrace s.config.schedulers s.trace.now) (w : State)
    (reached : IsReached (setup_for s) w) (here : w.actors s.number ≡ standing_at stage s) where
  abbrev e : Setup
  e = setup_for s

  abbrev me : ℕ
  me = s.number

  number : IsScheduler s.config.schedulers me
  number = (s.number_from, s.number_to)

  todo : (w.actors me).todo ≡ drop s.done s.text.now
  todo = ap (λ (a : Actor). a.todo) here

  begins : stage ≡ Begin → (w.actors me).stage ≡ Begin
  begins begin = ap (λ (a : Actor). a.stage) here ∙ begin

  next-is : (next : Option Node) → s.next ≡ next → (w.actors me).next ≡ next
  next-is next same = ap (λ (a : Actor). a.next) here ∙ same

  -- the scheduler has no walk, and took its queue
  pub suits-taken : stage ≡ Begin → s.next ≡ None → SuitsNext s.instance s
  suits-taken begin none =
      let part = effect me TakeAll w.shared in
      suits-next s valid made w reached todo w part s.instance s.passed.nodes
      (subst (λ a. InWalk e w part me (at Begin a)) here
      (take_all-walks s.config s.trace.now valid made w reached me number (begins begin)
      (next-is None none)))

  -- its walk rests
  pub suits-rests : (node : Node) → stage ≡ Begin → s.next ≡ Some node
      → answer s.number TakeLink w.shared ≡ Rests → SuitsNext s.instance s
  suits-rests node begin next rests =
      let part = effect me TakeLink w.shared in
      suits-next s valid made w reached todo w part s.instance s.passed.nodes
      (subst (λ a. InWalk e w part me (at Begin a)) here
      (take_link-rests s.config s.trace.now valid made w reached me number node (begins begin)
      (next-is (Some node) next) rests))

  -- its walk passed its next node
  module _ (node : Node) (older : Option Node) (begin : stage ≡ Begin)
      (next : s.next ≡ Some node)
      (passes : answer s.number TakeLink w.shared ≡ Passes older) where
    abbrev after_link : Shared
    after_link = effect me TakeLink w.shared

    pub works-passed : CanWorkOff s (node ∷ s.passed.nodes)
    works-passed = can-work_off s valid made w reached todo after_link (node ∷ s.passed.nodes)
        (subst (λ o. InWalk e w after_link me
        (at Begin (record (actor_of s) { passed = with_passed o s.passed.nodes }))) next
        (subst (λ (a : Actor). InWalk e w after_link me
        (at Begin (record a { passed = with_passed a.next a.passed }))) here
        (take_link-passes s.config s.trace.now valid made w reached me number node older
        (begins begin) (next-is (Some node) next) passes)))
