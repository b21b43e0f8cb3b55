-- What the calls of a scheduler on carriers ask for, as what is shared is told, and what it has of
-- a carrier by their answers.
use Rattle.std.proofs.Common.{◌≤◌, ◌≡◌, ◌≢◌, ℕ, ◌*◌, ◌<◌, [], refl, sym, ap, ◌∙◌}
use Rattle.std.proofs.Common.{subst, arith}
use Rattle.std.specs.Prelude.{IfSome, IsSome, None, ◌+◌, length}
use Rattle.ea_model.specs.declared.units.TheConstants.{NUMBERS}
use Rattle.ea_model.specs.declared.carriers.Kind.TheVariants.{Multi}
use Rattle.ea_model.specs.Content.{Content, block_at, gaps_of, largest}
use Rattle.ea_model.specs.Instance.{Instance, block_in, content_of, employed, own_at}
use Rattle.ea_model.specs.Instance.{owner_of}
use Rattle.ea_model.specs.Trace.{IsScheduler}
use Rattle.ea_model.proofs.Options.{if_some}
use Rattle.ea_machine.specs.declared.nodes.Named.{Named}
use Rattle.ea_machine.specs.declared.owners.OwnerWord.{OwnerWord}
use Rattle.ea_machine.specs.declared.owners.OwnerWord.TheVariants as word
use Rattle.ea_machine.specs.declared.tasks.Gone.{Gone}
use Rattle.ea_machine.specs.declared.tasks.Why.{Why}
use Rattle.ea_machine.specs.declared.stages.Stage.{Stage}
use Rattle.ea_machine.specs.declared.stages.Stage.TheVariants.{Collecting, Routed}
use Rattle.ea_machine.specs.declared.stages.Route.TheVariants.{Abandoning, Clearing, Looking}
use Rattle.ea_machine.specs.declared.stages.Route.TheVariants.{Sending, Settling, Trying}
use Rattle.ea_machine.specs.Actor.{Actor}
use Rattle.ea_machine.specs.Lists.{times_listed}
use Rattle.ea_machine.specs.Machine.{IsReached, run, wants_at}
use Rattle.ea_machine.specs.Owners.{Busy, Employed}
use Rattle.ea_machine.specs.Rows.{Answer, BusyTry, Look, Row, Saw, Settle, Won}
use Rattle.ea_machine.specs.Setup.{Setup}
use Rattle.ea_machine.specs.Shared.{Shared}
use Rattle.ea_machine.specs.State.{State}
use Rattle.ea_machine.specs.Statistics.{leaving_at}
use Rattle.ea_machine.specs.Words.{IsLargest}
use Rattle.ea_sound.proofs.ListedCalls as listed
use Rattle.ea_sound.specs.Places.{IsNumber}
use Rattle.ea_sound.proofs.CarrierCalls as carriers
use Rattle.ea_sound.proofs.LeavingCalls as leaving
use Rattle.ea_sound.proofs.ReleasingCalls as releasing
use Rattle.ea_sound.proofs.WordCalls as words
use Rattle.ea_shared.specs.Calls.{Caller, Did, IsWanted, Told, WantsRow, caller_of}
use Rattle.ea_shared.specs.Carriers.{HasReturned, IsCarrier, IsCollecting, IsFor, IsLeaving}
use Rattle.ea_shared.specs.Carriers.{IsPooledBy}
use Rattle.ea_sched.specs.declared.state.Scheduler.{Scheduler}
use Rattle.ea_sched.specs.Acting.{setup_for, standing_at}
use Rattle.ea_sched.specs.Steps.{IsReadyAt, StartsRow}
use Rattle.ea_sched.proofs.Calling.{in-answered, told-so}
use Rattle.ea_sched.proofs.Doing.{Answered}

-- a scheduler that is ready for its row, at a stage
module _ {stage : Stage Content} (s : Scheduler) {told : Told} (h : IsReadyAt stage s told) where
  abbrev me : ℕ
  me = s.number

  abbrev e : Setup
  e = setup_for s

  -- it stands so in this state
  abbrev w : State
  w = run e h.turns

  reached : IsReached e w
  reached = (h.turns, refl)

  number : IsScheduler s.config.schedulers me
  number = (s.number_from, s.number_to)

  stands : (w.actors me).stage ≡ stage
  stands = ap (λ (a : Actor). a.stage) h.actor

  -- the instance in that state is the scheduler's
  its : (P : Instance → Type 0) → P (w.actors me).instance → P s.instance
  its P holds = subst (λ (a : Actor). P a.instance) h.actor holds

  -- the caller that is told is the scheduler
  abbrev mine : Caller
  mine = caller_of e me h.turns

  told-caller : (P : Caller → Type 0) → P mine → IfSome told.caller P
  told-caller P holds = if_some told.caller (λ x. x ≡ mine) P (λ x same. subst P (sym same) holds)
      h.calls

  -- a number stands in the lists once at most
  pub listed-once : (n : ℕ) → times_listed n s.lists.lists ≤ 1
  listed-once n = subst (λ (a : Actor). times_listed n a.lists ≤ 1) h.actor
      (listed.listed-once s.config s.trace.now h.config h.trace w reached me number n)

  -- the settings of its instance are those of the run
  pub own-settings : s.instance.settings ≡ e.settings
  own-settings = its (λ i. i.settings ≡ e.settings)
      (releasing.own-settings s.config s.trace.now h.config h.trace w reached me number)

  -- its row was answered
  module _ (row : Row) (got : Answer) {new : Told} (did : Did me row got told new) where
    u : Answered e me (standing_at stage s) row got told new
    u = in-answered s h row got did

    -- it stood so in this state, too
    abbrev v : State
    v = run e u.turns

    stood : (v.actors me).stage ≡ stage
    stood = ap (λ (a : Actor). a.stage) u.actor

-- a scheduler that starts its row
module _ {stage : Stage Content} {told : Told} (s : Scheduler) (h : StartsRow stage s told)
    {n k : ℕ} (same : n ≡ k) where
  -- a number of the run is one of those of what is shared
  of-shared : IsNumber (setup_for s) k → IsCarrier told.schedulers n
  of-shared is = (
    omega (arith, same, is.0),
    omega (arith, same, is.1, ap (λ m. NUMBERS * m) h.schedulers),
  )

  told-at : (P : ℕ → Shared → Type 0) → P k (w s h.ready).shared → IfSome told.shared (P n)
  told-at P holds = subst (λ m. IfSome told.shared (P m)) (sym same) (told-so s h.ready (P k) holds)

-- the content that is handed on is the one that was in the hand
as-for : {n gap : ℕ} {x y : Content} → n ≡ x.number → y ≡ x → x.blocks ≢ []
    → gap ≡ largest (gaps_of y) → IsLargest (largest (gaps_of x)) → IsFor n gap y
as-for same taken some is units = record {
  number = ap (λ (z : Content). z.number) taken ∙ sym same;
  blocks = λ none. some (ap (λ (z : Content). z.blocks) (sym taken) ∙ none);
  is = is;
  units = subst IsLargest (sym (is ∙ ap (λ (z : Content). largest (gaps_of z)) taken)) units;
}

module _ {why : Why} {gone : Gone} {told : Told} (s : Scheduler) where
  -- the owner word of the carrier of the block in the hand is to be read
  module _ {hand : Named} (h : StartsRow (Routed (Looking hand) why gone) s told) where
    pub look-carrier : IsCarrier told.schedulers hand.spot.carrier
    look-carrier =
        let r = h.ready in
        of-shared s h refl (carriers.look-number s.config s.trace.now r.config r.trace (w s r)
        (reached s r) (me s r) (number s r) why gone hand (stands s r))

    -- it names the scheduler: the block is here
    pub saw-block : {new : Told} (seen : OwnerWord)
        → Did s.number (Look hand.spot.carrier) (Saw seen) told new
        → seen ≡ word.Employed s.number → IsSome (block_in (employed s.instance) hand.spot)
    saw-block seen did is =
        let r = h.ready in
        let row = Look hand.spot.carrier in
        let x = u s r row (Saw seen) did in
        subst (λ (a : Actor). IsSome (block_in (employed a.instance) hand.spot)) x.actor
        (releasing.release-block s.config s.trace.now r.config r.trace (v s r row (Saw seen) did)
        (x.turns, refl) (me s r) (number s r) why gone hand (stood s r row (Saw seen) did)
        (words.saw-employed s.number hand.spot.carrier (v s r row (Saw seen) did).shared s.number
        (sym x.answered ∙ ap Saw is)))

  -- the carrier is to be made busy
  module _ {hand : Named} {seen : OwnerWord}
      (h : StartsRow (Routed (Trying hand seen) why gone) s told) where
    pub try-carrier : IsCarrier told.schedulers hand.spot.carrier
    try-carrier =
        let r = h.ready in
        of-shared s h refl (carriers.try-number s.config s.trace.now r.config r.trace (w s r)
        (reached s r) (me s r) (number s r) why gone hand seen (stands s r))

    pub try-pooled : IsPooledBy s.number seen
    try-pooled =
        let r = h.ready in
        let (g, is, units) = carriers.try-seen s.config s.trace.now r.config r.trace (w s r)
        (reached s r) (me s r) (number s r) why gone hand seen (stands s r) in
        record { largest = g; is = is; units = units }

    -- it has the block
    pub won-block : {new : Told} (x : Content)
        → Did s.number (BusyTry hand.spot.carrier seen) (Won x) told new
        → IsSome (block_at x.blocks hand.spot.offset)
    won-block x did =
        let r = h.ready in
        let row = BusyTry hand.spot.carrier seen in
        let y = u s r row (Won x) did in
        let (same, many, (b, at, named)) = carriers.won-block s.config s.trace.now r.config r.trace
        (v s r row (Won x) did) (y.turns, refl) (me s r) (number s r) why gone hand seen
        (stood s r row (Won x) did) x
        (words.busy-won s.number hand.spot.carrier (v s r row (Won x) did).shared seen x
        (sym y.answered)) in
        subst IsSome (sym at) refl

  -- a carrier is in the hand
  module _ {x : Content} where
    -- a busy one is to be settled
    module _ (h : StartsRow (Routed (Settling x) why gone) s told) where
      pub settle-many : x.kind ≡ Multi
      settle-many =
          let r = h.ready in
          carriers.settle-many s.config s.trace.now r.config r.trace (w s r) (reached s r)
          (me s r) (number s r) why gone x (stands s r)

      pub settle-wanted : IsWanted s.number (Settle x) told
      settle-wanted = told-caller s h.ready (WantsRow s.number (Settle x))
          (refl, ap (wants_at (mine s h.ready).actor.next) (stands s h.ready))

      module _ {n : ℕ} (same : n ≡ x.number) where
        pub settle-carrier : IsCarrier told.schedulers n
        settle-carrier =
            let r = h.ready in
            of-shared s h same (carriers.settle-number s.config s.trace.now r.config r.trace
            (w s r) (reached s r) (me s r) (number s r) why gone x (stands s r))

        pub settle-busy : IfSome told.shared (λ y. y.places n ≡ Busy s.number)
        settle-busy =
            let r = h.ready in
            told-at s h same (λ k y. y.places k ≡ Busy s.number)
            (carriers.settle-place s.config s.trace.now r.config r.trace (w s r) (reached s r)
            (me s r) (number s r) why gone x (stands s r))

        pub settle-for : {y : Content} {gap : ℕ} → y ≡ x → x.blocks ≢ []
            → gap ≡ largest (gaps_of y) → IsFor n gap y
        settle-for taken some is =
            let r = h.ready in
            as-for same taken some is (carriers.settle-largest s.config s.trace.now r.config r.trace
            (w s r) (reached s r) (me s r) (number s r) why gone x (stands s r))

    -- one is to be abandoned
    module _ (h : StartsRow (Routed (Abandoning x) why gone) s told)
      where
        pub abandon-many : x.kind ≡ Multi
        abandon-many =
            let r = h.ready in
            leaving.abandon-many s.config s.trace.now r.config r.trace (w s r) (reached s r)
            (me s r) (number s r) why gone x (stands s r)

        module _ {n : ℕ} (same : n ≡ x.number) where
          pub abandon-carrier : IsCarrier told.schedulers n
          abandon-carrier =
              let r = h.ready in
              of-shared s h same (leaving.abandon-number s.config s.trace.now r.config r.trace
              (w s r) (reached s r) (me s r) (number s r) why gone x (stands s r))

          -- there is room for its number, where it is an own one
          pub abandon-room : owner_of n ≡ s.number
              → length s.lists.lists.pooled + length s.lists.lists.traitors < NUMBERS
          abandon-room own =
              let r = h.ready in
              subst (λ (a : Actor). length a.lists.pooled + length a.lists.traitors < NUMBERS)
              r.actor
              (listed.abandon-room s.config s.trace.now r.config r.trace (w s r) (reached s r)
              (me s r) (number s r) why gone x (stands s r) (ap owner_of (sym same) ∙ own))

          pub abandon-employed : IfSome told.shared (λ y. y.places n ≡ Employed s.number)
          abandon-employed =
              let r = h.ready in
              told-at s h same (λ k y. y.places k ≡ Employed s.number)
              (leaving.abandon-place s.config s.trace.now r.config r.trace (w s r)
              (reached s r) (me s r) (number s r) why gone x (stands s r))

          pub abandon-for : {y : Content} {gap : ℕ} → y ≡ x → gap ≡ largest (gaps_of y)
              → IsFor n gap y
          abandon-for taken is =
              let r = h.ready in
              as-for same taken
              (leaving.abandon-some s.config s.trace.now r.config r.trace (w s r)
              (reached s r) (me s r) (number s r) why gone x (stands s r)) is
              (leaving.abandon-largest s.config s.trace.now r.config r.trace (w s r)
              (reached s r) (me s r) (number s r) why gone x (stands s r))

    -- one is to be sent home
    module _ (h : StartsRow (Routed (Sending x) why gone) s told) where
      pub send-many : x.kind ≡ Multi
      send-many =
          let r = h.ready in
          leaving.send-many s.config s.trace.now r.config r.trace (w s r) (reached s r)
          (me s r) (number s r) why gone x (stands s r)

      pub send-empty : x.blocks ≡ []
      send-empty =
          let r = h.ready in
          leaving.send-empty s.config s.trace.now r.config r.trace (w s r) (reached s r)
          (me s r) (number s r) why gone x (stands s r)

      module _ {n : ℕ} (same : n ≡ x.number) where
        pub send-other : owner_of n ≢ s.number
        send-other own =
            let r = h.ready in
            leaving.send-other s.config s.trace.now r.config r.trace (w s r) (reached s r)
            (me s r) (number s r) why gone x (stands s r) (ap owner_of (sym same) ∙ own)

        pub send-carrier : IsCarrier told.schedulers n
        send-carrier =
            let r = h.ready in
            of-shared s h same (leaving.send-number s.config s.trace.now r.config r.trace
            (w s r) (reached s r) (me s r) (number s r) why gone x (stands s r))

        pub send-employed : IfSome told.shared (λ y. y.places n ≡ Employed s.number)
        send-employed =
            let r = h.ready in
            told-at s h same (λ k y. y.places k ≡ Employed s.number)
            (leaving.send-place s.config s.trace.now r.config r.trace (w s r) (reached s r)
            (me s r) (number s r) why gone x (stands s r))

    -- one is to be cleared
    module _ (h : StartsRow (Routed (Clearing x) why gone) s told) where
      pub clear-leaving : IfSome told.caller IsLeaving
      clear-leaving = told-caller s h.ready IsLeaving (x, ap leaving_at (stands s h.ready))

      module _ {n : ℕ} (same : n ≡ x.number) where
        pub clear-mine : owner_of n ≡ s.number
        clear-mine =
            let r = h.ready in
            ap owner_of same
            ∙ leaving.clear-mine s.config s.trace.now r.config r.trace (w s r) (reached s r)
            (me s r) (number s r) why gone x (stands s r)

        pub clear-carrier : IsCarrier told.schedulers n
        clear-carrier =
            let r = h.ready in
            of-shared s h same (leaving.clear-number s.config s.trace.now r.config r.trace
            (w s r) (reached s r) (me s r) (number s r) why gone x (stands s r))

        pub clear-employed : IfSome told.shared (λ y. y.places n ≡ Employed s.number)
        clear-employed =
            let r = h.ready in
            told-at s h same (λ k y. y.places k ≡ Employed s.number)
            (leaving.clear-place s.config s.trace.now r.config r.trace (w s r) (reached s r)
            (me s r) (number s r) why gone x (stands s r))

        -- the instance has it no longer, and owns it
        pub clear-none : content_of (employed s.instance) n ≡ None
        clear-none =
            let r = h.ready in
            ap (content_of (employed s.instance)) same
            ∙ its s r (λ i. content_of (employed i) x.number ≡ None)
            (leaving.clear-none s.config s.trace.now r.config r.trace (w s r) (reached s r)
            (me s r) (number s r) why gone x (stands s r))

        pub clear-own : IsSome (own_at s.instance.own n)
        clear-own =
            let r = h.ready in
            subst (λ k. IsSome (own_at s.instance.own k)) (sym same)
            (its s r (λ i. IsSome (own_at i.own x.number))
            (subst IsSome (sym (carriers.clear-own s.config s.trace.now r.config r.trace (w s r)
            (reached s r) (me s r) (number s r) why gone x (stands s r))) refl))

-- a carrier that has returned is to be cleared
module _ {n : ℕ} {told : Told} (s : Scheduler) (h : StartsRow (Collecting n) s told) where
  pub collects : IfSome told.caller (IsCollecting n)
  collects = told-caller s h.ready (IsCollecting n) (stands s h.ready)

  pub collect-mine : owner_of n ≡ s.number
  collect-mine =
      let r = h.ready in
      carriers.collect-mine s.config s.trace.now r.config r.trace (w s r) (reached s r)
      (me s r) (number s r) n (stands s r)

  pub collect-carrier : IsCarrier told.schedulers n
  collect-carrier =
      let r = h.ready in
      of-shared s h refl (carriers.collect-number s.config s.trace.now r.config r.trace (w s r)
      (reached s r) (me s r) (number s r) n (stands s r))

  pub collect-returned : IfSome told.shared (λ y. HasReturned s.number (y.places n))
  collect-returned =
      let r = h.ready in
      told-so s r (λ y. HasReturned s.number (y.places n))
      (carriers.collect-home s.config s.trace.now r.config r.trace (w s r) (reached s r)
      (me s r) (number s r) n (stands s r))

  pub collect-none : content_of (employed s.instance) n ≡ None
  collect-none =
      let r = h.ready in
      its s r (λ i. content_of (employed i) n ≡ None)
      (carriers.collect-none s.config s.trace.now r.config r.trace (w s r) (reached s r)
      (me s r) (number s r) n (stands s r))

  pub collect-own : IsSome (own_at s.instance.own n)
  collect-own =
      let r = h.ready in
      its s r (λ i. IsSome (own_at i.own n))
      (subst IsSome (sym (carriers.collect-own s.config s.trace.now r.config r.trace (w s r)
      (reached s r) (me s r) (number s r) n (stands s r))) refl)
