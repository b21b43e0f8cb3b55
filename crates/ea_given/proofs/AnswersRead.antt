-- What a row will answer, read off the memory.
use Rattle.std.proofs.Common.{◌≡◌, ◌≢◌, ℕ, ◌*◌, Bool, true, false, refl, sym, ap, ◌∙◌, subst}
use Rattle.std.proofs.Common.{inl, inr, arith}
use Rattle.std.specs.Prelude.{Option, None, Some}
use Rattle.std.proofs.lemmas.Bool.{cases_Bool}
use Rattle.ea_model.specs.declared.settings.Config.{Config}
use Rattle.ea_model.specs.declared.trace.Trace.{Trace}
use Rattle.ea_model.specs.declared.units.TheConstants.{NUMBERS}
use Rattle.ea_model.specs.Content.{Content}
use Rattle.ea_model.specs.Trace.{IsScheduler}
use Rattle.ea_machine.specs.declared.nodes.Node.{Node}
use Rattle.ea_machine.specs.declared.owners.OwnerWord.{OwnerWord}
use Rattle.ea_machine.specs.declared.stages.Route.{Route}
use Rattle.ea_machine.specs.declared.stages.Route.TheVariants.{Looking, Trying, Settling}
use Rattle.ea_machine.specs.declared.stages.Route.TheVariants.{Abandoning, Sending, Clearing}
use Rattle.ea_machine.specs.declared.stages.Route.TheVariants.{Pushing, Linking}
use Rattle.ea_machine.specs.declared.stages.Stage.{Stage}
use Rattle.ea_machine.specs.declared.stages.Stage.TheVariants.{Begin, Routed, Collecting}
use Rattle.ea_machine.specs.declared.stages.Stage.TheVariants.{Searching, Fetching, Creating}
use Rattle.ea_machine.specs.declared.stages.Stage.TheVariants.{Giving, Taking, Ended, Ready}
use Rattle.ea_machine.specs.declared.tasks.Gone.{Gone}
use Rattle.ea_machine.specs.declared.tasks.Why.{Why}
use Rattle.ea_machine.specs.Actor.{Actor}
use Rattle.ea_machine.specs.Machine.{begins, wants_at, wants_on}
use Rattle.ea_machine.specs.Nodes.{first_node, spot_named}
use Rattle.ea_machine.specs.Owners.{word_of}
use Rattle.ea_machine.specs.Rows.{Answer, Row, TakeLink}
use Rattle.ea_machine.specs.Rows as rows
use Rattle.ea_machine.specs.Setup.{Setup, migration, setup_of}
use Rattle.ea_machine.specs.Shared.{Shared}
use Rattle.ea_machine.specs.State.{State}
use Rattle.ea_machine.specs.Table.{answer, link_answer, tried_at}
use Rattle.ea_sound.specs.Places.{IsNumber}
use Rattle.ea_sound.specs.Present.{Rule}
use Rattle.ea_sound.specs.Turns.{answered}
use Rattle.ea_sound.proofs.Calls.{as-node}
use Rattle.ea_sound.proofs.Asked.{reached-rule}
use Rattle.ea_sound.proofs.Calls as calls
use Rattle.ea_sound.proofs.CarrierCalls as carriers
use Rattle.ea_sound.proofs.OffStages.{IsOffStage, is-off}
use Rattle.ea_sound.proofs.SoundRanges.{number-scheduler}
use Rattle.ea_shared.specs.Carriers.{IsCarrier}
use Rattle.ea_shared.specs.declared.link.Link.{Link}
use Rattle.ea_shared.specs.declared.link.Link.TheVariants.{Rest, End, Next}
use Rattle.ea_shared.specs.Links.{told_by}
use Rattle.ea_mem_shared.specs.Memory.{Sharing, shared_of}
use Rattle.ea_sched.specs.declared.wants.Wanted.{Wanted}
use Rattle.ea_sched.specs.declared.wants.Wanted.TheVariants as wanted
use Rattle.ea_sched.specs.Wants.{is_last_at, row_told, wanted_of}
use Rattle.ea_given.specs.declared.heard.Heard.{Heard}
use Rattle.ea_given.specs.declared.heard.Heard.TheVariants as heard
use Rattle.ea_given.specs.Heard.{CanRead, given_told, heard_of, row_of}
use Rattle.ea_given.specs.Running.{SharesAt}

-- what is told of a row has its answer
module _ (me : ℕ) (s : Shared) where
  row-heard : (next : Option Node) (last : Bool) (row : Row) → (row ≡ TakeLink → next ≢ None)
      → heard_of (answer me row s) ≡ heard_of (answer me (row_of (row_told me next last row)) s)
  unfolding answer
  row-heard next last rows.TakeAll more = refl
  row-heard None last rows.TakeLink more = absurd (more refl refl)
  row-heard (Some node) last rows.TakeLink more = refl
  row-heard next last (rows.Look number) more = refl
  row-heard next last (rows.Push node to) more = refl
  row-heard next last (rows.Link node to) more = refl
  row-heard next last (rows.BusyTry number seen) more = refl
  row-heard next last (rows.Settle x) more = refl
  row-heard next last (rows.Abandon x) more = refl
  row-heard next last (rows.FetchTry number seen) more = refl
  row-heard next last (rows.Create number) more = refl
  row-heard next last (rows.SendHome x) more = refl
  row-heard next last (rows.Clear number) more = refl
  row-heard next last (rows.Give given) more = refl
  row-heard next last (rows.TakeTry name) more = refl
  row-heard next last rows.Nothing more = refl

-- a walk without a next node reads no link
none-on : (route : Route Content) → wants_on route ≢ TakeLink
none-on (Looking hand) link = cc
none-on (Trying hand seen) link = cc
none-on (Settling x) link = cc
none-on (Abandoning x) link = cc
none-on (Sending x) link = cc
none-on (Clearing x) link = cc
none-on (Pushing node to) link = cc
none-on (Linking node to) link = cc

none-linked : (stage : Stage Content) → wants_at None stage ≢ TakeLink
none-linked Begin link = cc
none-linked (Routed route why gone) link = none-on route link
none-linked (Collecting number) link = cc
none-linked (Searching ask at part) link = cc
none-linked (Fetching ask at part seen) link = cc
none-linked (Creating ask p) link = cc
none-linked (Giving given to) link = cc
none-linked (Taking name tries left) link = cc
none-linked Ended link = cc
none-linked Ready link = cc

-- what a scheduler wants, in a state in which that is shared
module _ (c : Config) (t : Trace) (m : Sharing) (w : State) (shares : SharesAt c t m w) (me : ℕ)
    (number : IsScheduler c.schedulers me) where
  abbrev e : Setup
  e = setup_of c t

  abbrev a : Actor
  a = w.actors me

  rule : Rule e w
  rule = reached-rule c t shares.config shares.trace w shares.reached

  -- it answers what the row does that is told
  pub wanted-heard : heard_of (answered w me)
      ≡ heard_of (answer me (row_of (wanted_of me a)) (shared_of m))
  wanted-heard = row-heard me w.shared a.next (is_last_at a.stage) (wants_at a.next a.stage)
      (λ link none. none-linked a.stage (sym (ap (λ o. wants_at o a.stage) none) ∙ link))
      ∙ ap (λ s. heard_of (answer me (row_of (wanted_of me a)) s)) (sym shares.shares)

  moves : (stage : Stage Content) → a.stage ≡ stage → (IsOffStage stage → ⊥) → m.migrates ≡ true
  moves stage now never = shares.moves ∙ elim (cases_Bool (migration e)) [
    | inl on ↦ on
    | inr off ↦ absurd (never (subst IsOffStage now
        (is-off e w rule me (number-scheduler e me number) off)))
  ]

  as-carrier : (n : ℕ) → IsNumber e n → IsCarrier m.schedulers n
  as-carrier n is = (is.0, omega (arith, is.1, ap (λ k. NUMBERS * k) shares.made))

  at-begin : (o : Option Node) → a.next ≡ o → CanRead m me (row_told me o false (begins o))
  at-begin None none = omega (arith, number.1, shares.made)
  at-begin (Some node) next =
      let is = calls.next-node c t shares.config shares.trace w shares.reached me number node
      next in (
        as-node node shares.made shares.names is.1,
        ap (λ (s : Shared). first_node (s.rests me)) shares.shares ∙ is.0,
      )

  at-route : (route : Route Content) (why : Why) (gone : Gone) → a.stage ≡ Routed route why gone
      → CanRead m me (row_told me a.next false (wants_on route))
  at-route (Looking hand) why gone now = (
    moves (Routed (Looking hand) why gone) now (λ off. off),
    as-carrier hand.spot.carrier (carriers.look-number c t shares.config shares.trace w
        shares.reached me number why gone hand now),
  )
  at-route (Trying hand seen) why gone now =
      let shown = carriers.try-seen c t shares.config shares.trace w shares.reached me number why
      gone hand seen now in (
        (
          moves (Routed (Trying hand seen) why gone) now (λ off. off),
          as-carrier hand.spot.carrier (carriers.try-number c t shares.config shares.trace w
              shares.reached me number why gone hand seen now),
        ),
        (me, shown.0, shown.1),
      )
  at-route (Settling x) why gone now = tt
  at-route (Abandoning x) why gone now = tt
  at-route (Sending x) why gone now = tt
  at-route (Clearing x) why gone now = tt
  at-route (Pushing node to) why gone now = tt
  at-route (Linking node to) why gone now = tt

  can-at : (stage : Stage Content) → a.stage ≡ stage
      → CanRead m me (row_told me a.next (is_last_at stage) (wants_at a.next stage))
  can-at Begin now = at-begin a.next refl
  can-at (Routed route why gone) now = at-route route why gone now
  can-at (Collecting n) now = tt
  can-at (Searching ask at part) now = (
    moves (Searching ask at part) now (λ off. off),
    as-carrier at (carriers.search-number c t shares.config shares.trace w shares.reached me
        number ask at part now),
  )
  can-at (Fetching ask at part seen) now =
      let shown = carriers.fetch-seen c t shares.config shares.trace w shares.reached me number
      ask at part seen now in (
        (
          moves (Fetching ask at part seen) now (λ off. off),
          as-carrier at (carriers.fetch-number c t shares.config shares.trace w shares.reached me
              number ask at part seen now),
        ),
        (shown.0, shown.1, shown.2),
      )
  can-at (Creating ask p) now = tt
  can-at (Giving given to) now = tt
  can-at (Taking name tries left) now =
      let is = calls.take-name c t shares.config shares.trace w shares.reached me number name tries
      left now in
      (is.0, omega (arith, is.1, shares.names))
  can-at Ended now = tt
  can-at Ready now = tt

  -- and that can be read off the memory
  pub wanted-read : CanRead m me (wanted_of me a)
  wanted-read = can-at a.stage refl

-- what a link tells is heard
link-heard : (link : Link) (got : Answer) → told_by link ≡ got → heard.Read link ≡ heard_of got
link-heard Rest got is = ap heard_of is
link-heard End got is = ap heard_of is
link-heard (Next node) got is = ap heard_of is

-- what is read answers the row that is told
module _ (me : ℕ) (s : Shared) (x : Wanted) where
  same-row : (y : Wanted) → x ≡ y
      → heard_of (answer me (row_of y) s) ≡ heard_of (answer me (row_of x) s)
  same-row y is = ap (λ z. heard_of (answer me (row_of z) s)) (sym is)

  all-is : heard.Head (first_node (s.queues me)) ≡ heard_of (answer me rows.TakeAll s)
  unfolding answer
  all-is = refl

  link-is : heard_of (link_answer (s.rests me)) ≡ heard_of (answer me rows.TakeLink s)
  unfolding answer
  link-is = refl

  look-is : (n : ℕ) → heard.Saw (word_of (s.places n)) ≡ heard_of (answer me (rows.Look n) s)
  unfolding answer
  look-is n = refl

  busy-is : (n : ℕ) (seen : OwnerWord)
      → heard_of (tried_at seen (s.places n)) ≡ heard_of (answer me (rows.BusyTry n seen) s)
  unfolding answer
  busy-is n seen = refl

  fetch-is : (n : ℕ) (seen : OwnerWord)
      → heard_of (tried_at seen (s.places n)) ≡ heard_of (answer me (rows.FetchTry n seen) s)
  unfolding answer
  fetch-is n seen = refl

  take-is : (name : ℕ) → given_told (spot_named name s.given)
      ≡ heard_of (answer me (rows.TakeTry name) s)
  unfolding answer
  take-is name = refl

  none-is : heard.Done ≡ heard_of (answer me rows.Nothing s)
  unfolding answer
  none-is = refl

  pub all-heard : (first : Option Node) → x ≡ wanted.TakeAll → first ≡ first_node (s.queues me)
      → heard.Head first ≡ heard_of (answer me (row_of x) s)
  all-heard first is newest = ap heard.Head newest ∙ all-is ∙ same-row wanted.TakeAll is

  pub read-heard : (node : Node) (link : Link) → x ≡ wanted.TakeLink node
      → told_by link ≡ link_answer (s.rests me)
      → heard.Read link ≡ heard_of (answer me (row_of x) s)
  read-heard node link is read = link-heard link (link_answer (s.rests me)) read ∙ link-is
      ∙ same-row (wanted.TakeLink node) is

  pub look-heard : (n : ℕ) (last : Bool) (seen : OwnerWord) → x ≡ wanted.Look n last
      → seen ≡ word_of (s.places n) → heard.Saw seen ≡ heard_of (answer me (row_of x) s)
  look-heard n last seen is saw = ap heard.Saw saw ∙ look-is n ∙ same-row (wanted.Look n last) is

  pub busy-heard : (n : ℕ) (seen : OwnerWord) (got : Heard) → x ≡ wanted.BusyTry n seen
      → got ≡ heard_of (tried_at seen (s.places n)) → got ≡ heard_of (answer me (row_of x) s)
  busy-heard n seen got is tried = tried ∙ busy-is n seen ∙ same-row (wanted.BusyTry n seen) is

  pub fetch-heard : (n : ℕ) (seen : OwnerWord) (got : Heard) → x ≡ wanted.FetchTry n seen
      → got ≡ heard_of (tried_at seen (s.places n)) → got ≡ heard_of (answer me (row_of x) s)
  fetch-heard n seen got is tried = tried ∙ fetch-is n seen
      ∙ same-row (wanted.FetchTry n seen) is

  pub take-heard : (name : ℕ) (got : Heard) → x ≡ wanted.TakeTry name
      → got ≡ given_told (spot_named name s.given) → got ≡ heard_of (answer me (row_of x) s)
  take-heard name got is taken = taken ∙ take-is name ∙ same-row (wanted.TakeTry name) is

  pub none-heard : row_of x ≡ rows.Nothing → heard.Done ≡ heard_of (answer me (row_of x) s)
  none-heard is = none-is ∙ ap (λ row. heard_of (answer me row s)) (sym is)
