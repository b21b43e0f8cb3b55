-- What the calls of a scheduler on what is shared ask for, in each reached state: names are of the
-- trace, and nodes of its names and carriers; a node that is to be pushed stands nowhere, and one
-- that is to be linked stands unlinked; a name that is to be given isn't given, and one that is to
-- be taken isn't held; and the operation that a scheduler is in the middle of is the first one
-- left.
use Rattle.std.proofs.Common.{◌≡◌, ◌≢◌, ◌⊎◌, ℕ, ◌*◌, ◌<◌, true, List, [], ◌∷◌, refl, sym, ap}
use Rattle.std.proofs.Common.{◌∙◌, subst, inl, inr, arith}
use Rattle.std.specs.Prelude.{◌==◌, All, Contains, Option, None, Some, option_map}
use Rattle.std.proofs.lemmas.Bool.{cases_Bool}
use Rattle.std.proofs.lemmas.List.Elements.{All-contains, All-head, All-nil, All-weaker}
use Rattle.ea_model.specs.declared.carriers.Spot.{Spot}
use Rattle.ea_model.specs.declared.operations.Op.{Op}
use Rattle.ea_model.specs.declared.operations.Op.TheVariants as op
use Rattle.ea_model.specs.declared.settings.Config.{Config}
use Rattle.ea_model.specs.declared.trace.Trace.{Trace}
use Rattle.ea_model.specs.declared.units.TheConstants.{NUMBERS}
use Rattle.ea_model.specs.Settings.{IsValidConfig}
use Rattle.ea_model.specs.Trace.{IsScheduler, IsValidTrace}
use Rattle.ea_model.proofs.Rising.{item_at-key}
use Rattle.ea_model.specs.Content.{Content}
use Rattle.ea_machine.specs.declared.nodes.Named.{Named}
use Rattle.ea_machine.specs.declared.nodes.Node.{Node}
use Rattle.ea_machine.specs.declared.nodes.Node.TheVariants.{Block, Carrier}
use Rattle.ea_machine.specs.declared.tasks.Gone.{Gone}
use Rattle.ea_machine.specs.declared.tasks.Task.{Task}
use Rattle.ea_machine.specs.declared.tasks.Task.TheVariants.{Freeing, Moving}
use Rattle.ea_machine.specs.declared.tasks.Why.{Why}
use Rattle.ea_machine.specs.declared.tasks.Why.TheVariants.{For}
use Rattle.ea_machine.specs.declared.stages.Stage.{Stage}
use Rattle.ea_machine.specs.declared.stages.Stage.TheVariants.{Giving, Routed, Taking}
use Rattle.ea_machine.specs.declared.stages.Route.{Route}
use Rattle.ea_machine.specs.declared.stages.Route.TheVariants.{Linking, Pushing}
use Rattle.ea_machine.specs.Actor.{Actor}
use Rattle.ea_machine.specs.Alike.{HasNoAlike, IsNode, IsSpot}
use Rattle.ea_sound.specs.Contents.{seats}
use Rattle.ea_machine.specs.Guards.{IsUnlinkedAt}
use Rattle.ea_machine.specs.Machine.{IsReached}
use Rattle.ea_sound.specs.Names.{of_named, only}
use Rattle.ea_machine.specs.Nodes.{Mark, first_node, named_at, pushed, spot_named, name_of}
use Rattle.ea_machine.specs.Setup.{Setup, is_scheduler, setup_of}
use Rattle.ea_machine.specs.State.{State}
use Rattle.ea_machine.specs.Sums.{one_if}
use Rattle.ea_sound.specs.Present.{Fits, OfTask, Rule}
use Rattle.ea_sound.specs.Rule.{names_of}
use Rattle.ea_sound.proofs.Asked.{first-operation, reached-rule}
use Rattle.ea_sound.proofs.Created.{scheduler-number}
use Rattle.ea_sound.proofs.Hits.{stands-allocated}
use Rattle.ea_sound.proofs.KeyedWeights.{sum-item}
use Rattle.ea_sound.proofs.NodeSeats.{pushing-returning, returning-scheduler}
use Rattle.ea_sound.proofs.NodeSpots.{linking-unlinked, pushing-no_alike}
use Rattle.ea_sound.proofs.Numbered.{scheduler-seat}
use Rattle.ea_sound.proofs.RowLeaves.{no_first}
use Rattle.ea_sound.proofs.SoundRanges.{number-scheduler}
use Rattle.ea_sound.proofs.SpotRanges.{standing-spot}
use Rattle.ea_sound.proofs.StandingNodes.{IsAt, all-parts, at-name, at-number, pushing-at, queue-at}
use Rattle.ea_sound.proofs.StandingNodes.{passed-at, rest-at}
use Rattle.ea_sound.proofs.Totals.{total-part}
use Rattle.ea_sound.proofs.TraceNames.{IsNameOf, name-range}
use Rattle.ea_sound.proofs.Weights.{one-itself}

-- a node stands where there are as many schedulers, and the greatest name is the same
pub as-node : {n m k l : ℕ} (node : Node) → n ≡ m → k ≡ l → IsNode m l node → IsNode n k node
as-node (Block name spot) same greatest is = (
  is.0,
  omega (arith, is.1, greatest),
  (is.2.0, omega (arith, is.2.1, ap (λ n. NUMBERS * n) same), is.2.2, is.2.3),
)
as-node (Carrier number) same greatest is =
    (is.0, omega (arith, is, ap (λ n. NUMBERS * n) same))

-- what stands unlinked in a queue or a walk has what all nodes there have
unlinked-has : (P : Node → Type 0) (node : Node) (queue rest : List Mark)
    → All (λ m. P m.node) queue → All (λ m. P m.node) rest
    → Contains queue (pushed node) ⊎ Contains rest (pushed node) → P node
unlinked-has P node queue rest queued rested (inl c) =
    All-contains (λ m. P m.node) queue (pushed node) queued c
unlinked-has P node queue rest queued rested (inr c) =
    All-contains (λ m. P m.node) rest (pushed node) rested c

-- an operation that releases a block is the first one left
task-todo : (task : Task) (todo : List Op) → OfTask task todo
    → (o : Op) × (ops : List Op) × (todo ≡ o ∷ ops)
task-todo (Freeing name) (op.Free n ∷ ops) of = (op.Free n, ops, refl)
task-todo (Moving old fresh place) (op.Realloc o n bytes ∷ ops) of =
    (op.Realloc o n bytes, ops, refl)
task-todo task todo of = absurd of

module _ (c : Config) (t : Trace) (valid : IsValidConfig c)
    (made : IsValidTrace c.schedulers t) (w : State) (reached : IsReached (setup_of c t) w) where
  abbrev e : Setup
  e = setup_of c t

  rule : Rule e w
  rule = reached-rule c t valid made w reached

  -- given names are of the trace
  pub given-range : All (λ x. IsNameOf t x.name) w.shared.given
  given-range = all-parts (λ x. IsNameOf t x.name) w.shared.given (λ x part. name-range c t valid
      made w reached x.name (omega (
        arith,
        part (of_named (only x.name)),
        rule.kept.names.balance (only x.name),
        one-itself x.name,
      )))

  -- and their blocks lie at spots
  pub given-spots : All (λ x. IsSpot c.schedulers x.spot) w.shared.given
  given-spots = all-parts (λ x. IsSpot c.schedulers x.spot) w.shared.given
      (λ x part. standing-spot e w rule x.name x.spot (λ f. omega (
        arith,
        part (of_named f),
        rule.kept.names.balance f,
      )))

  -- nodes in queues and in walks
  at-node : (i : ℕ) (node : Node) → IsAt e w i node → IsNode c.schedulers t.greatest node
  at-node i (Block n p) at =
      let name = name-range c t valid made w reached n (at-name e w rule.kept i n p at) in
      (name.0, name.1, standing-spot e w rule n p at.names)
  at-node i (Carrier d) at =
      let number = at-number e w rule.kept i d at in (number.0, omega (arith, number.1))

  pub queue-nodes : (i : ℕ)
      → All (λ m. IsNode c.schedulers t.greatest m.node) (w.shared.queues i)
  queue-nodes i = All-weaker (λ m. IsAt e w i m.node)
      (λ m. IsNode c.schedulers t.greatest m.node) (λ m. at-node i m.node) (w.shared.queues i)
      (queue-at e w rule i)

  pub rest-nodes : (i : ℕ)
      → All (λ m. IsNode c.schedulers t.greatest m.node) (w.shared.rests i)
  rest-nodes i = All-weaker (λ m. IsAt e w i m.node)
      (λ m. IsNode c.schedulers t.greatest m.node) (λ m. at-node i m.node) (w.shared.rests i)
      (rest-at e w rule i)

  pub passed-nodes : (i : ℕ) → i < seats e
      → All (IsNode c.schedulers t.greatest) (w.actors i).passed
  passed-nodes i seat = All-weaker (IsAt e w i) (IsNode c.schedulers t.greatest)
      (λ node. at-node i node) (w.actors i).passed (passed-at e w rule.kept i seat)

  -- where no node is next nothing is left of the walk
  pub rest-none : (i : ℕ) → (w.actors i).next ≡ None → w.shared.rests i ≡ []
  rest-none i none = no_first (w.shared.rests i) (sym (rule.present.walking i) ∙ none)

  module _ (me : ℕ) (number : IsScheduler c.schedulers me) where
    abbrev a : Actor
    a = w.actors me

    is : is_scheduler e me ≡ true
    is = number-scheduler e me number

    seat : me < seats e
    seat = scheduler-seat e me is

    fits : (stage : Stage Content) → a.stage ≡ stage → Fits e w me a stage
    fits stage now = subst (Fits e w me a) now (rule.present.fits me)

    -- the next node of a walk
    pub next-node : (node : Node) → a.next ≡ Some node
        → (first_node (w.shared.rests me) ≡ Some node) × IsNode c.schedulers t.greatest node
    next-node node next =
        let first = sym (rule.present.walking me) ∙ next in
        (first, by (w.shared.rests me) (rest-nodes me) first)
      where
        by : (ms : List Mark) → All (λ m. IsNode c.schedulers t.greatest m.node) ms
            → first_node ms ≡ Some node → IsNode c.schedulers t.greatest node
        by [] nodes first = absurd cc
        by (m ∷ ms) nodes first =
            let same : m.node ≡ node = cc in
            subst (IsNode c.schedulers t.greatest) same
            (All-head (λ m. IsNode c.schedulers t.greatest m.node) m ms nodes)

    -- the node that is to be pushed, and where
    module _ (node : Node) (to : ℕ) (why : Why) (gone : Gone)
        (now : a.stage ≡ Routed (Pushing node to) why gone) where
      pub push-no_alike : HasNoAlike node w.shared
      push-no_alike = pushing-no_alike e w rule me seat why gone node to now

      pub push-node : IsNode c.schedulers t.greatest node
      push-node = at-node to node (pushing-at e w rule.kept me seat node to why gone now)

    -- it is a scheduler's queue, and another's
    pub push-target : (node : Node) (to : ℕ) (why : Why) (gone : Gone)
        → a.stage ≡ Routed (Pushing node to) why gone → IsScheduler c.schedulers to × (to ≢ me)
    push-target (Block n p) to why gone now =
        let fit = (fits (Routed (Pushing (Block n p) to) why gone) now).0 in
        (scheduler-number e to fit.1, fit.0)
    push-target (Carrier d) to why gone now =
        let fit = (fits (Routed (Pushing (Carrier d) to) why gone) now).0 in
        let r = pushing-returning e w rule.kept me seat why gone d to now in (
          scheduler-number e to (subst (λ i. is_scheduler e i ≡ true) (sym fit.0)
              (returning-scheduler e w rule.kept d r.0 r.1 r.2)),
          fit.1,
        )

    -- the node that is to be linked, and where
    module _ (node : Node) (to : ℕ) (why : Why) (gone : Gone)
        (now : a.stage ≡ Routed (Linking node to) why gone) where
      pub link-unlinked : IsUnlinkedAt node to w.shared
      link-unlinked = linking-unlinked e w rule me seat why gone node to now

      pub link-node : IsNode c.schedulers t.greatest node
      link-node = unlinked-has (IsNode c.schedulers t.greatest) node (w.shared.queues to)
          (w.shared.rests to) (queue-nodes to) (rest-nodes to) link-unlinked

      pub link-target : IsScheduler c.schedulers to
      link-target = elim (cases_Bool (is_scheduler e to)) [
        | inl one ↦ scheduler-number e to one
        | inr none ↦
            let has = rule.present.nobody to none in
            absurd (unlinked-has (λ n. ⊥) node (w.shared.queues to) (w.shared.rests to)
            (subst (All (λ m. ⊥)) (sym has.queue) (All-nil (λ m. ⊥)))
            (subst (All (λ m. ⊥)) (sym has.rest) (All-nil (λ m. ⊥))) link-unlinked)
      ]

    -- a name that is held isn't given
    held-alone : (n : ℕ) (x y : Named) → named_at n a.held ≡ Some x
        → named_at n w.shared.given ≡ Some y → ⊥
    held-alone n x y held given = omega (
      arith,
      rule.kept.names.balance (only n),
      rule.kept.names.once n,
      total-part (names_of (only n)) w.actors me (seats e) seat,
      sum-item name_of (of_named (only n)) n x a.held held,
      sum-item name_of (of_named (only n)) n y w.shared.given given,
      ap (λ m. one_if (m == n)) (item_at-key name_of n x a.held held),
      ap (λ m. one_if (m == n)) (item_at-key name_of n y w.shared.given given),
      one-itself n,
    )

    held-given : (n : ℕ) (x : Named) → named_at n a.held ≡ Some x
        → spot_named n w.shared.given ≡ None
    held-given n x held = by (named_at n w.shared.given) refl where
      by : (o : Option Named) → named_at n w.shared.given ≡ o
          → spot_named n w.shared.given ≡ None
      by None none = ap (option_map (λ (y : Named). y.spot)) none
      by (Some y) given = absurd (held-alone n x y held given)

    pub given-held : (n : ℕ) (p : Spot) → spot_named n w.shared.given ≡ Some p
        → spot_named n a.held ≡ None
    given-held n p given = by (named_at n a.held) refl where
      by : (o : Option Named) → named_at n a.held ≡ o → spot_named n a.held ≡ None
      by None none = ap (option_map (λ (y : Named). y.spot)) none
      by (Some x) held =
          absurd (let never : None ≡ Some p = sym (held-given n x held) ∙ given in cc)

    -- the name that is to be given
    module _ (given : Named) (to : ℕ) (now : a.stage ≡ Giving given to) where
      pub give-first : (ops : List Op) × (a.todo ≡ op.Give given.name to ∷ ops)
      give-first = (fits (Giving given to) now).1

      pub give-name : IsNameOf t given.name
      give-name =
          let is = first-operation c t valid made w reached me (op.Give given.name to) give-first.0
          give-first.1 in (is.0.0.0, is.1)

      pub give-spot : IsSpot c.schedulers given.spot
      give-spot = standing-spot e w rule given.name given.spot (λ f. omega (
        arith,
        sum-item name_of (of_named f) given.name given a.held (fits (Giving given to) now).0,
        stands-allocated e w me seat rule.kept a refl f,
      ))

      pub give-free : spot_named given.name w.shared.given ≡ None
      give-free = held-given given.name given (fits (Giving given to) now).0

    -- the name that is to be taken
    module _ (name tries left : ℕ) (now : a.stage ≡ Taking name tries left) where
      pub take-first : (ops : List Op) × (a.todo ≡ op.Take name tries ∷ ops)
      take-first = (fits (Taking name tries left) now).1

      pub take-name : IsNameOf t name
      take-name =
          let is = first-operation c t valid made w reached me (op.Take name tries) take-first.0
          take-first.1 in (is.0.0.0, is.1)

    -- the operation whose block is on its route is the first one left
    pub task-first : (route : Route Content) (task : Task) (gone : Gone)
        → a.stage ≡ Routed route (For task) gone
        → (o : Op) × (ops : List Op) × (a.todo ≡ o ∷ ops)
    task-first route task gone now =
        task-todo task a.todo (fits (Routed route (For task) gone) now).1
