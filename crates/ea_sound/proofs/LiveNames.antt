-- A step leaves each name live, or not, but those of the operation that its scheduler is in.
use Rattle.std.proofs.Common.{◌≡◌, ◌≢◌, ◌⊎◌, ℕ, zero, suc, List, [], ◌∷◌, ◌++◌}
use Rattle.std.proofs.Common.{refl, sym, ap, ◌∙◌, subst, inl, inr}
use Rattle.std.specs.Prelude.{Option, None, Some, option_map}
use Rattle.std.proofs.lemmas.Bool.{cases_eq}
use Rattle.ea_model.specs.declared.carriers.Spot.{Spot}
use Rattle.ea_model.specs.declared.operations.Op.{Op}
use Rattle.ea_model.specs.declared.operations.Op.TheVariants as op
use Rattle.ea_model.specs.Content.{Content}
use Rattle.ea_model.proofs.Rising.{item_at-gone, item_at-old, item_at-stays}
use Rattle.ea_machine.specs.Actor.{Actor}
use Rattle.ea_machine.specs.Machine.{after_row, onward, onward_at, run, wants_at}
use Rattle.ea_machine.specs.Nodes.{name_of, named_at, spot_named}
use Rattle.ea_machine.specs.Operations.{took_by}
use Rattle.ea_machine.specs.Owners.{CarrierAt}
use Rattle.ea_machine.specs.Releases.{turned}
use Rattle.ea_machine.specs.Rows.{Answer, Done, Got, Head, Home, Lost, Passes, Rests, Row, Saw, Won}
use Rattle.ea_machine.specs.Rows.{Clear, Create, FetchTry, Look}
use Rattle.ea_machine.specs.Setup.{Setup}
use Rattle.ea_machine.specs.Shared.{Shared}
use Rattle.ea_machine.specs.State.{State}
use Rattle.ea_machine.specs.Statistics.{observed}
use Rattle.ea_machine.specs.Table.{answer, effect, moved_if, tried_at}
use Rattle.ea_machine.specs.declared.asks.Ask.{Ask}
use Rattle.ea_machine.specs.declared.nodes.Named.{Named}
use Rattle.ea_machine.specs.declared.owners.OwnerWord.{OwnerWord}
use Rattle.ea_machine.specs.declared.stages.Route.{Route}
use Rattle.ea_machine.specs.declared.stages.Route.TheVariants.{Looking, Trying, Settling}
use Rattle.ea_machine.specs.declared.stages.Route.TheVariants.{Abandoning, Sending, Clearing}
use Rattle.ea_machine.specs.declared.stages.Route.TheVariants.{Pushing, Linking}
use Rattle.ea_machine.specs.declared.stages.Stage.{Stage}
use Rattle.ea_machine.specs.declared.stages.Stage.TheVariants.{Begin, Routed, Collecting, Searching}
use Rattle.ea_machine.specs.declared.stages.Stage.TheVariants.{Fetching, Creating, Giving, Taking}
use Rattle.ea_machine.specs.declared.stages.Stage.TheVariants.{Ended, Ready}
use Rattle.ea_machine.specs.declared.tasks.Gone.{Gone}
use Rattle.ea_machine.specs.declared.tasks.Task.{Task}
use Rattle.ea_machine.specs.declared.tasks.Why.TheVariants.{Walk, For}
use Rattle.ea_sound.specs.Heap.{FirstChanges, IsLive}
use Rattle.ea_sound.specs.Present.{Fits, OfAsk, Rule}
use Rattle.ea_sound.specs.Turns.{actor_after, answered}
use Rattle.ea_sound.proofs.BeginTurns.{IsInBegin, walks}
use Rattle.ea_sound.proofs.Chronicled.{other-turn}
use Rattle.ea_sound.proofs.HandedNames.{given-after, is-given, is-taken, spot-named, take-got}
use Rattle.ea_sound.proofs.HandedNames.{taken-after}
use Rattle.ea_sound.proofs.ShortRoutes.{turned-short}
use Rattle.ea_sound.proofs.TurnLists.{ended-or, run-snoc, step-ended, step-mine, step-shared}
use Rattle.ea_sound.proofs.WorkNames.{HoldsAlike, OldOther, carried-busy, carried-held}
use Rattle.ea_sound.proofs.WorkNames.{created-alike, fetched-alike, holding-alike, itself-alike}
use Rattle.ea_sound.proofs.WorkNames.{let_go-alike, searched-alike}

-- all rows but two leave the given names
tried-given : (r : Answer) (c : ℕ) (p : CarrierAt) (s : Shared)
    → (moved_if r c p s).given ≡ s.given
tried-given (Won x) c p s = refl
tried-given (Lost v) c p s = refl
tried-given Done c p s = refl
tried-given (Head n) c p s = refl
tried-given Rests c p s = refl
tried-given (Passes n) c p s = refl
tried-given (Saw v) c p s = refl
tried-given (Home x) c p s = refl
tried-given (Got o) c p s = refl

module _ (me : ℕ) (s : Shared) where
  abbrev LeavesGiven : Row → Type 0
  LeavesGiven row = (effect me row s).given ≡ s.given

  begin-given : (o : Option _) → LeavesGiven (wants_at o Begin)
  unfolding effect
  begin-given None = refl
  begin-given (Some node) = refl

  route-given : (o : Option _) (r : Route Content) (y : _) (g : Gone)
      → LeavesGiven (wants_at o (Routed r y g))
  unfolding effect
  route-given o (Looking hand) y g = refl
  route-given o (Trying hand seen) y g =
      tried-given (tried_at seen (s.places hand.spot.carrier)) hand.spot.carrier _ s
  route-given o (Settling x) y g = refl
  route-given o (Abandoning x) y g = refl
  route-given o (Sending x) y g = refl
  route-given o (Clearing x) y g = refl
  route-given o (Pushing node to) y g = refl
  route-given o (Linking node to) y g = refl

  clear-given : (c : ℕ) → LeavesGiven (Clear c)
  unfolding effect
  clear-given c = refl

  look-given : (c : ℕ) → LeavesGiven (Look c)
  unfolding effect
  look-given c = refl

  fetch-given : (c : ℕ) (seen : OwnerWord) → LeavesGiven (FetchTry c seen)
  unfolding effect
  fetch-given c seen = tried-given (tried_at seen (s.places c)) c _ s

  create-given : (c : ℕ) → LeavesGiven (Create c)
  unfolding effect
  create-given c = refl

module _ (e : Setup) (rules : (L : List ℕ) → Rule e (run e L)) (L : List ℕ) (me n : ℕ) where
  abbrev a : Actor
  a = actor_after e L me

  abbrev turn : List ℕ
  turn = L ++ me ∷ []

  abbrev b : Actor
  b = actor_after e turn me

  abbrev w : State
  w = run e L

  abbrev v : State
  v = run e turn

  -- the step leaves the name where it is, or it is live before and after
  abbrev Leaves : Type 0
  Leaves = (HoldsAlike e me n a b × (named_at n v.shared.given ≡ named_at n w.shared.given))
      ⊎ (IsLive n w × IsLive n v)

  -- what is asked for is the operation's
  asked-other : (ask : Ask) (ops : List Op) → OfAsk ask ops → (FirstChanges n ops → ⊥)
      → (ask.name ≢ n) × OldOther e me n ask.old
  asked-other ask (op.Alloc m bytes ∷ ops) of not =
      (λ q. not (sym of.0 ∙ q), subst (OldOther e me n) (sym of.2) tt)
  asked-other ask (op.Realloc old m bytes ∷ ops) of not = (
    λ q. not (inr (sym of.0 ∙ q)),
    subst (OldOther e me n) (sym of.2.1) (λ q. not (inl (sym of.2.2 ∙ q))),
  )
  asked-other ask [] of not = absurd of
  asked-other ask (op.Free m ∷ ops) of not = absurd of
  asked-other ask (op.Give m to ∷ ops) of not = absurd of
  asked-other ask (op.Take m tries ∷ ops) of not = absurd of
  asked-other ask (op.Info ∷ ops) of not = absurd of
  asked-other ask (op.Idle ∷ ops) of not = absurd of

  -- the work after the row goes on where the scheduler is ready
  onward-busy : (c : Actor) (st : Stage Content) → c.stage ≡ st → st ≢ Ready
      → onward_at e me c st ≡ c
  onward-busy c Begin q busy = refl
  onward-busy c (Routed r y g) q busy = refl
  onward-busy c (Collecting x) q busy = refl
  onward-busy c (Searching ask at part) q busy = refl
  onward-busy c (Fetching ask at part seen) q busy = refl
  onward-busy c (Creating ask p) q busy = refl
  onward-busy c (Giving g to) q busy = refl
  onward-busy c (Taking m tries left) q busy = refl
  onward-busy c Ended q busy = refl
  onward-busy c Ready q busy = absurd (busy refl)

  module _ (not : FirstChanges n a.todo → ⊥) where
    begun-alike : (c : Actor) (st : Stage Content) → IsInBegin st → c.todo ≡ a.todo
        → c.held ≡ a.held → HoldsAlike e me n a (onward_at e me c st)
    begun-alike c Ready is todo held =
        itself-alike e me n c c.todo (λ f. not (subst (FirstChanges n) todo f))
        ∙ ap (named_at n) held
    begun-alike c Begin is todo held = ap (named_at n) held
    begun-alike c (Routed r Walk g) is todo held = ap (named_at n) held
    begun-alike c (Routed r (For task) g) is todo held = absurd is
    begun-alike c (Collecting x) is todo held = ap (named_at n) held
    begun-alike c (Searching ask at part) is todo held = absurd is
    begun-alike c (Fetching ask at part seen) is todo held = absurd is
    begun-alike c (Creating ask p) is todo held = absurd is
    begun-alike c (Giving g to) is todo held = absurd is
    begun-alike c (Taking m tries left) is todo held = absurd is
    begun-alike c Ended is todo held = ap (named_at n) held

    module _ (works : a.stage ≢ Ended) where
      abbrev after : Stage Content → Actor
      after st = after_row e me a (answered w me) st

      -- the scheduler and what is given after the turn
      now : (st : Stage Content) → a.stage ≡ st → b ≡ observed (onward e me (after st))
      now st q = ap (λ (u : State). u.actors me) (run-snoc e L me) ∙ step-mine e w me works
          ∙ ap (λ s. observed (onward e me (after s))) q

      given-now : (st : Stage Content) → a.stage ≡ st
          → v.shared.given ≡ (effect me (wants_at a.next st) w.shared).given
      given-now st q = ap (λ (u : State). u.shared.given) (run-snoc e L me)
          ∙ ap (λ (s : Shared). s.given) (step-shared e w me works)
          ∙ ap (λ s. (effect me (wants_at a.next s) w.shared).given) q

      -- a row that leaves what is given
      left : (st : Stage Content) → a.stage ≡ st → LeavesGiven me w.shared (wants_at a.next st)
          → HoldsAlike e me n a (onward e me (after st)) → Leaves
      left st q given held = inl (
        ap (λ (x : Actor). named_at n x.held) (now st q) ∙ held,
        ap (named_at n) (given-now st q ∙ given),
      )

      walked : (st : Stage Content) → a.stage ≡ st → IsInBegin st → st ≢ Ended → st ≢ Ready
          → LeavesGiven me w.shared (wants_at a.next st) → Leaves
      walked st q is ended ready given =
          let t = walks e me a st (answered w me) is ended ready in
          left st q given (begun-alike (after st) (after st).stage t.1 t.0.1 t.2)

      busy : (st : Stage Content) → a.stage ≡ st → LeavesGiven me w.shared (wants_at a.next st)
          → HoldsAlike e me n a (after st) × ((after st).stage ≢ Ready) → Leaves
      busy st q given goes = left st q given
          (ap (λ (x : Actor). named_at n x.held)
          (onward-busy (after st) (after st).stage refl goes.1) ∙ goes.0)

      on-task : (r : Route Content) (task : Task) (g : Gone)
          → a.stage ≡ Routed r (For task) g → Leaves
      on-task r task g q =
          let t = turned e me r g a (answered w me) in
          busy (Routed r (For task) g) q (route-given me w.shared a.next r (For task) g) (
            ap (named_at n) (carried-held e me n task t.gone t.actor t.route
                ∙ (turned-short e me r g a (answered w me)).1.5),
            carried-busy e me n task t.gone t.actor t.route,
          )

      gives : (g : Named) (to : ℕ) → a.stage ≡ Giving g to → Fits e w me a (Giving g to) → Leaves
      gives g to q f = elim (cases_eq g.name n) [
        | inl same ↦
            let t = is-given e rules L me works g to q (sym (now (Giving g to) q)) in
            let x = spot-named g.name v.shared.given t.spot t.given in
            inr (
              inl (me, (g, ap (λ m. named_at m a.held) (sym same) ∙ f.0)),
              inr (x.0, ap (λ m. named_at m v.shared.given) (sym same) ∙ x.1),
            )
        | inr other ↦ inl (
          ap (λ (x : Actor). named_at n x.held) (now (Giving g to) q)
              ∙ let_go-alike e me n g.name a other,
          ap (named_at n) (given-now (Giving g to) q ∙ given-after me g w.shared)
              ∙ item_at-old name_of n g w.shared.given (λ s. other (sym s)),
        )
      ]

      module _ (m tries left : ℕ) (q : a.stage ≡ Taking m tries left) where
        abbrev st : Stage Content
        st = Taking m tries left

        got : answered w me ≡ Got (spot_named m w.shared.given)
        got = ap (λ s. answer me (wants_at a.next s) w.shared) q ∙ take-got me m w.shared

        none-named : (names : List Named) → spot_named m names ≡ None → named_at m names ≡ None
        none-named names none = by (named_at m names) none where
          by : (o : Option Named) → option_map (λ (x : Named). x.spot) o ≡ None → o ≡ None
          by None none = refl
          by (Some x) none = absurd cc

        given-other : m ≢ n → named_at n v.shared.given ≡ named_at n w.shared.given
        given-other other = ap (named_at n) (given-now st q ∙ taken-after me m w.shared)
            ∙ item_at-stays name_of n m w.shared.given (λ s. other (sym s))

        given-none : spot_named m w.shared.given ≡ None
            → named_at n v.shared.given ≡ named_at n w.shared.given
        given-none none = elim (cases_eq m n) [
          | inr other ↦ given-other other
          | inl same ↦ subst (λ k. named_at k v.shared.given ≡ named_at k w.shared.given) same
              (ap (named_at m) (given-now st q ∙ taken-after me m w.shared)
              ∙ item_at-gone name_of m w.shared.given ∙ sym (none-named w.shared.given none))
        ]

        missed : (k : ℕ) → HoldsAlike e me n a (onward e me (took_by m tries k a None))
        missed zero = refl
        missed (suc zero) = refl
        missed (suc (suc k)) = refl

        takes-by : (o : Option Spot) → spot_named m w.shared.given ≡ o → Leaves
        takes-by None is = inl (
          ap (λ (x : Actor). named_at n x.held) (now st q
              ∙ ap (λ r. observed (onward e me (after_row e me a r st))) (got ∙ ap Got is))
              ∙ missed left,
          given-none is,
        )
        takes-by (Some spot) is =
            let found = got ∙ ap Got is in
            let here = now st q ∙ ap (λ r. observed (onward e me (after_row e me a r st))) found in
            elim (cases_eq m n) [
              | inl same ↦
                  let t = is-taken e rules L me works m tries left q spot found (sym here) in
                  let x = spot-named m w.shared.given t.spot t.given in
                  let y = spot-named m b.held t.spot t.held in
                  inr (
                    inr (x.0, ap (λ k. named_at k w.shared.given) (sym same) ∙ x.1),
                    inl (me, (y.0, ap (λ k. named_at k b.held) (sym same) ∙ y.1)),
                  )
              | inr other ↦ inl (
                ap (λ (x : Actor). named_at n x.held) here
                    ∙ holding-alike e me n m spot a other,
                given-other other,
              )
            ]

      by-stage : (st : Stage Content) → a.stage ≡ st → Fits e w me a st → Leaves
      by-stage Begin q f =
          walked Begin q tt (λ s. absurd cc) (λ s. absurd cc) (begin-given me w.shared a.next)
      by-stage (Routed r Walk g) q f = walked (Routed r Walk g) q tt (λ s. absurd cc)
          (λ s. absurd cc) (route-given me w.shared a.next r Walk g)
      by-stage (Routed r (For task) g) q f = on-task r task g q
      by-stage (Collecting c) q f = walked (Collecting c) q tt (λ s. absurd cc) (λ s. absurd cc)
          (clear-given me w.shared c)
      by-stage (Searching ask at part) q f =
          let o = asked-other ask a.todo f.0.of not in
          busy (Searching ask at part) q (look-given me w.shared at)
          (searched-alike e me n ask o.0 o.1 at part a (answered w me))
      by-stage (Fetching ask at part seen) q f =
          let o = asked-other ask a.todo f.0.of not in
          busy (Fetching ask at part seen) q (fetch-given me w.shared at seen)
          (fetched-alike e me n ask o.0 o.1 at part a (answered w me))
      by-stage (Creating ask p) q f =
          let o = asked-other ask a.todo f.0.of not in
          busy (Creating ask p) q (create-given me w.shared p.number)
          (created-alike e me n ask o.0 o.1 p a)
      by-stage (Giving g to) q f = gives g to q f
      by-stage (Taking m tries k) q f =
          takes-by m tries k q (spot_named m w.shared.given) refl
      by-stage Ended q f = absurd (works q)
      by-stage Ready q f = absurd f

    leaves : Leaves
    leaves = elim (ended-or a.stage) [
      | inl ended ↦
          let same : v ≡ w = run-snoc e L me ∙ step-ended e w me ended in
          inl (
            ap (λ (u : State). named_at n (u.actors me).held) same,
            ap (λ (u : State). named_at n u.shared.given) same,
          )
      | inr works ↦ by-stage works a.stage refl ((rules L).present.fits me)
    ]

    -- so a name that the operation doesn't change is live after the step just if it was
    held-alike : (i : ℕ) → HoldsAlike e me n a b
        → named_at n (v.actors i).held ≡ named_at n (w.actors i).held
    held-alike i same = elim (cases_eq me i) [
      | inl q ↦ subst (λ k. named_at n (v.actors k).held ≡ named_at n (w.actors k).held) q same
      | inr other ↦ ap (λ (x : Actor). named_at n x.held) (other-turn e rules L i me other)
    ]

    pub live-after : IsLive n w → IsLive n v
    live-after live = elim leaves [
      | inr both ↦ both.1
      | inl same ↦ elim live [
        | inl held ↦ inl (held.0, (held.1.0, held-alike held.0 same.0 ∙ held.1.1))
        | inr given ↦ inr (given.0, same.1 ∙ given.1)
      ]
    ]

    pub live-before : IsLive n v → IsLive n w
    live-before live = elim leaves [
      | inr both ↦ both.0
      | inl same ↦ elim live [
        | inl held ↦ inl (held.0, (held.1.0, sym (held-alike held.0 same.0) ∙ held.1.1))
        | inr given ↦ inr (given.0, sym same.1 ∙ given.1)
      ]
    ]
