-- The next older node of one that was pushed and isn't linked yet stays, whatever others do; and
-- who is about to link a node has pushed it in the step before.
use Rattle.std.proofs.Common.{◌≡◌, ◌≢◌, ◌⊎◌, ℕ, ◌+◌, ◌<◌, ◌≤◌, Bool, true, false, List, [], ◌∷◌}
use Rattle.std.proofs.Common.{◌++◌, Option, refl, sym, ap, ◌∙◌, subst, inl, inr, arith}
use Rattle.std.specs.Prelude.{◌==◌, ◌&&◌, if◌then◌else◌}
use Rattle.std.proofs.lemmas.Bool.{cases_Bool, cases_eq, cond-false, eqb-true}
use Rattle.ea_model.specs.Content.{Content}
use Rattle.ea_machine.specs.declared.nodes.Node.{Node}
use Rattle.ea_machine.specs.declared.tasks.Gone.{Gone}
use Rattle.ea_machine.specs.declared.tasks.Why.{Why}
use Rattle.ea_machine.specs.declared.stages.Stage.{Stage}
use Rattle.ea_machine.specs.declared.stages.Stage.TheVariants.{Begin, Routed, Collecting, Searching}
use Rattle.ea_machine.specs.declared.stages.Stage.TheVariants.{Fetching, Creating, Giving, Taking}
use Rattle.ea_machine.specs.declared.stages.Stage.TheVariants.{Ended, Ready}
use Rattle.ea_machine.specs.declared.stages.Route.{Route}
use Rattle.ea_machine.specs.declared.stages.Route.TheVariants.{Looking, Trying, Settling}
use Rattle.ea_machine.specs.declared.stages.Route.TheVariants.{Abandoning, Sending, Clearing}
use Rattle.ea_machine.specs.declared.stages.Route.TheVariants.{Pushing, Linking}
use Rattle.ea_machine.specs.Actor.{Actor}
use Rattle.ea_sound.specs.Contents.{seats}
use Rattle.ea_machine.specs.Guards.{Guard}
use Rattle.ea_machine.specs.Machine.{step, wants, wants_at}
use Rattle.ea_sound.specs.NodePlaces.{node_at, of_link, of_unlinked}
use Rattle.ea_machine.specs.Nodes.{Mark, link_in, pushed, same_node}
use Rattle.ea_machine.specs.Owners.{CarrierAt, Busy, Employed}
use Rattle.ea_machine.specs.Rows.{Answer, Done, Head, Rests, Passes, Saw, Won, Lost, Home, Got, Row}
use Rattle.ea_machine.specs.Rows.{TakeAll, TakeLink, Look, Push, Link, BusyTry, Settle, Abandon}
use Rattle.ea_machine.specs.Rows.{FetchTry, Create, SendHome, Clear, Give, TakeTry, Nothing}
use Rattle.ea_machine.specs.Setup.{Setup}
use Rattle.ea_machine.specs.Shared.{Shared, put}
use Rattle.ea_machine.specs.State.{State}
use Rattle.ea_machine.specs.Sums.{one_if, sum_over}
use Rattle.ea_machine.specs.Table.{effect, moved_if, rest_after, rest_by, tried_at}
use Rattle.ea_sound.specs.Moments.{with_actor}
use Rattle.ea_sound.specs.Present.{Rule}
use Rattle.ea_sound.specs.Standing.{IsOlderAt, IsOlderIn}
use Rattle.ea_sound.proofs.Global.{working-scheduler}
use Rattle.ea_sound.proofs.MarkRows.{marks, marks-link, marks-push, marks-take_all, marks-with_rest}
use Rattle.ea_sound.proofs.Marks.{same_node-is}
use Rattle.ea_sound.proofs.NodeSeats.{linking-seat}
use Rattle.ea_sound.proofs.Numbered.{scheduler-seat}
use Rattle.ea_sound.proofs.OtherRows.{linked-first}
use Rattle.ea_sound.proofs.SoundNodes.{sound-unlinked}
use Rattle.ea_sound.proofs.Totals.{put-here, put-other, total-part, total-put}
use Rattle.ea_sound.proofs.TurnLists.{ended-or, step-ended, step-is, step-shared}
use Rattle.ea_sound.proofs.UnlinkedRows.{node_at-itself, of_links}
use Rattle.ea_sound.proofs.Wanting.{links}

-- the first row that a list of marks has behind a first one
some-cons : (newer : List Mark) (m : Mark) (rest : List Mark) → [] ≢ newer ++ (m ∷ rest)
some-cons [] m rest q = absurd cc
some-cons (n ∷ newer) m rest q = absurd cc

module _ (node : Node) (older : Option Node) where
  -- in a longer list, and where the walk reads on
  in-longer : (m : Mark) (ms : List Mark) → IsOlderIn node older ms → IsOlderIn node older (m ∷ ms)
  in-longer m ms (newer, rest, q, told) = (m ∷ newer, rest, ap (λ (l : List Mark). m ∷ l) q, told)

  in-rest : (ms : List Mark) → IsOlderIn node older ms → IsOlderIn node older (rest_after ms)
  in-rest ms ([], rest, q, told) = ([], rest, ap rest_after q, told)
  in-rest ms (m ∷ newer, rest, q, told) = subst (IsOlderIn node older) (sym (ap rest_after q))
      (by m.linked) where
        by : (b : Bool) → IsOlderIn node older (rest_by b m (newer ++ (pushed node ∷ rest)))
        by true = (newer, rest, refl, told)
        by false = (m ∷ newer, rest, refl, told)

  -- where another node is linked
  linked-append : (other : Node) (newer rest : List Mark) → same_node other node ≡ false
      → link_in other (newer ++ (pushed node ∷ rest))
      ≡ link_in other newer ++ (pushed node ∷ link_in other rest)
  linked-append other [] rest ne = ap (λ (m : Mark). m ∷ link_in other rest)
      (cond-false (same_node other node) (record { node = node; linked = true }) (pushed node) ne)
  linked-append other (m ∷ newer) rest ne =
      ap (λ (l : List Mark). (if same_node other m.node then record m { linked = true } else m) ∷ l)
      (linked-append other newer rest ne)

  in-linked : (other : Node) (ms : List Mark) → same_node other node ≡ false
      → IsOlderIn node older ms → IsOlderIn node older (link_in other ms)
  in-linked other ms ne (newer, rest, q, told) = (
    link_in other newer,
    link_in other rest,
    ap (link_in other) q ∙ linked-append other newer rest ne,
    told ∙ sym (linked-first other rest),
  )

  module _ (to : ℕ) where
    -- it isn't linked by the row
    abbrev LinksOther : Row → Type 0
    LinksOther (Link n i) = to ≡ i → same_node n node ≡ false
    LinksOther row = Unit {0}

    tried-older : (r : Answer) (c : ℕ) (p : CarrierAt) (s : Shared) → IsOlderAt node to older s
        → IsOlderAt node to older (moved_if r c p s)
    tried-older (Won x) c p s is = is
    tried-older (Lost v) c p s is = is
    tried-older Done c p s is = is
    tried-older (Head n) c p s is = is
    tried-older Rests c p s is = is
    tried-older (Passes n) c p s is = is
    tried-older (Saw v) c p s is = is
    tried-older (Home x) c p s is = is
    tried-older (Got o) c p s is = is

    abbrev In : List Mark → Type 0
    In ms = IsOlderIn node older ms

    pub row-older : (e : Setup) (me : ℕ) (a : Actor) (row : Row) (s : Shared)
        → Guard e me a s row → LinksOther row → IsOlderAt node to older s
        → IsOlderAt node to older (effect me row s)
    unfolding effect
    row-older e me a TakeAll s guard other (inl is) = elim (cases_eq to me) [
      | inl q ↦ inr (subst In (sym (put-here s.rests me (s.queues me) to q
          ∙ ap s.queues (sym q))) is)
      | inr ne ↦ inl (subst In (sym (put-other s.queues me [] to ne)) is)
    ]
    row-older e me a TakeAll s guard other (inr is) = elim (cases_eq to me) [
      | inl q ↦ absurd (some-cons is.0 (pushed node) is.1
          (sym guard.1 ∙ ap s.rests (sym q) ∙ is.2))
      | inr ne ↦ inr (subst In (sym (put-other s.rests me (s.queues me) to ne)) is)
    ]
    row-older e me a TakeLink s guard other (inl is) = inl is
    row-older e me a TakeLink s guard other (inr is) = elim (cases_eq to me) [
      | inl q ↦ inr (subst In (sym (put-here s.rests me (rest_after (s.rests me)) to q
          ∙ ap (λ i. rest_after (s.rests i)) (sym q))) (in-rest (s.rests to) is))
      | inr ne ↦ inr (subst In (sym (put-other s.rests me (rest_after (s.rests me)) to ne)) is)
    ]
    row-older e me a (Push n i) s guard other (inl is) = elim (cases_eq to i) [
      | inl q ↦ inl (subst In (sym (put-here s.queues i (pushed n ∷ s.queues i) to q
          ∙ ap (λ j. pushed n ∷ s.queues j) (sym q))) (in-longer (pushed n) (s.queues to) is))
      | inr ne ↦ inl (subst In (sym (put-other s.queues i (pushed n ∷ s.queues i) to ne)) is)
    ]
    row-older e me a (Push n i) s guard other (inr is) = inr is
    row-older e me a (Link n i) s guard other (inl is) = elim (cases_eq to i) [
      | inl q ↦ inl (subst In (sym (put-here s.queues i (link_in n (s.queues i)) to q
          ∙ ap (λ j. link_in n (s.queues j)) (sym q))) (in-linked n (s.queues to) (other q) is))
      | inr ne ↦ inl (subst In (sym (put-other s.queues i (link_in n (s.queues i)) to ne)) is)
    ]
    row-older e me a (Link n i) s guard other (inr is) = elim (cases_eq to i) [
      | inl q ↦ inr (subst In (sym (put-here s.rests i (link_in n (s.rests i)) to q
          ∙ ap (λ j. link_in n (s.rests j)) (sym q))) (in-linked n (s.rests to) (other q) is))
      | inr ne ↦ inr (subst In (sym (put-other s.rests i (link_in n (s.rests i)) to ne)) is)
    ]
    row-older e me a (Look c) s guard other is = is
    row-older e me a (BusyTry c seen) s guard other is =
        tried-older (tried_at seen (s.places c)) c (Busy me) s is
    row-older e me a (Settle x) s guard other is = is
    row-older e me a (Abandon x) s guard other is = is
    row-older e me a (FetchTry c seen) s guard other is =
        tried-older (tried_at seen (s.places c)) c (Employed me) s is
    row-older e me a (Create c) s guard other is = is
    row-older e me a (SendHome x) s guard other is = is
    row-older e me a (Clear c) s guard other is = is
    row-older e me a (Give g) s guard other is = is
    row-older e me a (TakeTry name) s guard other is = is
    row-older e me a Nothing s guard other is = is

-- two that are about to link one node at one instance are one
module _ (e : Setup) (w : State) (rule : Rule e w) where
  seat-of : (i : ℕ) (route : Route Content) (why : Why) (gone : Gone)
      → (w.actors i).stage ≡ Routed route why gone → i < seats e
  seat-of i route why gone now = scheduler-seat e i
      (working-scheduler e w rule.kept i (λ q. let never : Routed route why gone ≡ Ended =
      sym now ∙ q in cc))

  one-linker : (i j : ℕ) → j ≢ i → (n node : Node) (to k : ℕ) (why y : Why) (gone g : Gone)
      → (w.actors i).stage ≡ Routed (Linking n k) why gone
      → (w.actors j).stage ≡ Routed (Linking node to) y g
      → to ≡ k → same_node n node ≡ false
  one-linker i j other n node to k why y gone g mine yours same =
      elim (cases_Bool (same_node n node)) [
        | inr differ ↦ differ
        | inl alike ↦
            let u = node_at node to in
            let unlinked = sound-unlinked e w rule node to in
            let is : n ≡ node = same_node-is n node alike in
            absurd (omega (
              arith,
              unlinked.0,
              unlinked.1,
              total-part (of_links u) (put w.actors i (w.actors i)) j (seats e)
                  (seat-of j (Linking node to) y g yours),
              total-put (of_links u) w.actors i blank (seats e)
                  (seat-of i (Linking n k) why gone mine),
              total-part (of_links u) (put w.actors i blank) j (seats e)
                  (seat-of j (Linking node to) y g yours),
              ap (of_links u) (put-other w.actors i blank j other),
              ap (of_link u) yours,
              ap (of_link u) mine,
              ap (λ x. u k x) is,
              ap (λ x. u x node) (sym same),
              node_at-itself node to,
            ))
      ] where
        blank : Actor
        blank = record (w.actors i) { stage = Ended }

  pub older-step : (me j : ℕ) → j ≢ me
      → Guard e me (w.actors me) w.shared (wants (w.actors me)) → (node : Node) (to : ℕ) (why : Why)
      (gone : Gone) → (w.actors j).stage ≡ Routed (Linking node to) why gone
      → (older : Option Node) → IsOlderAt node to older w.shared
      → IsOlderAt node to older (step e w me).shared
  older-step me j other guard node to why gone now older is = elim (ended-or (w.actors me).stage) [
    | inl ended ↦ subst (λ (x : State). IsOlderAt node to older x.shared)
        (sym (step-ended e w me ended)) is
    | inr goes ↦ subst (IsOlderAt node to older) (sym (step-shared e w me goes))
        (row-older node older to e me (w.actors me) (wants (w.actors me)) w.shared guard
        (by (wants (w.actors me)) refl) is)
  ] where
    by : (row : Row) → wants (w.actors me) ≡ row → LinksOther node older to row
    by TakeAll q = tt
    by TakeLink q = tt
    by (Look c) q = tt
    by (Push n i) q = tt
    by (Link n i) q =
        let p = links (w.actors me) n i q in
        one-linker me j other n node to i p.0 why p.1 gone p.2 now
    by (BusyTry c seen) q = tt
    by (Settle x) q = tt
    by (Abandon x) q = tt
    by (FetchTry c seen) q = tt
    by (Create c) q = tt
    by (SendHome x) q = tt
    by (Clear c) q = tt
    by (Give g) q = tt
    by (TakeTry name) q = tt
    by Nothing q = tt

-- a list where a node is linked has no more nodes that aren't
link-less : (u : ℕ → Node → ℕ) (i : ℕ) (n : Node) (ms : List Mark)
    → sum_over (of_unlinked u i) (link_in n ms) ≤ sum_over (of_unlinked u i) ms
link-less u i n [] = omega arith
link-less u i n (m ∷ ms) = omega (arith, by (same_node n m.node), link-less u i n ms) where
  by : (b : Bool) → of_unlinked u i (if b then record m { linked = true } else m)
      ≤ of_unlinked u i m
  by true = omega arith
  by false = omega arith

-- and none of that node
link-gone : (node : Node) (to : ℕ) (ms : List Mark)
    → sum_over (of_unlinked (node_at node to) to) (link_in node ms) ≡ 0
link-gone node to [] = refl
link-gone node to (m ∷ ms) = omega (arith, by (same_node node m.node) refl, link-gone node to ms)
  where
    counted : (b : Bool) → same_node node m.node ≡ b
        → of_unlinked (node_at node to) to (record m { linked = false }) ≡ one_if ((to == to) && b)
    counted b q = ap (λ x. one_if ((to == to) && x)) q

    never : (b : Bool) → one_if (b && false) ≡ 0
    never true = refl
    never false = refl

    by : (b : Bool) → same_node node m.node ≡ b
        → of_unlinked (node_at node to) to (if b then record m { linked = true } else m) ≡ 0
    by true q = refl
    by false q = other m.linked where
      other : (linked : Bool)
          → of_unlinked (node_at node to) to (record { node = m.node; linked = linked }) ≡ 0
      other true = refl
      other false = counted false q ∙ never (to == to)

rest-less : (f : Mark → ℕ) (ms : List Mark) → sum_over f (rest_after ms) ≤ sum_over f ms
rest-less f [] = omega arith
rest-less f (m ∷ ms) = by m.linked where
  by : (b : Bool) → sum_over f (rest_by b m ms) ≤ sum_over f (m ∷ ms)
  by true = omega arith
  by false = omega arith

-- whether a scheduler is about to link a node
abbrev LinkedOr : (ℕ → Node → ℕ) → Option Node → Stage Content → Type 0
LinkedOr u next stage = (of_link u stage ≡ 0) ⊎ ((n : Node) × (i : ℕ)
    × (wants_at next stage ≡ Link n i) × (of_link u stage ≡ u i n))

linked-or : (u : ℕ → Node → ℕ) (next : Option Node) (stage : Stage Content) → LinkedOr u next stage
linked-or u next Begin = inl refl
linked-or u next (Routed (Looking hand) why gone) = inl refl
linked-or u next (Routed (Trying hand seen) why gone) = inl refl
linked-or u next (Routed (Settling x) why gone) = inl refl
linked-or u next (Routed (Abandoning x) why gone) = inl refl
linked-or u next (Routed (Sending x) why gone) = inl refl
linked-or u next (Routed (Clearing x) why gone) = inl refl
linked-or u next (Routed (Pushing node to) why gone) = inl refl
linked-or u next (Routed (Linking node to) why gone) = inr (node, to, refl, refl)
linked-or u next (Collecting number) = inl refl
linked-or u next (Searching ask at part) = inl refl
linked-or u next (Fetching ask at part seen) = inl refl
linked-or u next (Creating ask p) = inl refl
linked-or u next (Giving given to) = inl refl
linked-or u next (Taking name tries left) = inl refl
linked-or u next Ended = inl refl
linked-or u next Ready = inl refl

-- the node that is counted is that one
is-counted : (node n : Node) (to i : ℕ) → 1 ≤ node_at node to i n → (i ≡ to) × (n ≡ node)
is-counted node n to i some = by (i == to) refl (same_node node n) refl some where
  by : (b : Bool) → (i == to) ≡ b → (d : Bool) → same_node node n ≡ d → 1 ≤ one_if (b && d)
      → (i ≡ to) × (n ≡ node)
  by true p true q l = (eqb-true i to p, sym (same_node-is node n q))
  by true p false q l = absurd (omega (arith, l))
  by false p d q l = absurd (omega (arith, l))

module _ (e : Setup) (s : Shared) (u : ℕ → Node → ℕ) where
  abbrev count : Shared → ℕ
  count x = marks e (of_unlinked u) x

  tried-count : (r : Answer) (c : ℕ) (p : CarrierAt) → count (moved_if r c p s) ≡ count s
  tried-count (Won x) c p = refl
  tried-count (Lost v) c p = refl
  tried-count Done c p = refl
  tried-count (Head n) c p = refl
  tried-count Rests c p = refl
  tried-count (Passes n) c p = refl
  tried-count (Saw v) c p = refl
  tried-count (Home x) c p = refl
  tried-count (Got o) c p = refl

  -- how many nodes aren't linked after a row
  abbrev Counts : Row → Shared → Type 0
  Counts (Push n i) after = (i < seats e) → count after ≡ count s + u i n
  Counts (Link n i) after = (i < seats e) → count after ≤ count s
  Counts row after = count after ≤ count s

  row-counts : (me : ℕ) (a : Actor) (row : Row) → me < seats e → Guard e me a s row
      → Counts row (effect me row s)
  unfolding effect
  row-counts me a TakeAll seat guard =
      omega (arith, marks-take_all e s (of_unlinked u) me seat guard.1)
  row-counts me a TakeLink seat guard = omega (
    arith,
    marks-with_rest e s (of_unlinked u) me (rest_after (s.rests me)) seat,
    rest-less (of_unlinked u me) (s.rests me),
  )
  row-counts me a (Push n i) seat guard = λ there. marks-push e s (of_unlinked u) me i n there
  row-counts me a (Link n i) seat guard = λ there. omega (
    arith,
    marks-link e s (of_unlinked u) me i n there,
    link-less u i n (s.queues i),
    link-less u i n (s.rests i),
  )
  row-counts me a (Look c) seat guard = omega arith
  row-counts me a (BusyTry c seen) seat guard =
      omega (arith, tried-count (tried_at seen (s.places c)) c (Busy me))
  row-counts me a (Settle x) seat guard = omega arith
  row-counts me a (Abandon x) seat guard = omega arith
  row-counts me a (FetchTry c seen) seat guard =
      omega (arith, tried-count (tried_at seen (s.places c)) c (Employed me))
  row-counts me a (Create c) seat guard = omega arith
  row-counts me a (SendHome x) seat guard = omega arith
  row-counts me a (Clear c) seat guard = omega arith
  row-counts me a (Give g) seat guard = omega arith
  row-counts me a (TakeTry name) seat guard = omega arith
  row-counts me a Nothing seat guard = omega arith

linked-lists : (me : ℕ) (node : Node) (to : ℕ) (s : Shared)
    → ((effect me (Link node to) s).queues to ≡ link_in node (s.queues to))
    × ((effect me (Link node to) s).rests to ≡ link_in node (s.rests to))
unfolding effect
linked-lists me node to s = (
  put-here s.queues to (link_in node (s.queues to)) to refl,
  put-here s.rests to (link_in node (s.rests to)) to refl,
)

module _ (e : Setup) (w : State) (rule : Rule e w) (me : ℕ)
    (guard : Guard e me (w.actors me) w.shared (wants (w.actors me)))
    (there : (n : Node) (i : ℕ) → wants (w.actors me) ≡ Push n i → i < seats e)
    (node : Node) (to : ℕ) (why : Why) (gone : Gone) where
  abbrev u : ℕ → Node → ℕ
  u = node_at node to

  abbrev a : Actor
  a = w.actors me

  abbrev row : Row
  row = wants a

  abbrev s : Shared
  s = effect me row w.shared

  module _ (b : Actor) (rule' : Rule e (with_actor w s me b))
      (now : b.stage ≡ Routed (Linking node to) why gone) where
    at-me : put w.actors me b me ≡ b
    at-me = put-here w.actors me b me refl

    seat : me < seats e
    seat = seat-of e (with_actor w s me b) rule' me (Linking node to) why gone
        (ap (λ (x : Actor). x.stage) at-me ∙ now)

    level : marks e (of_unlinked u) s + of_links u a ≡ marks e (of_unlinked u) w.shared + 1
    level = omega (
      arith,
      rule.kept.unlinked.balance u,
      rule'.kept.unlinked.balance u,
      total-put (of_links u) w.actors me b (seats e) seat,
      ap (of_link u) now,
      node_at-itself node to,
    )

    other : marks e (of_unlinked u) s ≤ marks e (of_unlinked u) w.shared
        → ((n : Node) (i : ℕ) → row ≢ Link n i) → ⊥
    other less never = elim (linked-or u a.next a.stage) [
      | inl z ↦ omega (arith, level, less, z)
      | inr l ↦ never l.0 l.1 l.2
    ]

    -- the node itself isn't the one that was linked
    still-unlinked : row ≢ Link node to
    still-unlinked q =
        let x = linked-lists me node to w.shared in
        let mine : s ≡ effect me (Link node to) w.shared = ap (λ r. effect me r w.shared) q in
        let unlinked = sound-unlinked e (with_actor w s me b) rule' node to in
        omega (
          arith,
          unlinked.0,
          total-part (of_links u) (put w.actors me b) me (seats e) seat,
          ap (of_links u) at-me,
          ap (of_link u) now,
          node_at-itself node to,
          ap (λ (y : Shared). sum_over (of_unlinked u to) (y.queues to)) mine,
          ap (λ (y : Shared). sum_over (of_unlinked u to) (y.rests to)) mine,
          ap (sum_over (of_unlinked u to)) x.0,
          ap (sum_over (of_unlinked u to)) x.1,
          link-gone node to (w.shared.queues to),
          link-gone node to (w.shared.rests to),
        )

    by : (r : Row) → row ≡ r → Counts e w.shared u r s → row ≡ Push node to
    by (Push n i) q c = elim (linked-or u a.next a.stage) [
      | inl z ↦
          let is = is-counted node n to i (omega (arith, level, z, c (there n i q))) in
          q ∙ ap (λ k. Push n k) is.0 ∙ ap (λ m. Push m to) is.1
      | inr l ↦ absurd (let never : Push n i ≡ Link l.0 l.1 = sym q ∙ l.2 in cc)
    ]
    by (Link n i) q c =
        let p = links a n i q in
        let less = c (linking-seat e w rule.kept me before p.0 p.1 n i p.2) in
        let is = is-counted node n to i (omega (arith, level, less, ap (of_link u) p.2)) in
        absurd (still-unlinked (q ∙ ap (λ k. Link n k) is.0 ∙ ap (λ m. Link m to) is.1))
      where
        before : me < seats e
        before = seat
    by TakeAll q c = absurd (other c (λ n i l. let never : TakeAll ≡ Link n i = sym q ∙ l in cc))
    by TakeLink q c = absurd (other c (λ n i l. let never : TakeLink ≡ Link n i = sym q ∙ l in cc))
    by (Look x) q c = absurd (other c (λ n i l. let never : Look x ≡ Link n i = sym q ∙ l in cc))
    by (BusyTry x y) q c =
        absurd (other c (λ n i l. let never : BusyTry x y ≡ Link n i = sym q ∙ l in cc))
    by (Settle x) q c =
        absurd (other c (λ n i l. let never : Settle x ≡ Link n i = sym q ∙ l in cc))
    by (Abandon x) q c =
        absurd (other c (λ n i l. let never : Abandon x ≡ Link n i = sym q ∙ l in cc))
    by (FetchTry x y) q c =
        absurd (other c (λ n i l. let never : FetchTry x y ≡ Link n i = sym q ∙ l in cc))
    by (Create x) q c =
        absurd (other c (λ n i l. let never : Create x ≡ Link n i = sym q ∙ l in cc))
    by (SendHome x) q c =
        absurd (other c (λ n i l. let never : SendHome x ≡ Link n i = sym q ∙ l in cc))
    by (Clear x) q c = absurd (other c (λ n i l. let never : Clear x ≡ Link n i = sym q ∙ l in cc))
    by (Give x) q c = absurd (other c (λ n i l. let never : Give x ≡ Link n i = sym q ∙ l in cc))
    by (TakeTry x) q c =
        absurd (other c (λ n i l. let never : TakeTry x ≡ Link n i = sym q ∙ l in cc))
    by Nothing q c = absurd (other c (λ n i l. let never : Nothing ≡ Link n i = sym q ∙ l in cc))

    pushed-it : row ≡ Push node to
    pushed-it = by row refl (row-counts e w.shared u me a row seat guard)

  -- who is about to link a node has pushed it
  pub came : Rule e (step e w me)
      → ((step e w me).actors me).stage ≡ Routed (Linking node to) why gone
      → wants (w.actors me) ≡ Push node to
  came rule' now = elim (ended-or (w.actors me).stage) [
    | inl ended ↦ absurd (let never : Ended ≡ Routed (Linking node to) why gone =
        sym ended ∙ sym (ap (λ (x : State). (x.actors me).stage) (step-ended e w me ended)) ∙ now in
        cc)
    | inr goes ↦
        let is = step-is e w me goes in
        pushed-it is.0 (subst (Rule e) is.1 rule')
        (sym (ap (λ (x : Actor). x.stage) (put-here w.actors me is.0 me refl))
        ∙ sym (ap (λ (x : State). (x.actors me).stage) is.1) ∙ now)
  ]
