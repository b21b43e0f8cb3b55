-- What is queued is worked off in the order in which it came.
use Rattle.std.proofs.Common.{◌≡◌, ◌≢◌, ℕ, List, [], ◌∷◌, ◌++◌, Bool, true, false, refl, sym, ap}
use Rattle.std.proofs.Common.{◌⊎◌, ◌∙◌, subst, inl, inr, arith}
use Rattle.std.specs.Prelude.{Option, Some, None, ◌==◌}
use Rattle.std.proofs.lemmas.Bool.{cases_eq, cond_both}
use Rattle.std.proofs.lemmas.List.{append-nil, append_assoc}
use Rattle.ea_model.specs.Content.{Content}
use Rattle.ea_machine.specs.declared.nodes.Named.{Named}
use Rattle.ea_machine.specs.declared.nodes.Node.{Node}
use Rattle.ea_machine.specs.declared.nodes.Node.TheVariants.{Block, Carrier}
use Rattle.ea_machine.specs.declared.owners.OwnerWord.{OwnerWord}
use Rattle.ea_machine.specs.declared.asks.Ask.{Ask}
use Rattle.ea_machine.specs.declared.parts.Part.{Part}
use Rattle.ea_machine.specs.declared.stages.Route.{Route}
use Rattle.ea_machine.specs.declared.stages.Stage.{Stage}
use Rattle.ea_machine.specs.declared.stages.Stage.TheVariants.{Begin, Routed, Collecting, Searching}
use Rattle.ea_machine.specs.declared.stages.Stage.TheVariants.{Fetching, Creating, Giving, Taking}
use Rattle.ea_machine.specs.declared.stages.Stage.TheVariants.{Ended, Ready}
use Rattle.ea_machine.specs.declared.stages.Route.TheVariants.{Looking, Trying, Settling}
use Rattle.ea_machine.specs.declared.stages.Route.TheVariants.{Abandoning, Sending, Clearing}
use Rattle.ea_machine.specs.declared.stages.Route.TheVariants.{Pushing, Linking}
use Rattle.ea_machine.specs.declared.tasks.Gone.{Gone}
use Rattle.ea_machine.specs.declared.tasks.Task.{Task}
use Rattle.ea_machine.specs.declared.tasks.Why.TheVariants.{Walk, For}
use Rattle.ea_machine.specs.Actor.{Actor}
use Rattle.ea_machine.specs.Machine.{after_row, onward, onward_at, run, step, wants, wants_at}
use Rattle.ea_machine.specs.Nodes.{Mark, first_node, link_in, pushed, same_node}
use Rattle.ea_machine.specs.Owners.{Busy, Employed}
use Rattle.ea_machine.specs.Placements.{saw_by, searched}
use Rattle.ea_machine.specs.Releases.{route_of, turned}
use Rattle.ea_machine.specs.Rows.{Row, TakeAll, TakeLink, Look, Push, Link, BusyTry, Settle}
use Rattle.ea_machine.specs.Rows.{Abandon, FetchTry, Create, SendHome, Clear, Give, TakeTry}
use Rattle.ea_machine.specs.Rows.{Nothing, Answer, Done, Head, Rests, Passes, Saw, Won, Lost}
use Rattle.ea_machine.specs.Rows.{Home, Got}
use Rattle.ea_machine.specs.Searches.{fits, passed, with_counted}
use Rattle.ea_machine.specs.Setup.{Setup, greatest_number}
use Rattle.ea_machine.specs.Shared.{Shared}
use Rattle.ea_machine.specs.State.{State}
use Rattle.ea_machine.specs.Table.{answer, effect, link_answer, link_read, rest_after, rest_by}
use Rattle.ea_machine.specs.Table.{tried_at}
use Rattle.ea_machine.specs.Tasks.{carried_by, task_over}
use Rattle.ea_machine.specs.Walks.{after_route, begun, with_passed, worked_off}
use Rattle.ea_sound.specs.Backlog.{WorksOff, WorksOffInOrder, backlog, brought, brought_if}
use Rattle.ea_sound.specs.Backlog.{oldest_first}
use Rattle.ea_sound.specs.Present.{Rule}
use Rattle.ea_sound.specs.Steady.{AreSteady, works_off}
use Rattle.ea_sound.specs.Turns.{advanced, answered}
use Rattle.ea_sound.proofs.OtherRows.{linked-rest, rests-kept, tried-rests}
use Rattle.ea_sound.proofs.RowLeaves.{no_first}
use Rattle.ea_sound.proofs.SharedRows.{tried-queues}
use Rattle.ea_sound.proofs.ShortRoutes.{route-short, turned-short}
use Rattle.ea_sound.proofs.SteadyWork.{created_by-leaves, fetched-leaves, itself-leaves}
use Rattle.ea_sound.proofs.SteadyWork.{search-leaves, took-leaves}
use Rattle.ea_sound.proofs.Totals.{put-here, put-other}
use Rattle.ea_sound.proofs.TurnLists.{ended-or, run-snoc, step-ended, step-mine, step-other}
use Rattle.ea_sound.proofs.TurnLists.{step-shared}

-- to link a node leaves the nodes
linked-nodes : (node : Node) (ms : List Mark) → oldest_first (link_in node ms) ≡ oldest_first ms
linked-nodes node [] = refl
linked-nodes node (m ∷ ms) =
    cond_both (same_node node m.node) (record m { linked = true }) m
    (λ x. oldest_first (x ∷ link_in node ms) ≡ oldest_first (m ∷ ms))
    (λ _. ap (λ ns. ns ++ m.node ∷ []) (linked-nodes node ms))
    (λ _. ap (λ ns. ns ++ m.node ∷ []) (linked-nodes node ms))

-- a row that isn't a begin's
abbrev IsPlain : Row → Type 0
IsPlain TakeAll = ⊥
IsPlain TakeLink = ⊥
IsPlain row = Unit {0}

module _ (j : ℕ) (m : Shared) (s : ℕ) where
  -- it leaves what a walk has before it
  plain-rests : (row : Row) → IsPlain row
      → oldest_first ((effect j row m).rests s) ≡ oldest_first (m.rests s)
  unfolding effect
  plain-rests TakeAll plain = absurd plain
  plain-rests TakeLink plain = absurd plain
  plain-rests (Look c) plain = refl
  plain-rests (Push node to) plain = refl
  plain-rests (Link node to) plain = linked-rest oldest_first linked-nodes node to s m.rests
  plain-rests (BusyTry c seen) plain = tried-rests oldest_first linked-nodes c s (Busy j)
      (tried_at seen (m.places c)) m
  plain-rests (Settle x) plain = refl
  plain-rests (Abandon x) plain = refl
  plain-rests (FetchTry c seen) plain = tried-rests oldest_first linked-nodes c s (Employed j)
      (tried_at seen (m.places c)) m
  plain-rests (Create c) plain = refl
  plain-rests (SendHome x) plain = refl
  plain-rests (Clear c) plain = refl
  plain-rests (Give g) plain = refl
  plain-rests (TakeTry name) plain = refl
  plain-rests Nothing plain = refl

  -- what is brought comes last into the queue
  pushed-queue : (node : Node) (to : ℕ) → oldest_first ((effect j (Push node to) m).queues s)
      ≡ oldest_first (m.queues s) ++ brought_if (s == to) node
  unfolding effect
  pushed-queue node to = elim (cases_eq s to) [
    | inl q ↦
        let same : (s == to) ≡ true = grind (arith, q) in
        ap oldest_first (put-here m.queues to (pushed node ∷ m.queues to) s q)
        ∙ ap (λ i. oldest_first (m.queues i) ++ node ∷ []) (sym q)
        ∙ ap (λ b. oldest_first (m.queues s) ++ brought_if b node) (sym same)
    | inr ne ↦
        let other : (s == to) ≡ false = grind (arith, ne) in
        ap oldest_first (put-other m.queues to (pushed node ∷ m.queues to) s ne)
        ∙ sym (append-nil (oldest_first (m.queues s)))
        ∙ ap (λ b. oldest_first (m.queues s) ++ brought_if b node) (sym other)
  ]

  plain-queue : (row : Row) → IsPlain row → oldest_first ((effect j row m).queues s)
      ≡ oldest_first (m.queues s) ++ brought s row
  unfolding effect
  plain-queue TakeAll plain = absurd plain
  plain-queue TakeLink plain = absurd plain
  plain-queue (Push node to) plain = pushed-queue node to
  plain-queue (Link node to) plain = linked-rest oldest_first linked-nodes node to s m.queues
      ∙ sym (append-nil (oldest_first (m.queues s)))
  plain-queue (BusyTry c seen) plain =
      ap oldest_first (tried-queues (tried_at seen (m.places c)) c s (Busy j) m)
      ∙ sym (append-nil (oldest_first (m.queues s)))
  plain-queue (FetchTry c seen) plain =
      ap oldest_first (tried-queues (tried_at seen (m.places c)) c s (Employed j) m)
      ∙ sym (append-nil (oldest_first (m.queues s)))
  plain-queue (Look c) plain = sym (append-nil (oldest_first (m.queues s)))
  plain-queue (Settle x) plain = sym (append-nil (oldest_first (m.queues s)))
  plain-queue (Abandon x) plain = sym (append-nil (oldest_first (m.queues s)))
  plain-queue (Create c) plain = sym (append-nil (oldest_first (m.queues s)))
  plain-queue (SendHome x) plain = sym (append-nil (oldest_first (m.queues s)))
  plain-queue (Clear c) plain = sym (append-nil (oldest_first (m.queues s)))
  plain-queue (Give g) plain = sym (append-nil (oldest_first (m.queues s)))
  plain-queue (TakeTry name) plain = sym (append-nil (oldest_first (m.queues s)))
  plain-queue Nothing plain = sym (append-nil (oldest_first (m.queues s)))

  -- the begin of another scheduler changes nothing here
  other-queue : (row : Row) → s ≢ j → oldest_first ((effect j row m).queues s)
      ≡ oldest_first (m.queues s) ++ brought s row
  unfolding effect
  other-queue TakeAll ne = ap oldest_first (put-other m.queues j [] s ne)
      ∙ sym (append-nil (oldest_first (m.queues s)))
  other-queue TakeLink ne = sym (append-nil (oldest_first (m.queues s)))
  other-queue (Look c) ne = plain-queue (Look c) tt
  other-queue (Push node to) ne = plain-queue (Push node to) tt
  other-queue (Link node to) ne = plain-queue (Link node to) tt
  other-queue (BusyTry c seen) ne = plain-queue (BusyTry c seen) tt
  other-queue (Settle x) ne = plain-queue (Settle x) tt
  other-queue (Abandon x) ne = plain-queue (Abandon x) tt
  other-queue (FetchTry c seen) ne = plain-queue (FetchTry c seen) tt
  other-queue (Create c) ne = plain-queue (Create c) tt
  other-queue (SendHome x) ne = plain-queue (SendHome x) tt
  other-queue (Clear c) ne = plain-queue (Clear c) tt
  other-queue (Give g) ne = plain-queue (Give g) tt
  other-queue (TakeTry name) ne = plain-queue (TakeTry name) tt
  other-queue Nothing ne = plain-queue Nothing tt

  -- the begin of s itself, by what it reads
  took-rests : oldest_first ((effect s TakeAll m).rests s) ≡ oldest_first (m.queues s)
  unfolding effect
  took-rests = ap oldest_first (put-here m.rests s (m.queues s) s refl)

  took-queue : oldest_first ((effect s TakeAll m).queues s) ≡ []
  unfolding effect
  took-queue = ap oldest_first (put-here m.queues s [] s refl)

  link-rests : oldest_first ((effect s TakeLink m).rests s) ≡ oldest_first (rest_after (m.rests s))
  unfolding effect
  link-rests = ap oldest_first (put-here m.rests s (rest_after (m.rests s)) s refl)

  link-queue : oldest_first ((effect s TakeLink m).queues s) ≡ oldest_first (m.queues s)
  unfolding effect
  link-queue = refl

-- what a scheduler passed, and how much of it is left once it has worked on
pub record Left (ns : List Node) (b : Actor) : Type 0 where
  pub done : List Node
  pub split : ns ≡ done ++ b.passed

same-left : (ns : List Node) (b : Actor) → b.passed ≡ ns → Left ns b
same-left ns b q = record { done = []; split = sym q }

module _ (e : Setup) (me : ℕ) where
  more-left : (node : Node) (ns : List Node) (b : Actor) → Left ns b → Left (node ∷ ns) b
  more-left node ns b l = record {
    done = node ∷ l.done;
    split = ap (λ ms. node ∷ ms) l.split;
  }

  carried-left : (over : Gone → Actor → Actor) (r : Option (Route Content)) (g : Gone) (b : Actor)
      (ns : List Node) → b.passed ≡ ns → ((h : Gone) (c : Actor) → c.passed ≡ ns → Left ns (over h c))
      → Left ns (carried_by Walk over g b r)
  carried-left over None g b ns q f = f g b q
  carried-left over (Some r) g b ns q f = same-left ns _ q

  worked-left : (ns : List Node) (b : Actor) → Left ns (worked_off e me ns b)
  worked-left [] b = record { done = []; split = refl }
  worked-left (Carrier c ∷ ns) b = record { done = Carrier c ∷ []; split = refl }
  worked-left (Block n p ∷ ns) b =
      let hand : Named = record { name = n; spot = p } in
      let t = route_of e me hand (record b { passed = ns }) in
      more-left (Block n p) ns _
      (carried-left (λ gone d. worked_off e me ns d) t.route t.gone t.actor ns
      (route-short e me hand (record b { passed = ns })).1.0
      (λ h c q. worked-left ns c))

  -- a route of the walk, and one of the operation
  walked-left : (r : Route Content) (g : Gone) (a : Actor) (z : Answer)
      → Left a.passed (after_row e me a z (Routed r Walk g))
  walked-left r g a z =
      let t = turned e me r g a z in
      carried-left (after_route e me Walk) t.route t.gone t.actor a.passed
      (turned-short e me r g a z).1.0
      (λ h c q. subst (λ ns. Left ns (worked_off e me c.passed c)) q (worked-left c.passed c))

  task-keeps : (task : Task) (r : Option (Route Content)) (g : Gone) (b : Actor)
      → (carried_by (For task) (task_over task) g b r).passed ≡ b.passed
  task-keeps task None g b = refl
  task-keeps task (Some r) g b = refl

  saw-keeps : (ask : Ask) (n : ℕ) (part : Part) (a : Actor) (v : OwnerWord) (t : Bool)
      → (saw_by e me ask n part a v t).passed ≡ a.passed
  saw-keeps ask n part a v true = refl
  saw-keeps ask n part a v false =
      (search-leaves e me ask (passed (greatest_number e) a.lists n part v) a).1

  searched-keeps : (ask : Ask) (n : ℕ) (part : Part) (a : Actor) (r : Answer)
      → (searched e me ask n part a r).passed ≡ a.passed
  searched-keeps ask n part a (Saw v) =
      saw-keeps ask n (with_counted v part) a v (fits ask.need v)
  searched-keeps ask n part a Done = refl
  searched-keeps ask n part a (Head x) = refl
  searched-keeps ask n part a Rests = refl
  searched-keeps ask n part a (Passes x) = refl
  searched-keeps ask n part a (Won x) = refl
  searched-keeps ask n part a (Lost x) = refl
  searched-keeps ask n part a (Home x) = refl
  searched-keeps ask n part a (Got x) = refl

  -- a row by which nothing is worked off, and one by which something is
  row-keeps : (a : Actor) (r : Answer) (st : Stage Content) → st ≢ Begin → works_off st ≡ false
      → (after_row e me a r st).passed ≡ a.passed
  row-keeps a r Begin ne off = absurd (ne refl)
  row-keeps a r (Routed route Walk g) ne off = absurd cc
  row-keeps a r (Routed route (For task) g) ne off =
      let t = turned e me route g a r in
      task-keeps task t.route t.gone t.actor ∙ (turned-short e me route g a r).1.0
  row-keeps a r (Collecting c) ne off = absurd cc
  row-keeps a r (Searching ask n part) ne off = searched-keeps ask n part a r
  row-keeps a r (Fetching ask n part seen) ne off = (fetched-leaves e me ask n part a r).1
  row-keeps a r (Creating ask p) ne off = (created_by-leaves e me ask p a p.single).1
  row-keeps a r (Giving given to) ne off = refl
  row-keeps a r (Taking name tries left) ne off = (took-leaves e me name tries left a r).1
  row-keeps a r Ended ne off = refl
  row-keeps a r Ready ne off = refl

  row-left : (a : Actor) (r : Answer) (st : Stage Content) → works_off st ≡ true
      → Left a.passed (after_row e me a r st)
  row-left a r (Routed route Walk g) off = walked-left route g a r
  row-left a r (Collecting c) off = worked-left a.passed _
  row-left a r Begin off = absurd cc
  row-left a r (Routed route (For task) g) off = absurd cc
  row-left a r (Searching ask n part) off = absurd cc
  row-left a r (Fetching ask n part seen) off = absurd cc
  row-left a r (Creating ask p) off = absurd cc
  row-left a r (Giving given to) off = absurd cc
  row-left a r (Taking name tries left) off = absurd cc
  row-left a r Ended off = absurd cc
  row-left a r Ready off = absurd cc

  -- the operation itself leaves what was passed
  onward-keeps : (b : Actor) (st : Stage Content) → (onward_at e me b st).passed ≡ b.passed
  onward-keeps b Begin = refl
  onward-keeps b (Routed r y g) = refl
  onward-keeps b (Collecting c) = refl
  onward-keeps b (Searching ask n part) = refl
  onward-keeps b (Fetching ask n part seen) = refl
  onward-keeps b (Creating ask p) = refl
  onward-keeps b (Giving given to) = refl
  onward-keeps b (Taking name tries left) = refl
  onward-keeps b Ended = refl
  onward-keeps b Ready = (itself-leaves e me b b.todo).1

  onward-left : (ns : List Node) (b : Actor) → Left ns b → Left ns (onward e me b)
  onward-left ns b l = record {
    done = l.done;
    split = l.split ∙ ap (λ ms. l.done ++ ms) (sym (onward-keeps b b.stage));
  }

-- a row of a stage is no begin's, but at a begin
plain-at : (next : Option Node) (st : Stage Content) → st ≢ Begin → IsPlain (wants_at next st)
plain-at next Begin ne = absurd (ne refl)
plain-at next (Routed (Looking h) y g) ne = tt
plain-at next (Routed (Trying h seen) y g) ne = tt
plain-at next (Routed (Settling x) y g) ne = tt
plain-at next (Routed (Abandoning x) y g) ne = tt
plain-at next (Routed (Sending x) y g) ne = tt
plain-at next (Routed (Clearing x) y g) ne = tt
plain-at next (Routed (Pushing node to) y g) ne = tt
plain-at next (Routed (Linking node to) y g) ne = tt
plain-at next (Collecting c) ne = tt
plain-at next (Searching ask n part) ne = tt
plain-at next (Fetching ask n part seen) ne = tt
plain-at next (Creating ask p) ne = tt
plain-at next (Giving given to) ne = tt
plain-at next (Taking name tries left) ne = tt
plain-at next Ended ne = tt
plain-at next Ready ne = tt

-- whether a scheduler is at a begin
begin-or : (st : Stage Content) → (st ≡ Begin) ⊎ (st ≢ Begin)
begin-or Begin = inl refl
begin-or (Routed r y g) = inr (λ q. absurd cc)
begin-or (Collecting c) = inr (λ q. absurd cc)
begin-or (Searching ask n part) = inr (λ q. absurd cc)
begin-or (Fetching ask n part seen) = inr (λ q. absurd cc)
begin-or (Creating ask p) = inr (λ q. absurd cc)
begin-or (Giving given to) = inr (λ q. absurd cc)
begin-or (Taking name tries left) = inr (λ q. absurd cc)
begin-or Ended = inr (λ q. absurd cc)
begin-or Ready = inr (λ q. absurd cc)

-- what the rows of a begin read
link-reads : (s : ℕ) (m : Shared) → answer s TakeLink m ≡ link_answer (m.rests s)
unfolding answer
link-reads s m = refl

head-reads : (s : ℕ) (m : Shared) → answer s TakeAll m ≡ Head (first_node (m.queues s))
unfolding answer
head-reads s m = refl

-- three lists after one another
joined : (a b x y p q : List Node) → a ≡ b → x ≡ y → p ≡ q → (a ++ x) ++ p ≡ (b ++ y) ++ q
joined a b x y p q f g h = ap (λ z. (z ++ x) ++ p) f ∙ ap (λ z. (b ++ z) ++ p) g
    ∙ ap (λ z. (b ++ y) ++ z) h

module _ (e : Setup) (rules : (L : List ℕ) → Rule e (run e L))
    (steadies : (L : List ℕ) → AreSteady e (run e L)) (turns : List ℕ) (s : ℕ) where
  abbrev w : State
  w = run e turns

  abbrev a : Actor
  a = w.actors s

  -- what its walk has before it, and what came to its queue
  abbrev ahead : List Node
  ahead = oldest_first (w.shared.rests s)

  abbrev came : List Node
  came = oldest_first (w.shared.queues s)

  no-rest : a.next ≡ None → w.shared.rests s ≡ []
  no-rest q = no_first (w.shared.rests s) (sym ((rules turns).present.walking s) ∙ q)

  ended-works : (j : ℕ) → (w.actors j).stage ≡ Ended → WorksOff e turns j s
  ended-works j q = record {
    done = [];
    rest = backlog w s;
    before = refl;
    after = ap (λ (v : State). backlog v s) (run-snoc e turns j ∙ step-ended e w j q)
        ∙ sym (append-nil (backlog w s))
        ∙ ap (λ st. backlog w s ++ brought s (wants_at (w.actors j).next st)) (sym q);
    own = λ ne. refl;
  }

  other-works : (j : ℕ) → (w.actors j).stage ≢ Ended → s ≢ j → WorksOff e turns j s
  other-works j goes ne =
      let v : State = step e w j in
      let row = wants (w.actors j) in record {
        done = [];
        rest = backlog w s;
        before = refl;
        after = ap (λ (v : State). backlog v s) (run-snoc e turns j)
            ∙ joined (oldest_first (v.shared.rests s)) ahead (v.actors s).passed a.passed
            (oldest_first (v.shared.queues s)) (came ++ brought s row)
            (ap (λ (m : Shared). oldest_first (m.rests s)) (step-shared e w j goes)
            ∙ rests-kept oldest_first linked-nodes j row w.shared s ne)
            (ap (λ (b : Actor). b.passed) (step-other e w j s ne))
            (ap (λ (m : Shared). oldest_first (m.queues s)) (step-shared e w j goes)
            ∙ other-queue j w.shared s row ne)
            ∙ sym (append_assoc (ahead ++ a.passed) came (brought s row));
        own = λ ne. refl;
      }

  -- a step of its own
  module _ (goes : a.stage ≢ Ended) where
    abbrev v : State
    v = step e w s

    abbrev row : Row
    row = wants a

    -- what is passed then, but for the operation itself
    passed-now : (v.actors s).passed ≡ (advanced e w s).passed
    passed-now = ap (λ (b : Actor). b.passed) (step-mine e w s goes)
        ∙ onward-keeps e s (advanced e w s) (advanced e w s).stage

    module _ (works : a.stage ≢ Begin) where
      plain : IsPlain row
      plain = plain-at a.next a.stage works

      ahead-now : oldest_first (v.shared.rests s) ≡ ahead
      ahead-now = ap (λ (m : Shared). oldest_first (m.rests s)) (step-shared e w s goes)
          ∙ plain-rests s w.shared s row plain

      came-now : oldest_first (v.shared.queues s) ≡ came ++ brought s row
      came-now = ap (λ (m : Shared). oldest_first (m.queues s)) (step-shared e w s goes)
          ∙ plain-queue s w.shared s row plain

      keeps-works : works_off a.stage ≡ false → WorksOff e turns s s
      keeps-works off = record {
        done = [];
        rest = backlog w s;
        before = refl;
        after = ap (λ (v : State). backlog v s) (run-snoc e turns s)
            ∙ joined (oldest_first (v.shared.rests s)) ahead (v.actors s).passed a.passed
            (oldest_first (v.shared.queues s)) (came ++ brought s row) ahead-now
            (passed-now ∙ row-keeps e s a (answered w s) a.stage works off) came-now
            ∙ sym (append_assoc (ahead ++ a.passed) came (brought s row));
        own = λ ne. refl;
      }

      -- where it works off what was passed, the walk is at its end
      left-works : works_off a.stage ≡ true → WorksOff e turns s s
      left-works off =
          let l = row-left e s a (answered w s) a.stage off in
          let later = (advanced e w s).passed in
          let none : ahead ≡ [] = ap oldest_first (no-rest ((steadies turns s).off off)) in
          record {
            done = l.done;
            rest = later ++ came;
            before = joined ahead [] a.passed (l.done ++ later) came came none l.split refl
                ∙ append_assoc l.done later came;
            after = ap (λ (v : State). backlog v s) (run-snoc e turns s)
                ∙ joined (oldest_first (v.shared.rests s)) [] (v.actors s).passed later
                (oldest_first (v.shared.queues s)) (came ++ brought s row) (ahead-now ∙ none)
                passed-now came-now
                ∙ sym (append_assoc later came (brought s row));
            own = λ ne. absurd (ne refl);
          }

    module _ (begins : a.stage ≡ Begin) where
      row-is : (o : Option Node) → a.next ≡ o → row ≡ wants_at o Begin
      row-is o q = ap (wants_at a.next) begins ∙ ap (λ x. wants_at x Begin) q

      begun-passed : (z : Answer) → answered w s ≡ z → (v.actors s).passed ≡ (begun e s a z).passed
      begun-passed z ans = passed-now ∙ ap (λ st. (after_row e s a (answered w s) st).passed) begins
          ∙ ap (λ x. (begun e s a x).passed) ans

      -- the queue is taken
      take-works : a.next ≡ None → WorksOff e turns s s
      take-works q =
          let is = row-is None q in
          let ans : answered w s ≡ Head (first_node (w.shared.queues s)) =
          ap (λ x. answer s x w.shared) is ∙ head-reads s w.shared in
          let none : ahead ≡ [] = ap oldest_first (no-rest q) in
          let bare : a.passed ≡ [] = (steadies turns s).walk (ap works_off begins) q in
          record {
            done = [];
            rest = came;
            before = joined ahead [] a.passed [] came came none bare refl;
            after = ap (λ (v : State). backlog v s) (run-snoc e turns s)
                ∙ joined (oldest_first (v.shared.rests s)) came (v.actors s).passed []
                (oldest_first (v.shared.queues s)) []
                (ap (λ (m : Shared). oldest_first (m.rests s)) (step-shared e w s goes)
                ∙ ap (λ x. oldest_first ((effect s x w.shared).rests s)) is
                ∙ took-rests s w.shared s)
                (begun-passed (Head (first_node (w.shared.queues s))) ans
                ∙ taken-keeps (first_node (w.shared.queues s)) ∙ bare)
                (ap (λ (m : Shared). oldest_first (m.queues s)) (step-shared e w s goes)
                ∙ ap (λ x. oldest_first ((effect s x w.shared).queues s)) is
                ∙ took-queue s w.shared s)
                ∙ ap (λ ns. ns ++ []) (append-nil came)
                ∙ ap (λ x. came ++ brought s x) (sym is);
            own = λ ne. refl;
          }
        where
          taken-keeps : (o : Option Node) → (begun e s a (Head o)).passed ≡ a.passed
          taken-keeps None = refl
          taken-keeps (Some n) = refl

      -- the walk goes on
      module _ (n : Node) (q : a.next ≡ Some n) where
        is : row ≡ TakeLink
        is = row-is (Some n) q

        came-still : oldest_first (v.shared.queues s) ≡ came
        came-still = ap (λ (m : Shared). oldest_first (m.queues s)) (step-shared e w s goes)
            ∙ ap (λ x. oldest_first ((effect s x w.shared).queues s)) is
            ∙ link-queue s w.shared s

        rests-now : (ms : List Mark) → w.shared.rests s ≡ ms
            → oldest_first (v.shared.rests s) ≡ oldest_first (rest_after ms)
        rests-now ms r = ap (λ (m : Shared). oldest_first (m.rests s)) (step-shared e w s goes)
            ∙ ap (λ x. oldest_first ((effect s x w.shared).rests s)) is
            ∙ link-rests s w.shared s ∙ ap (λ x. oldest_first (rest_after x)) r

        answers : (ms : List Mark) → w.shared.rests s ≡ ms → answered w s ≡ link_answer ms
        answers ms r = ap (λ x. answer s x w.shared) is ∙ link-reads s w.shared ∙ ap link_answer r

        no-more : (ns : List Node) → ns ≡ ns ++ brought s row
        no-more ns = sym (append-nil ns) ∙ ap (λ x. ns ++ brought s x) (sym is)

        link-works : (ms : List Mark) → w.shared.rests s ≡ ms → first_node ms ≡ Some n
            → WorksOff e turns s s
        link-works [] r f = absurd cc
        link-works (k ∷ ks) r f = by k.linked refl ks refl
          where
            node-is : k.node ≡ n
            node-is = cc

            -- what was ahead, with the next node first
            ahead-is : (ks : List Mark) → w.shared.rests s ≡ k ∷ ks
                → ahead ≡ oldest_first ks ++ n ∷ []
            ahead-is ks r = ap oldest_first r ∙ ap (λ x. oldest_first ks ++ x ∷ []) node-is

            by : (b : Bool) → k.linked ≡ b → (ls : List Mark) → ks ≡ ls → WorksOff e turns s s
            by false linked ls q' = record {
              done = [];
              rest = backlog w s;
              before = refl;
              after = ap (λ (v : State). backlog v s) (run-snoc e turns s)
                  ∙ joined (oldest_first (v.shared.rests s)) ahead (v.actors s).passed a.passed
                  (oldest_first (v.shared.queues s)) came
                  (rests-now (k ∷ ks) r ∙ ap (λ b. oldest_first (rest_by b k ks)) linked
                  ∙ sym (ap oldest_first r))
                  (begun-passed Rests (answers (k ∷ ks) r ∙ ap (λ b. link_read b ks) linked))
                  came-still
                  ∙ no-more (backlog w s);
              own = λ ne. refl;
            }
            by true linked [] q' =
                let l = worked-left e s (with_passed a.next a.passed) (record a { next = None }) in
                let later = (worked_off e s (with_passed a.next a.passed)
                (record a { next = None })).passed in
                let all : n ∷ a.passed ≡ l.done ++ later =
                ap (λ o. with_passed o a.passed) (sym q) ∙ l.split in
                record {
                  done = l.done;
                  rest = later ++ came;
                  before = joined ahead (n ∷ []) a.passed a.passed came came
                      (ahead-is ks r ∙ ap (λ x. oldest_first x ++ n ∷ []) q') refl refl
                      ∙ ap (λ x. x ++ came) all ∙ append_assoc l.done later came;
                  after = ap (λ (v : State). backlog v s) (run-snoc e turns s)
                      ∙ joined (oldest_first (v.shared.rests s)) [] (v.actors s).passed later
                      (oldest_first (v.shared.queues s)) came
                      (rests-now (k ∷ ks) r ∙ ap (λ b. oldest_first (rest_by b k ks)) linked
                      ∙ ap oldest_first q')
                      (begun-passed (Passes None)
                      (answers (k ∷ ks) r ∙ ap (λ b. link_read b ks) linked
                      ∙ ap (λ x. Passes (first_node x)) q'))
                      came-still
                      ∙ no-more (later ++ came);
                  own = λ ne. absurd (ne refl);
                }
            by true linked (l ∷ ls) q' = record {
              done = [];
              rest = backlog w s;
              before = refl;
              after = ap (λ (v : State). backlog v s) (run-snoc e turns s)
                  ∙ joined (oldest_first (v.shared.rests s)) (oldest_first ks)
                  (v.actors s).passed (n ∷ a.passed) (oldest_first (v.shared.queues s)) came
                  (rests-now (k ∷ ks) r ∙ ap (λ b. oldest_first (rest_by b k ks)) linked)
                  (begun-passed (Passes (Some l.node))
                  (answers (k ∷ ks) r ∙ ap (λ b. link_read b ks) linked
                  ∙ ap (λ x. Passes (first_node x)) q')
                  ∙ ap (λ o. with_passed o a.passed) q)
                  came-still
                  ∙ ap (λ x. x ++ came) (sym (append_assoc (oldest_first ks) (n ∷ []) a.passed)
                  ∙ ap (λ x. x ++ a.passed) (sym (ahead-is ks r)))
                  ∙ no-more (backlog w s);
              own = λ ne. refl;
            }

    begin-works : a.stage ≡ Begin → (o : Option Node) → a.next ≡ o → WorksOff e turns s s
    begin-works begins None q = take-works begins q
    begin-works begins (Some n) q = link-works begins n q (w.shared.rests s) refl
        (sym ((rules turns).present.walking s) ∙ q)

    own-works : WorksOff e turns s s
    own-works = elim (begin-or a.stage) [
      | inl begins ↦ begin-works begins a.next refl
      | inr works ↦ by works (works_off a.stage) refl
    ] where
      by : a.stage ≢ Begin → (b : Bool) → works_off a.stage ≡ b → WorksOff e turns s s
      by works true off = left-works works off
      by works false off = keeps-works works off

  works : (j : ℕ) → WorksOff e turns j s
  works j = elim (ended-or (w.actors j).stage) [
    | inl q ↦ ended-works j q
    | inr goes ↦ elim (cases_eq s j) [
      | inl q ↦ subst (λ i. WorksOff e turns i s) q
          (own-works (subst (λ i. (w.actors i).stage ≢ Ended) (sym q) goes))
      | inr ne ↦ other-works j goes ne
    ]
  ]

pub works_off-in_order : (e : Setup) → ((L : List ℕ) → Rule e (run e L))
    → ((L : List ℕ) → AreSteady e (run e L)) → WorksOffInOrder e
works_off-in_order e rules steadies turns j s = works e rules steadies turns s j
