-- After a completed schedule every scheduler has ended or is stopped.
use Rattle.std.proofs.Common.{◌≡◌, ◌≢◌, ◌⊎◌, ℕ, zero, suc, ◌+◌, ◌*◌, ◌<◌, ◌≤◌, List, [], ◌∷◌, ◌++◌}
use Rattle.std.proofs.Common.{Bool, true, false, refl, sym, ap, ◌∙◌, subst, inl, inr, arith, ◌-◌}
use Rattle.std.specs.Prelude.{Option, Some, None, length, replicate, take}
use Rattle.std.proofs.lemmas.Bool.{cases_eq, cases_lt}
use Rattle.ea_model.specs.declared.entries.Entry.TheVariants as entry
use Rattle.ea_model.specs.Content.{Content}
use Rattle.ea_machine.specs.Releases.{struck}
use Rattle.ea_machine.specs.Searches.{left_in}
use Rattle.ea_machine.specs.declared.nodes.Node.{Node}
use Rattle.ea_machine.specs.declared.nodes.Node.TheVariants.{Block, Carrier}
use Rattle.ea_machine.specs.declared.stages.Stage.{Stage}
use Rattle.ea_machine.specs.declared.stages.Stage.TheVariants.{Begin, Routed, Collecting, Searching}
use Rattle.ea_machine.specs.declared.stages.Stage.TheVariants.{Fetching, Creating, Giving, Taking}
use Rattle.ea_machine.specs.declared.stages.Stage.TheVariants.{Ended, Ready}
use Rattle.ea_machine.specs.declared.stages.Route.{Route}
use Rattle.ea_machine.specs.declared.stages.Route.TheVariants.{Looking, Trying, Settling}
use Rattle.ea_machine.specs.declared.stages.Route.TheVariants.{Abandoning, Sending, Clearing}
use Rattle.ea_machine.specs.declared.stages.Route.TheVariants.{Pushing, Linking}
use Rattle.ea_machine.specs.Actor.{Actor}
use Rattle.ea_machine.specs.declared.tasks.Why.{Why}
use Rattle.ea_machine.specs.declared.tasks.Why.TheVariants.{Walk, For}
use Rattle.ea_machine.specs.declared.tasks.Gone.{Gone}
use Rattle.ea_machine.specs.Completion.{actor_rows, begin_rows, completing, ending, finishing}
use Rattle.ea_machine.specs.Completion.{next_rows, passed_rows, stage_rows, work}
use Rattle.ea_machine.specs.Machine.{IsReached, after_row, begins, first_stage, run, run_on, start}
use Rattle.ea_machine.specs.Machine.{step, wants_at, wants_on}
use Rattle.ea_machine.specs.Nodes.{Mark, first_node, link_in, pushed}
use Rattle.ea_machine.specs.Owners.{CarrierAt, Employed, Busy}
use Rattle.ea_machine.specs.Releases.{disowned}
use Rattle.ea_machine.specs.Rows.{Answer, Done, Head, Rests, Passes, Saw, Won, Lost, Home, Got}
use Rattle.ea_machine.specs.Setup.{Setup, is_scheduler}
use Rattle.ea_machine.specs.Shared.{Shared, put}
use Rattle.ea_machine.specs.State.{State}
use Rattle.ea_machine.specs.Stops.{count_of, cut, left_after, left_by, less, up_to}
use Rattle.ea_machine.specs.Table.{answer, effect, link_answer, link_read, moved_if, rest_after}
use Rattle.ea_machine.specs.Table.{rest_by, tried_at}
use Rattle.ea_machine.specs.Tasks.{let_go}
use Rattle.ea_machine.specs.Walks.{begun, with_passed}
use Rattle.ea_sound.specs.MachineLaws.{AllComeToRest, CompletesWithin}
use Rattle.ea_sound.specs.Turns.{advanced}
use Rattle.ea_sound.specs.Present.{Fits, FitsRoute, Rule}
use Rattle.ea_sound.proofs.SearchParts.{has-some}
use Rattle.ea_sound.proofs.Ending.{created-less, fetched-less, logged-less, onward-less}
use Rattle.ea_sound.proofs.Ending.{searched-less, task-route, took-less, walk-route, walk_rows}
use Rattle.ea_sound.proofs.Ending.{whole_rows, worked-less}
use Rattle.ea_sound.proofs.OtherRows.{linked-rest}
use Rattle.ea_sound.proofs.Stopping.{count-append, count-others, count-replicate}
use Rattle.ea_sound.proofs.Stopping.{cut-again, cut-append, cut-own, less-more}
use Rattle.ea_sound.proofs.Stopping.{less-none, less-over, take-fewer, up_to-all, up_to-some}
use Rattle.ea_sound.proofs.Totals.{put-here, put-other}
use Rattle.ea_sound.proofs.TurnLists.{by-turns, ended-or, run-append, run-snoc, step-ended}
use Rattle.ea_sound.proofs.TurnLists.{step-mine, step-other, step-shared}

-- what a step that leaves less work begins with: a node is pushed to another scheduler's queue, and
-- the part of a search has a number left
abbrev pub LeavesLess : ℕ → Stage Content → Type 0
LeavesLess s (Routed (Pushing node to) why gone) = to ≢ s
LeavesLess s (Searching ask at part) = 1 ≤ left_in part
LeavesLess s (Fetching ask at part seen) = 1 ≤ left_in part
LeavesLess s stage = Unit {0}

-- to link a node leaves as many
pub linked-length : (n : Node) (ms : List Mark) → length (link_in n ms) ≡ length ms
linked-length n [] = refl
linked-length n (m ∷ ms) = ap suc (linked-length n ms)

pub linked-marks : (n : Node) (to me : ℕ) (f : ℕ → List Mark)
    → length (put f to (link_in n (f to)) me) ≡ length (f me)
linked-marks = linked-rest (λ ms. length ms) linked-length

module _ (e : Setup) (me : ℕ) where
  -- the marks in my queue and in what is left of my walk
  abbrev pub marks : Shared → ℕ
  marks s = 9 * length (s.queues me) + 9 * length (s.rests me)

  moved-marks : (r : Answer) (c : ℕ) (p : CarrierAt) (s : Shared)
      → marks (moved_if r c p s) ≡ marks s
  moved-marks (Won x) c p s = refl
  moved-marks Done c p s = refl
  moved-marks (Head x) c p s = refl
  moved-marks Rests c p s = refl
  moved-marks (Passes x) c p s = refl
  moved-marks (Saw x) c p s = refl
  moved-marks (Lost x) c p s = refl
  moved-marks (Home x) c p s = refl
  moved-marks (Got x) c p s = refl

  -- a row of a route adds no mark of mine, unless it pushes to me
  route-marks : (r : Route Content) (y : Why) (g : Gone) (s : Shared)
      → LeavesLess me (Routed r y g) → marks (effect me (wants_on r) s) ≡ marks s
  unfolding effect
  route-marks (Looking h) y g s f = refl
  route-marks (Trying h seen) y g s f =
      moved-marks (tried_at seen (s.places h.spot.carrier)) h.spot.carrier (Busy me) s
  route-marks (Settling x) y g s f = refl
  route-marks (Abandoning x) y g s f = refl
  route-marks (Sending x) y g s f = refl
  route-marks (Clearing x) y g s f = refl
  route-marks (Pushing node to) y g s f = omega (
    arith,
    ap length (put-other s.queues to (pushed node ∷ s.queues to) me (λ q. f (sym q))),
  )
  route-marks (Linking node to) y g s f =
      omega (arith, linked-marks node to me s.queues, linked-marks node to me s.rests)

  pub plain-marks : (next : Option Node) (st : Stage Content) (s : Shared) → LeavesLess me st
      → st ≢ Begin → marks (effect me (wants_at next st) s) ≡ marks s
  unfolding effect
  plain-marks next Begin s f ne = absurd (ne refl)
  plain-marks next (Routed r y g) s f ne = route-marks r y g s f
  plain-marks next (Collecting c) s f ne = refl
  plain-marks next (Searching ask n part) s f ne = refl
  plain-marks next (Fetching ask n part seen) s f ne =
      moved-marks (tried_at seen (s.places n)) n (Employed me) s
  plain-marks next (Creating ask p) s f ne = refl
  plain-marks next (Giving h to) s f ne = refl
  plain-marks next (Taking n tries left) s f ne = refl
  plain-marks next Ended s f ne = refl
  plain-marks next Ready s f ne = refl

  -- the begin: the next link of the walk
  link-less : (n : Node) (a : Actor) (ms : List Mark) → a.next ≡ Some n
      → 9 * length (rest_after ms) + actor_rows e (begun e me a (link_answer ms))
      < 9 * length ms + (whole_rows e me a + 1)
  link-less n a [] q = omega (
    arith,
    worked-less e me (with_passed a.next a.passed) (record a { next = None }),
    ap (λ o. passed_rows (with_passed o a.passed)) q,
    ap next_rows q,
  )
  link-less n a (m ∷ ms) q = by m.linked ms
    where
      by : (b : Bool) (ms : List Mark)
          → 9 * length (rest_by b m ms) + actor_rows e (begun e me a (link_read b ms))
          < 9 * suc (length ms) + (whole_rows e me a + 1)
      by false ms = omega arith
      by true [] = omega (
        arith,
        worked-less e me (with_passed a.next a.passed) (record a { next = None }),
        ap (λ o. passed_rows (with_passed o a.passed)) q,
        ap next_rows q,
      )
      by true (k ∷ ms) = omega (
        arith,
        ap (λ o. passed_rows (with_passed o a.passed)) q,
        ap next_rows q,
      )

  head-less : (a : Actor) (ms : List Mark) → a.next ≡ None
      → 9 * length ms + actor_rows e (begun e me a (Head (first_node ms)))
      < 9 * length ms + (whole_rows e me a + 11)
  head-less a [] q = omega arith
  head-less a (m ∷ ms) q = omega (arith, ap next_rows q)

  begin-less : (a : Actor) (s : Shared) (o : Option Node) → a.next ≡ o
      → marks (effect me (begins o) s) + actor_rows e (begun e me a (answer me (begins o) s))
      < marks s + (whole_rows e me a + begin_rows o)
  unfolding effect answer
  begin-less a s None q = omega (
    arith,
    head-less a (s.queues me) q,
    ap length (put-here s.queues me [] me refl),
    ap length (put-here s.rests me (s.queues me) me refl),
  )
  begin-less a s (Some n) q = omega (
    arith,
    link-less n a (s.rests me) q,
    ap length (put-here s.rests me (rest_after (s.rests me)) me refl),
  )

  -- each row, with the work after it
  row-less : (a : Actor) (s : Shared) (st : Stage Content) → st ≢ Ended → st ≢ Ready
      → LeavesLess me st
      → marks (effect me (wants_at a.next st) s)
      + actor_rows e (after_row e me a (answer me (wants_at a.next st) s) st)
      < marks s + (walk_rows e me a + stage_rows e a.next a.todo st)
  row-less a s Begin ne nr f = omega (arith, begin-less a s a.next refl)
  row-less a s (Routed r Walk g) ne nr f =
      omega (
        arith,
        plain-marks a.next (Routed r Walk g) s f (λ q. absurd (cc)),
        walk-route e me r g a (answer me (wants_at a.next (Routed r Walk g)) s),
      )
  row-less a s (Routed r (For task) g) ne nr f =
      omega (
        arith,
        plain-marks a.next (Routed r (For task) g) s f (λ q. absurd (cc)),
        task-route e me r task g a (answer me (wants_at a.next (Routed r (For task) g)) s),
      )
  row-less a s (Collecting c) ne nr f =
      omega (
        arith,
        plain-marks a.next (Collecting c) s f (λ q. absurd (cc)),
        worked-less e me a.passed (disowned c (struck c a)),
      )
  row-less a s (Searching ask n part) ne nr f =
      omega (
        arith,
        plain-marks a.next (Searching ask n part) s f (λ q. absurd (cc)),
        searched-less e me ask n part a (answer me (wants_at a.next (Searching ask n part)) s) f,
      )
  row-less a s (Fetching ask n part seen) ne nr f =
      omega (
        arith,
        plain-marks a.next (Fetching ask n part seen) s f (λ q. absurd (cc)),
        fetched-less e me ask n part a
            (answer me (wants_at a.next (Fetching ask n part seen)) s) f,
      )
  row-less a s (Creating ask p) ne nr f =
      omega (
        arith,
        plain-marks a.next (Creating ask p) s f (λ q. absurd (cc)),
        created-less e me ask p a p.single,
      )
  row-less a s (Giving h to) ne nr f =
      omega (
        arith,
        plain-marks a.next (Giving h to) s f (λ q. absurd (cc)),
        logged-less e me (entry.Give h.name to) (let_go h.name a),
      )
  row-less a s (Taking n tries left) ne nr f =
      omega (
        arith,
        plain-marks a.next (Taking n tries left) s f (λ q. absurd (cc)),
        took-less e me n tries left a (answer me (wants_at a.next (Taking n tries left)) s),
      )
  row-less a s Ended ne nr f = absurd (ne refl)
  row-less a s Ready ne nr f = absurd (nr refl)

module _ (e : Setup) where
  -- a turn of a scheduler that hasn't ended leaves it less work
  step-less : (w : State) (s : ℕ) → (w.actors s).stage ≢ Ended → (w.actors s).stage ≢ Ready
      → LeavesLess s (w.actors s).stage → work e (step e w s) s < work e w s
  step-less w s ne nr f = omega (
    arith,
    ap (marks e s) (step-shared e w s ne),
    ap (actor_rows e) (step-mine e w s ne),
    row-less e s (w.actors s) w.shared (w.actors s).stage ne nr f,
    onward-less e s (advanced e w s),
  )

  -- running to the end
  pub reached-step : (w : State) (s : ℕ) → IsReached e w → IsReached e (step e w s)
  reached-step w s r = (r.0 ++ s ∷ [], ap (λ v. step e v s) r.1 ∙ sym (run-snoc e r.0 s))

  pub reached-run : (w : State) (js : List ℕ) → IsReached e w → IsReached e (run_on e w js)
  reached-run w [] r = r
  reached-run w (j ∷ js) r = reached-run (step e w j) js (reached-step w j r)

  pub ending-none : (most : ℕ) (w : State) (s : ℕ) → ending e most w s Ended ≡ []
  ending-none zero w s = refl
  ending-none (suc most) w s = refl

  pub ending-one : (most : ℕ) (w : State) (s : ℕ) (st : Stage Content) → st ≢ Ended
      → ending e (suc most) w s st
      ≡ s ∷ ending e most (step e w s) s ((step e w s).actors s).stage
  ending-one most w s Ended ne = absurd (ne refl)
  ending-one most w s Begin ne = refl
  ending-one most w s (Routed r y g) ne = refl
  ending-one most w s (Collecting c) ne = refl
  ending-one most w s (Searching ask n part) ne = refl
  ending-one most w s (Fetching ask n part seen) ne = refl
  ending-one most w s (Creating ask p) ne = refl
  ending-one most w s (Giving h to) ne = refl
  ending-one most w s (Taking n tries left) ne = refl
  ending-one most w s Ready ne = refl

  ending-zero : (w : State) (s : ℕ) (st : Stage Content) → ending e zero w s st ≡ []
  ending-zero w s Ended = refl
  ending-zero w s Begin = refl
  ending-zero w s (Routed r y g) = refl
  ending-zero w s (Collecting c) = refl
  ending-zero w s (Searching ask n part) = refl
  ending-zero w s (Fetching ask n part seen) = refl
  ending-zero w s (Creating ask p) = refl
  ending-zero w s (Giving h to) = refl
  ending-zero w s (Taking n tries left) = refl
  ending-zero w s Ready = refl

  -- they are its own turns
  pub ending-own : (most : ℕ) (w : State) (s : ℕ) (st : Stage Content)
      → (n : ℕ) × (ending e most w s st ≡ replicate n s)
  ending-own zero w s st = (0, ending-zero w s st)
  ending-own (suc most) w s st =
      elim (ended-or st) [
        | inl q ↦ (0, ap (ending e (suc most) w s) q ∙ ending-none (suc most) w s)
        | inr going ↦
            let (n, is) = ending-own most (step e w s) s ((step e w s).actors s).stage in
            (suc n, ending-one most w s st going ∙ ap (λ js. s ∷ js) is)
      ]

  pub replicate-others : (n : ℕ) (w : State) (s j : ℕ) → j ≢ s
      → (run_on e w (replicate n s)).actors j ≡ w.actors j
  replicate-others zero w s j ne = refl
  replicate-others (suc n) w s j ne =
      replicate-others n (step e w s) s j ne ∙ step-other e w s j ne

  -- who has ended stays so
  pub ended-on : (w : State) (js : List ℕ) (s : ℕ) → (w.actors s).stage ≡ Ended
      → ((run_on e w js).actors s).stage ≡ Ended
  ended-on w [] s q = q
  ended-on w (j ∷ js) s q = ended-on (step e w j) js s (elim (cases_eq j s) [
    | inl i ↦ ap (λ (v : State). (v.actors s).stage)
        (ap (step e w) i ∙ step-ended e w s q) ∙ q
    | inr ne ↦ ap (λ (a : Actor). a.stage) (step-other e w j s (λ i. ne (sym i))) ∙ q
  ])

  -- the scheduler has ended, or no step is left until its stop
  abbrev RestsAt : State → Option ℕ → ℕ → Type 0
  RestsAt w left s = ((w.actors s).stage ≡ Ended) ⊎ (left ≡ Some 0)

  rests-on : (w : State) (left : Option ℕ) (js : List ℕ) (s : ℕ) → RestsAt w left s
      → RestsAt (run_on e w js) (less left (count_of s js)) s
  rests-on w left js s (inl q) = inl (ended-on w js s q)
  rests-on w left js s (inr q) = inr (less-over left (count_of s js) q)

  -- who is no scheduler has ended from the start
  pub outside : (s : ℕ) → is_scheduler e s ≡ false → (L : List ℕ)
      → ((run e L).actors s).stage ≡ Ended
  outside s o = by-turns (λ L. ((run e L).actors s).stage ≡ Ended)
      (λ L j q. elim (cases_eq j s) [
        | inl i ↦ ap (λ (w : State). (w.actors s).stage)
            (run-snoc e L j ∙ ap (step e (run e L)) i ∙ step-ended e (run e L) s q) ∙ q
        | inr ne ↦ ap (λ (w : State). (w.actors s).stage) (run-snoc e L j)
            ∙ ap (λ (a : Actor). a.stage) (step-other e (run e L) j s (λ i. ne (sym i))) ∙ q
      ])
      (ap (first_stage e) o)

  -- nobody else's turns are among those of its end
  finishing-others : (w : State) (left : Option ℕ) (s j : ℕ) → j ≢ s
      → count_of j (finishing e w left s) ≡ 0
  finishing-others w left s j ne =
      let own = ending-own (work e w s) w s (w.actors s).stage in
      let some = up_to-some left own.0 s in
      ap (λ js. count_of j (up_to left js)) own.1 ∙ ap (count_of j) some.1
      ∙ count-others some.0 s j (λ q. ne (sym q))

  -- by what is left to those that are still to come
  completing-alike : (f g : ℕ → Option ℕ) (count s : ℕ) (w : State)
      → ((i : ℕ) → s ≤ i → f i ≡ g i) → completing e f count s w ≡ completing e g count s w
  completing-alike f g zero s w same = refl
  completing-alike f g (suc count) s w same =
      ap (λ o. finishing e w o s
      ++ completing e f count (suc s) (run_on e w (finishing e w o s))) (same s (omega arith))
      ∙ ap (λ later. finishing e w (g s) s ++ later)
      (completing-alike f g count (suc s) (run_on e w (finishing e w (g s) s))
      (λ i from. same i (omega (arith, from))))

  -- all of these turns are taken
  cut-completing : (left : ℕ → Option ℕ) (count s : ℕ) (w : State)
      → cut left (completing e left count s w) ≡ completing e left count s w
  cut-completing left zero s w = refl
  cut-completing left (suc count) s w =
      cut-append left first later
      ∙ ap (λ xs. xs ++ cut next later) taken
      ∙ ap (λ xs. first ++ xs) (ap (cut next) same
      ∙ cut-completing next count (suc s) v ∙ sym same)
    where
      first : List ℕ
      first = finishing e w (left s) s

      v : State
      v = run_on e w first

      later : List ℕ
      later = completing e left count (suc s) v

      next : ℕ → Option ℕ
      next = left_by left first

      taken : cut left first ≡ first
      taken = let own = ending-own (work e w s) w s (w.actors s).stage in
          ap (λ js. cut left (up_to (left s) js)) own.1 ∙ cut-own left own.0 s
          ∙ ap (up_to (left s)) (sym own.1)

      same : later ≡ completing e next count (suc s) v
      same = completing-alike left next count (suc s) v (λ i from. sym
          (ap (less (left i)) (finishing-others w (left s) s i (omega (arith, from)))
          ∙ less-none (left i)))

  pub completes-within : CompletesWithin e
  completes-within turns =
      let taken = cut e.stops turns in
      let left = left_by e.stops taken in
      let more = completing e left e.schedulers 1 (run e taken) in
      cut-append e.stops taken more
      ∙ ap (λ xs. xs ++ cut left more) (cut-again e.stops turns)
      ∙ ap (λ xs. taken ++ xs) (cut-completing left e.schedulers 1 (run e taken))

  module _ (resting : (L : List ℕ) (s : ℕ) → ((run e L).actors s).stage ≢ Ready)
      (elsewhere : (L : List ℕ) (s : ℕ) → LeavesLess s ((run e L).actors s).stage) where
    never-ready : (w : State) (s : ℕ) → IsReached e w → (w.actors s).stage ≢ Ready
    never-ready w s r =
        subst (λ (v : State). (v.actors s).stage ≢ Ready) (sym r.1) (resting r.0 s)

    pushes : (w : State) (s : ℕ) → IsReached e w → LeavesLess s (w.actors s).stage
    pushes w s r =
        subst (λ (v : State). LeavesLess s (v.actors s).stage) (sym r.1) (elsewhere r.0 s)

    ends : (most : ℕ) (w : State) (s : ℕ) → IsReached e w → work e w s ≤ most
        → ((run_on e w (ending e most w s (w.actors s).stage)).actors s).stage ≡ Ended
    ends zero w s r l =
        elim (ended-or (w.actors s).stage) [
          | inl q ↦ ap (λ js. ((run_on e w js).actors s).stage)
              (ending-zero w s (w.actors s).stage) ∙ q
          | inr n ↦ absurd (omega (
            arith,
            l,
            step-less w s n (never-ready w s r) (pushes w s r),
          ))
        ]
    ends (suc most) w s r l =
        elim (ended-or (w.actors s).stage) [
          | inl q ↦ ap (λ t. ((run_on e w (ending e (suc most) w s t)).actors s).stage) q
              ∙ ap (λ js. ((run_on e w js).actors s).stage) (ending-none (suc most) w s) ∙ q
          | inr n ↦ ap (λ js. ((run_on e w js).actors s).stage)
              (ending-one most w s (w.actors s).stage n)
              ∙ ends most (step e w s) s (reached-step w s r)
              (omega (arith, l, step-less w s n (never-ready w s r) (pushes w s r)))
        ]

    -- a scheduler that alone steps has ended after as many turns as it has work, at most
    finishes : (w : State) (s : ℕ) → IsReached e w
        → ((run_on e w (ending e (work e w s) w s (w.actors s).stage)).actors s).stage ≡ Ended
    finishes w s r = ends (work e w s) w s r (omega arith)

    -- or it is stopped before
    halts : (w : State) (left : Option ℕ) (s : ℕ) → IsReached e w
        → RestsAt (run_on e w (finishing e w left s))
        (less left (count_of s (finishing e w left s))) s
    halts w None s r = inl (finishes w s r)
    halts w (Some k) s r = by (ending-own (work e w s) w s (w.actors s).stage) where
      all : List ℕ
      all = ending e (work e w s) w s (w.actors s).stage

      none : (k : ℕ) → k - k ≡ 0
      none k = omega arith

      by : (n : ℕ) × (all ≡ replicate n s)
          → RestsAt (run_on e w (take k all)) (less (Some k) (count_of s (take k all))) s
      by own = elim (cases_lt k own.0) [
        | inl below ↦ inr (ap (λ js. less (Some k) (count_of s js))
            (ap (take k) own.1 ∙ take-fewer k own.0 s (omega (arith, below)))
            ∙ ap (less (Some k)) (count-replicate k s) ∙ ap Some (none k))
        | inr past ↦ inl (ap (λ js. ((run_on e w js).actors s).stage)
            (ap (take k) own.1 ∙ up_to-all k own.0 s (omega (arith, past)) ∙ sym own.1)
            ∙ finishes w s r)
      ]

    module _ (left : ℕ → Option ℕ) where
      completes : (count s : ℕ) (w : State) (j : ℕ) (o : Option ℕ) → IsReached e w
          → RestsAt w o j ⊎ ((s ≤ j) × (j < s + count) × (o ≡ left j))
          → RestsAt (run_on e w (completing e left count s w))
          (less o (count_of j (completing e left count s w))) j
      completes zero s w j o r (inl q) = rests-on w o [] j q
      completes zero s w j o r (inr l) = absurd (omega (arith, l.0, l.1))
      completes (suc count) s w j o r h =
          let first = finishing e w (left s) s in
          let v = run_on e w first in
          let later = completing e left count (suc s) v in
          let now = less o (count_of j first) in
          subst (λ (u : State). RestsAt u (less o (count_of j (first ++ later))) j)
          (sym (run-append e w first later))
          (subst (λ p. RestsAt (run_on e v later) p j)
          (less-more o (count_of j first) (count_of j later)
          ∙ ap (less o) (sym (count-append j first later)))
          (completes count (suc s) v j now (reached-run w first r)
          (elim (cases_eq j s) [
            | inl q ↦ inl (elim h [
              | inl rests ↦ rests-on w o first j rests
              | inr l ↦ subst (λ p. RestsAt v (less p (count_of j first)) j) (sym l.2)
                  (subst (λ i. RestsAt v (less (left i) (count_of i first)) i) (sym q)
                  (halts w (left s) s r))
            ])
            | inr ne ↦ elim h [
              | inl rests ↦ inl (rests-on w o first j rests)
              | inr l ↦ inr (
                omega (arith, l.0, ne),
                omega (arith, l.1),
                ap (less o) (finishing-others w (left s) s j ne) ∙ less-none o ∙ l.2,
              )
            ]
          ])))

    -- after the schedule and then one scheduler after another, all have ended or are stopped
    all-rest : AllComeToRest e
    all-rest turns s =
        let taken = cut e.stops turns in
        let w = run e taken in
        let left = left_after e taken in
        let more = completing e left e.schedulers 1 w in
        subst (λ (u : State). RestsAt u (left_after e (taken ++ more) s) s)
        (sym (run-append e (start e) taken more))
        (subst (λ p. RestsAt (run_on e w more) p s)
        (less-more (e.stops s) (count_of s taken) (count_of s more)
        ∙ ap (less (e.stops s)) (sym (count-append s taken more)))
        (completes left e.schedulers 1 w s (left s) (taken, refl)
        (by (is_scheduler e s) refl taken (left s))))
      where
        by : (b : Bool) → is_scheduler e s ≡ b → (taken : List ℕ) (o : Option ℕ)
            → RestsAt (run e taken) o s
            ⊎ ((1 ≤ s) × (s < 1 + e.schedulers) × (o ≡ o))
        by true t taken o = inr (grind (arith, t), grind (arith, t), refl)
        by false t taken o = inl (inl (outside s t taken))

-- by the rule it does
module _ (e : Setup) (w : State) (s : ℕ) where
  route-less : (r : Route Content) (y : Why) (g : Gone) → FitsRoute e w.shared s r
      → LeavesLess s (Routed r y g)
  route-less (Looking h) y g f = tt
  route-less (Trying h seen) y g f = tt
  route-less (Settling x) y g f = tt
  route-less (Abandoning x) y g f = tt
  route-less (Sending x) y g f = tt
  route-less (Clearing x) y g f = tt
  route-less (Pushing (Block n p) to) y g f = f.0
  route-less (Pushing (Carrier c) to) y g f = f.1
  route-less (Linking node to) y g f = tt

  pub fits-less : (a : Actor) (st : Stage Content) → Fits e w s a st → LeavesLess s st
  fits-less a Begin f = tt
  fits-less a (Routed r y g) f = route-less r y g f.0
  fits-less a (Collecting c) f = tt
  fits-less a (Searching ask n part) f = has-some e part f.1
  fits-less a (Fetching ask n part seen) f = has-some e part f.1
  fits-less a (Creating ask p) f = tt
  fits-less a (Giving h to) f = tt
  fits-less a (Taking n tries left) f = tt
  fits-less a Ended f = tt
  fits-less a Ready f = tt

-- a turn of a scheduler that hasn't ended leaves it less work
pub rule-less : (e : Setup) (w : State) (s : ℕ) → Rule e w → (w.actors s).stage ≢ Ended
    → work e (step e w s) s < work e w s
rule-less e w s rule ne =
    let fits = rule.present.fits s in
    step-less e w s ne (λ ready. subst (Fits e w s (w.actors s)) ready fits)
    (fits-less e w s (w.actors s) (w.actors s).stage fits)

pub rule-all_rest : (e : Setup) → ((turns : List ℕ) → Rule e (run e turns)) → AllComeToRest e
rule-all_rest e rule = all-rest e
    (λ L s q. subst (Fits e (run e L) s ((run e L).actors s)) q ((rule L).present.fits s)) (λ L s.
    fits-less e (run e L) s ((run e L).actors s) ((run e L).actors s).stage
    ((rule L).present.fits s))
