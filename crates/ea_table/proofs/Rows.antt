-- Each row, as a step of a seat, keeps the rule, and so does a look by which a seat claims a slot.
use Rattle.std.specs.Prelude.{All}
use Rattle.std.proofs.Common.{◌≡◌, ◌≢◌, ℕ, ◌≤◌, true, List, [], ◌∷◌, ◌++◌}
use Rattle.std.proofs.Common.{Option, None, Some, slice_index, slice_set, set}
use Rattle.std.proofs.Common.{refl, sym, ap, ◌∙◌, subst, inl, inr, arith}
use Rattle.std.proofs.lemmas.List.{append_assoc, append-nil, set-get_or}
use Rattle.std.proofs.lemmas.List.Elements.{All-cons, All-head, All-nil, All-push, All-weaker}
use mathlib.Core.Option.{some}
use mathlib.Core.Option as maybe
use lib.ListN.{get_elem?}
use Rattle.atomic_table.specs.Table.{Act, Allows, Me, Step, Valid, carried_after, homes_after}
use Rattle.atomic_table.specs.Table.{stepped as table_stepped}
use Rattle.atomic_table.specs.Table as table
use Rattle.atomic_table.proofs.Lists.{at_set}
use Rattle.ea_model.specs.declared.settings.Config.{Config}
use Rattle.ea_model.specs.declared.trace.Trace.{Trace}
use Rattle.ea_model.specs.Settings.{IsValidConfig}
use Rattle.ea_model.specs.Trace.{IsValidTrace}
use Rattle.ea_machine.specs.declared.nodes.Node.{Node}
use Rattle.ea_machine.specs.declared.nodes.Node.TheVariants.{Block, Carrier}
use Rattle.ea_machine.specs.declared.stages.Stage.TheVariants.{Ended, Routed}
use Rattle.ea_machine.specs.declared.stages.Route.TheVariants.{Linking}
use Rattle.ea_machine.specs.Actor.{Actor}
use Rattle.ea_machine.specs.Machine.{run, step, wants, wants_at}
use Rattle.ea_machine.specs.Nodes.{first_node, pushed}
use Rattle.ea_machine.specs.Rows.{Row, Nothing, Push}
use Rattle.ea_machine.specs.Setup.{Setup}
use Rattle.ea_machine.specs.Shared.{Shared, put}
use Rattle.ea_machine.specs.State.{State}
use Rattle.ea_machine.specs.Table.{answer, effect}
use Rattle.ea_sound.proofs.OtherTurns.{actor-since, one-step}
use Rattle.ea_sound.proofs.Totals.{put-here, put-other}
use Rattle.ea_sound.proofs.TurnLists.{run-snoc, step-other, step-shared}
use Rattle.ea_word.specs.Codes.{code_of, link_code}
use Rattle.ea_sound.specs.Standing.{IsOlderAt}
use Rattle.ea_table.specs.declared.views.About.{About}
use Rattle.ea_table.specs.declared.views.Seated.{Seated}
use Rattle.ea_table.specs.declared.views.View.{View}
use Rattle.ea_table.specs.Ruling.{IsSingle, Keeps, Knows, Reads, ReadsHead}
use Rattle.ea_table.specs.Ruling.{Remembers, Sits, acting, actor_in, claimed, holds, move_since}
use Rattle.ea_table.specs.Ruling.{older_after, older_word, setup_in, stepped, steps}
use Rattle.ea_table.specs.Slots.{Houses, Move, Slot, act_of, claim_by, move_of}
use Rattle.ea_table.specs.Words.{Codes}
use Rattle.ea_table.proofs.Laws.{linking-came, older-stays}

pub code-more : (node : Node) → 2 ≤ code_of node
code-more (Block name spot) = omega arith
code-more (Carrier number) = omega arith

-- the link word of a pushed node
older-coded : (newest : Option Node) (found : ℕ) → ReadsHead newest found
    → older_word found ≡ link_code newest
older-coded None found reads = ap older_word reads.0
older-coded (Some node) found reads = ap older_word reads.0 ∙ same (code_of node) (code-more node)
  where
    same : (k : ℕ) → 2 ≤ k → older_word k ≡ k
    same k more = grind (arith, more)

pushed-queue : (me : ℕ) (node : Node) (to : ℕ) (s : Shared)
    → (effect me (Push node to) s).queues to ≡ pushed node ∷ s.queues to
unfolding effect
pushed-queue me node to s = put-here s.queues to (pushed node ∷ s.queues to) to refl

module _ (s : table.State Slot View) (id : ℕ) (v : View) (is : IsSingle v)
    (h : Keeps v.config v.trace s) (there : get_elem? s.views id ≡ some v) where
  abbrev e : Setup
  e = setup_in v

  abbrev w : State
  w = run e h.ran

  abbrev me : ℕ
  me = (acting v).number

  abbrev a : Actor
  a = actor_in v

  abbrev next : State
  next = run e (h.ran ++ me ∷ [])

  -- a seat's scheduler before the step, after it, and after a look, where me has claimed that slot

  abbrev Sat : ℕ → Seated → Type 0
  Sat = Sits v.config v.trace h.ran h.seat_of h.claim_of

  abbrev SitsNext : ℕ → ℕ → Seated → Type 0
  SitsNext claim = Sits v.config v.trace (h.ran ++ me ∷ []) h.seat_of (put h.claim_of me claim)

  abbrev SitsStill : ℕ → ℕ → Seated → Type 0
  SitsStill claim = Sits v.config v.trace h.ran h.seat_of (put h.claim_of me claim)

  next-is : next ≡ step e w me
  next-is = run-snoc e h.ran me

  knows : Knows v.config v.trace h.ran h.seat_of h.claim_of id v
  knows = h.each_seat id v there

  pub mine : Sits v.config v.trace h.ran h.seat_of h.claim_of id (acting v)
  mine = All-head (Sat id) (acting v) []
      (subst (All (Sat id)) (ap (λ u. u.seated) is) knows.seated)

  pub at : w.actors me ≡ a
  at = ap (λ l. (run e l).actors me) mine.front
      ∙ actor-since e me (acting v).turns mine.since mine.others

  pub remembers-now : Remembers w me (acting v).older
  remembers-now = mine.remembers

  -- a scheduler of another seat is another one
  apart : (j : ℕ) → j ≢ id → (x : Seated) → Sat j x → x.number ≢ me
  apart j far x sit q = far (sym sit.seat ∙ ap h.seat_of q ∙ mine.seat)

  -- schedulers of other seats stay as they are
  others : (claim j : ℕ) → j ≢ id → (xs : List Seated) → All (Sat j) xs
      → All (SitsNext claim j) xs
  others claim j far = All-weaker (Sat j) (SitsNext claim j) (λ x sit.
      let other : x.number ≢ me = apart j far x sit in
      record {
        seat = sit.seat;
        since = sit.since ++ me ∷ [];
        front = ap (λ l. l ++ me ∷ []) sit.front ∙ append_assoc x.turns sit.since (me ∷ []);
        others = All-push (λ i. i ≢ x.number) sit.since me sit.others (λ q. other (sym q));
        remembers = λ node to why gone now.
            let was : (w.actors x.number).stage ≡ Routed (Linking node to) why gone =
            sym (ap (λ (b : Actor). b.stage)
            (ap (λ (u : State). u.actors x.number) next-is ∙ step-other e w me x.number other))
            ∙ now in
            let r = sit.remembers node to why gone was in (
              r.0,
              r.1,
              subst (λ (u : State). IsOlderAt node to r.0 u.shared) (sym next-is)
                  (older-stays v.config v.trace h.valid h.made h.ran me x.number other node to why
                  gone was r.0 r.2),
            );
        claim = put-other h.claim_of me claim x.number other ∙ sit.claim;
      })

  others-still : (claim j : ℕ) → j ≢ id → (xs : List Seated) → All (Sat j) xs
      → All (SitsStill claim j) xs
  others-still claim j far = All-weaker (Sat j) (SitsStill claim j) (λ x sit.
      record {
        seat = sit.seat;
        since = sit.since;
        front = sit.front;
        others = sit.others;
        remembers = sit.remembers;
        claim = put-other h.claim_of me claim x.number (apart j far x sit) ∙ sit.claim;
      })

  -- the rule after a look, which changes only what the seat has claimed
  module _ (claim : ℕ) where
    abbrev KnowsStill : ℕ → View → Type 0
    KnowsStill = Knows v.config v.trace h.ran h.seat_of (put h.claim_of me claim)

    sits-still : SitsStill claim id (acting (claimed v claim))
    sits-still = record {
      seat = mine.seat;
      since = mine.since;
      front = mine.front;
      others = mine.others;
      remembers = mine.remembers;
      claim = put-here h.claim_of me claim me refl;
    }

    here-still : KnowsStill id (claimed v claim)
    here-still = record {
      config = λ live. refl;
      trace = λ live. refl;
      seated = All-cons (SitsStill claim id) _ [] sits-still (All-nil (SitsStill claim id));
    }

    pub looked : (homes : List (maybe.Option Slot))
        → Houses homes v.config.schedulers (put h.claim_of me claim) w.shared
        → (ws : List ℕ) → ws ≡ s.words
        → Keeps v.config v.trace
        (record { words = ws; homes = homes; views = set s.views id (claimed v claim) })
    looked homes housed ws same = record {
      valid = h.valid;
      made = h.made;
      ran = h.ran;
      steps = h.steps;
      coded = subst (Codes v.config.schedulers v.trace.greatest w.shared) (sym same) h.coded;
      claim_of = put h.claim_of me claim;
      housed = housed;
      seat_of = h.seat_of;
      each_seat = λ j u there. elim (at_set s.views id j (claimed v claim) u there) [
        | inl o ↦ subst (λ i. KnowsStill i u) (sym o.0) (subst (KnowsStill id) o.1 here-still)
        | inr o ↦
            let k = h.each_seat j u o.1 in
            record {
              config = k.config;
              trace = k.trace;
              seated = others-still claim j o.0 u.seated k.seated;
            }
      ];
    }

  -- the rule after a step of the scheduler, where the words code what is shared then
  module _ (row : Row) (wanted : wants a ≡ row) (goes : a.stage ≢ Ended) (found claim : ℕ)
      (reads : Reads me row w.shared found) where
    pub shared-is : next.shared ≡ effect me row w.shared
    shared-is = ap (λ (u : State). u.shared) next-is
        ∙ step-shared e w me (subst (λ (b : Actor). b.stage ≢ Ended) (sym at) goes)
        ∙ ap (λ (b : Actor). effect me (wants b) w.shared) at
        ∙ ap (λ r. effect me r w.shared) wanted

    abbrev pub view : View
    view = stepped v mine.since (older_after (wants a) found (acting v).older) claim

    remembers : Remembers next me (older_after (wants a) found (acting v).older)
    remembers node to why gone now =
        let came : wants (w.actors me) ≡ Push node to =
        linking-came v.config v.trace h.valid h.made h.ran me node to why gone
        (ap (λ (u : State). (u.actors me).stage) (sym next-is) ∙ now) in
        let push : row ≡ Push node to = sym wanted ∙ ap wants (sym at) ∙ came in
        let head = subst (λ r. Reads me r w.shared found) push reads in
        let queue = w.shared.queues to in (
          first_node queue,
          ap (λ r. older_after r found (acting v).older) (wanted ∙ push)
              ∙ older-coded (first_node queue) found head,
          inl (
            [],
            queue,
            ap (λ (x : Shared). x.queues to) (shared-is ∙ ap (λ r. effect me r w.shared) push)
                ∙ pushed-queue me node to w.shared,
            refl,
          ),
        )

    sits : SitsNext claim id (acting view)
    sits = record {
      seat = mine.seat;
      since = [];
      front = ap (λ l. l ++ me ∷ []) mine.front
          ∙ sym (append-nil ((acting v).turns ++ mine.since ++ me ∷ []));
      others = All-nil (λ i. i ≢ me);
      remembers = remembers;
      claim = put-here h.claim_of me claim me refl;
    }

    abbrev KnowsNext : ℕ → View → Type 0
    KnowsNext = Knows v.config v.trace (h.ran ++ me ∷ []) h.seat_of (put h.claim_of me claim)

    here : KnowsNext id view
    here = record {
      config = λ live. refl;
      trace = λ live. refl;
      seated = All-cons (SitsNext claim id) _ [] sits (All-nil (SitsNext claim id));
    }

    pub went : (ws : List ℕ) (homes : List (maybe.Option Slot))
        → Codes v.config.schedulers v.trace.greatest (effect me row w.shared) ws
        → Houses homes v.config.schedulers (put h.claim_of me claim) (effect me row w.shared)
        → Keeps v.config v.trace (record { words = ws; homes = homes; views = set s.views id view })
    went ws homes codes houses = record {
      valid = h.valid;
      made = h.made;
      ran = h.ran ++ me ∷ [];
      steps = one-step e h.ran me h.steps
          (subst (λ (b : Actor). b.stage ≢ Ended) (sym at) goes);
      coded = subst (λ x. Codes v.config.schedulers v.trace.greatest x ws) (sym shared-is) codes;
      claim_of = put h.claim_of me claim;
      housed = subst (Houses homes v.config.schedulers (put h.claim_of me claim)) (sym shared-is)
          houses;
      seat_of = h.seat_of;
      each_seat = λ j u there. elim (at_set s.views id j view u there) [
        | inl o ↦ subst (λ i. KnowsNext i u) (sym o.0) (subst (KnowsNext id) o.1 here)
        | inr o ↦
            let k = h.each_seat j u o.1 in
            record {
              config = k.config;
              trace = k.trace;
              seated = others claim j o.0 u.seated k.seated;
            }
      ];
    }

-- a scheduler that wants a row hasn't ended
wants-goes : (a : Actor) (row : Row) → wants a ≡ row → row ≢ Nothing → a.stage ≢ Ended
wants-goes a row wanted other ended = other (sym wanted ∙ ap (wants_at a.next) ended)

-- what is so for the run that a seat knows is so for that of the table
pub moved : (c d : Config) (t u : Trace) → c ≡ d → t ≡ u → (P : Config → Trace → Type 0)
    → P c t → P d u
moved c d t u p q P x = subst (λ k. P k u) p (subst (λ k. P c k) q x)

-- what a row needs of words and slots that stand for what is shared: the word that it finds, and
-- the words and slots that it leaves
pub record Fits (v : View) (xs : List (ℕ × Slot)) (row : Row) (i : ℕ) (f said : ℕ → ℕ) (s : Shared)
    (claim_of : ℕ → ℕ) (ws : List ℕ) (hs : List (maybe.Option Slot)) : Type 0 where
  pub reads : Reads (acting v).number row s (said (slice_index ws i))
  pub codes : Codes v.config.schedulers v.trace.greatest (effect (acting v).number row s)
      (slice_set ws i (f (slice_index ws i)))
  pub valid : Valid hs xs (act_of (move_of row (answer (acting v).number row s)))
  pub houses : Houses
      (homes_after hs xs (act_of (move_of row (answer (acting v).number row s))))
      v.config.schedulers
      (put claim_of (acting v).number
      (claim_by (move_of row (answer (acting v).number row s)) (acting v).claim))
      (effect (acting v).number row s)

-- the same after any turns after which the scheduler stands as its seat knows
abbrev pub FitsWord : View → List (ℕ × Slot) → Row → ℕ → (ℕ → ℕ) → (ℕ → ℕ) → Type 0
FitsWord v xs row i f said = (L : List ℕ)
    → IsValidConfig v.config → IsValidTrace v.config.schedulers v.trace
    → (run (setup_in v) L).actors (acting v).number ≡ actor_in v
    → Remembers (run (setup_in v) L) (acting v).number (acting v).older
    → (claim_of : ℕ → ℕ) → claim_of (acting v).number ≡ (acting v).claim
    → (ws : List ℕ) → Codes v.config.schedulers v.trace.greatest (run (setup_in v) L).shared ws
    → (hs : List (maybe.Option Slot))
    → Houses hs v.config.schedulers claim_of (run (setup_in v) L).shared
    → Fits v xs row i f said (run (setup_in v) L).shared claim_of ws hs

module _ (about : About) (slots id i : ℕ) (f said : ℕ → ℕ) (v : View)
    (xs : List (ℕ × Slot)) (st : Step Slot) (row : Row) (is : IsSingle v) where
  abbrev Result : table.State Slot View → Config → Trace → Type 0
  Result s c t = (u : View) × (act : Act Slot) × Valid s.homes xs act
      × Keeps c t (table_stepped s i (f (slice_index s.words i)) id xs u act)
      × steps st (v, xs) (said (slice_index s.words i)) (u, carried_after xs act)

  allowed : wants (actor_in v) ≡ row → row ≢ Nothing → FitsWord v xs row i f said
      → (s : table.State Slot View) → get_elem? s.views id ≡ some v
      → Keeps v.config v.trace s → Result s v.config v.trace
  allowed wanted goes fits s there h = (
    view s id v is h there row wanted (wants-goes (actor_in v) row wanted goes) found claim r.reads,
    act_of move,
    r.valid,
    went s id v is h there row wanted (wants-goes (actor_in v) row wanted goes) found claim r.reads
        (slice_set s.words i (f (slice_index s.words i))) (homes_after s.homes xs (act_of move))
        r.codes r.houses,
    record {
      valid = h.valid;
      made = h.made;
      since = sat.since;
      others = sat.others;
      reads = subst (λ l. Reads me (wants (actor_in v)) (run (setup_in v) l).shared found)
          sat.front
          (subst (λ q. Reads me q (run (setup_in v) h.ran).shared found) (sym wanted) r.reads);
      view = ap (λ m. stepped v sat.since
          (older_after (wants (actor_in v)) found (acting v).older)
          (claim_by m (acting v).claim)) same;
      slots = ap (λ m. carried_after xs (act_of m)) same;
    },
  ) where
    me : ℕ
    me = (acting v).number

    found : ℕ
    found = said (slice_index s.words i)

    sat : Sits v.config v.trace h.ran h.seat_of h.claim_of id (acting v)
    sat = mine s id v is h there

    r : Fits v xs row i f said (run (setup_in v) h.ran).shared h.claim_of s.words s.homes
    r = fits h.ran h.valid h.made (at s id v is h there) (remembers-now s id v is h there)
        h.claim_of sat.claim s.words h.coded s.homes h.housed

    move : Move
    move = move_of row (answer me row (run (setup_in v) h.ran).shared)

    claim : ℕ
    claim = claim_by move (acting v).claim

    same : move ≡ move_since v sat.since
    same = ap (λ q. move_of q (answer me q (run (setup_in v) h.ran).shared)) (sym wanted)
        ∙ ap (λ l. move_of (wants (actor_in v))
        (answer me (wants (actor_in v)) (run (setup_in v) l).shared)) sat.front

  pub allows : wants (actor_in v) ≡ row → row ≢ Nothing → FitsWord v xs row i f said
      → Allows (holds about) slots id (v, xs) i f
      (λ found. steps st (v, xs) (said found))
  allows wanted goes fits s h deep there small =
      let k = h.each_seat id v there in
      let live : v.live ≡ true = ap (λ (u : View). u.live) is in
      moved v.config about.config v.trace about.trace.now (k.config live) (k.trace live)
      (λ c t. Keeps c t s → Result s c t)
      (allowed wanted goes fits s there) h

-- what a look needs of slots that stand for what is shared: those that it leaves, where the seat
-- has claimed the slot of that carrier
abbrev pub FitsLook : View → List (ℕ × Slot) → Act Slot → ℕ → Type 0
FitsLook v xs act claim = (L : List ℕ)
    → IsValidConfig v.config → IsValidTrace v.config.schedulers v.trace
    → (run (setup_in v) L).actors (acting v).number ≡ actor_in v
    → (claim_of : ℕ → ℕ) → claim_of (acting v).number ≡ (acting v).claim
    → (hs : List (maybe.Option Slot))
    → Houses hs v.config.schedulers claim_of (run (setup_in v) L).shared
    → Valid hs xs act
    × Houses (homes_after hs xs act) v.config.schedulers (put claim_of (acting v).number claim)
    (run (setup_in v) L).shared

module _ (about : About) (slots id i : ℕ) (v : View) (xs : List (ℕ × Slot)) (is : IsSingle v) where
  abbrev Looked : Act Slot → ℕ → table.State Slot View → Config → Trace → Type 0
  Looked act claim s c t = Valid s.homes xs act
      × Keeps c t (table_stepped s i (slice_index s.words i) id xs (claimed v claim) act)

  look-allowed : (act : Act Slot) (claim : ℕ) → FitsLook v xs act claim
      → (s : table.State Slot View) → get_elem? s.views id ≡ some v
      → Keeps v.config v.trace s → Looked act claim s v.config v.trace
  look-allowed act claim fits s there h =
      let r = fits h.ran h.valid h.made (at s id v is h there) h.claim_of
      (mine s id v is h there).claim s.homes h.housed in (
        r.0,
        looked s id v is h there claim (homes_after s.homes xs act) r.1
            (slice_set s.words i (slice_index s.words i)) (set-get_or s.words i 0),
      )

  pub allows-look : (act : Act Slot) (claim : ℕ) → FitsLook v xs act claim
      → (then : ℕ → Me Slot View → Type 0)
      → ((found : ℕ) → then found (claimed v claim, carried_after xs act))
      → Allows (holds about) slots id (v, xs) i (λ n. n) then
  allows-look act claim fits then so s h deep there small =
      let k = h.each_seat id v there in
      let live : v.live ≡ true = ap (λ (u : View). u.live) is in
      let r = moved v.config about.config v.trace about.trace.now (k.config live) (k.trace live)
      (λ c t. Keeps c t s → Looked act claim s c t) (look-allowed act claim fits s there) h in (
        claimed v claim,
        act,
        r.0,
        r.1,
        so (slice_index s.words i),
      )
