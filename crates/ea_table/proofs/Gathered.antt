-- The state in which the table was closed, and its schedulers.
use Rattle.std.proofs.Common.{◌≡◌, ◌≢◌, ℕ, suc, ◌+◌, ◌-◌, ◌<◌, ◌≤◌, List, [], ◌∷◌, ◌++◌, map, Some}
use Rattle.std.proofs.Common.{Bool, true, false, Option, None}
use Rattle.std.proofs.Common.{length, get_or, refl, sym, ap, ◌∙◌, subst, arith}
use Rattle.std.specs.Prelude.{All}
use mathlib.Core.Option.{some}
use mathlib.Core.Option as maybe
use lib.ListN.{get_elem?}
use Rattle.std.specs.List.{range_with_len}
use Rattle.std.proofs.Math.ListN.{get_or-map}
use Rattle.std.proofs.lemmas.List.{length-map, map-append, map_push}
use Rattle.std.proofs.lemmas.Simd.{map-map}
use Rattle.std.proofs.lemmas.List.Elements.{All-head, All-push, All-tail}
use Rattle.atomic_table.specs.Seated.{TableId}
use Rattle.atomic_table.specs.Table.{Final, Seen}
use Rattle.atomic_table.specs.Table as table
use Rattle.ea_model.specs.declared.settings.Config.{Config}
use Rattle.ea_model.specs.declared.trace.Trace.{Trace}
use Rattle.ea_model.specs.Content.{Content}
use Rattle.ea_model.specs.Settings.{IsValidConfig}
use Rattle.ea_model.specs.Trace.{IsValidTrace}
use Rattle.ea_model.proofs.Rising.{item_at-All}
use Rattle.ea_machine.specs.Actor.{Actor}
use Rattle.ea_machine.specs.Courses.{AreSteps, AreWithin}
use Rattle.ea_machine.specs.Machine.{run}
use Rattle.ea_machine.specs.Nodes.{block_node, name_of}
use Rattle.ea_machine.specs.Outcome.{actors_of}
use Rattle.ea_machine.specs.Owners.{CarrierAt, Absent, Employed, Pooled, Busy, Returning}
use Rattle.ea_machine.specs.Setup.{Setup, is_scheduler, setup_of}
use Rattle.ea_machine.specs.State.{State}
use Rattle.ea_machine.specs.Stops.{count_of, left_after, less, stop_at, stop_of}
use Rattle.ea_sched.specs.Acting.{actor_of, stop_line}
use Rattle.ea_sched.specs.declared.state.Scheduler.{Scheduler}
use Rattle.ea_shared.specs.Calls.{KnowsFront, caller_of}
use Rattle.ea_shared.specs.Carriers.{home_of}
use Rattle.ea_sound.proofs.Asked.{named-spot}
use Rattle.ea_sound.proofs.CarrierCalls.{there-number}
use Rattle.ea_sound.proofs.Calls as calls
use Rattle.ea_sound.proofs.Completing.{outside}
use Rattle.ea_sound.proofs.OtherTurns.{actor-since}
use Rattle.ea_sound.proofs.RuleRuns.{rule-run}
use Rattle.ea_sound.proofs.Stopping.{count-append, count-cons, count-no, count-one}
use Rattle.ea_table.specs.declared.views.About.{About}
use Rattle.ea_table.specs.declared.views.Seated.{Seated}
use Rattle.ea_table.specs.declared.views.View.{View}
use Rattle.ea_table.specs.declared.worker.Finished.{Finished}
use Rattle.ea_table.specs.Ending.{Counts, Gives, HasPlaces, IsClosedIn, IsLast}
use Rattle.ea_table.specs.Ruling.{Keeps, Knows, Sits, acting, caller_in, holds}
use Rattle.ea_table.specs.Slots.{IsSlot, Slot, slot_at}
use Rattle.ea_table.specs.Words.{IsFit}
use Rattle.ea_table.proofs.Laws.{worded}
use Rattle.ea_table.proofs.Rows.{moved}

-- what is so for each number is so for the list
ranged : {A B : Type 0} (f : A → B) (h : ℕ → B) (i : ℕ) (xs : List A)
    → ((k : ℕ) (d : A) → k < length xs → f (get_or xs k d) ≡ h (i + k))
    → map f xs ≡ map h (range_with_len i (length xs))
ranged f h i [] same = refl
ranged f h i (x ∷ xs) same =
    ap (λ b. b ∷ map f xs) (same 0 x (omega arith) ∙ ap h (let e : i + 0 ≡ i = omega arith in e))
    ∙ ap (λ bs. h i ∷ bs) (ranged f h (i + 1) xs (λ k d less.
    same (suc k) d (omega (arith, less)) ∙ ap h (let e : i + suc k ≡ i + 1 + k = omega arith in e)))

absent-by : (p : CarrierAt) → (p ≢ Absent → ⊥) → p ≡ Absent
absent-by Absent not = refl
absent-by (Employed i) not = absurd (not (λ q. cc))
absent-by (Pooled i g x) not = absurd (not (λ q. cc))
absent-by (Busy i) not = absurd (not (λ q. cc))
absent-by (Returning i x) not = absurd (not (λ q. cc))

-- the slot of a carrier whose content is at home
slot-home : (hs : List (maybe.Option Slot)) (claim_of : ℕ → ℕ) (number : ℕ) (p : CarrierAt)
    (x : Content) → home_of p ≡ Some x → IsSlot hs claim_of number p
    → get_elem? hs (slot_at number) ≡ some (some (Some x))
slot-home hs claim_of number Absent x home is = absurd cc
slot-home hs claim_of number (Employed i) x home is = absurd cc
slot-home hs claim_of number (Pooled i g y) x home is = is ∙ ap (λ z. some (some z)) home
slot-home hs claim_of number (Busy i) x home is = absurd cc
slot-home hs claim_of number (Returning i y) x home is = is ∙ ap (λ z. some (some z)) home

module _ (c : Config) (t : Trace) (s : table.State Slot View) (h : Keeps c t s) where
  abbrev w : State
  w = run (setup_of c t) h.ran

  -- the words of a table that keeps the rule give the names that are given then
  gives : Gives c.schedulers t.greatest s.words w.shared.given
  gives = record {
    rising = (rule-run c t h.valid h.made h.ran).present.given;
    within = calls.given-range c t h.valid h.made w (h.ran, refl);
    words = h.coded.names;
    codable = λ name spot there. (item_at-All name_of
        (λ x. IsFit c.schedulers t.greatest (block_node x)) name
        (record { name = name; spot = spot }) w.shared.given
        (worded c t h.valid h.made h.ran).given
        (named-spot name spot w.shared.given there)).1;
  }

  -- and its words and slots have the carriers where they are
  has-places : (xs : List Slot) → ((k : ℕ) (y : Slot) → get_elem? s.homes k ≡ some (some y)
      → get_elem? xs k ≡ some y) → HasPlaces c.schedulers t.greatest s.words xs w.shared.places
  has-places xs home = record {
    words = λ number is. h.coded.owners number is.0 is.1;
    shown = (worded c t h.valid h.made h.ran).owners;
    homes = λ number is x there. home (slot_at number) (Some x)
        (slot-home s.homes h.claim_of number (w.shared.places number) x there
        (h.housed.each number is.0 is.1));
    beyond = λ number out. absent-by (w.shared.places number) (λ there.
        let is = there-number c t h.valid h.made w (h.ran, refl) number there in
        out (is.0, omega (arith, is.1)));
  }

-- the table was closed with these words and slots after some steps: its seat j knew its schedulers
-- as they stood then, and the words and slots are of that state
pub record Closes (j : ℕ) (v : View) (ws : List ℕ) (xs : List Slot) (c : Config)
    (t : Trace) : Type 0 where
  pub ran : List ℕ
  pub steps : AreSteps (setup_of c t) ran
  pub seat_of : ℕ → ℕ
  pub claim_of : ℕ → ℕ
  pub knows : Knows c t ran seat_of claim_of j v
  pub given : Gives c.schedulers t.greatest ws (run (setup_of c t) ran).shared.given
  pub places : HasPlaces c.schedulers t.greatest ws xs (run (setup_of c t) ran).shared.places

pub closes : (about : About) (j : ℕ) (v : View) (ws : List ℕ) (xs : List Slot)
    → Final (Seen (holds about) j v) ws xs → Closes j v ws xs about.config about.trace.now
closes about j v ws xs final =
    let c = about.config in
    let t = about.trace.now in
    let h = final.1.0 in
    let w = run (setup_of c t) h.ran in
    record {
      ran = h.ran;
      steps = h.steps;
      seat_of = h.seat_of;
      claim_of = h.claim_of;
      knows = h.each_seat j v final.1.1;
      given = subst (λ us. Gives c.schedulers t.greatest us w.shared.given) final.2
          (gives c t final.0 h);
      places = subst (λ us. HasPlaces c.schedulers t.greatest us xs w.shared.places) final.2
          (has-places c t final.0 h xs final.4);
    }

-- what is left is what isn't taken
counts-left : (stop : Option ℕ) (taken : ℕ) (left : Option ℕ) → Counts stop taken left
    → left ≡ less stop taken
counts-left None taken None counts = refl
counts-left None taken (Some left) counts = absurd counts
counts-left (Some steps) taken None counts = absurd counts
counts-left (Some steps) taken (Some left) counts = ap Some (omega (arith, counts))

-- who has a turn after others had steps left after these
never : (stop : Option ℕ) (all before : ℕ) (left : Option ℕ) → Counts stop all left → before < all
    → less stop before ≡ Some 0 → ⊥
never None all before left counts more over = absurd cc
never (Some steps) all before None counts more over = counts
never (Some steps) all before (Some left) counts more over =
    let none : steps - before ≡ 0 = cc in omega (arith, counts, more, none)

module _ (c : Config) (t : Trace) (valid : IsValidConfig c) (made : IsValidTrace c.schedulers t)
    (id : TableId) (front : List Finished) (last : Finished)
    (all : length (front ++ last ∷ []) ≡ c.schedulers)
    (each : (k : ℕ) (d : Finished) → k < c.schedulers
    → IsLast c t id (k + 1) (get_or (front ++ last ∷ []) k d)) where
  abbrev e : Setup
  e = setup_of c t

  abbrev seat_of : Finished → Seated
  seat_of f = acting f.pass.seat.me.0

  module _ (turns : List ℕ) (f_of claim_of : ℕ → ℕ) (j : ℕ) (v : View)
      (is : v ≡ record (last.pass.seat.me.0) {
        seated = last.pass.seat.me.0.seated ++ map seat_of front;
      })
      (sit : All (Sits c t turns f_of claim_of j) v.seated) where
    abbrev P : Seated → Type 0
    P = Sits c t turns f_of claim_of j

    sits : All P (map seat_of (front ++ last ∷ []))
    sits =
        let lists : v.seated ≡ (seat_of last ∷ []) ++ map seat_of front =
        ap (λ (u : View). u.seated) is
        ∙ ap (λ (xs : List Seated). xs ++ map seat_of front)
        (ap (λ (u : View). u.seated) last.pass.single) in
        let both = subst (All P) lists sit in
        subst (All P) (sym (map_push seat_of front last))
        (All-push P (map seat_of front) (seat_of last)
        (All-tail P (seat_of last) (map seat_of front) both)
        (All-head P (seat_of last) (map seat_of front) both))

    -- what its seat knows of a scheduler
    sat : (k : ℕ) (d : Finished) → k < length (front ++ last ∷ [])
        → P (seat_of (get_or (front ++ last ∷ []) k d))
    sat k d less = subst P (get_or-map seat_of (front ++ last ∷ []) k d) (sits k (seat_of d)
        (omega (arith, less, length-map (front ++ last ∷ []) seat_of)))

    is-last : (k : ℕ) (d : Finished) → k < length (front ++ last ∷ [])
        → IsLast c t id (k + 1) (get_or (front ++ last ∷ []) k d)
    is-last k d less = each k d (omega (arith, less, all))

    stands : (k : ℕ) (d : Finished) → k < length (front ++ last ∷ [])
        → actor_of (get_or (front ++ last ∷ []) k d).scheduler ≡ (run e turns).actors (1 + k)
    stands k d less =
        let f = get_or (front ++ last ∷ []) k d in
        let x = is-last k d less in
        let y = sat k d less in
        sym x.actor
        ∙ ap (λ (z : Config). (run (setup_of z f.pass.seat.me.0.trace) (seat_of f).turns).actors
        (seat_of f).number) x.config
        ∙ ap (λ (z : Trace). (run (setup_of c z) (seat_of f).turns).actors (seat_of f).number)
        x.trace
        ∙ sym (ap (λ l. (run e l).actors (seat_of f).number) y.front
        ∙ actor-since e (seat_of f).number (seat_of f).turns y.since y.others)
        ∙ ap (λ i. (run e turns).actors i)
        (x.number ∙ (let q : k + 1 ≡ 1 + k = omega arith in q))

    -- it has taken as many steps as its seat has seen
    all-seen : (k : ℕ) (d : Finished) → k < length (front ++ last ∷ [])
        → (let f = get_or (front ++ last ∷ []) k d in
        count_of (seat_of f).number (seat_of f).turns ≡ count_of (k + 1) turns)
    all-seen k d less =
        let f = get_or (front ++ last ∷ []) k d in
        let x = is-last k d less in
        let y = sat k d less in
        let i = (seat_of f).number in
        let parts : count_of i turns ≡ count_of i (seat_of f).turns =
        omega (
          arith,
          ap (count_of i) y.front,
          count-append i (seat_of f).turns y.since,
          count-no i y.since y.others,
        ) in
        sym parts ∙ ap (λ j. count_of j turns) x.number

    -- its seat knows these turns up to its last one
    knew : (k : ℕ) (d : Finished) → k < length (front ++ last ∷ [])
        → KnowsFront e (k + 1) turns
        (caller_in (get_or (front ++ last ∷ []) k d).pass.seat.me.0)
    knew k d less =
        let f = get_or (front ++ last ∷ []) k d in
        let x = is-last k d less in
        let y = sat k d less in
        let i = (seat_of f).number in record {
          stands = ap (λ (z : Config). caller_of (setup_of z f.pass.seat.me.0.trace) i
              (seat_of f).turns) x.config
              ∙ ap (λ (z : Trace). caller_of (setup_of c z) i (seat_of f).turns) x.trace
              ∙ ap (λ j. caller_of e j (seat_of f).turns) x.number;
          since = y.since;
          front = y.front;
          others = subst (λ j. All (λ m. m ≢ j) y.since) x.number y.others;
        }

    counts : (k : ℕ) (d : Finished) → k < length (front ++ last ∷ [])
        → Counts (e.stops (k + 1)) (count_of (k + 1) turns)
        (get_or (front ++ last ∷ []) k d).scheduler.left
    counts k d less =
        let s = (get_or (front ++ last ∷ []) k d).scheduler in
        let x = is-last k d less in
        subst (λ o. Counts o (count_of (k + 1) turns) s.left) x.stop
        (subst (λ n. Counts s.stop n s.left) (all-seen k d less) x.counted)

    pub left-is : (k : ℕ) (d : Finished) → k < length (front ++ last ∷ [])
        → (get_or (front ++ last ∷ []) k d).scheduler.left ≡ left_after e turns (k + 1)
    left-is k d less = counts-left (e.stops (k + 1)) (count_of (k + 1) turns)
        (get_or (front ++ last ∷ []) k d).scheduler.left (counts k d less)

    stop-is : (k : ℕ) (d : Finished) → k < length (front ++ last ∷ [])
        → stop_line (get_or (front ++ last ∷ []) k d).scheduler
        ≡ stop_of e (run e turns) turns (1 + k)
    stop-is k d less =
        let s = (get_or (front ++ last ∷ []) k d).scheduler in
        let x = is-last k d less in
        let here : k + 1 ≡ 1 + k = omega arith in
        ap (λ o. stop_at s.stage o s.left) x.stop
        ∙ ap (stop_at s.stage (e.stops (k + 1))) (left-is k d less)
        ∙ ap (λ st. stop_at st (e.stops (k + 1)) (left_after e turns (k + 1)))
        (ap (λ (a : Actor). a.stage) (stands k d less))
        ∙ ap (λ i. stop_at ((run e turns).actors (1 + k)).stage (e.stops i) (left_after e turns i))
        here

    -- none stepped after its stop
    pub are-within : AreSteps e turns → AreWithin e turns
    are-within steps before later me q over =
        by (is_scheduler e me) refl
      where
        by : (b : Bool) → is_scheduler e me ≡ b → ⊥
        by false o = steps before later me q (outside e me o before)
        by true o =
            let k = me - 1 in
            let from : 1 ≤ me = grind (arith, o) in
            let to : me ≤ e.schedulers = grind (arith, o) in
            let here : k + 1 ≡ me = omega (arith, from) in
            let d : Finished = last in
            never (e.stops me) (count_of me turns) (count_of me before)
            (get_or (front ++ last ∷ []) k d).scheduler.left
            (subst (λ i. Counts (e.stops i) (count_of i turns)
            (get_or (front ++ last ∷ []) k d).scheduler.left) here
            (counts k d (omega (arith, from, to, all))))
            (omega (
              arith,
              ap (count_of me) q,
              count-append me before (me ∷ later),
              count-cons me me later,
              count-one me me refl,
            )) over

    -- what is so for each scheduler is so for the run
    of-all : {A : Type 0} (f : Finished → A) (h : ℕ → A)
        → ((k : ℕ) (d : Finished) → k < length (front ++ last ∷ [])
        → f (get_or (front ++ last ∷ []) k d) ≡ h (1 + k))
        → map f (front ++ last ∷ []) ≡ map h (range_with_len 1 c.schedulers)
    of-all f h same = ranged f h 1 (front ++ last ∷ []) same
        ∙ ap (λ n. map h (range_with_len 1 n)) all

    pub actors-are : map (λ (f : Finished). actor_of f.scheduler) (front ++ last ∷ [])
        ≡ actors_of e (run e turns)
    actors-are = of-all (λ f. actor_of f.scheduler) (λ i. (run e turns).actors i) stands

    pub stops-are : map (λ (f : Finished). stop_line f.scheduler) (front ++ last ∷ [])
        ≡ map (stop_of e (run e turns) turns) (range_with_len 1 c.schedulers)
    stops-are = of-all (λ f. stop_line f.scheduler) (stop_of e (run e turns) turns) stop-is

  -- the table was closed after turns of the run, after which the schedulers stand so
  closed-in : (about : About) → about.config ≡ c → about.trace.now ≡ t → (j : ℕ) (v : View)
      → v ≡ record (last.pass.seat.me.0) {
        seated = last.pass.seat.me.0.seated ++ map seat_of front;
      }
      → (ws : List ℕ) (xs : List Slot) → Final (Seen (holds about) j v) ws xs
      → (ss : List Scheduler) → ss ≡ map (λ (f : Finished). f.scheduler) (front ++ last ∷ [])
      → (turns : List ℕ) × AreSteps e turns × AreWithin e turns × IsClosedIn c t ss ws xs turns
      × (map (λ (f : Finished). actor_of f.scheduler) (front ++ last ∷ [])
      ≡ actors_of e (run e turns))
      × ((k : ℕ) (d : Finished) → k < length (front ++ last ∷ [])
      → (get_or (front ++ last ∷ []) k d).scheduler.left ≡ left_after e turns (k + 1))
      × ((k : ℕ) (d : Finished) → k < length (front ++ last ∷ []) → KnowsFront e (k + 1) turns
      (caller_in (get_or (front ++ last ∷ []) k d).pass.seat.me.0))
  closed-in about p q j v is ws xs final ss same =
      let closed = moved about.config c about.trace.now t p q (Closes j v ws xs)
      (closes about j v ws xs final) in
      let turns = closed.ran in
      let actors = actors-are turns closed.seat_of closed.claim_of j v is closed.knows.seated in
      let theirs = (λ (f : Finished). f.scheduler) in (
        turns,
        closed.steps,
        are-within turns closed.seat_of closed.claim_of j v is closed.knows.seated closed.steps,
        record {
          actors = ap (map actor_of) same ∙ map-map actor_of theirs (front ++ last ∷ []) ∙ actors;
          stops = ap (map stop_line) same ∙ map-map stop_line theirs (front ++ last ∷ [])
              ∙ stops-are turns closed.seat_of closed.claim_of j v is closed.knows.seated;
          given = closed.given;
          places = closed.places;
        },
        actors,
        left-is turns closed.seat_of closed.claim_of j v is closed.knows.seated,
        knew turns closed.seat_of closed.claim_of j v is closed.knows.seated,
      )

-- the same of finished schedulers of which the last one's seat took in the others
pub gathered : (c : Config) (t : Trace) → IsValidConfig c → IsValidTrace c.schedulers t
    → (about : About) → about.config ≡ c → about.trace.now ≡ t → (id : TableId)
    → (finished : List Finished) → length finished ≡ c.schedulers
    → ((k : ℕ) (d : Finished) → k < c.schedulers → IsLast c t id (k + 1) (get_or finished k d))
    → (front : List Finished) (last : Finished) → finished ≡ front ++ last ∷ []
    → (j : ℕ) (v : View) → v ≡ record (last.pass.seat.me.0) {
      seated = last.pass.seat.me.0.seated ++ map (λ f. acting f.pass.seat.me.0) front;
    }
    → (ws : List ℕ) (xs : List Slot) → Final (Seen (holds about) j v) ws xs
    → (taken ss : List Scheduler) → ss ≡ taken ++ last.scheduler ∷ []
    → taken ≡ map (λ (f : Finished). f.scheduler) front
    → (turns : List ℕ) × AreSteps (setup_of c t) turns × AreWithin (setup_of c t) turns
    × IsClosedIn c t ss ws xs turns
    × (map (λ (f : Finished). actor_of f.scheduler) finished
    ≡ actors_of (setup_of c t) (run (setup_of c t) turns))
    × ((k : ℕ) (d : Finished) → k < length finished
    → (get_or finished k d).scheduler.left ≡ left_after (setup_of c t) turns (k + 1))
    × ((k : ℕ) (d : Finished) → k < length finished → KnowsFront (setup_of c t) (k + 1) turns
    (caller_in (get_or finished k d).pass.seat.me.0))
gathered c t valid made about p q id finished all each front last items j v is ws xs final taken ss
    pushed same =
    let same' = pushed ∙ ap (λ xs. xs ++ last.scheduler ∷ []) same
    ∙ sym (map-append (λ (f : Finished). f.scheduler) front (last ∷ [])) in
    let (turns, steps, within, closed, actors, left, knew) = closed-in c t valid made id front last
    (ap length (sym items) ∙ all)
    (λ k d less. subst (λ xs. IsLast c t id (k + 1) (get_or xs k d)) items (each k d less))
    about p q j v is ws xs final ss same' in (
      turns,
      steps,
      within,
      closed,
      ap (map (λ (f : Finished). actor_of f.scheduler)) items ∙ actors,
      subst (λ (fs : List Finished). (k : ℕ) (d : Finished) → k < length fs
          → (get_or fs k d).scheduler.left ≡ left_after (setup_of c t) turns (k + 1))
          (sym items) left,
      subst (λ (fs : List Finished). (k : ℕ) (d : Finished) → k < length fs
          → KnowsFront (setup_of c t) (k + 1) turns (caller_in (get_or fs k d).pass.seat.me.0))
          (sym items) knew,
    )
