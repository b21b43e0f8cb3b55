-- Where no place is found, an operation fails.
use Rattle.std.proofs.Common.{◌≡◌, ◌≢◌, ◌⊎◌, ℕ, ◌<◌, ◌≤◌, List, [], ◌∷◌, ◌++◌, Bool}
use Rattle.std.proofs.Common.{true, false, refl, sym, ap, ◌∙◌, subst, inl, inr, arith}
use Rattle.std.specs.Prelude.{Option, Some, None, Err, ◌==◌, count_by, length}
use Rattle.std.proofs.lemmas.Bool.{cases_eq}
use Rattle.std.proofs.lemmas.List.{length-append}
use Rattle.ea_model.specs.Entries.{Entry}
use Rattle.ea_model.specs.declared.entries.NoCarrier.{NoCarrier}
use Rattle.ea_model.specs.declared.operations.Op.{Op}
use Rattle.ea_model.specs.declared.operations.Op.TheVariants as op
use Rattle.ea_model.specs.Instance.{chosen_spot, is_alone, plan}
use Rattle.ea_model.specs.Units.{need_of}
use Rattle.ea_model.proofs.Rising.{item_at-key}
use Rattle.ea_model.specs.Content.{Content}
use Rattle.ea_machine.specs.Lists.{no_lists}
use Rattle.ea_machine.specs.Placements.{search_on}
use Rattle.ea_machine.specs.Searches.{Search, goes_on, looked_in, new_search, passed, with_counted}
use Rattle.ea_machine.specs.declared.parts.Part.TheVariants.{Pool}
use Rattle.ea_machine.specs.declared.owners.OwnerWord.{OwnerWord}
use Rattle.ea_machine.specs.declared.stages.Stage.{Stage}
use Rattle.ea_machine.specs.declared.stages.Stage.TheVariants.{Searching, Fetching, Ended}
use Rattle.ea_machine.specs.Actor.{Actor}
use Rattle.ea_machine.specs.declared.asks.Ask.{Ask}
use Rattle.ea_machine.specs.Machine.{after_row, onward, run, run_on, step, wants_at}
use Rattle.ea_machine.specs.Nodes.{named_at, name_of}
use Rattle.ea_machine.specs.declared.nodes.Named.{Named}
use Rattle.ea_machine.specs.Operations.{itself}
use Rattle.ea_machine.specs.Owners.{word_of}
use Rattle.ea_machine.specs.Placements.{chosen_by, failed, fetched, new_carrier}
use Rattle.ea_machine.specs.Searches.{fits}
use Rattle.ea_machine.specs.Placements.{new_carrier_by, saw_by, search_if, searched}
use Rattle.ea_machine.specs.Placements.{searched_by, seek, seek_by}
use Rattle.ea_machine.specs.Reallocations.{reallocated, reallocated_by}
use Rattle.ea_machine.specs.Rows.{Answer, Saw, Won, Lost}
use Rattle.ea_machine.specs.Setup.{Setup, greatest_number, migration}
use Rattle.ea_machine.specs.State.{State}
use Rattle.ea_machine.specs.Statistics.{observed}
use Rattle.ea_machine.specs.Table.{answer, tried_at}
use Rattle.ea_machine.specs.Tasks.{logged}
use Rattle.ea_sound.specs.Searches.{past}
use Rattle.ea_sound.specs.Exhausted.{FailsIfExhausted, FindsNoPlace, IsFailOf, seen_since}
use Rattle.ea_sound.specs.Needs.{AsksFor, IsToMove}
use Rattle.ea_sound.specs.Searches.{IsSought, IsUnsought, Missed, Searched, Shown}
use Rattle.ea_sound.specs.Searches.{Sight, sight, sights}
use Rattle.ea_sound.specs.Turns.{IsBegun, actor_after, advanced, answered, begun, log_after}
use Rattle.ea_sound.specs.Moments.{at}
use Rattle.ea_sound.specs.Present.{OfAsk, Rule}
use Rattle.ea_sound.proofs.SearchTurns.{same-missed}
use Rattle.ea_sound.proofs.Chronicle.{failed-is}
use Rattle.ea_sound.proofs.Chronicled.{begun-now, begun-settings}
use Rattle.ea_sound.proofs.TurnLists.{run-since, step-mine, step-other}
use Rattle.ea_sound.proofs.SearchTurns.{Next, WonOrLost, count-mine, count-other, fetch-tries}
use Rattle.ea_sound.proofs.SearchTurns.{look-saw, next, sight-most, sights-mine, sights-most}
use Rattle.ea_sound.proofs.SearchTurns.{sights-other, tails, won-or_lost}
use Rattle.ea_machine.specs.Placements.{refills}

-- an operation that asks for a place seeks one
record Seeks (e : Setup) (s : ℕ) (b : Actor) (need : ℕ) : Type 0 where
  ask : Ask
  of : OfAsk ask b.todo
  needs : need ≡ ask.need
  is : itself e s b b.todo ≡ seek e s ask b

seeks : (e : Setup) (s : ℕ) (b : Actor) (need : ℕ) (ops : List Op) → b.todo ≡ ops
    → AsksFor b ops need → Seeks e s b need
seeks e s b need (op.Alloc n bytes ∷ ops) q h = record {
  ask = record { name = n; need = need_of bytes; old = None };
  of = subst (OfAsk (record { name = n; need = need_of bytes; old = None })) (sym q)
      (refl, refl, refl);
  needs = h;
  is = ap (itself e s b) q;
}
seeks e s b need (op.Realloc o n bytes ∷ ops) q h =
    by (named_at o b.held) refl (subst (λ n. IsToMove b.instance n (named_at o b.held)) h.0 h.1)
  where
    by : (x : Option Named) → named_at o b.held ≡ x → IsToMove b.instance (need_of bytes) x
        → Seeks e s b need
    by None i m = absurd m
    by (Some x) i m = record {
      ask = record { name = n; need = need_of bytes; old = Some x };
      of = subst (OfAsk (record { name = n; need = need_of bytes; old = Some x })) (sym q)
          (refl, refl, (x, refl, item_at-key name_of o x b.held i));
      needs = h.0;
      is = ap (itself e s b) q ∙ ap (reallocated e s o n (need_of bytes) b) i
          ∙ ap (reallocated_by e s x n (need_of bytes) b) m;
    }
seeks e s b need [] q h = absurd h
seeks e s b need (op.Free n ∷ ops) q h = absurd h
seeks e s b need (op.Give n to ∷ ops) q h = absurd h
seeks e s b need (op.Take n tries ∷ ops) q h = absurd h
seeks e s b need (op.Info ∷ ops) q h = absurd h
seeks e s b need (op.Idle ∷ ops) q h = absurd h

-- where a search stands that goes on, or has ended
module _ (e : Setup) (s : ℕ) (b : Actor) (ask : Ask) (last : Search) (why : NoCarrier)
    (refused : plan b.instance ask.need ≡ Err why) (over : goes_on last.part ≡ false) where
  abbrev g : ℕ
  g = greatest_number e

  abbrev IsStill : Actor → Type 0
  IsStill a = (a.log ≡ b.log) × (a.instance ≡ b.instance)

  abbrev fail_of : Search → Entry
  fail_of x = failed ask (looked_in x.part) why ask.old

  data Waits (a : Actor) (xs : List Sight) : Type 0 where
    Looks : (x : Search) (stage : a.stage ≡ Searching ask x.at x.part) (lists : a.lists ≡ x.lists)
        (still : IsStill a) (goes : goes_on x.part ≡ true)
        (saw : Searched (greatest_number e) ask.need x last xs) → Waits a xs
    Tries : (x : Search) (seen : OwnerWord)
        (stage : a.stage ≡ Fetching ask x.at (with_counted seen x.part) seen)
        (lists : a.lists ≡ x.lists) (still : IsStill a) (p : ℕ) (u : OwnerWord)
        (ys : List Sight) (is : xs ≡ Missed p u ∷ ys)
        (saw : Searched (greatest_number e) ask.need (past (greatest_number e) x seen u) last ys)
        → Waits a xs
    Failed : (log : a.log ≡ b.log ++ fail_of last ∷ []) (none : xs ≡ []) → Waits a xs

  -- a search goes on, or fails
  abbrev Found : Search → Actor → Actor → Type 0
  Found x c r = ((goes_on x.part ≡ true)
      × (r ≡ at (Searching ask x.at x.part) (record c { lists = x.lists })))
      ⊎ ((goes_on x.part ≡ false) × (r ≡ logged (fail_of x) (record c { lists = x.lists })))

  found : (x : Search) (c : Actor) → IsStill c → Found x c (search_on e s ask x c)
  found x c still = by (goes_on x.part) refl
    where
      by : (t : Bool) → goes_on x.part ≡ t
          → Found x c (searched_by e s ask x (record c { lists = x.lists }) t)
      by true t = inl (t, refl)
      by false t = inr (
        t,
        ap (new_carrier_by e s ask (looked_in x.part) (record c { lists = x.lists }))
            (ap (λ i. plan i ask.need) still.1 ∙ refused),
      )

  never : (x : Search) → goes_on x.part ≡ false → goes_on x.part ≡ true → ⊥
  never x f t = let no : true ≡ false = sym t ∙ f in cc

  waits : (x : Search) (c r a : Actor) (xs : List Sight) → IsStill c → Found x c r
      → a ≡ observed r → Searched g ask.need x last xs → Waits a xs
  waits x c r a xs still (inl f) q saw =
      let is : a ≡ observed (at (Searching ask x.at x.part) (record c { lists = x.lists })) =
      q ∙ ap observed f.1 in
      Looks x (ap (λ (a : Actor). a.stage) is) (ap (λ (a : Actor). a.lists) is)
      (ap (λ (a : Actor). a.log) is ∙ still.0, ap (λ (a : Actor). a.instance) is ∙ still.1) f.0 saw
  waits x c r a [] still (inr f) q saw =
      Failed (ap (λ (a : Actor). a.log) (q ∙ ap observed f.1)
      ∙ ap (λ l. l ++ fail_of x ∷ []) still.0
      ∙ ap (λ (y : Search). b.log ++ fail_of y ∷ []) saw) refl
  waits x c r a (Missed p u ∷ xs) still f q saw = absurd saw
  waits x c r a (Shown m v ∷ []) still (inr f) q saw = absurd (never x f.0 saw.0.1)
  waits x c r a (Shown m v ∷ Shown p u ∷ xs) still (inr f) q saw = absurd (never x f.0 saw.0.1)
  waits x c r a (Shown m v ∷ Missed p u ∷ xs) still (inr f) q saw = absurd (never x f.0 saw.0.1)

  found-onward : (x : Search) (c r : Actor) → Found x c r → Found x c (onward e s r)
  found-onward x c r (inl f) = inl (f.0, ap (onward e s) f.1)
  found-onward x c r (inr f) = inr (f.0, ap (onward e s) f.1)

  module _ (w : State) (rest : List Sight)
      (one : length (sight (w.actors s).stage (answered w s)) ≡ 1) where
    abbrev a : Actor
    a = w.actors s

    abbrev now : Actor
    now = (step e w s).actors s

    -- a search goes on from here
    goes-on : (x : Search) → a.stage ≢ Ended → IsStill a → advanced e w s ≡ search_on e s ask x a
        → Searched g ask.need x last rest → Waits now rest
    goes-on x ne still q saw =
        waits x a (onward e s (search_on e s ask x a)) now rest still
        (found-onward x a (search_on e s ask x a) (found x a still))
        (step-mine e w s ne ∙ ap (λ c. observed (onward e s c)) q) saw

    more : Waits a (sight a.stage (answered w s) ++ rest) → Waits now rest
    more (Looks x stage lists still goes saw) = by (next g ask.need x last x.at v rest
        (subst (λ xs. Searched g ask.need x last (xs ++ rest)) sees saw))
      where
        v : OwnerWord
        v = word_of (w.shared.places x.at)

        ans : answered w s ≡ Saw v
        ans = ap (λ st. answer s (wants_at a.next st) w.shared) stage ∙ look-saw s x.at w.shared

        sees : sight a.stage (answered w s) ≡ Shown x.at v ∷ []
        sees = ap (λ st. sight st (answered w s)) stage ∙ ap (sight (Searching ask x.at x.part)) ans

        going : a.stage ≢ Ended
        going q = let t : Searching ask x.at x.part ≡ Ended = sym stage ∙ q in absurd (cc)

        is : advanced e w s
            ≡ saw_by e s ask x.at (with_counted v x.part) a v (fits ask.need v)
        is = ap (after_row e s a (answered w s)) stage ∙ ap (searched e s ask x.at x.part a) ans

        by : Next g ask.need x last v rest → Waits now rest
        by (inl f) = goes-on (past g x v v) going still
            (is ∙ ap (saw_by e s ask x.at (with_counted v x.part) a v) f.0
            ∙ ap (λ l. search_on e s ask (passed g l x.at (with_counted v x.part) v) a) lists) f.1
        by (inr f) =
            let q : now ≡ observed (at (Fetching ask x.at (with_counted v x.part) v) a) =
            step-mine e w s going ∙ ap (λ c. observed (onward e s c))
            (is ∙ ap (saw_by e s ask x.at (with_counted v x.part) a v) f.0) in
            Tries x v (ap (λ (a : Actor). a.stage) q) (ap (λ (a : Actor). a.lists) q ∙ lists)
            (ap (λ (a : Actor). a.log) q ∙ still.0, ap (λ (a : Actor). a.instance) q ∙ still.1)
            f.1.number f.1.present f.1.later f.1.is f.1.saw
    more (Tries x seen stage lists still p u ys is saw) =
        by (subst WonOrLost (sym ans) (won-or_lost seen (w.shared.places x.at)))
      where
        trying : Stage Content
        trying = Fetching ask x.at (with_counted seen x.part) seen

        ans : answered w s ≡ tried_at seen (w.shared.places x.at)
        ans = ap (λ st. answer s (wants_at a.next st) w.shared) stage
            ∙ fetch-tries s x.at seen w.shared

        going : a.stage ≢ Ended
        going q = let t : trying ≡ Ended = sym stage ∙ q in absurd (cc)

        sees : (r : Answer) → answered w s ≡ r
            → sight a.stage (answered w s) ≡ sight trying r
        sees r q = ap (λ st. sight st (answered w s)) stage ∙ ap (sight trying) q

        by : WonOrLost (answered w s) → Waits now rest
        by (inl y) = absurd (omega (arith, one, ap length (sees (Won y.0) y.1)))
        by (inr y) =
            let same : Missed x.at y.0 ∷ rest ≡ Missed p u ∷ ys =
            sym (ap (λ xs. xs ++ rest) (sees (Lost y.0) y.1)) ∙ is in
            let part = with_counted seen x.part in
            goes-on (past g x seen u) going still
            (ap (after_row e s a (answered w s)) stage ∙ ap (fetched e s ask x.at part a) y.1
            ∙ ap (λ l. search_on e s ask (passed g l x.at part y.0) a) lists
            ∙ ap (λ r. search_on e s ask (passed g x.lists x.at part r) a)
            (same-missed x.at p y.0 u rest ys same))
            (subst (Searched g ask.need (past g x seen u) last)
            (sym (tails (Missed x.at y.0) (Missed p u) rest ys same)) saw)
    more (Failed log none) = absurd (omega (
      arith,
      one,
      ap length none,
      length-append (sight a.stage (answered w s)) rest,
    ))

  -- along all its turns
  goes : (js : List ℕ) (w : State) → Waits (w.actors s) (sights e w s js)
      → count_by (λ i. i == s) js ≡ length (sights e w s js)
      → ((run_on e w js).actors s).log ≡ b.log ++ fail_of last ∷ []
  goes [] w (Looks x stage lists still more saw) c =
      absurd (never last over (sym (ap (λ (y : Search). goes_on y.part) saw) ∙ more))
  goes [] w (Tries x seen stage lists still p u ys is saw) c = absurd (cc)
  goes [] w (Failed log none) c = log
  goes (j ∷ js) w h c =
      elim (cases_eq j s) [
        | inl q ↦
            let len = length-append (sight (w.actors s).stage (answered w s))
            (sights e (step e w j) s js) in
            let most = sights-most e s (step e w j) js in
            let once = sight-most (w.actors s).stage (answered w s) in
            let sees = ap length (sights-mine e s w j js q) in
            let count = count-mine e s j js q in
            goes js (step e w j)
            (subst (λ i. Waits ((step e w i).actors s) (sights e (step e w j) s js)) (sym q)
            (more w (sights e (step e w j) s js) (omega (arith, c, len, most, once, sees, count))
            (subst (Waits (w.actors s)) (sights-mine e s w j js q) h)))
            (omega (arith, c, len, most, once, sees, count))
        | inr ne ↦ goes js (step e w j)
            (subst (λ a. Waits a (sights e (step e w j) s js))
            (sym (step-other e w j s (λ q. ne (sym q))))
            (subst (Waits (w.actors s)) (sights-other e s w j js ne) h))
            (omega (arith, c, ap length (sights-other e s w j js ne), count-other e s j js ne))
      ]

module _ (e : Setup) (rules : (L : List ℕ) → Rule e (run e L)) (before : List ℕ) (s : ℕ) where
  abbrev mid : Actor
  mid = begun e before s

  -- without a choice its count is as great as can be
  abbrev full : Actor
  full = refills mid

  module _ (begins : IsBegun e (run e before) s) (ask : Ask)
      (none : ask.need ≤ e.settings.sbct → chosen_spot mid.instance ask.need ≡ None) where
    threshold : mid.instance.settings.sbct ≡ e.settings.sbct
    threshold = ap (λ s. s.sbct) (begun-settings e rules before s begins)

    -- a block that isn't searched for, and one that is
    unsought : (migration e ≡ false) ⊎ (e.settings.sbct < ask.need)
        → seek e s ask mid ≡ new_carrier e s ask 0 full
    unsought un = by (is_alone mid.instance ask.need) refl un
      where
        by : (b : Bool) → is_alone mid.instance ask.need ≡ b
            → (migration e ≡ false) ⊎ (e.settings.sbct < ask.need)
            → seek_by e s ask mid b ≡ new_carrier e s ask 0 full
        by true t un = refl
        by false t (inl off) = ap (chosen_by e s ask mid)
            (none (let q = threshold in grind (arith, t, q)))
            ∙ ap (search_if e s ask full) off
        by false t (inr big) = absurd (let q = threshold in
            let l : ask.need ≤ e.settings.sbct = grind (arith, t, q) in omega (arith, big, l))

    sought : migration e ≡ true → ask.need ≤ e.settings.sbct
        → seek e s ask mid
        ≡ search_on e s ask (new_search (greatest_number e) mid.lists) full
    sought on small =
        let q = threshold in
        let alone : is_alone mid.instance ask.need ≡ false = grind (arith, small, q) in
        ap (seek_by e s ask mid) alone ∙ ap (chosen_by e s ask mid) (none small)
        ∙ ap (search_if e s ask full) on

  fails : (ask : Ask) (since : List ℕ) (looked : ℕ) (why : NoCarrier)
      → itself e s mid mid.todo ≡ seek e s ask mid
      → FindsNoPlace e before s since ask.need looked why
      → log_after e (before ++ s ∷ since) s
      ≡ mid.log ++ failed ask looked why ask.old ∷ []
  fails ask since looked why is f = by f.sought
    where
      now : (r : Actor) → seek e s ask mid ≡ r → actor_after e (before ++ s ∷ []) s ≡ observed r
      now r q = begun-now e before s f.begins ∙ ap observed (is ∙ q)

      all : run_on e (run e (before ++ s ∷ [])) since ≡ run e (before ++ s ∷ since)
      all = run-since e (before ++ s ∷ since) before since s refl

      by : IsUnsought e ask.need looked (seen_since e before s since)
          ⊎ IsSought e mid.lists ask.need looked (seen_since e before s since)
          → log_after e (before ++ s ∷ since) s ≡ mid.log ++ failed ask looked why ask.old ∷ []
      by (inl u) =
          let q = now (logged (failed ask 0 why ask.old) full)
          (unsought f.begins ask f.none u.0 ∙ ap (new_carrier_by e s ask 0 full) f.refused) in
          let none : Search = record { lists = no_lists; at = 0; part = Pool 0 looked } in
          sym (ap (λ (w : State). (w.actors s).log) all)
          ∙ goes e s full ask none why f.refused refl since (run e (before ++ s ∷ []))
          (Failed (ap (λ (a : Actor). a.log) q
          ∙ ap (λ k. mid.log ++ failed ask k why ask.old ∷ []) (sym u.2)) u.1) f.steps
      by (inr h) =
          let (last, saw, over, counts) = h.2 in
          let first = new_search (greatest_number e) mid.lists in
          sym (ap (λ (w : State). (w.actors s).log) all)
          ∙ goes e s full ask last why f.refused over since (run e (before ++ s ∷ []))
          (waits e s full ask last why f.refused over first full (search_on e s ask first full)
          (actor_after e (before ++ s ∷ []) s) (seen_since e before s since) (refl, refl)
          (found e s full ask last why f.refused over first full (refl, refl))
          (now _ (sought f.begins ask f.none h.0 h.1)) saw) f.steps
          ∙ ap (λ k. mid.log ++ failed ask k why ask.old ∷ []) (sym counts)

pub fails-if_exhausted : (e : Setup) → ((L : List ℕ) → Rule e (run e L)) → FailsIfExhausted e
fails-if_exhausted e rules before s since need looked why f =
    let k = seeks e s (begun e before s) need (begun e before s).todo refl f.asks in (
      failed k.ask looked why k.ask.old,
      subst (λ n. IsFailOf (begun e before s).todo n looked why
          (failed k.ask looked why k.ask.old)) (sym k.needs)
          (failed-is k.ask looked why (begun e before s).todo k.of),
      fails e rules before s k.ask since looked why k.is
          (subst (λ n. FindsNoPlace e before s since n looked why) k.needs f),
    )
