-- The rule at the table's start, and where seats are split off and taken in.
use Rattle.std.proofs.Common.{◌≡◌, ◌≢◌, ◌⊎◌, ℕ, zero, suc, ◌*◌, ◌<◌, ◌≤◌, Bool, true, false}
use Rattle.std.proofs.Common.{◌==◌, if◌then◌else◌, List, [], ◌∷◌, ◌++◌, map, length, get_or}
use Rattle.std.proofs.Common.{◌&&◌, replicate, set, refl, sym, ap, ◌∙◌, subst, inl, inr}
use Rattle.std.proofs.Common.{arith}
use Rattle.std.specs.Prelude.{All, None}
use Rattle.std.specs.List.{range_with_len}
use Rattle.std.proofs.lemmas.List.{length-map, length-replicate}
use Rattle.std.proofs.lemmas.List.Elements.{All-append, All-cons, All-head}
use Rattle.std.proofs.lemmas.List.Elements.{All-map, All-nil, All-tail, All-weaker}
use mathlib.Core.Option.{some, some-injective, some-ne-none}
use mathlib.Core.Option as maybe
use lib.ListN.{get_elem?}
use Rattle.atomic_table.specs.Table.{Joins, Splits, opening}
use Rattle.atomic_table.proofs.Lists.{at_set}
use Rattle.ea_model.specs.declared.settings.Config.{Config}
use Rattle.ea_model.specs.declared.trace.Trace.{Trace}
use Rattle.ea_model.specs.declared.units.TheConstants.{NUMBERS}
use Rattle.ea_model.specs.Settings.{IsValidConfig}
use Rattle.ea_model.specs.Trace.{IsValidTrace}
use Rattle.ea_model.specs.Content.{Content}
use Rattle.ea_model.specs.Instance.{owner_of}
use Rattle.ea_machine.specs.declared.nodes.Node.{Node}
use Rattle.ea_machine.specs.declared.nodes.Node.TheVariants.{Block, Carrier}
use Rattle.ea_machine.specs.declared.stages.Stage.TheVariants.{Routed}
use Rattle.ea_machine.specs.declared.stages.Route.{Route}
use Rattle.ea_machine.specs.declared.stages.Route.TheVariants.{Linking}
use Rattle.ea_machine.specs.declared.tasks.Gone.{Gone}
use Rattle.ea_machine.specs.declared.tasks.Why.{Why}
use Rattle.ea_machine.specs.Alike.{IsNode}
use Rattle.ea_machine.specs.Machine.{first_stage, is_main, start}
use Rattle.ea_machine.specs.Owners.{employed_if}
use Rattle.ea_machine.specs.Setup.{Setup, is_scheduler, migration, setup_of}
use Rattle.ea_sound.proofs.OtherTurns.{no-step}
use Rattle.ea_table.specs.declared.views.About.{About}
use Rattle.ea_table.specs.declared.views.Seated.{Seated}
use Rattle.ea_table.specs.declared.views.View.{View}
use Rattle.ea_table.specs.Ruling.{Knows, Sits, acting, after_first, dealt_left}
use Rattle.ea_table.specs.Ruling.{dealt_right, first, holds, spent_view, taken_in, waiting}
use Rattle.ea_table.specs.Slots.{Houses, IsSlot, Slot, slot_at}
use Rattle.ea_table.specs.Start.{AreFirst}
use Rattle.ea_table.specs.Words.{Codes, head_at, link_at, name_at, owner_at}

-- slots at home, all of them empty
none-out : (k i : ℕ) → i < k
    → get_elem? (map some (replicate {A = Slot} k None)) i ≡ some (some None)
none-out zero i less = absurd (omega (arith, less))
none-out (suc k) zero less = refl
none-out (suc k) (suc i) less = none-out k i (omega (arith, less))

link-below : (n g : ℕ) (node : Node) → IsNode n g node → link_at n g node < owner_at n g 1
link-below n g (Block name spot) is = omega (arith, is.0, is.1)
link-below n g (Carrier number) is = omega (arith, is.0, is.1)

not-routed : (e : Setup) (b : Bool) (route : Route Content) (why : Why) (gone : Gone)
    → first_stage e b ≢ Routed route why gone
not-routed e true route why gone = λ q. cc
not-routed e false route why gone = λ q. cc

module _ (c : Config) (t : Trace) where
  abbrev e : Setup
  e = setup_of c t

  sits-waiting : (i count : ℕ)
      → All (Sits c t [] (λ _. 0) (λ _. 0) 0) (map waiting (range_with_len i count))
  sits-waiting i count = All-map (Sits c t [] (λ _. 0) (λ _. 0) 0) waiting
      (range_with_len i count)
      (λ k d less. waits (get_or (range_with_len i count) k d)) where
        waits : (i : ℕ) → Sits c t [] (λ _. 0) (λ _. 0) 0 (waiting i)
        waits i = record {
          seat = refl;
          since = [];
          front = refl;
          others = All-nil (λ j. j ≢ i);
          remembers = λ node to why gone now.
              absurd (not-routed e (is_scheduler e i) (Linking node to) why gone now);
          claim = refl;
        }

  codes-first : (ws : List ℕ) → AreFirst c t ws
      → Codes c.schedulers t.greatest (start e).shared ws
  codes-first ws has = record {
    count = has.count;
    heads = λ i low high. has.others (head_at i) (omega (arith, low, high));
    queued = λ i. tt;
    rested = λ i. tt;
    free = λ node is z. has.others (link_at c.schedulers t.greatest node)
        (link-below c.schedulers t.greatest node is);
    names = λ name low high. has.others (name_at c.schedulers t.greatest name)
        (omega (arith, low, high));
    owners = has.owners;
  }

  module _ (n : ℕ) where
    abbrev homes : List (maybe.Option Slot)
    homes = map some (replicate {A = Slot} (NUMBERS * n) None)

    first-slot : (number : ℕ) → 1 ≤ number → number ≤ NUMBERS * n → (b : Bool)
        → IsSlot homes (λ _. 0) number (employed_if b (owner_of number))
    first-slot number low high true =
        inl (none-out (NUMBERS * n) (slot_at number) (omega (arith, low, high)))
    first-slot number low high false =
        inl (none-out (NUMBERS * n) (slot_at number) (omega (arith, low, high)))

    houses-first : Houses homes n (λ _. 0) (start e).shared
    houses-first = record {
      count = length-map (replicate {A = Slot} (NUMBERS * n) None) some
          ∙ length-replicate (NUMBERS * n) None;
      each = λ number low high. first-slot number low high
          (migration e && is_main e (owner_of number) number);
      claims = λ i claimed. absurd (claimed refl);
    }

pub opens : (about : About) (ws : List ℕ) → IsValidConfig about.config
    → IsValidTrace about.config.schedulers about.trace.now
    → AreFirst about.config about.trace.now ws
    → holds about
    (opening ws (replicate {A = Slot} (NUMBERS * about.config.schedulers) None) (first about))
opens about ws valid made has = record {
  valid = valid;
  made = made;
  ran = [];
  steps = no-step (setup_of about.config about.trace.now);
  coded = codes-first about.config about.trace.now ws has;
  claim_of = λ _. 0;
  housed = houses-first about.config about.trace.now about.config.schedulers;
  seat_of = λ _. 0;
  each_seat = by;
} where
  by : (j : ℕ) (v : View) → get_elem? (first about ∷ []) j ≡ some v
      → Knows about.config about.trace.now [] (λ _. 0) (λ _. 0) j v
  by zero v q = subst
      (Knows about.config about.trace.now [] (λ _. 0) (λ _. 0) 0)
      (some-injective (first about) v q) (record {
        config = λ live. refl;
        trace = λ live. refl;
        seated = sits-waiting about.config about.trace.now 1 about.config.schedulers;
      })
  by (suc j) v q = absurd (some-ne-none v (sym q))

at_end : {A : Type 0} (l : List A) (a b : A) (j : ℕ) → get_elem? (l ++ a ∷ []) j ≡ some b
    → (get_elem? l j ≡ some b) ⊎ ((j ≡ length l) × (a ≡ b))
at_end [] a b zero e = inr (refl, some-injective a b e)
at_end [] a b (suc j) e = absurd (some-ne-none b (sym e))
at_end (x ∷ xs) a b zero e = inl e
at_end (x ∷ xs) a b (suc j) e = elim (at_end xs a b j e) [
  | inl i ↦ inl i
  | inr o ↦ inr (ap suc o.0, o.1)
]

-- whose seat each scheduler has, where s has another
abbrev seat_put : (ℕ → ℕ) → ℕ → ℕ → ℕ → ℕ
seat_put seat_of s id n = if n == s then id else seat_of n

-- and where all of a seat have another
abbrev seat_moved : (ℕ → ℕ) → ℕ → ℕ → ℕ → ℕ
seat_moved seat_of other id n = if seat_of n == other then id else seat_of n

module _ (c : Config) (t : Trace) (ran : List ℕ) (claim_of : ℕ → ℕ) where
  -- schedulers that keep their seats
  keep-seats : (f g : ℕ → ℕ) (j k : ℕ) (xs : List Seated)
      → All (λ x. f x.number ≡ j → g x.number ≡ k) xs → All (Sits c t ran f claim_of j) xs
      → All (Sits c t ran g claim_of k) xs
  keep-seats f g j k xs keep sit = λ m d less.
      let s = sit m d less in
      record {
        seat = keep m d less s.seat;
        since = s.since;
        front = s.front;
        others = s.others;
        remembers = s.remembers;
        claim = s.claim;
      }

pub splits : (about : About) (id : ℕ) (v : View)
    → v.seated ≡ acting v ∷ after_first v.seated
    → All (λ x. x.number ≢ (acting v).number) (after_first v.seated) → v.live ≡ true
    → Splits (holds about) id v (dealt_left v) (dealt_right v)
splits about id v is differ live s h there =
    let c = about.config in
    let t = about.trace.now in
    let k = h.each_seat id v there in
    let i : ℕ = (acting v).number in
    let n : ℕ = length (set s.views id (dealt_left v)) in
    let f = seat_put h.seat_of i n in
    let all : All (Sits c t h.ran h.seat_of h.claim_of id) (acting v ∷ after_first v.seated) =
    subst (All (Sits c t h.ran h.seat_of h.claim_of id)) is k.seated in
    let head = All-head (Sits c t h.ran h.seat_of h.claim_of id) (acting v)
    (after_first v.seated) all in
    let rest = All-tail (Sits c t h.ran h.seat_of h.claim_of id) (acting v)
    (after_first v.seated) all in
    let last = at_end (set s.views id (dealt_left v)) (dealt_right v) in
    record {
      valid = h.valid;
      made = h.made;
      ran = h.ran;
      steps = h.steps;
      coded = h.coded;
      claim_of = h.claim_of;
      housed = h.housed;
      seat_of = f;
      each_seat = λ j u there'. elim (last u j there') [
        | inl p ↦ elim (at_set s.views id j (dealt_left v) u p) [
          | inl o ↦ subst (λ m. Knows c t h.ran f h.claim_of m u) (sym o.0)
              (subst (Knows c t h.ran f h.claim_of id) o.1 (record {
                config = k.config;
                trace = k.trace;
                seated = keep-seats c t h.ran h.claim_of h.seat_of f id id (after_first v.seated)
                    (All-weaker (λ x. x.number ≢ i)
                    (λ x. h.seat_of x.number ≡ id → f x.number ≡ id)
                    (λ x other q. stays i n h.seat_of x.number other ∙ q) (after_first v.seated)
                    differ)
                    rest;
              }))
          | inr o ↦ let l = h.each_seat j u o.1 in record {
            config = l.config;
            trace = l.trace;
            seated = keep-seats c t h.ran h.claim_of h.seat_of f j j u.seated
                (λ m d less q. stays i n h.seat_of (get_or u.seated m d).number
                (λ same. o.0 (sym q ∙ ap h.seat_of same ∙ head.seat)) ∙ q)
                l.seated;
          }
        ]
        | inr p ↦ subst (λ m. Knows c t h.ran f h.claim_of m u) (sym p.0)
            (subst (Knows c t h.ran f h.claim_of n) p.1 (record {
              config = k.config;
              trace = k.trace;
              seated = All-cons (Sits c t h.ran f h.claim_of n) (acting v) [] (record {
                seat = here i n h.seat_of;
                since = head.since;
                front = head.front;
                others = head.others;
                remembers = head.remembers;
                claim = head.claim;
              }) (All-nil (Sits c t h.ran f h.claim_of n));
            }))
      ];
    } where
      stays : (s n : ℕ) (f : ℕ → ℕ) (m : ℕ) → m ≢ s → seat_put f s n m ≡ f m
      stays s n f m other = grind (arith, other)

      here : (s n : ℕ) (f : ℕ → ℕ) → seat_put f s n s ≡ n
      here s n f = grind arith

pub joins : (about : About) (id : ℕ) (v : View) (other : ℕ) (u : View)
    → Joins (holds about) id v other u (taken_in v u) spent_view
joins about id v other u s h there apart there' =
    let c = about.config in
    let t = about.trace.now in
    let d : id ≢ other = λ q. apart (sym q) in
    let from : get_elem? s.views other ≡ some u =
    elim (at_set s.views id other (taken_in v u) u there') [
      | inl o ↦ absurd (apart o.0)
      | inr o ↦ o.1
    ] in
    let k = h.each_seat id v there in
    let l = h.each_seat other u from in
    let f = seat_moved h.seat_of other id in
    record {
      valid = h.valid;
      made = h.made;
      ran = h.ran;
      steps = h.steps;
      coded = h.coded;
      claim_of = h.claim_of;
      housed = h.housed;
      seat_of = f;
      each_seat = λ j x q. elim (at_set (set s.views id (taken_in v u)) other j spent_view x q) [
        | inl o ↦ subst (Knows c t h.ran f h.claim_of j) o.1 (record {
          config = λ no. absurd (let never : false ≡ true = no in cc);
          trace = λ no. absurd (let never : false ≡ true = no in cc);
          seated = All-nil (Sits c t h.ran f h.claim_of j);
        })
        | inr o ↦ elim (at_set s.views id j (taken_in v u) x o.1) [
          | inl p ↦ subst (λ m. Knows c t h.ran f h.claim_of m x) (sym p.0)
              (subst (Knows c t h.ran f h.claim_of id) p.1 (record {
                config = k.config;
                trace = k.trace;
                seated = All-append (Sits c t h.ran f h.claim_of id) v.seated u.seated
                    (keep-seats c t h.ran h.claim_of h.seat_of f id id v.seated
                    (λ i y less at. stays h.seat_of other id (get_or v.seated i y).number
                    (λ m. d (sym at ∙ m)) ∙ at) k.seated)
                    (keep-seats c t h.ran h.claim_of h.seat_of f other id u.seated
                    (λ i y less at. comes h.seat_of other id (get_or u.seated i y).number at)
                    l.seated);
              }))
          | inr p ↦ let m = h.each_seat j x p.1 in record {
            config = m.config;
            trace = m.trace;
            seated = keep-seats c t h.ran h.claim_of h.seat_of f j j x.seated
                (λ i y less at. stays h.seat_of other id (get_or x.seated i y).number
                (λ q'. o.0 (sym at ∙ q')) ∙ at) m.seated;
          }
        ]
      ];
    } where
      stays : (f : ℕ → ℕ) (other id n : ℕ) → f n ≢ other → seat_moved f other id n ≡ f n
      stays f other id n ne = grind (arith, ne)

      comes : (f : ℕ → ℕ) (other id n : ℕ) → f n ≡ other → seat_moved f other id n ≡ id
      comes f other id n same = grind (arith, same)
