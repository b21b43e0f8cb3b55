-- A try for the lock, and the ledger's way back.
use Rattle.std.proofs.Common.{◌≡◌, ◌≢◌, ℕ, zero, suc, ◌+◌, ◌-◌, ◌≤◌, true, false}
use Rattle.std.proofs.Common.{List, [], ◌∷◌, ◌++◌, drop, length, set, slice_index, sym, ap, ◌∙◌}
use Rattle.std.proofs.Common.{subst, refl, inl, inr, arith, get_or, ◌==◌}
use Rattle.std.specs.Prelude.{All}
use Rattle.std.proofs.lemmas.List.{append-nil, append_assoc, length_push}
use Rattle.std.proofs.lemmas.List.Elements.{All-append, All-cons, All-head, All-nil, filter-append}
use Rattle.std.proofs.lemmas.List.Sums.{sum_by-cons}
use mathlib.Core.Option.{none, some, some-injective, some-ne-none}
use mathlib.Core.Logic.{dite}
use native.Mathlib.Decide.{ℕ_discrete}
use lib.ListN.{get_elem?}
use Rattle.atomic_table.specs.Table.{Act, Allows, Me, State, Step, Valid, carried_after, gives}
use Rattle.atomic_table.specs.Table.{keeps, stepped, takes}
use Rattle.atomic_table.proofs.Lists.{at_set, exchanged, set_again}
use Rattle.ea_segments.specs.declared.calls.Call.{Call}
use Rattle.ea_segments.specs.declared.views.About.{About}
use Rattle.ea_segments.specs.declared.views.Seated.{Seated}
use Rattle.ea_segments.specs.declared.views.View.{View}
use Rattle.ea_segments.specs.Accounts.{Account}
use Rattle.ea_segments.specs.Histories.{IsByOneOf, StartsWith, calls_of}
use Rattle.ea_segments.specs.Ruling.{IsFree, IsSingle, IsTaken, Keeps, Sits, Won, acting}
use Rattle.ea_segments.specs.Ruling.{ends, holds, left_in, left_of, locked, released, tries}
use prog.Atomic.{either}

-- lists of views

pub put_here : {A : Type 0} (l : List A) (i : ℕ) (a b : A) → get_elem? l i ≡ some a
    → get_elem? (set l i b) i ≡ some b
put_here [] i a b e = absurd (some-ne-none a (sym e))
put_here (x ∷ xs) zero a b e = refl
put_here (x ∷ xs) (suc i) a b e = put_here xs i a b e

pub left-set : (vs : List View) (i : ℕ) (v w : View) → get_elem? vs i ≡ some v
    → left_of (set vs i w) + left_in v ≡ left_of vs + left_in w
left-set [] i v w e = absurd (some-ne-none v (sym e))
left-set (x ∷ xs) zero v w e =
    let same : left_in x ≡ left_in v = ap left_in (some-injective x v e) in
    omega (arith, same, sum_by-cons left_in x xs, sum_by-cons left_in w xs)
left-set (x ∷ xs) (suc i) v w e = omega (
  arith,
  left-set xs i v w e,
  sum_by-cons left_in x xs,
  sum_by-cons left_in x (set xs i w),
)

pub left-most : (vs : List View) (i : ℕ) (v : View) → get_elem? vs i ≡ some v
    → left_in v ≤ left_of vs
left-most [] i v e = absurd (some-ne-none v (sym e))
left-most (x ∷ xs) zero v e =
    let same : left_in x ≡ left_in v = ap left_in (some-injective x v e) in
    omega (arith, same, sum_by-cons left_in x xs)
left-most (x ∷ xs) (suc i) v e = omega (arith, left-most xs i v e, sum_by-cons left_in x xs)

pub left-single : (v : View) → IsSingle v → left_in v ≡ (acting v).left
left-single v is = ap left_in is ∙ sum_by-cons (λ (x : Seated). x.left) (acting v) [] ∙ omega arith

-- the words are those of one word

first-word : (ws : List ℕ) (n : ℕ) → ws ≡ n ∷ [] → slice_index ws 0 ≡ n
first-word ws n e = ap (λ (us : List ℕ). slice_index us 0) e

same-word : (ws : List ℕ) (n : ℕ) → ws ≡ n ∷ [] → set ws 0 (slice_index ws 0) ≡ ws
same-word ws n e = ap (λ (us : List ℕ). set us 0 (slice_index us 0)) e ∙ sym e

-- calls of others, and one's own last call

calls-other : (i : ℕ) (log : List Call) (c : Call) → c.scheduler ≢ i
    → calls_of i (log ++ c ∷ []) ≡ calls_of i log
calls-other i log c other =
    filter-append (λ (d : Call). d.scheduler == i) log (c ∷ [])
    ∙ ap (λ ds. calls_of i log ++ ds) (none c other) ∙ append-nil (calls_of i log) where
      none : (c : Call) → c.scheduler ≢ i → calls_of i (c ∷ []) ≡ []
      none c other = grind (arith, other)

pub calls-own : (i : ℕ) (log : List Call) (c : Call) → c.scheduler ≡ i
    → calls_of i (log ++ c ∷ []) ≡ calls_of i log ++ c ∷ []
calls-own i log c own =
    filter-append (λ (d : Call). d.scheduler == i) log (c ∷ [])
    ∙ ap (λ ds. calls_of i log ++ ds) (one c own) where
      one : (c : Call) → c.scheduler ≡ i → calls_of i (c ∷ []) ≡ c ∷ []
      one c own = grind (arith, own)

pub drop-front : (cs ds : List Call) → drop (length cs) (cs ++ ds) ≡ ds
drop-front [] ds = refl
drop-front (c ∷ cs) ds = drop-front cs ds

module _ (a : About) where
  -- the scheduler of a seat that has one
  pub sits-one : (log : List Call) (seat_of : ℕ → ℕ) (j : ℕ) (v : View) → IsSingle v
      → All (Sits a log seat_of j) v.seated → Sits a log seat_of j (acting v)
  sits-one log seat_of j v is all =
      All-head (Sits a log seat_of j) (acting v) []
      (subst (λ (u : View). All (Sits a log seat_of j) u.seated) is all)

  module _ (v : View) (is : IsSingle v) (id : ℕ) (slots : ℕ) (st : Step Account) where
    -- what a step may leave
    abbrev Leaves : List (ℕ × Account) → (ℕ → ℕ)
        → (ℕ → Me Account View → Type 0) → State Account View → Type 0
    Leaves xs f then s = (w : View) × (x : Act Account) × Valid s.homes xs x
        × holds a (stepped s 0 (f (slice_index s.words 0)) id xs w x)
        × then (slice_index s.words 0) (w, carried_after xs x)

    module _ (s : State Account View) (h : Keeps a s) (there : get_elem? s.views id ≡ some v) where
      sits : Sits a h.log h.seat_of id (acting v)
      sits = sits-one h.log h.seat_of id v is (h.each_seat id v there)

      -- the lock is won
      won : (number : ℕ) → number ≡ (acting v).number → (f : IsFree a h.log s)
          → Valid s.homes [] (takes 0 f.account)
          × holds a (stepped s 0 number id [] (locked v f.account.history) (takes 0 f.account))
          × Won (v, []) (locked v f.account.history, carried_after [] (takes 0 f.account))
      won number is_own f =
          let x = f.account in
          let w = locked v x.history in
          let me : Seated = record (acting v) { seen = x.history } in
          let same : left_in w ≡ left_in v =
          sum_by-cons (λ (y : Seated). y.left) me [] ∙ sym (omega (arith, left-single v is)) in (
            ap (λ hs. get_elem? hs 0) f.homes,
            record {
              log = h.log;
              seat_of = h.seat_of;
              each_seat = λ j u there'. elim (at_set s.views id j w u there') [
                | inl o ↦ subst (λ m. All (Sits a h.log h.seat_of m) u.seated) (sym o.0)
                    (subst (λ (z : View). All (Sits a h.log h.seat_of id) z.seated) o.1
                    (All-cons (Sits a h.log h.seat_of id) me [] (record {
                      seat = sits.seat;
                      within = sits.within;
                      pages = sits.pages;
                      most = sits.most;
                      seen = ([], sym f.is.history ∙ sym (append-nil x.history));
                      mine = sits.mine;
                    }) (All-nil (Sits a h.log h.seat_of id))))
                | inr o ↦ h.each_seat j u o.1
              ];
              room = omega (arith, h.room, left-set s.views id v w there, same);
              theirs = h.theirs;
              lock = inr (record {
                by = me;
                words = ap (λ (ws : List ℕ). set ws 0 number) f.words
                    ∙ ap (λ n. n ∷ []) is_own;
                homes = ap (λ hs. set hs 0 none) f.homes;
                holder = id;
                there = put_here s.views id v w there;
                seen = f.is.history;
                idle = λ j u there' other. elim (at_set s.views id j w u there') [
                  | inl o ↦ absurd (other o.0)
                  | inr o ↦ f.idle j u o.1
                ];
              });
            },
            record {
              account = x;
              slots = refl;
              view = refl;
              pages = f.is.pages ∙ sym sits.pages;
              most = f.is.most ∙ sym sits.most;
              front = subst (λ l. StartsWith l (acting v).seen) (sym f.is.history) sits.seen;
              mine = ap (calls_of (acting v).number) f.is.history ∙ sits.mine;
              room = omega (
                arith,
                h.room,
                left-most s.views id v there,
                left-single v is,
                ap length f.is.history,
                sits.most,
              );
            },
          )

      -- the table is as it was
      word-of : (n : ℕ) × (s.words ≡ n ∷ [])
      word-of = elim h.lock [ inl f ↦ (0, f.words) | inr t ↦ (t.by.number, t.words) ]

      stays : (found : ℕ) → found ≡ slice_index s.words 0
          → holds a (stepped s 0 found id [] v keeps)
      stays found e =
          let words : set s.words 0 found ≡ s.words =
          ap (set s.words 0) e ∙ same-word s.words word-of.0 word-of.1 in
          let views = set_again s.views id v there in
          subst (λ (ws : List ℕ).
          holds a (record { words = ws; homes = s.homes; views = set s.views id v })) (sym words)
          (subst (λ (us : List View).
          holds a (record { words = s.words; homes = s.homes; views = us })) (sym views) h)

      -- a word that is taken is the holder's number, which isn't 0
      taken-word : (t : IsTaken h.log s) → slice_index s.words 0 ≢ 0
      taken-word t zero_word =
          let by = sits-one h.log h.seat_of t.holder (record { holds = true; seated = t.by ∷ [] })
          refl (h.each_seat t.holder (record { holds = true; seated = t.by ∷ [] }) t.there) in
          omega (arith, by.within.0, first-word s.words t.by.number t.words, zero_word)

      tried : (number : ℕ) → number ≡ (acting v).number
          → Leaves [] (λ n. either (n == 0) number n) (tries st (v, [])) s
      tried number is_own =
          let found = slice_index s.words 0 in
          exchanged found 0 number
          (λ k. (w : View) × (x : Act Account) × Valid s.homes [] x
          × holds a (stepped s 0 k id [] w x)
          × tries st (v, []) found (w, carried_after [] x))
          (λ hit. elim h.lock [
            | inl f ↦ let (valid, rule, told) = won number is_own f in (
              locked v f.account.history,
              takes 0 f.account,
              valid,
              rule,
              ((λ q. told), (λ q. absurd (q hit))),
            )
            | inr t ↦ absurd (taken-word t hit)
          ])
          (λ miss. (v, keeps, tt, stays found refl, ((λ q. absurd (miss q)), (λ q. refl))))

      module _ (x : Account) (c : Call) (pages : x.pages ≡ (acting v).pages)
          (most : x.most ≡ (acting v).most) (history : x.history ≡ (acting v).seen ++ c ∷ [])
          (number : c.scheduler ≡ (acting v).number) (left : 1 ≤ (acting v).left)
          (has : v.holds ≡ true) where
        -- the seat is the one that has the lock
        is-holder : (t : IsTaken h.log s) → (t.holder ≡ id) × ((acting v).seen ≡ h.log)
        is-holder t = dite (ℕ_discrete id t.holder)
            (λ e. let same : v ≡ record { holds = true; seated = t.by ∷ [] } =
            some-injective v _ (sym there ∙ ap (get_elem? s.views) e ∙ t.there) in
            (sym e, ap (λ (u : View). (acting u).seen) same ∙ t.seen))
            (λ n. absurd (let never : true ≡ false = sym has ∙ t.idle id v there n in cc))

        gave : (t : IsTaken h.log s)
            → holds a (stepped s 0 0 id ((0, x) ∷ []) (released v x) gives)
        gave t =
            let (mine, seen) = is-holder t in
            let w = released v x in
            let grown : x.history ≡ h.log ++ c ∷ [] = history
            ∙ ap (λ (l : List Call). l ++ c ∷ []) seen in
            let rest : drop (length (acting v).seen) x.history ≡ c ∷ [] =
            ap (drop (length (acting v).seen)) history ∙ drop-front (acting v).seen (c ∷ []) in
            let me : Seated = record (acting v) {
              left = (acting v).left - 1;
              seen = x.history;
              mine = (acting v).mine ++ drop (length (acting v).seen) x.history;
            } in
            let fewer : left_in w ≡ (acting v).left - 1 =
            sum_by-cons (λ (y : Seated). y.left) me [] ∙ omega arith in
            record {
              log = x.history;
              seat_of = h.seat_of;
              each_seat = λ j u there'. elim (at_set s.views id j w u there') [
                | inl o ↦ subst (λ m. All (Sits a x.history h.seat_of m) u.seated) (sym o.0)
                    (subst (λ (z : View). All (Sits a x.history h.seat_of id) z.seated) o.1
                    (All-cons (Sits a x.history h.seat_of id) me [] (record {
                      seat = sits.seat;
                      within = sits.within;
                      pages = sits.pages;
                      most = sits.most;
                      seen = ([], sym (append-nil x.history));
                      mine = ap (calls_of (acting v).number) grown
                          ∙ calls-own (acting v).number h.log c number
                          ∙ ap (λ (l : List Call). l ++ c ∷ []) sits.mine
                          ∙ ap (λ (l : List Call). (acting v).mine ++ l) (sym rest);
                    }) (All-nil (Sits a x.history h.seat_of id))))
                | inr o ↦ λ k d less.
                    let y = h.each_seat j u o.1 k d less in
                    let i : ℕ = (get_or u.seated k d).number in
                    record {
                      seat = y.seat;
                      within = y.within;
                      pages = y.pages;
                      most = y.most;
                      seen = (
                        y.seen.0 ++ c ∷ [],
                        grown ∙ ap (λ (l : List Call). l ++ c ∷ []) y.seen.1
                            ∙ append_assoc (get_or u.seated k d).seen y.seen.0 (c ∷ []),
                      );
                      mine = ap (calls_of i) grown
                          ∙ calls-other i h.log c
                          (λ e. o.0 (sym y.seat ∙ ap h.seat_of (sym e ∙ number) ∙ sits.seat))
                          ∙ y.mine;
                    }
              ];
              room = omega (
                arith,
                h.room,
                left,
                left-set s.views id v w there,
                left-single v is,
                fewer,
                ap length grown,
                length_push h.log c,
              );
              theirs = subst (All (IsByOneOf (length a.calls.items))) (sym grown)
                  (All-append (IsByOneOf (length a.calls.items)) h.log (c ∷ []) h.theirs
                  (All-cons (IsByOneOf (length a.calls.items)) c []
                  (omega (arith, number, sits.within.0), omega (arith, number, sits.within.1))
                  (All-nil (IsByOneOf (length a.calls.items)))));
              lock = inl (record {
                words = ap (λ (ws : List ℕ). set ws 0 0) t.words;
                account = x;
                homes = ap (λ hs. set hs 0 (some x)) t.homes;
                is = record {
                  pages = pages ∙ sits.pages;
                  most = most ∙ sits.most;
                  history = refl;
                };
                idle = λ j u there'. elim (at_set s.views id j w u there') [
                  | inl o ↦ ap (λ (z : View). z.holds) (sym o.1)
                  | inr o ↦ t.idle j u o.1 (λ e. o.0 (e ∙ mine))
                ];
              });
            }

        ended : Leaves ((0, x) ∷ []) (λ _. 0) (λ _. ends st (v, (0, x) ∷ []) 0) s
        ended = elim h.lock [
          | inl f ↦ absurd (let never : true ≡ false = sym has ∙ f.idle id v there in cc)
          | inr t ↦ (released v x, gives, tt, gave t, refl)
        ]

    -- a seat without the lock may try for it
    pub may-try : (number : ℕ) → number ≡ (acting v).number
        → Allows (holds a) slots id (v, []) 0 (λ n. either (n == 0) number n) (tries st (v, []))
    may-try number is_own s h count there bound = tried s h there number is_own

    -- a seat that has it may give the ledger back, with one more call of its scheduler
    pub may-end : (xs : List (ℕ × Account)) (x : Account) (c : Call) → xs ≡ (0, x) ∷ []
        → x.pages ≡ (acting v).pages → x.most ≡ (acting v).most
        → x.history ≡ (acting v).seen ++ c ∷ [] → c.scheduler ≡ (acting v).number
        → 1 ≤ (acting v).left → v.holds ≡ true
        → Allows (holds a) slots id (v, xs) 0 (λ _. 0) (λ _. ends st (v, xs) 0)
    may-end xs x c carries pages most history number left has =
        subst (λ ys. Allows (holds a) slots id (v, ys) 0 (λ _. 0) (λ _. ends st (v, ys) 0))
        (sym carries)
        (λ s h count there bound. ended s h there x c pages most history number left has)
