-- The rule at the table's start, and where seats are split off and taken in.
use Rattle.std.proofs.Common.{◌≡◌, ◌≢◌, ◌⊎◌, ℕ, zero, suc, ◌+◌, ◌≤◌, true, false, ◌==◌}
use Rattle.std.proofs.Common.{if◌then◌else◌, List, [], ◌∷◌, ◌++◌, length, get_or, set, refl, sym}
use Rattle.std.proofs.Common.{ap}
use Rattle.std.proofs.Common.{◌∙◌, subst, inl, inr, arith}
use Rattle.std.specs.Prelude.{All, sum_by}
use Rattle.std.proofs.lemmas.List.Elements.{All-append, All-cons, All-head, All-nil, All-tail}
use Rattle.std.proofs.lemmas.List.Elements.{All-weaker}
use Rattle.std.proofs.lemmas.List.Sums.{sum_by-append, sum_by-cons, sum_by_push}
use mathlib.Core.Option.{some, some-injective, some-ne-none}
use lib.ListN.{get_elem?}
use Rattle.atomic_table.specs.Table.{Joins, Splits, State, opening}
use Rattle.atomic_table.proofs.Lists.{at_longer, at_set, set_else}
use Rattle.ea_segments.specs.declared.calls.Call.{Call}
use Rattle.ea_segments.specs.declared.views.About.{About}
use Rattle.ea_segments.specs.declared.views.Seated.{Seated}
use Rattle.ea_segments.specs.declared.views.View.{View}
use Rattle.ea_segments.specs.Accounts.{Account}
use Rattle.ea_segments.specs.Histories.{IsByOneOf}
use Rattle.ea_segments.specs.Ruling.{IsOf, IsTaken, Sits, acting, after_first}
use Rattle.ea_segments.specs.Ruling.{dealt_left, dealt_right, first, holds, left_in, spent_view}
use Rattle.ea_segments.specs.Ruling.{taken_in, waiting_from}
use Rattle.ea_segments.proofs.Locking.{left-set}

abbrev seated_left : List Seated → ℕ
seated_left xs = sum_by (λ x. x.left) xs

-- schedulers before their first call

waiting-left : (pages most i : ℕ) (ns : List ℕ)
    → seated_left (waiting_from pages most i ns) ≡ sum_by (λ n. n) ns
waiting-left pages most i [] = refl
waiting-left pages most i (n ∷ ns) = omega (
  arith,
  sum_by-cons (λ (x : Seated). x.left)
      (record { number = i; pages = pages; most = most; left = n; seen = []; mine = [] })
      (waiting_from pages most (i + 1) ns),
  sum_by-cons (λ (n : ℕ). n) n ns,
  waiting-left pages most (i + 1) ns,
)

waiting-sits : (a : About) (i : ℕ) (ns : List ℕ) → 1 ≤ i
    → i + length ns ≤ length a.calls.items + 1
    → All (Sits a [] (λ _. 0) 0) (waiting_from a.pages a.most i ns)
waiting-sits a i [] low fits = All-nil (Sits a [] (λ _. 0) 0)
waiting-sits a i (n ∷ ns) low fits =
    All-cons (Sits a [] (λ _. 0) 0)
    (record { number = i; pages = a.pages; most = a.most; left = n; seen = []; mine = [] })
    (waiting_from a.pages a.most (i + 1) ns)
    (record {
      seat = refl;
      within = (low, omega (arith, fits));
      pages = refl;
      most = refl;
      seen = ([], refl);
      mine = refl;
    })
    (waiting-sits a (i + 1) ns (omega arith) (omega (arith, fits)))

pub opens : (a : About) (x : Account) → IsOf a [] x → sum_by (λ n. n) a.calls.items ≤ a.most
    → holds a (opening (0 ∷ []) (x ∷ []) (first a))
opens a x is enough = record {
  log = [];
  seat_of = λ _. 0;
  each_seat = by;
  room = omega (
    arith,
    enough,
    sum_by-cons left_in (first a) [],
    waiting-left a.pages a.most 1 a.calls.items,
  );
  theirs = All-nil (IsByOneOf (length a.calls.items));
  lock = inl (record {
    words = refl;
    account = x;
    homes = refl;
    is = is;
    idle = idle;
  });
} where
  by : (j : ℕ) (v : View) → get_elem? (first a ∷ []) j ≡ some v
      → All (Sits a [] (λ _. 0) j) v.seated
  by zero v q = subst (λ (u : View). All (Sits a [] (λ _. 0) 0) u.seated)
      (some-injective (first a) v q)
      (waiting-sits a 1 a.calls.items (omega arith) (omega arith))
  by (suc j) v q = absurd (some-ne-none v (sym q))

  idle : (j : ℕ) (v : View) → get_elem? (first a ∷ []) j ≡ some v → v.holds ≡ false
  idle zero v q = ap (λ (u : View). u.holds) (sym (some-injective (first a) v q))
  idle (suc j) v q = absurd (some-ne-none v (sym q))

at_end : {A : Type 0} (l : List A) (a b : A) (j : ℕ) → get_elem? (l ++ a ∷ []) j ≡ some b
    → (get_elem? l j ≡ some b) ⊎ ((j ≡ length l) × (a ≡ b))
at_end [] a b zero e = inr (refl, some-injective a b e)
at_end [] a b (suc j) e = absurd (some-ne-none b (sym e))
at_end (x ∷ xs) a b zero e = inl e
at_end (x ∷ xs) a b (suc j) e = elim (at_end xs a b j e) [
  | inl i ↦ inl i
  | inr o ↦ inr (ap suc o.0, o.1)
]

-- whose seat each scheduler has, where s has another
abbrev seat_put : (ℕ → ℕ) → ℕ → ℕ → ℕ → ℕ
seat_put seat_of s id n = if n == s then id else seat_of n

-- and where all of a seat have another
abbrev seat_moved : (ℕ → ℕ) → ℕ → ℕ → ℕ → ℕ
seat_moved seat_of other id n = if seat_of n == other then id else seat_of n

module _ (a : About) (log : List Call) where
  -- schedulers that keep their seats
  keep-seats : (f g : ℕ → ℕ) (j k : ℕ) (xs : List Seated)
      → All (λ x. f x.number ≡ j → g x.number ≡ k) xs → All (Sits a log f j) xs
      → All (Sits a log g k) xs
  keep-seats f g j k xs keep sit = λ m d less.
      let s = sit m d less in
      record {
        seat = keep m d less s.seat;
        within = s.within;
        pages = s.pages;
        most = s.most;
        seen = s.seen;
        mine = s.mine;
      }

-- a seat without the lock is not the one that has it
not-holder : (id : ℕ) (v : View) (s : State Account View) (log : List Call)
    → v.holds ≡ false → get_elem? s.views id ≡ some v → (t : IsTaken log s) → t.holder ≢ id
not-holder id v s log free there t e =
    let same = some-injective v _ (sym there ∙ ap (get_elem? s.views) (sym e) ∙ t.there) in
    let never : true ≡ false = sym (ap (λ (u : View). u.holds) same) ∙ free in cc

pub splits : (a : About) (id : ℕ) (v : View)
    → v.seated ≡ acting v ∷ after_first v.seated
    → All (λ x. x.number ≢ (acting v).number) (after_first v.seated) → v.holds ≡ false
    → Splits (holds a) id v (dealt_left v) (dealt_right v)
splits a id v is differ free s h there =
    let i : ℕ = (acting v).number in
    let n : ℕ = length (set s.views id (dealt_left v)) in
    let f = seat_put h.seat_of i n in
    let all : All (Sits a h.log h.seat_of id) (acting v ∷ after_first v.seated) =
    subst (All (Sits a h.log h.seat_of id)) is (h.each_seat id v there) in
    let head = All-head (Sits a h.log h.seat_of id) (acting v) (after_first v.seated) all in
    let rest = All-tail (Sits a h.log h.seat_of id) (acting v) (after_first v.seated) all in
    let last = at_end (set s.views id (dealt_left v)) (dealt_right v) in
    record {
      log = h.log;
      seat_of = f;
      each_seat = λ j u there'. elim (last u j there') [
        | inl p ↦ elim (at_set s.views id j (dealt_left v) u p) [
          | inl o ↦ subst (λ m. All (Sits a h.log f m) u.seated) (sym o.0)
              (subst (λ (z : View). All (Sits a h.log f id) z.seated) o.1
              (keep-seats a h.log h.seat_of f id id (after_first v.seated)
              (All-weaker (λ (x : Seated). x.number ≢ i)
              (λ x. h.seat_of x.number ≡ id → f x.number ≡ id)
              (λ x other q. stays i n h.seat_of x.number other ∙ q) (after_first v.seated) differ)
              rest))
          | inr o ↦ keep-seats a h.log h.seat_of f j j u.seated
              (λ m d less q. stays i n h.seat_of (get_or u.seated m d).number
              (λ same. o.0 (sym q ∙ ap h.seat_of same ∙ head.seat)) ∙ q)
              (h.each_seat j u o.1)
        ]
        | inr p ↦ subst (λ m. All (Sits a h.log f m) u.seated) (sym p.0)
            (subst (λ (z : View). All (Sits a h.log f n) z.seated) p.1
            (All-cons (Sits a h.log f n) (acting v) [] (record {
              seat = here i n h.seat_of;
              within = head.within;
              pages = head.pages;
              most = head.most;
              seen = head.seen;
              mine = head.mine;
            }) (All-nil (Sits a h.log f n))))
      ];
      room = omega (
        arith,
        h.room,
        sum_by_push left_in (set s.views id (dealt_left v)) (dealt_right v),
        left-set s.views id v (dealt_left v) there,
        ap seated_left is,
        sum_by-cons (λ (x : Seated). x.left) (acting v) (after_first v.seated),
        sum_by-cons (λ (x : Seated). x.left) (acting v) [],
      );
      theirs = h.theirs;
      lock = elim h.lock [
        | inl g ↦ inl (record {
          words = g.words;
          account = g.account;
          homes = g.homes;
          is = g.is;
          idle = λ j u there'. elim (last u j there') [
            | inl p ↦ elim (at_set s.views id j (dealt_left v) u p) [
              | inl o ↦ ap (λ (z : View). z.holds) (sym o.1) ∙ free
              | inr o ↦ g.idle j u o.1
            ]
            | inr p ↦ ap (λ (z : View). z.holds) (sym p.1)
          ];
        })
        | inr t ↦ inr (record {
          by = t.by;
          words = t.words;
          homes = t.homes;
          holder = t.holder;
          there = at_longer (set s.views id (dealt_left v)) (dealt_right v ∷ []) t.holder _
              (set_else s.views id t.holder (dealt_left v) (not-holder id v s h.log free there t)
              ∙ t.there);
          seen = t.seen;
          idle = λ j u there' other. elim (last u j there') [
            | inl p ↦ elim (at_set s.views id j (dealt_left v) u p) [
              | inl o ↦ ap (λ (z : View). z.holds) (sym o.1) ∙ free
              | inr o ↦ t.idle j u o.1 other
            ]
            | inr p ↦ ap (λ (z : View). z.holds) (sym p.1)
          ];
        })
      ];
    } where
      stays : (s n : ℕ) (f : ℕ → ℕ) (m : ℕ) → m ≢ s → seat_put f s n m ≡ f m
      stays s n f m other = grind (arith, other)

      here : (s n : ℕ) (f : ℕ → ℕ) → seat_put f s n s ≡ n
      here s n f = grind arith

pub joins : (a : About) (id : ℕ) (v : View) (other : ℕ) (u : View) → v.holds ≡ false
    → u.holds ≡ false → Joins (holds a) id v other u (taken_in v u) spent_view
joins a id v other u free free' s h there apart there' =
    let d : id ≢ other = λ q. apart (sym q) in
    let from : get_elem? s.views other ≡ some u =
    elim (at_set s.views id other (taken_in v u) u there') [
      | inl o ↦ absurd (apart o.0)
      | inr o ↦ o.1
    ] in
    let f = seat_moved h.seat_of other id in
    let views = set s.views id (taken_in v u) in
    record {
      log = h.log;
      seat_of = f;
      each_seat = λ j x q. elim (at_set views other j spent_view x q) [
        | inl o ↦ subst (λ (z : View). All (Sits a h.log f j) z.seated) o.1
            (All-nil (Sits a h.log f j))
        | inr o ↦ elim (at_set s.views id j (taken_in v u) x o.1) [
          | inl p ↦ subst (λ m. All (Sits a h.log f m) x.seated) (sym p.0)
              (subst (λ (z : View). All (Sits a h.log f id) z.seated) p.1
              (All-append (Sits a h.log f id) v.seated u.seated
              (keep-seats a h.log h.seat_of f id id v.seated
              (λ i y less at. stays h.seat_of other id (get_or v.seated i y).number
              (λ m. d (sym at ∙ m)) ∙ at) (h.each_seat id v there))
              (keep-seats a h.log h.seat_of f other id u.seated
              (λ i y less at. comes h.seat_of other id (get_or u.seated i y).number at)
              (h.each_seat other u from))))
          | inr p ↦ keep-seats a h.log h.seat_of f j j x.seated
              (λ i y less at. stays h.seat_of other id (get_or x.seated i y).number
              (λ q'. o.0 (sym at ∙ q')) ∙ at) (h.each_seat j x p.1)
        ]
      ];
      room = omega (
        arith,
        h.room,
        left-set s.views id v (taken_in v u) there,
        left-set views other u spent_view there',
        sum_by-append (λ (x : Seated). x.left) v.seated u.seated,
      );
      theirs = h.theirs;
      lock = elim h.lock [
        | inl g ↦ inl (record {
          words = g.words;
          account = g.account;
          homes = g.homes;
          is = g.is;
          idle = λ j x q. elim (at_set views other j spent_view x q) [
            | inl o ↦ ap (λ (z : View). z.holds) (sym o.1)
            | inr o ↦ elim (at_set s.views id j (taken_in v u) x o.1) [
              | inl p ↦ ap (λ (z : View). z.holds) (sym p.1) ∙ free
              | inr p ↦ g.idle j x p.1
            ]
          ];
        })
        | inr t ↦ inr (record {
          by = t.by;
          words = t.words;
          homes = t.homes;
          holder = t.holder;
          there = set_else views other t.holder spent_view
              (not-holder other u s h.log free' from t)
              ∙ set_else s.views id t.holder (taken_in v u) (not-holder id v s h.log free there t)
              ∙ t.there;
          seen = t.seen;
          idle = λ j x q away. elim (at_set views other j spent_view x q) [
            | inl o ↦ ap (λ (z : View). z.holds) (sym o.1)
            | inr o ↦ elim (at_set s.views id j (taken_in v u) x o.1) [
              | inl p ↦ ap (λ (z : View). z.holds) (sym p.1) ∙ free
              | inr p ↦ t.idle j x p.1 away
            ]
          ];
        })
      ];
    } where
      stays : (f : ℕ → ℕ) (other id n : ℕ) → f n ≢ other → seat_moved f other id n ≡ f n
      stays f other id n ne = grind (arith, ne)

      comes : (f : ℕ → ℕ) (other id n : ℕ) → f n ≡ other → seat_moved f other id n ≡ id
      comes f other id n same = grind (arith, same)
