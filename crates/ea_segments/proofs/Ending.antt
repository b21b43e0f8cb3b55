-- The seats that are taken in, and the table when it is closed.
use Rattle.std.proofs.Common.{◌≡◌, ◌≢◌, ℕ, ◌≤◌, true, false, List, [], ◌∷◌, ◌++◌}
use Rattle.std.proofs.Common.{length, map, sym, ap, ◌∙◌, subst, inl, inr}
use Rattle.std.specs.Prelude.{All}
use Rattle.std.proofs.lemmas.List.{append-nil, append_assoc}
use Rattle.std.proofs.lemmas.List.Elements.{All-append, All-cons, All-head, All-nil, All-tail}
use mathlib.Core.Option.{some, some-injective}
use lib.ListN.{get_elem?}
use Rattle.atomic_table.specs.Table.{Final, Seen}
use Rattle.ea_model.proofs.Pairs.{all_unmap}
use Rattle.ea_segments.specs.declared.calls.Call.{Call}
use Rattle.ea_segments.specs.declared.pass.Pass.{Pass}
use Rattle.ea_segments.specs.declared.views.About.{About}
use Rattle.ea_segments.specs.declared.views.Seated.{Seated}
use Rattle.ea_segments.specs.declared.views.View.{View}
use Rattle.ea_segments.specs.Accounts.{Account}
use Rattle.ea_segments.specs.Histories.{IsByOneOf, StartsWith, calls_of}
use Rattle.ea_segments.specs.Ruling.{IsSingle, Sits, acting, holds, taken_in}
use Rattle.ea_segments.specs.Seating.{IsAmong, known}

-- the view of a seat with these schedulers beside its own
abbrev pub beside : View → List Seated → View
beside v xs = record { holds = false; seated = v.seated ++ xs }

pub beside-none : (v : View) → v.holds ≡ false → v ≡ beside v []
beside-none v free = let all = sym (append-nil v.seated) in
    λ i. record { holds = free i; seated = all i }

pub beside-more : (v u w x : View) (xs : List Seated) → u ≡ beside v xs → IsSingle w
    → x ≡ taken_in u w → x ≡ beside v (xs ++ acting w ∷ [])
beside-more v u w x xs is single took = took ∙ ap (λ y. taken_in y w) is
    ∙ ap (λ (ys : List Seated). record { holds = false; seated = v.seated ++ xs ++ ys })
    (ap (λ (y : View). y.seated) single)
    ∙ ap (λ (ys : List Seated). record { holds = false; seated = ys })
    (append_assoc v.seated xs (acting w ∷ []))

module _ (a : About) where
  -- the history begins with what the scheduler has seen, and has its calls
  abbrev pub Told : List Call → Seated → Type 0
  Told log x = StartsWith log x.seen × (calls_of x.number log ≡ x.mine)

  pub record IsClosed (v : View) (y : Account) : Type 0 where
    pub pages : y.pages ≡ a.pages
    pub each : All (Told y.history) v.seated
    pub theirs : All (IsByOneOf (length a.calls.items)) y.history

  told-of : (log : List Call) (seat_of : ℕ → ℕ) (j : ℕ) (xs : List Seated)
      → All (Sits a log seat_of j) xs → All (Told log) xs
  told-of log seat_of j xs sit = λ k d less. let s = sit k d less in (s.seen, s.mine)

  -- a seat that has every scheduler, and has not the lock, finds the ledger at home
  pub closes : (id : ℕ) (v : View) (ws : List ℕ) (xs : List Account)
      → Final (Seen (holds a) id v) ws xs → v.holds ≡ false
      → ((n : ℕ) → 1 ≤ n → n ≤ length a.calls.items → All (λ x. x.number ≢ n) v.seated → ⊥)
      → (y : Account) → get_elem? xs 0 ≡ some y → IsClosed v y
  closes id v ws xs (s, (h, there), words, count, homes) free covers y is = elim h.lock [
    | inl f ↦
        let same : y ≡ f.account = some-injective y f.account
        (sym is ∙ homes 0 f.account (ap (λ hs. get_elem? hs 0) f.homes)) in
        let log : y.history ≡ h.log = ap (λ (z : Account). z.history) same ∙ f.is.history in
        record {
          pages = ap (λ (z : Account). z.pages) same ∙ f.is.pages;
          each = subst (λ l. All (Told l) v.seated) (sym log)
              (told-of h.log h.seat_of id v.seated (h.each_seat id v there));
          theirs = subst (All (IsByOneOf (length a.calls.items))) (sym log) h.theirs;
        }
    | inr t ↦
        let by = All-head (Sits a h.log h.seat_of t.holder) t.by []
        (h.each_seat t.holder (record { holds = true; seated = t.by ∷ [] }) t.there) in
        absurd (covers t.by.number by.within.0 by.within.1 (λ k d less e.
        let mine = h.each_seat id v there k d less in
        let at : t.holder ≡ id = sym by.seat ∙ ap h.seat_of (sym e) ∙ mine.seat in
        let same = some-injective v _ (sym there ∙ ap (get_elem? s.views) (sym at) ∙ t.there) in
        let never : true ≡ false = sym (ap (λ (u : View). u.holds) same) ∙ free in cc))
  ]

-- what holds of each scheduler of the seat holds of each pass
pub each-pass : (P : Seated → Type 0) (others : List Pass) (last : Pass) (passes : List Pass)
    → passes ≡ others ++ last ∷ []
    → All P (acting last.seat.me.0 ∷ map (λ (p : Pass). acting p.seat.me.0) others)
    → All (λ p. P (known p)) passes
each-pass P others last passes are all =
    subst (All (λ (p : Pass). P (known p))) (sym are)
    (All-append (λ (p : Pass). P (known p)) others (last ∷ [])
    (all_unmap P (λ (p : Pass). acting p.seat.me.0) others
    (All-tail P (acting last.seat.me.0) (map (λ (p : Pass). acting p.seat.me.0) others) all))
    (All-cons (λ (p : Pass). P (known p)) last []
    (All-head P (acting last.seat.me.0) (map (λ (p : Pass). acting p.seat.me.0) others) all)
    (All-nil (λ (p : Pass). P (known p)))))

-- no scheduler is missing
pub none-missing : (others : List Pass) (last : Pass) (passes : List Pass)
    → passes ≡ others ++ last ∷ [] → (n : ℕ) → IsAmong n passes
    → All (λ x. x.number ≢ n)
    (acting last.seat.me.0 ∷ map (λ (p : Pass). acting p.seat.me.0) others) → ⊥
none-missing others last passes are n (k, within, is) all =
    each-pass (λ (x : Seated). x.number ≢ n) others last passes are all k last within (is last)
