-- Passes that are dealt, one for each scheduler.
use Rattle.std.proofs.Common.{◌≡◌, ◌≢◌, ℕ, zero, suc, ◌+◌, ◌-◌, ◌<◌, ◌≤◌, false, List, [], ◌∷◌}
use Rattle.std.proofs.Common.{◌++◌}
use Rattle.std.proofs.Common.{drop, length, take, get_or, refl, sym, ap, ◌∙◌, subst, inl, inr}
use Rattle.std.proofs.Common.{arith}
use Rattle.std.specs.Prelude.{All, sum_by}
use Rattle.std.proofs.lemmas.Bool.{cases_lt}
use Rattle.std.proofs.lemmas.List.{drop_more, get_or-append_right, get_or_append_left, length_push}
use Rattle.std.proofs.lemmas.List.Elements.{All-cons, All-nil}
use Rattle.atomic_table.specs.Seated.{TableId}
use Rattle.atomic_table.specs.Table.{Splits}
use Rattle.ea_segments.specs.declared.pass.Pass.{Pass}
use Rattle.ea_segments.specs.declared.views.About.{About}
use Rattle.ea_segments.specs.declared.views.Seated.{Seated}
use Rattle.ea_segments.specs.declared.views.View.{View}
use Rattle.ea_segments.specs.Ruling.{IsSingle, acting, dealt_left, dealt_right, holds, waiting_from}
use Rattle.ea_segments.specs.Seating.{IsFresh}
use Rattle.ea_segments.proofs.Dealing.{splits}

-- a seat that has the schedulers from number i on, before their first call
abbrev pub waiting : About → ℕ → List ℕ → View
waiting a i ns = record { holds = false; seated = waiting_from a.pages a.most i ns }

abbrev pub fresh : About → ℕ → ℕ → Seated
fresh a i n = record { number = i; pages = a.pages; most = a.most; left = n; seen = []; mine = [] }

apart-from : (a : About) (i j : ℕ) (ns : List ℕ) → i < j
    → All (λ x. x.number ≢ i) (waiting_from a.pages a.most j ns)
apart-from a i j [] less = All-nil (λ (x : Seated). x.number ≢ i)
apart-from a i j (n ∷ ns) less =
    All-cons (λ (x : Seated). x.number ≢ i) (fresh a j n) (waiting_from a.pages a.most (j + 1) ns)
    (λ q. omega (arith, less, q)) (apart-from a i (j + 1) ns (omega (arith, less)))

-- the next of those that are left
pub next-left : (ns : List ℕ) (k : ℕ) → k < length ns → drop k ns ≡ get_or ns k 0 ∷ drop (k + 1) ns
next-left ns k less = drop_more ns k 0 less

module _ (a : About) (i n : ℕ) (ns : List ℕ) (v : View) (is : v ≡ waiting a i (n ∷ ns)) where
  pub deals : (id : ℕ) → Splits (holds a) id v (dealt_left v) (dealt_right v)
  deals id = subst (λ u. Splits (holds a) id u (dealt_left u) (dealt_right u)) (sym is)
      (splits a id (waiting a i (n ∷ ns)) refl (apart-from a i (i + 1) ns (omega arith)) refl)

  pub left-is : (u : View) → u ≡ dealt_left v → u ≡ waiting a (i + 1) ns
  left-is u left = left ∙ ap dealt_left is

  pub right-is : (u : View) → u ≡ dealt_right v → u ≡ waiting a i (n ∷ [])
  right-is u right = right ∙ ap dealt_right is

module _ (a : About) (i n : ℕ) (v : View) (is : v ≡ waiting a i (n ∷ [])) where
  pub single-is : IsSingle v
  single-is = subst IsSingle (sym is) refl

  pub idle-is : v.holds ≡ false
  idle-is = ap (λ (u : View). u.holds) is

  pub fresh-is : acting v ≡ fresh a i n
  fresh-is = ap acting is

pub one-more : {A : Type 0} (P : ℕ → A → Type 0) (n : ℕ) (xs : List A) → length xs ≡ n
    → ((k : ℕ) (d : A) → k < n → P k (get_or xs k d)) → (x : A) → P n x
    → (k : ℕ) (d : A) → k < n + 1 → P k (get_or (xs ++ x ∷ []) k d)
one-more P n xs many are x at k d within =
    elim (cases_lt k (length xs)) [
      | inl below ↦ subst (P k) (sym (get_or_append_left xs (x ∷ []) d k below))
          (are k d (omega (arith, below, many)))
      | inr past ↦
          let last : k ≡ n = omega (arith, past, many, within) in
          subst (λ j. P j (get_or (xs ++ x ∷ []) j d)) (sym last)
          (subst (P n) (sym (get_or-append_right xs (x ∷ []) n n d many (omega arith)
          ∙ ap (λ j. get_or (x ∷ []) j d) (none n))) at)
    ] where
      none : (n : ℕ) → n - n ≡ 0
      none n = omega arith

module _ (a : About) (id : TableId) where
  abbrev pub IsDealt : ℕ → Pass → Type 0
  IsDealt k p = IsFresh id a (k + 1) (get_or a.calls.items k 0) p

  -- passes of the first n schedulers
  pub record ArePasses (n : ℕ) (passes : List Pass) : Type 0 where
    pub count : length passes ≡ n
    pub each : (k : ℕ) (d : Pass) → k < n → IsDealt k (get_or passes k d)

  pub one-dealt : (n : ℕ) (passes : List Pass) (p : Pass) → ArePasses n passes → IsDealt n p
      → ArePasses (n + 1) (passes ++ p ∷ [])
  one-dealt n passes p are is = record {
    count = omega (arith, length_push passes p, are.count);
    each = one-more IsDealt n passes are.count are.each p is;
  }

drop-all : (ns : List ℕ) (k : ℕ) → length ns ≡ k → drop k ns ≡ []
drop-all [] zero e = refl
drop-all [] (suc k) e = absurd (omega arith)
drop-all (n ∷ ns) zero e = absurd (omega arith)
drop-all (n ∷ ns) (suc k) e = drop-all ns k (omega arith)

pub last-left : (ns : List ℕ) (k : ℕ) → length ns ≡ k + 1 → drop k ns ≡ get_or ns k 0 ∷ []
last-left ns k e =
    next-left ns k (omega arith)
    ∙ ap (λ (ms : List ℕ). get_or ns k 0 ∷ ms) (drop-all ns (k + 1) e)

drop-past : (ns : List ℕ) (k : ℕ) → length ns ≤ k → drop k ns ≡ []
drop-past [] zero e = refl
drop-past [] (suc k) e = refl
drop-past (n ∷ ns) zero e = absurd (omega (arith, e))
drop-past (n ∷ ns) (suc k) e = drop-past ns k (omega (arith, e))

-- the sum that was counted to the end
pub counted : (most k total : ℕ) (ns : List ℕ) → most + sum_by (λ n. n) (drop k ns) ≡ total
    → length ns ≤ k → total ≤ most
counted most k total ns rest end =
    omega (arith, rest, ap (sum_by (λ (n : ℕ). n)) (drop-past ns k end))

-- an item of a list that has some
pub any-of : {A : Type 0} (xs : List A) → 0 < length xs → A
any-of [] some-item = absurd (omega (arith, some-item))
any-of (x ∷ xs) some-item = x

pub whole : {A : Type 0} (n : ℕ) (xs ys : List A) → length xs ≡ n → take n (xs ++ ys) ≡ xs
whole zero [] ys e = refl
whole (suc n) [] ys e = absurd (omega arith)
whole zero (x ∷ xs) ys e = absurd (omega arith)
whole (suc n) (x ∷ xs) ys e = ap (λ zs. x ∷ zs) (whole n xs ys (omega arith))
