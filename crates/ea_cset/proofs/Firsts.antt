-- The first carrier that fits, found in an order.
use Rattle.std.proofs.Common.{◌≡◌, ℕ, ◌+◌, ◌*◌, ◌^◌, ◌<◌, ◌≤◌, Bool, true, false, List, [], ◌∷◌}
use Rattle.std.proofs.Common.{get_or, sym, ap, ◌∙◌, subst, refl, inl, inr, arith}
use Rattle.std.specs.Prelude.{All, AllPairs, Option, Some, None, IfSome, IsNone, find, nat_lt}
use Rattle.std.specs.Prelude.{is_some, option_map}
use Rattle.std.specs.Cmp.{IsStrictWeakOrder}
use Rattle.std.proofs.lemmas.Bool.{cases_Bool, cases_eq, cases_lt, cond-true, cond-false, leb-true}
use Rattle.std.proofs.lemmas.Bool.Decides.{nat_tests}
use Rattle.ea_model.specs.Choice.{less}
use Rattle.ea_model.specs.Keyed.{item_at, IsBelow}
use Rattle.ea_model.proofs.Options.{same-some}
use Rattle.ea_model.proofs.Pairs.{pairs_head, pairs_tail}
use Rattle.ea_model.proofs.Rising.{item_at-All, item_at-each, item_here, item_past}
use Rattle.ea_cset.specs.declared.keys.CarrierFit.{CarrierFit}
use Rattle.ea_cset.specs.declared.keys.Found.{Found}
use Rattle.ea_cset.specs.declared.keys.Order.{Order}
use Rattle.ea_cset.specs.declared.keys.Order.TheVariants.{Address, Age}
use Rattle.ea_cset.specs.declared.ranking.Rank.{Rank}
use Rattle.ea_cset.specs.Carriers.{number_of, carrier_of, carrier_found, comes_first}
use Rattle.ea_cset.specs.Carriers.{number_found, first_number, IsBefore, IsFirstOf}
use Rattle.ea_cset.specs.Ranks.{fits, order_key, rank_key, rank_of, IsRankedBy, Ranks}
use Rattle.ea_cset.proofs.First.{first_number-none, first_number-IsFirstOf}
use Rattle.ea_cset.proofs.Rising.{rising}

module _ (need : ℕ) where
  find-there : (r : Rank) (rs : List Rank) → AllPairs (IsBelow rank_key) rs
      → find (fits need) rs ≡ Some r → (item_at rank_key rs r.key ≡ Some r) × (fits need r ≡ true)
  find-there r [] rises e = absurd cc
  find-there r (x ∷ xs) rises e =
      elim (cases_Bool (fits need x)) [
        | inl t ↦
            let is : x ≡ r = same-some (find (fits need) (x ∷ xs)) x r
            (cond-true (fits need x) (Some x) (find (fits need) xs) t) e in
            subst (λ (y : Rank). (item_at rank_key (x ∷ xs) y.key ≡ Some y)
            × (fits need y ≡ true)) is (item_here rank_key x.key x xs refl, t)
        | inr f ↦
            let later = find-there r xs (pairs_tail (IsBelow rank_key) x xs rises)
            (sym (cond-false (fits need x) (Some x) (find (fits need) xs) f) ∙ e) in
            let above : x.key < r.key = item_at-All rank_key (IsBelow rank_key x) r.key r xs
            (pairs_head (IsBelow rank_key) x xs rises) later.0 in
            (item_past rank_key r.key x xs (λ same. omega (arith, same, above)) ∙ later.0, later.1)
      ]

  find-least : (r s : Rank) (k : ℕ) (rs : List Rank) → AllPairs (IsBelow rank_key) rs
      → find (fits need) rs ≡ Some r → item_at rank_key rs k ≡ Some s → fits need s ≡ true
      → r.key ≤ s.key
  find-least r s k [] rises e there fit = absurd cc
  find-least r s k (x ∷ xs) rises e there fit =
      elim (cases_Bool (fits need x)) [
        | inl t ↦
            let is : x ≡ r = same-some (find (fits need) (x ∷ xs)) x r
            (cond-true (fits need x) (Some x) (find (fits need) xs) t) e in
            subst (λ (y : Rank). y.key ≤ s.key) is (elim (cases_eq x.key k) [
              | inl same ↦
                  let one : x ≡ s = same-some (item_at rank_key (x ∷ xs) k) x s
                  (item_here rank_key k x xs same) there in
                  subst (λ (y : Rank). x.key ≤ y.key) one (omega arith)
              | inr other ↦
                  let above : x.key < s.key = item_at-All rank_key (IsBelow rank_key x) k s xs
                  (pairs_head (IsBelow rank_key) x xs rises)
                  (sym (item_past rank_key k x xs other) ∙ there) in omega (arith, above)
            ])
        | inr f ↦
            elim (cases_eq x.key k) [
              | inl same ↦
                  let one : x ≡ s = same-some (item_at rank_key (x ∷ xs) k) x s
                  (item_here rank_key k x xs same) there in
                  let no : fits need x ≡ true = subst (λ y. fits need y ≡ true) (sym one) fit in
                  absurd cc
              | inr other ↦ find-least r s k xs (pairs_tail (IsBelow rank_key) x xs rises)
                  (sym (cond-false (fits need x) (Some x) (find (fits need) xs) f) ∙ e)
                  (sym (item_past rank_key k x xs other) ∙ there) fit
            ]
      ]

  find-none : (s : Rank) (k : ℕ) (rs : List Rank) → find (fits need) rs ≡ None
      → item_at rank_key rs k ≡ Some s → fits need s ≡ true → ⊥
  find-none s k [] e there fit = absurd cc
  find-none s k (x ∷ xs) e there fit =
      elim (cases_Bool (fits need x)) [
        | inl t ↦
            let is : find (fits need) (x ∷ xs) ≡ Some x =
            cond-true (fits need x) (Some x) (find (fits need) xs) t in absurd cc
        | inr f ↦
            elim (cases_eq x.key k) [
              | inl same ↦
                  let one : x ≡ s = same-some (item_at rank_key (x ∷ xs) k) x s
                  (item_here rank_key k x xs same) there in
                  let no : fits need x ≡ true = subst (λ y. fits need y ≡ true) (sym one) fit in
                  absurd cc
              | inr other ↦ find-none s k xs
                  (sym (cond-false (fits need x) (Some x) (find (fits need) xs) f) ∙ e)
                  (sym (item_past rank_key k x xs other) ∙ there) fit
            ]
      ]

is-none : {A : Type 0} (o : Option A) → IsNone o → o ≡ None
is-none None h = refl
is-none (Some x) h = absurd cc

-- the order compares the keys
abbrev pub Compares : (CarrierFit → ℕ) → (CarrierFit → CarrierFit → Bool) → Type 0
Compares by before = (a b : CarrierFit) → a.key.number < 2 ^ 32 → b.key.number < 2 ^ 32
    → before a b ≡ nat_lt (by a) (by b)

less-packed : (b1 n1 b2 n2 : ℕ) → n1 < 2 ^ 32 → n2 < 2 ^ 32
    → less b1 b2 (nat_lt n1 n2) ≡ nat_lt (b1 * 2 ^ 32 + n1) (b2 * 2 ^ 32 + n2)
less-packed b1 n1 b2 n2 s1 s2 =
    elim (cases_lt b1 b2) [
      | inl lt ↦ let k : b1 * 2 ^ 32 + n1 < b2 * 2 ^ 32 + n2 = omega (arith, lt, s1, s2) in
          grind (arith, nat_tests)
      | inr le ↦ elim (cases_lt b2 b1) [
        | inl lt ↦ let k : b2 * 2 ^ 32 + n2 < b1 * 2 ^ 32 + n1 = omega (arith, lt, s1, s2) in
            grind (arith, nat_tests)
        | inr ge ↦ let same : b1 ≡ b2 = omega (arith, le, ge) in
            elim (cases_lt n1 n2) [
              | inl lt ↦ let k : b1 * 2 ^ 32 + n1 < b2 * 2 ^ 32 + n2 = omega (arith, same, lt) in
                  grind (arith, nat_tests)
              | inr more ↦ let k : b2 * 2 ^ 32 + n2 ≤ b1 * 2 ^ 32 + n1 = omega
                  (arith, same, more) in grind (arith, nat_tests)
            ]
      ]
    ]

pub order-compares : (o : Order) → Compares (order_key o) (comes_first o)
order-compares Address a b s t = refl
order-compares Age a b s t = less-packed a.key.birth a.key.number b.key.birth b.key.number s t

pub number_found-carrier : (f : Option Found)
    → number_found f ≡ option_map (λ (h : CarrierFit). h.key.number) (carrier_found f)
number_found-carrier None = refl
number_found-carrier (Some f) = refl

module _ (by : CarrierFit → ℕ) (room need : ℕ) (hs : List CarrierFit) (o : Ranks)
    (before : AllPairs IsBefore hs) (ranked : IsRankedBy by room hs o) where
  held-from : (r : Option Rank) → find (fits need) o.ranks ≡ r
      → IfSome (option_map (λ (x : Rank). x.carrier) r)
      (λ h. carrier_of hs h.key.number ≡ Some h)
  held-from None e = tt
  held-from (Some r) e =
      (ranked.only r.key r (find-there need r o.ranks ranked.rising e).0).0

  -- the first carrier in the order that fits is one of the set
  pub first-held : IfSome (option_map (λ (x : Rank). x.carrier) (find (fits need) o.ranks))
      (λ h. carrier_of hs h.key.number ≡ Some h)
  first-held = held-from (find (fits need) o.ranks) refl

  none-fits : find (fits need) o.ranks ≡ None → All (λ h. h.fit < need) hs
  none-fits e = λ k d within.
      let h = get_or hs k d in
      let there = item_at-each number_of k d hs (rising hs before) within in
      elim (cases_lt h.fit need) [
        | inl lt ↦ lt
        | inr le ↦ absurd (find-none need (rank_of by h) (by h) o.ranks e
            (ranked.all h.key.number h there) (grind (arith, nat_tests)))
      ]

  module _ (earlier : CarrierFit → CarrierFit → Bool) (order : IsStrictWeakOrder earlier)
      (compares : Compares by earlier) (small : All (λ h. h.key.number < 2 ^ 32) hs) where
    same_carrier : (n : ℕ) (r : Rank) → find (fits need) o.ranks ≡ Some r
        → IsFirstOf earlier need hs n → r.carrier.key.number ≡ n
    same_carrier n r e (k, h, within, at, ahead) =
        let there : carrier_of hs h.key.number ≡ Some h =
        subst (λ (y : CarrierFit). carrier_of hs y.key.number ≡ Some y) at
        (item_at-each number_of k h hs (rising hs before) within) in
        let its = ranked.all h.key.number h there in
        let mine = find-there need r o.ranks ranked.rising e in
        let kept = ranked.only r.key r mine.0 in
        let low : r.key ≤ by h = find-least need r (rank_of by h) (by h) o.ranks ranked.rising e its
        (let fit = ahead.fits in grind (arith, nat_tests)) in
        let never : earlier r.carrier h ≡ false =
        item_at-All number_of (λ (x : CarrierFit). need ≤ x.fit → earlier x h ≡ false)
        r.carrier.key.number r.carrier hs ahead.least kept.0
        (leb-true need r.carrier.fit mine.1) in
        let tested : nat_lt (by r.carrier) (by h) ≡ false =
        sym (compares r.carrier h
        (item_at-All number_of (λ (x : CarrierFit). x.key.number < 2 ^ 32) r.carrier.key.number
        r.carrier hs small kept.0)
        (item_at-All number_of (λ (x : CarrierFit). x.key.number < 2 ^ 32) h.key.number h hs small
        there)) ∙ never in
        let high : by h ≤ by r.carrier = grind (arith, nat_tests) in
        let same : by h ≡ r.key = omega (arith, low, high, kept.1) in
        let one : rank_of by h ≡ r = same-some (item_at rank_key o.ranks r.key) (rank_of by h) r
        (ap (item_at rank_key o.ranks) (sym same) ∙ its) mine.0 in
        sym (ap (λ (x : Rank). x.carrier.key.number) one) ∙ ahead.number_is

    first-from : (r : Option Rank) (n : Option ℕ) → find (fits need) o.ranks ≡ r
        → first_number earlier need hs ≡ n
        → option_map (λ (h : CarrierFit). h.key.number)
        (option_map (λ (x : Rank). x.carrier) r) ≡ n
    first-from None n e is =
        sym (sym is ∙ is-none (first_number earlier need hs)
        ((first_number-none earlier need hs).1 (none-fits e)))
    first-from (Some r) None e is =
        let mine = find-there need r o.ranks ranked.rising e in
        let low : r.carrier.fit < need = item_at-All number_of (λ (x : CarrierFit). x.fit < need)
        r.carrier.key.number r.carrier hs
        ((first_number-none earlier need hs).0 (ap is_some is))
        (ranked.only r.key r mine.0).0 in
        absurd (omega (arith, low, leb-true need r.carrier.fit mine.1))
    first-from (Some r) (Some n) e is =
        ap Some (same_carrier n r e (subst (λ x. IfSome x (IsFirstOf earlier need hs)) is
        (first_number-IsFirstOf earlier order need hs)))

    -- the number found is that of the first carrier that fits
    pub first-ranked : (f : Option Found)
        → carrier_found f ≡ option_map (λ (x : Rank). x.carrier) (find (fits need) o.ranks)
        → number_found f ≡ first_number earlier need hs
    first-ranked f e =
        number_found-carrier f ∙ ap (option_map (λ (h : CarrierFit). h.key.number)) e
        ∙ first-from (find (fits need) o.ranks) (first_number earlier need hs) refl refl
