-- The last carrier in an order up to a key.
use Rattle.std.proofs.Common.{◌≡◌, ℕ, ◌<◌, ◌≤◌, ◌↔◌, List, length, get_or, sym, ap, ◌∙◌, subst, inl}
use Rattle.std.proofs.Common.{inr, arith}
use Rattle.std.specs.Prelude.{All, AllPairs, Option, Some, None, IfSome, IsNone, option_map}
use Rattle.std.proofs.lemmas.Bool.{cases_eq, cases_lt}
use Rattle.std.proofs.lemmas.List.{get_or_default}
use Rattle.ea_model.specs.Keyed.{IsBelow}
use Rattle.ea_model.proofs.Rising.{item_at-All, item_at-each}
use Rattle.ea_cset.specs.declared.keys.CarrierFit.{CarrierFit}
use Rattle.ea_cset.specs.declared.keys.Found.{Found}
use Rattle.ea_cset.specs.declared.ranking.Rank.{Rank}
use Rattle.ea_cset.specs.Carriers.{number_of, carrier_found, IsBefore}
use Rattle.ea_cset.specs.Ranks.{rank_key, rank_of, IsLastUpTo, IsRankedBy, Ranks}
use Rattle.ea_cset.proofs.Rising.{rising}

module _ (key : ℕ) (rs : List Rank) where
  -- the carrier at a place, where its key is at most `key` and those after it are greater
  pub last-at : AllPairs (IsBelow rank_key) rs → (i : ℕ) → i < length rs
      → ((d : Rank) → (get_or rs i d).key ≤ key)
      → ((k : ℕ) (d : Rank) → i < k → k < length rs → key < (get_or rs k d).key)
      → (d : Rank) → IsLastUpTo key rs (get_or rs i d)
  last-at rises i within low above d = record {
    there = item_at-each rank_key i d rs rises within;
    low = low d;
    last = λ k e inside small.
        let same = ap rank_key (get_or_default rs i d e within) in
        elim (cases_lt i k) [
          | inl lt ↦ absurd (omega (arith, small, above k e lt inside))
          | inr le ↦
              elim (cases_eq k i) [
                | inl here ↦ omega (arith, same, ap (λ n. rank_key (get_or rs n e)) here)
                | inr other ↦ omega (arith, same, rises k i e (omega arith) within)
              ]
        ];
  }

  -- where one is found not all have greater keys
  pub last-some : (r : Rank) → IsLastUpTo key rs r → All (λ s. key < s.key) rs → ⊥
  last-some r l above = absurd (omega (
    arith,
    l.low,
    item_at-All rank_key (λ s. key < s.key) r.key r rs above l.there,
  ))

module _ (by : CarrierFit → ℕ) (room bound : ℕ) (hs : List CarrierFit) (o : Ranks)
    (before : AllPairs IsBefore hs) (ranked : IsRankedBy by room hs o) where
  -- what holds of the keys of all carriers in the order holds of the carriers of the set
  each-held : (P : ℕ → Type 0) → All (λ r. P r.key) o.ranks → All (λ h. P (by h)) hs
  each-held P a = λ k d within.
      let h = get_or hs k d in
      item_at-All rank_key (λ r. P r.key) (by h) (rank_of by h) o.ranks a
      (ranked.all h.key.number h (item_at-each number_of k d hs (rising hs before) within))

  -- and the other way round
  each-ranked : (P : ℕ → Type 0) → All (λ h. P (by h)) hs → All (λ r. P r.key) o.ranks
  each-ranked P a = λ k d within.
      let r = get_or o.ranks k d in
      let kept = ranked.only r.key r (item_at-each rank_key k d o.ranks ranked.rising within) in
      subst P (sym kept.1) (item_at-All number_of (λ h. P (by h)) r.carrier.key.number r.carrier hs
      a kept.0)

  pub last-ranked : (f : Option Found) (r : Option Rank)
      → carrier_found f ≡ option_map (λ (x : Rank). x.carrier) r
      → IfSome r (IsLastUpTo bound o.ranks)
      → IfSome f (λ g. (by g.carrier ≤ bound)
      × All (λ h. by h ≤ bound → by h ≤ by g.carrier) hs)
  last-ranked None r same l = tt
  last-ranked (Some f) None same l = absurd cc
  last-ranked (Some f) (Some r) same l =
      let is : f.carrier ≡ r.carrier = cc in
      let key : r.key ≡ by f.carrier = (ranked.only r.key r l.there).1 ∙ ap by (sym is) in
      subst (λ n. (n ≤ bound) × All (λ h. by h ≤ bound → by h ≤ n) hs) key
      (l.low, each-held (λ n. n ≤ bound → n ≤ r.key) l.last)

  pub last-none : (f : Option Found) (r : Option Rank)
      → carrier_found f ≡ option_map (λ (x : Rank). x.carrier) r
      → IsNone r ↔ All (λ x. bound < x.key) o.ranks → IsNone f ↔ All (λ h. bound < by h) hs
  last-none None None same n = (
    λ e. each-held (λ k. bound < k) (n.0 e),
    λ a. n.1 (each-ranked (λ k. bound < k) a),
  )
  last-none None (Some r) same n = absurd cc
  last-none (Some f) None same n = absurd cc
  last-none (Some f) (Some r) same n = (
    λ e. each-held (λ k. bound < k) (n.0 e),
    λ a. n.1 (each-ranked (λ k. bound < k) a),
  )
