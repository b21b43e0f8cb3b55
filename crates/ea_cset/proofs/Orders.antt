-- Carriers in an order, after a change of the set.
use Rattle.std.proofs.Common.{◌≡◌, ◌≢◌, ℕ, ◌+◌, List, length, sym, ap, ◌∙◌, subst}
use Rattle.std.proofs.Common.{refl, inl, inr, arith}
use Rattle.std.specs.Prelude.{All, IsSome, Option, Some, None}
use Rattle.std.proofs.lemmas.Bool.{cases_eq}
use Rattle.std.proofs.lemmas.List.{length-map}
use Rattle.std.proofs.lemmas.List.Kept.{AllPairs-filter}
use Rattle.ea_model.specs.Keyed.{changed_at, entered, item_at, without, IsBelow}
use Rattle.ea_model.proofs.Options.{same-some}
use Rattle.ea_model.proofs.Rising.{changed-found, changed-other, item_at-All, item_at-gone}
use Rattle.ea_model.proofs.Rising.{item_at-key, item_at-new, item_at-old, item_at-stays}
use Rattle.ea_model.proofs.Rising.{length-entered, none-other, rising-changed, rising-entered}
use Rattle.ea_cset.specs.declared.keys.CarrierFit.{CarrierFit}
use Rattle.ea_cset.specs.declared.ranking.Rank.{Rank}
use Rattle.ea_cset.specs.Carriers.{number_of, carrier_of, refitted}
use Rattle.ea_cset.specs.Ranks.{rank_key, rank_of, refit, IsRankedBy, Ranks}

module _ (by : CarrierFit → ℕ) (room : ℕ) (hs : List CarrierFit) (o : Ranks)
    (ranked : IsRankedBy by room hs o) where
  free : (k : ℕ) (found : Option Rank) → item_at rank_key o.ranks k ≡ found
      → All (λ h. by h ≢ k) hs → item_at rank_key o.ranks k ≡ None
  free k None e new = e
  free k (Some r) e new =
      let kept = ranked.only k r e in
      absurd (item_at-All number_of (λ h. by h ≢ k) r.carrier.key.number r.carrier hs new kept.0
      (sym kept.1 ∙ item_at-key rank_key k r o.ranks e))

  -- a key that no carrier has isn't there
  pub key-free : (k : ℕ) → All (λ h. by h ≢ k) hs → All (λ r. r.key ≢ k) o.ranks
  key-free k new = none-other rank_key k o.ranks
      (free k (item_at rank_key o.ranks k) refl new)

  module _ (x : CarrierFit) (number : All (λ h. h.key.number ≢ x.key.number) hs)
      (key : All (λ r. r.key ≢ by x) o.ranks) where
    abbrev with_x : List CarrierFit
    with_x = entered number_of x hs

    abbrev ranks_with_x : List Rank
    ranks_with_x = entered rank_key (rank_of by x) o.ranks

    entered-all : (n : ℕ) (h : CarrierFit) → carrier_of with_x n ≡ Some h
        → item_at rank_key ranks_with_x (by h) ≡ Some (rank_of by h)
    entered-all n h e =
        elim (cases_eq n x.key.number) [
          | inl same ↦
              let is : x ≡ h = same-some (carrier_of with_x n) x h
              (ap (carrier_of with_x) same ∙ item_at-new number_of x hs number) e in
              subst (λ (y : CarrierFit). item_at rank_key ranks_with_x (by y)
              ≡ Some (rank_of by y)) is (item_at-new rank_key (rank_of by x) o.ranks key)
          | inr other ↦
              let old = ranked.all n h (sym (item_at-old number_of n x hs other) ∙ e) in
              item_at-old rank_key (by h) (rank_of by x) o.ranks
              (item_at-All rank_key (λ r. r.key ≢ by x) (by h) (rank_of by h) o.ranks key old) ∙ old
        ]

    entered-only : (k : ℕ) (r : Rank) → item_at rank_key ranks_with_x k ≡ Some r
        → (carrier_of with_x r.carrier.key.number ≡ Some r.carrier) × (r.key ≡ by r.carrier)
    entered-only k r e =
        elim (cases_eq k (by x)) [
          | inl same ↦
              let is : rank_of by x ≡ r = same-some (item_at rank_key ranks_with_x k) (rank_of by x)
              r (ap (item_at rank_key ranks_with_x) same
              ∙ item_at-new rank_key (rank_of by x) o.ranks key) e in
              subst (λ (y : Rank). (carrier_of with_x y.carrier.key.number ≡ Some y.carrier)
              × (y.key ≡ by y.carrier)) is (item_at-new number_of x hs number, refl)
          | inr other ↦
              let kept = ranked.only k r (sym (item_at-old rank_key k (rank_of by x) o.ranks other)
              ∙ e) in (
                item_at-old number_of r.carrier.key.number x hs
                    (item_at-All number_of (λ h. h.key.number ≢ x.key.number) r.carrier.key.number
                    r.carrier hs number kept.0) ∙ kept.0,
                kept.1,
              )
        ]

    pub ranked-entered : (new : Ranks) → new ≡ record o { ranks = ranks_with_x }
        → IsRankedBy by room with_x new
    ranked-entered new is = subst (IsRankedBy by room with_x) (sym is) (record {
      room_is = ranked.room_is;
      long = omega (
        arith,
        ranked.long,
        length-entered rank_key (rank_of by x) o.ranks,
        length-entered number_of x hs,
      );
      rising = rising-entered rank_key (rank_of by x) o.ranks ranked.rising key;
      all = entered-all;
      only = entered-only;
    })

  module _ (n : ℕ) (c : CarrierFit) (there : carrier_of hs n ≡ Some c) where
    pub key-there : (k : ℕ) → k ≡ by c → IsSome (item_at rank_key o.ranks k)
    key-there k is = subst (λ j. IsSome (item_at rank_key o.ranks j)) (sym is)
        (subst (λ r. IsSome r) (sym (ranked.all n c there)) refl)

    -- only it has its key
    same-key : (m : ℕ) (h : CarrierFit) → carrier_of hs m ≡ Some h → by h ≡ by c → m ≡ n
    same-key m h e same =
        let is : rank_of by h ≡ rank_of by c =
        same-some (item_at rank_key o.ranks (by c)) (rank_of by h) (rank_of by c)
        (ap (item_at rank_key o.ranks) (sym same) ∙ ranked.all m h e) (ranked.all n c there) in
        sym (item_at-key number_of m h hs e)
        ∙ ap (λ (r : Rank). r.carrier.key.number) is ∙ item_at-key number_of n c hs there

    same-number : (k : ℕ) (r : Rank) → item_at rank_key o.ranks k ≡ Some r
        → r.carrier.key.number ≡ n → k ≡ by c
    same-number k r e same =
        let kept = ranked.only k r e in
        let is : r.carrier ≡ c = same-some (carrier_of hs n) r.carrier c
        (ap (carrier_of hs) (sym same) ∙ kept.0) there in
        sym (item_at-key rank_key k r o.ranks e) ∙ kept.1 ∙ ap by is

    abbrev without_c : List CarrierFit
    without_c = without number_of n hs

    abbrev ranks_without_c : List Rank
    ranks_without_c = without rank_key (by c) o.ranks

    without-all : (m : ℕ) (h : CarrierFit) → carrier_of without_c m ≡ Some h
        → item_at rank_key ranks_without_c (by h) ≡ Some (rank_of by h)
    without-all m h e =
        elim (cases_eq m n) [
          | inl same ↦
              let none : carrier_of without_c m ≡ None = ap (carrier_of without_c) same
              ∙ item_at-gone number_of n hs in
              absurd cc
          | inr other ↦
              let old = sym (item_at-stays number_of m n hs other) ∙ e in
              item_at-stays rank_key (by h) (by c) o.ranks (λ same. other (same-key m h old same))
              ∙ ranked.all m h old
        ]

    without-only : (k : ℕ) (r : Rank) → item_at rank_key ranks_without_c k ≡ Some r
        → (carrier_of without_c r.carrier.key.number ≡ Some r.carrier) × (r.key ≡ by r.carrier)
    without-only k r e =
        elim (cases_eq k (by c)) [
          | inl same ↦
              let none : item_at rank_key ranks_without_c k ≡ None =
              ap (item_at rank_key ranks_without_c) same ∙ item_at-gone rank_key (by c) o.ranks in
              absurd cc
          | inr other ↦
              let old = sym (item_at-stays rank_key k (by c) o.ranks other) ∙ e in
              let kept = ranked.only k r old in (
                item_at-stays number_of r.carrier.key.number n hs
                    (λ same. other (same-number k r old same)) ∙ kept.0,
                kept.1,
              )
        ]

    pub ranked-without : (new : Ranks) → new ≡ record o { ranks = ranks_without_c }
        → length new.ranks + 1 ≡ length o.ranks → length without_c + 1 ≡ length hs
        → IsRankedBy by room without_c new
    ranked-without new is long less =
        let count : length ranks_without_c + 1 ≡ length o.ranks =
        subst (λ (x : Ranks). length x.ranks + 1 ≡ length o.ranks) is long in
        subst (IsRankedBy by room without_c) (sym is) (record {
          room_is = ranked.room_is;
          long = omega (arith, ranked.long, count, less);
          rising = AllPairs-filter (IsBelow rank_key) _ o.ranks ranked.rising;
          all = without-all;
          only = without-only;
        })

    module _ (fit : ℕ)
        (stays : (h : CarrierFit) → by (record { key = h.key; fit = fit }) ≡ by h) where
      abbrev with_it : CarrierFit → CarrierFit
      with_it h = record { key = h.key; fit = fit }

      abbrev changed_ranks : List Rank
      changed_ranks = changed_at rank_key (refit fit) (by c) o.ranks

      here : carrier_of (refitted n fit hs) n ≡ Some (with_it c)
      here = changed-found number_of with_it n (λ h. refl) c hs there

      here-ranked : item_at rank_key changed_ranks (by c) ≡ Some (rank_of by (with_it c))
      here-ranked =
          changed-found rank_key (refit fit) (by c) (λ r. refl) (rank_of by c) o.ranks
          (ranked.all n c there)
          ∙ ap (λ k. Some (record { key = k; carrier = with_it c })) (sym (stays c))

      changed-all : (m : ℕ) (h : CarrierFit) → carrier_of (refitted n fit hs) m ≡ Some h
          → item_at rank_key changed_ranks (by h) ≡ Some (rank_of by h)
      changed-all m h e =
          elim (cases_eq m n) [
            | inl same ↦
                let is : with_it c ≡ h = same-some (carrier_of (refitted n fit hs) m) (with_it c) h
                (ap (carrier_of (refitted n fit hs)) same ∙ here) e in
                subst (λ (y : CarrierFit). item_at rank_key changed_ranks (by y)
                ≡ Some (rank_of by y)) is
                (ap (item_at rank_key changed_ranks) (stays c) ∙ here-ranked)
            | inr other ↦
                let old = sym (changed-other number_of with_it n (λ y. refl) m hs other) ∙ e in
                changed-other rank_key (refit fit) (by c) (λ r. refl) (by h) o.ranks
                (λ same. other (same-key m h old same)) ∙ ranked.all m h old
          ]

      changed-only : (k : ℕ) (r : Rank) → item_at rank_key changed_ranks k ≡ Some r
          → (carrier_of (refitted n fit hs) r.carrier.key.number ≡ Some r.carrier)
          × (r.key ≡ by r.carrier)
      changed-only k r e =
          elim (cases_eq k (by c)) [
            | inl same ↦
                let is : rank_of by (with_it c) ≡ r =
                same-some (item_at rank_key changed_ranks k) (rank_of by (with_it c)) r
                (ap (item_at rank_key changed_ranks) same ∙ here-ranked) e in
                subst (λ (y : Rank). (carrier_of (refitted n fit hs) y.carrier.key.number
                ≡ Some y.carrier) × (y.key ≡ by y.carrier)) is (
                  ap (carrier_of (refitted n fit hs)) (item_at-key number_of n c hs there) ∙ here,
                  refl,
                )
            | inr other ↦
                let old = sym (changed-other rank_key (refit fit) (by c) (λ y. refl) k o.ranks
                other) ∙ e in
                let kept = ranked.only k r old in (
                  changed-other number_of with_it n (λ y. refl) r.carrier.key.number hs
                      (λ same. other (same-number k r old same)) ∙ kept.0,
                  kept.1,
                )
          ]

      pub ranked-changed : (new : Ranks) → new ≡ record o { ranks = changed_ranks }
          → IsRankedBy by room (refitted n fit hs) new
      ranked-changed new is = subst (IsRankedBy by room (refitted n fit hs)) (sym is) (record {
        room_is = ranked.room_is;
        long = length-map o.ranks _ ∙ ranked.long ∙ sym (length-map hs _);
        rising = rising-changed rank_key (refit fit) (by c) (λ r. refl) o.ranks ranked.rising;
        all = changed-all;
        only = changed-only;
      })
