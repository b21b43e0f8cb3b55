-- The fits of carriers in an order, by place.
use Rattle.std.proofs.Common.{◌≡◌, ℕ, ◌+◌, ◌<◌, ◌≤◌, List, [], ◌∷◌, map, length, get_or, set}
use Rattle.std.proofs.Common.{false, sym, ap, ◌∙◌, refl, inl, inr, arith}
use Rattle.std.specs.Prelude.{insert, remove, slice_index, All, Some, None, find}
use Rattle.std.specs.List.{position_or_len}
use Rattle.std.proofs.lemmas.Bool.{cases_lt, cases_eq, cond-false}
use Rattle.std.proofs.lemmas.Bool.Decides.{nat_tests}
use Rattle.std.proofs.lemmas.Grind.{get_or-set_at}
use Rattle.std.proofs.lemmas.List.{get_or-map, get_or_past, get_or-set_other, length-map, map-set}
use Rattle.std.proofs.lemmas.List.Edits.{get_or-insert_below, get_or-remove_below, length-insert}
use Rattle.std.proofs.lemmas.List.Edits.{length-remove}
use Rattle.std.proofs.lemmas.List.Elements.{All-head, All-tail}
use Rattle.std.proofs.lemmas.List.Folds.{find_at}
use Rattle.std.proofs.lemmas.List.Sums.{position_or_len_is}
use Rattle.std.proofs.lemmas.Option.{slice_get-get_or}
use Rattle.ea_model.specs.Keyed.{entered, is_after}
use Rattle.ea_model.proofs.Rising.{insert-entered}
use Rattle.ea_postree.specs.Firsts.{IsFirstAtLeast}
use Rattle.ea_cset.specs.declared.ranking.Rank.{Rank}
use Rattle.ea_cset.specs.Ranks.{fit_of, fits, rank_key, AreFits, IsWritten}
use Rattle.ea_cset.proofs.Rising.{no_rank}

fit_at : (rs : List Rank) (p : ℕ) → p < length rs
    → slice_index (map fit_of rs) p ≡ fit_of (get_or rs p no_rank)
fit_at rs p lt = get_or-map fit_of rs p no_rank 0 lt

fit_past : (rs : List Rank) (p : ℕ) → length rs ≤ p → slice_index (map fit_of rs) p ≡ 0
fit_past rs p le = get_or_past (map fit_of rs) p 0 (omega (arith, le, length-map rs fit_of))

pub written-insert : (rs : List Rank) (i : ℕ) (x : Rank) (values : List ℕ) → i ≤ length rs
    → AreFits rs values → IsWritten i (length (insert rs i x)) (insert rs i x) values
written-insert rs i x values le are p (inl lt) =
    let long = length-insert rs i x le in
    are p ∙ fit_at rs p (omega (arith, lt, le))
    ∙ sym (fit_at (insert rs i x) p (omega (arith, lt, le, long))
    ∙ ap fit_of (get_or-insert_below rs i x no_rank p lt le))
written-insert rs i x values le are p (inr past) =
    let long = length-insert rs i x le in
    are p ∙ fit_past rs p (omega (arith, past, long)) ∙ sym (fit_past (insert rs i x) p past)

pub written-remove : (rs : List Rank) (i : ℕ) (values : List ℕ) → i < length rs → AreFits rs values
    → IsWritten i (length (remove rs i) + 1) (remove rs i) values
written-remove rs i values within are p (inl lt) =
    let long = length-remove rs i within in
    are p ∙ fit_at rs p (omega (arith, lt, within))
    ∙ sym (fit_at (remove rs i) p (omega (arith, lt, within, long))
    ∙ ap fit_of (get_or-remove_below rs i no_rank p lt within))
written-remove rs i values within are p (inr past) =
    let long = length-remove rs i within in
    are p ∙ fit_past rs p (omega (arith, past, long))
    ∙ sym (fit_past (remove rs i) p (omega (arith, past)))

pub fits-set : (rs : List Rank) (i : ℕ) (r : Rank) (values : List ℕ) → i < length rs
    → length rs ≤ length values → AreFits rs values
    → AreFits (set rs i r) (set values i (fit_of r))
fits-set rs i r values within room are p =
    let same = ap (λ xs. slice_index xs p) (map-set fit_of rs i r) in
    elim (cases_eq p i) [
      | inl e ↦ get_or-set_at values i p (fit_of r) 0 e (omega (arith, within, room))
          ∙ sym (same ∙ get_or-set_at (map fit_of rs) i p (fit_of r) 0 e
          (omega (arith, within, length-map rs fit_of)))
      | inr n ↦ get_or-set_other values i p (fit_of r) 0 n ∙ are p
          ∙ sym (same ∙ get_or-set_other (map fit_of rs) i p (fit_of r) 0 n)
    ]

-- the first place whose value is great enough is that of the first carrier that fits
pub first-found : (need : ℕ) (rs : List Rank) (values : List ℕ) (p : ℕ) → 1 ≤ need
    → AreFits rs values → IsFirstAtLeast need values p
    → (p < length rs) × ((d : Rank) → find (fits need) rs ≡ Some (get_or rs p d))
first-found need rs values p some are f =
    let within : p < length rs = elim (cases_lt p (length rs)) [
      | inl lt ↦ lt
      | inr le ↦ absurd (omega (arith, some, f.great, are p, fit_past rs p le))
    ] in
    let here : need ≤ fit_of (get_or rs p no_rank) = omega (
      arith,
      f.great,
      are p,
      fit_at rs p within,
    ) in
    let place : position_or_len (fits need) rs ≡ p =
    position_or_len_is (fits need) rs p no_rank (omega (arith, within))
    (λ k lt. let low : fit_of (get_or rs k no_rank) < need = omega (
      arith,
      f.first k lt,
      are k,
      fit_at rs k (omega (arith, lt, within)),
    ) in grind (arith, nat_tests))
    (λ _. grind (arith, nat_tests)) in (
      within,
      λ d. find_at (fits need) rs ∙ slice_get-get_or rs (position_or_len (fits need) rs) d
          (omega (arith, place, within)) ∙ ap (λ k. Some (get_or rs k d)) place,
    )

find-past : (need : ℕ) (rs : List Rank) → All (λ r. r.carrier.fit < need) rs
    → find (fits need) rs ≡ None
find-past need [] a = refl
find-past need (r ∷ rs) a =
    let past : fits need r ≡ false =
    let lt = All-head (λ (x : Rank). x.carrier.fit < need) r rs a in
    grind (arith, nat_tests) in
    cond-false (fits need r) (Some r) (find (fits need) rs) past
    ∙ find-past need rs (All-tail (λ (x : Rank). x.carrier.fit < need) r rs a)

-- where no value is great enough, no carrier fits
pub none-fits : (need : ℕ) (rs : List Rank) (values : List ℕ) → length rs ≤ length values
    → AreFits rs values → All (λ v. v < need) values → find (fits need) rs ≡ None
none-fits need rs values room are low = find-past need rs (λ k d within. omega (
  arith,
  low k 0 (omega (arith, within, room)),
  are k,
  get_or-map fit_of rs k d 0 within,
))

-- a carrier put before the first one of a greater key is entered
pub inserted-entered : (x : Rank) (rs : List Rank) (i : ℕ)
    → i ≡ position_or_len (is_after rank_key x.key) rs → insert rs i x ≡ entered rank_key x rs
inserted-entered x rs i e = ap (λ k. insert rs k x) e ∙ insert-entered rank_key x rs
