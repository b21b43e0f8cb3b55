-- The numbers of pages, where a page is added and where a number is set.
use Rattle.std.proofs.Common.{◌≡◌, ◌≢◌, ℕ, ◌+◌, ◌-◌, ◌*◌, ◌/◌, ◌%◌, ◌<◌, ◌≤◌, ◌++◌, List, length, min}
use Rattle.std.proofs.Common.{[], set, replicate, sym, ap, ◌∙◌, subst, inl, inr}
use Rattle.std.proofs.Common.{arith}
use Rattle.std.specs.Prelude.{slice_index}
use Rattle.std.proofs.lemmas.Bool.{cases_eq, cases_lt}
use Rattle.std.proofs.lemmas.Grind.{same_number_lists}
use Rattle.std.proofs.lemmas.List.{get_or-append-add, get_or-replicate, get_or-set_other}
use Rattle.std.proofs.lemmas.List.{get_or-set_same, get_or_append_left, get_or_past, length-append}
use Rattle.std.proofs.lemmas.List.{length-replicate, length-set}
use Rattle.std.proofs.lemmas.List.FromFn.{get_or-map-range_with_len, length-map-range_with_len}
use Rattle.std.proofs.lemmas.List.Sums.{sum_by-le, sum_by-set}
use Rattle.ea_tags.specs.Pages.{HasPages, IsPaged, count, number, number_in, numbers}

pub numbers-long : (n : ℕ) (ends used : List ℕ) → length (numbers n ends used) ≡ n
numbers-long n ends used = length-map-range_with_len (number ends used) 0 n

pub number-at : (n : ℕ) (ends used : List ℕ) (i : ℕ) → i < n
    → slice_index (numbers n ends used) i ≡ number ends used i
number-at n ends used i lt =
    get_or-map-range_with_len (number ends used) 0 n i i 0 lt (omega arith)

-- a number that is there is in a page
pub within-numbers : (n : ℕ) (ends used xs : List ℕ) (at : ℕ) → numbers n ends used ≡ xs
    → at < length xs → at < n
within-numbers n ends used xs at e lt = omega (arith, lt, ap length e, numbers-long n ends used)

pub page-within : (n : ℕ) (ends used : List ℕ) (capacity at : ℕ) → HasPages n ends used capacity
    → at < n → at / 512 < length ends
page-within n ends used capacity at h lt = omega (arith, lt, h.enough)

-- what is read where a page isn't there, and where it is
pub in-none : (used : List ℕ) (end k : ℕ) → end ≡ 0 → number_in used end k ≡ 0
in-none used end k none = grind arith

pub in-some : (used : List ℕ) (end k : ℕ) → end ≢ 0
    → number_in used end k ≡ slice_index used (end - 512 + k)
in-some used end k some = grind arith

-- without pages all numbers are 0
pub numbers-none : (n : ℕ) (ends used : List ℕ)
    → ((k : ℕ) → slice_index ends k ≡ 0) → numbers n ends used ≡ replicate n 0
numbers-none n ends used none =
    same_number_lists (numbers n ends used) (replicate n 0)
    (numbers-long n ends used ∙ sym (length-replicate {A = ℕ} n 0))
    (λ i lt.
    let within : i < n = omega (arith, lt, numbers-long n ends used) in
    number-at n ends used i within ∙ in-none used (slice_index ends (i / 512)) (i % 512) (none (i / 512))
    ∙ sym (get_or-replicate n i 0 0 within))

-- the same numbers are read of other pages
pub numbers-same : (n : ℕ) (es us fs vs : List ℕ)
    → ((i : ℕ) → number fs vs i ≡ number es us i) → numbers n fs vs ≡ numbers n es us
numbers-same n es us fs vs same =
    same_number_lists (numbers n fs vs) (numbers n es us)
    (numbers-long n fs vs ∙ sym (numbers-long n es us))
    (λ i lt.
    let within : i < n = omega (arith, lt, numbers-long n fs vs) in
    number-at n fs vs i within ∙ same i ∙ sym (number-at n es us i within))

-- a number of a page that isn't there
pub read-none : (n : ℕ) (ends used : List ℕ) (at end : ℕ) → end ≡ slice_index ends (at / 512)
    → at < n → end ≡ 0 → 0 ≡ slice_index (numbers n ends used) at
read-none n ends used at end is lt none =
    sym (number-at n ends used at lt
    ∙ in-none used (slice_index ends (at / 512)) (at % 512) (sym is ∙ none))

-- a number of a page that is there
module _ (ends used : List ℕ) (capacity at end : ℕ) (p : IsPaged ends used capacity)
    (is : end ≡ slice_index ends (at / 512)) (some : end ≢ 0) where
  there : slice_index ends (at / 512) ≢ 0
  there none = some (is ∙ none)

  pub end-whole : 512 ≤ end
  end-whole = omega (arith, is, (p.whole (at / 512) there).0)

  abbrev place : ℕ
  place = end - 512 + at % 512

  pub place-within : place < length used
  place-within = omega (arith, is, end-whole, (p.whole (at / 512) there).1)

  pub read-some : (n : ℕ) → at < n
      → slice_index used place ≡ slice_index (numbers n ends used) at
  read-some n lt = ap (λ e. slice_index used (e - 512 + at % 512)) is
      ∙ sym (in-some used (slice_index ends (at / 512)) (at % 512) there)
      ∙ sym (number-at n ends used at lt)

  module _ (v : ℕ) where
    written_here : number ends (set used place v) at ≡ v
    written_here = in-some (set used place v) (slice_index ends (at / 512)) (at % 512) there
        ∙ ap (λ e. slice_index (set used place v) (e - 512 + at % 512)) (sym is)
        ∙ get_or-set_same used place v 0 place-within

    -- numbers of two pages, or of two places in a page, do not lie in the same place
    other_place : (i : ℕ) → i ≢ at → slice_index ends (i / 512) ≢ 0
        → slice_index ends (i / 512) - 512 + i % 512 ≢ place
    other_place i other its = elim (cases_eq (i / 512) (at / 512)) [
      | inl e ↦
          let same : slice_index ends (i / 512) ≡ end = ap (slice_index ends) e ∙ sym is in
          λ meets. other (omega (arith, meets, same, e, end-whole))
      | inr n ↦
          let one = p.whole (i / 512) its in
          let two = p.whole (at / 512) there in
          λ meets. n (p.apart (i / 512) (at / 512) its
          (omega (arith, meets, is, one.0, one.2, two.0, two.2)))
    ]

    written_other : (i : ℕ) → i ≢ at → number ends (set used place v) i ≡ number ends used i
    written_other i other = elim (cases_eq (slice_index ends (i / 512)) 0) [
      | inl none ↦ in-none (set used place v) (slice_index ends (i / 512)) (i % 512) none
          ∙ sym (in-none used (slice_index ends (i / 512)) (i % 512) none)
      | inr its ↦ in-some (set used place v) (slice_index ends (i / 512)) (i % 512) its
          ∙ get_or-set_other used place (slice_index ends (i / 512) - 512 + i % 512) v 0
          (other_place i other its)
          ∙ sym (in-some used (slice_index ends (i / 512)) (i % 512) its)
    ]

    read_written : (n i : ℕ) → at < n → i < n
        → slice_index (numbers n ends (set used place v)) i
        ≡ slice_index (set (numbers n ends used) at v) i
    read_written n i lt within = number-at n ends (set used place v) i within
        ∙ elim (cases_eq i at) [
          | inl e ↦ ap (number ends (set used place v)) e ∙ written_here
              ∙ sym (get_or-set_same (numbers n ends used) at v 0
              (omega (arith, lt, numbers-long n ends used)))
              ∙ ap (slice_index (set (numbers n ends used) at v)) (sym e)
          | inr other ↦ written_other i other ∙ sym (number-at n ends used i within)
              ∙ sym (get_or-set_other (numbers n ends used) at i v 0 other)
        ]

    -- it is set
    pub numbers-written : (n : ℕ) → at < n
        → numbers n ends (set used place v) ≡ set (numbers n ends used) at v
    numbers-written n lt =
        same_number_lists (numbers n ends (set used place v)) (set (numbers n ends used) at v)
        (numbers-long n ends (set used place v) ∙ sym (numbers-long n ends used)
        ∙ sym (length-set (numbers n ends used) at v))
        (λ i within. read_written n i lt
        (omega (arith, within, numbers-long n ends (set used place v))))

    pub paged-written : IsPaged ends (set used place v) capacity
    paged-written = record {
      whole = λ k its. (
        (p.whole k its).0,
        omega (arith, (p.whole k its).1, length-set used place v),
        (p.whole k its).2,
      );
      apart = p.apart;
      filled = length-set used place v ∙ p.filled;
      room = p.room;
    }

-- a page is added
module _ (ends used : List ℕ) (capacity page : ℕ) (p : IsPaged ends used capacity)
    (within : page < length ends) (none : slice_index ends page ≡ 0) where
  abbrev end : ℕ
  end = length used + 512

  abbrev more : List ℕ
  more = set ends page end

  counted : count more ≡ count ends + 1
  unfolding count
  counted = omega (arith, sum_by-set (min 1) ends page end 0 within, none)

  few : count more ≤ length ends
  unfolding count
  few = omega (arith, sum_by-le (min 1) 1 more (λ k d lt. omega arith), length-set ends page end)

  pub has-room : end ≤ capacity
  has-room = omega (arith, few, counted, p.filled, p.room)

  at_page : slice_index more page ≡ end
  at_page = get_or-set_same ends page end 0 within

  at_other : (k : ℕ) → k ≢ page → slice_index more k ≡ slice_index ends k
  at_other k n = get_or-set_other ends page k end 0 n

  pub added-same : (i : ℕ) → number more (used ++ replicate 512 0) i ≡ number ends used i
  added-same i = elim (cases_eq (i / 512) page) [
    | inl e ↦
        ap (λ n. number_in (used ++ replicate 512 0) n (i % 512)) (ap (slice_index more) e ∙ at_page)
        ∙ in-some (used ++ replicate 512 0) end (i % 512) (λ q. omega (arith, q))
        ∙ ap (slice_index (used ++ replicate 512 0)) (omega arith)
        ∙ get_or-append-add used (replicate 512 0) (i % 512) 0
        ∙ get_or-replicate 512 (i % 512) 0 0 (omega arith)
        ∙ sym (in-none used (slice_index ends (i / 512)) (i % 512) (ap (slice_index ends) e ∙ none))
    | inr n ↦
        ap (λ m. number_in (used ++ replicate 512 0) m (i % 512)) (at_other (i / 512) n)
        ∙ elim (cases_eq (slice_index ends (i / 512)) 0) [
          | inl none ↦ in-none (used ++ replicate 512 0) (slice_index ends (i / 512)) (i % 512) none
              ∙ sym (in-none used (slice_index ends (i / 512)) (i % 512) none)
          | inr there ↦
              in-some (used ++ replicate 512 0) (slice_index ends (i / 512)) (i % 512) there
              ∙ get_or_append_left used (replicate 512 0) 0 (slice_index ends (i / 512) - 512 + i % 512)
              (omega (arith, (p.whole (i / 512) there).0, (p.whole (i / 512) there).1))
              ∙ sym (in-some used (slice_index ends (i / 512)) (i % 512) there)
        ]
  ]

  long : length (used ++ replicate 512 0) ≡ end
  long = length-append used (replicate 512 0)
      ∙ ap (λ n. length used + n) (length-replicate {A = ℕ} 512 0)

  pub paged-added : (larger : ℕ) → capacity ≤ larger
      → IsPaged more (used ++ replicate 512 0) larger
  paged-added larger le = record {
    whole = λ k there. elim (cases_eq k page) [
      | inl e ↦
          let is : slice_index more k ≡ end = ap (slice_index more) e ∙ at_page in
          (omega (arith, is), omega (arith, is, long), omega (arith, is, p.filled))
      | inr n ↦
          let same = at_other k n in
          let old = p.whole k (λ q. there (same ∙ q)) in
          (omega (arith, same, old.0), omega (arith, same, old.1, long), omega (arith, same, old.2))
    ];
    apart = λ j k there e. elim (cases_eq j page) [
      | inl jp ↦ elim (cases_eq k page) [
        | inl kp ↦ jp ∙ sym kp
        | inr kn ↦
            let is : slice_index more j ≡ end = ap (slice_index more) jp ∙ at_page in
            let old = p.whole k (λ q. absurd (omega (arith, is, e, at_other k kn, q))) in
            absurd (omega (arith, is, e, at_other k kn, old.1))
      ]
      | inr jn ↦ elim (cases_eq k page) [
        | inl kp ↦
            let is : slice_index more k ≡ end = ap (slice_index more) kp ∙ at_page in
            let old = p.whole j (λ q. absurd (omega (arith, is, e, at_other j jn, q))) in
            absurd (omega (arith, is, e, at_other j jn, old.1))
        | inr kn ↦ p.apart j k (λ q. there (at_other j jn ∙ q))
            (sym (at_other j jn) ∙ e ∙ at_other k kn)
      ]
    ];
    filled = omega (arith, long, counted, p.filled);
    room = omega (arith, p.room, length-set ends page end, le);
  }

-- at first no page is there
none-there : (n k : ℕ) → slice_index (replicate n 0) k ≡ 0
none-there n k = elim (cases_lt k n) [
  | inl lt ↦ get_or-replicate n k 0 0 lt
  | inr le ↦ get_or_past (replicate n 0) k 0 (omega (arith, le, length-replicate {A = ℕ} n 0))
]

count-none : (n : ℕ) → count (replicate n 0) ≡ 0
unfolding count
count-none n =
    omega (
      arith,
      sum_by-le (min 1) 0 (replicate n 0)
          (λ k d lt. omega (arith, get_or-replicate n k 0 d (omega (arith, lt, length-replicate {A = ℕ} n 0)))),
    )

new_paged : (pages capacity : ℕ) → 512 * pages ≤ capacity → IsPaged (replicate pages 0) [] capacity
new_paged pages capacity le = record {
  whole = λ k there. absurd (there (none-there pages k));
  apart = λ j k there e. absurd (there (none-there pages j));
  filled = omega (arith, count-none pages);
  room = omega (arith, le, length-replicate {A = ℕ} pages 0);
}

pub pages-new : (n pages capacity : ℕ) (ends used : List ℕ) → ends ≡ replicate pages 0
    → used ≡ [] → n ≤ 512 * pages → 512 * pages ≤ capacity → HasPages n ends used capacity
pages-new n pages capacity ends used e u enough le = record {
  paged = subst (λ es. IsPaged es used capacity) (sym e)
      (subst (λ us. IsPaged (replicate pages 0) us capacity) (sym u) (new_paged pages capacity le));
  enough = omega (arith, ap length e, length-replicate {A = ℕ} pages 0, enough);
}

pub numbers-new : (n pages : ℕ) (ends used : List ℕ) → ends ≡ replicate pages 0
    → numbers n ends used ≡ replicate n 0
numbers-new n pages ends used e =
    numbers-none n ends used (λ k. ap (λ es. slice_index es k) e ∙ none-there pages k)
