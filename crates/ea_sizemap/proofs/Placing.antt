-- The places that are free, when one is taken, filled or emptied.
use Rattle.std.proofs.Common.{◌≡◌, ◌≢◌, ℕ, ◌+◌, ◌<◌, ◌≤◌, List, [], ◌∷◌, ◌++◌, length, set, get_or}
use Rattle.std.proofs.Common.{refl, sym, ap, ◌∙◌, inl, inr, arith, Option, Some, None}
use Rattle.std.specs.Prelude.{slice_index}
use Rattle.std.proofs.lemmas.Bool.{cases_lt}
use Rattle.std.proofs.lemmas.List.{get_or-set_same, get_or-set_other, get_or_append_left}
use Rattle.std.proofs.lemmas.List.{get_or_push, length_push, length-set}
use Rattle.std.proofs.lemmas.List.Sums.{sum_by-set, sum_by_push}
use Rattle.ea_sizemap.specs.Places.{AreFree, held_count, one_of}

pub no_items : (xs : List ℕ) → length xs ≡ 0 → xs ≡ []
no_items [] e = refl
no_items (x ∷ xs) e = absurd (omega arith)

-- no key, a key more and a key less
pub held_count-none : held_count [] ≡ 0
unfolding held_count
held_count-none = refl

pub held_count-put : (keys : List (Option ℕ)) (p k : ℕ) → p < length keys
    → get_or keys p None ≡ None → held_count (set keys p (Some k)) ≡ held_count keys + 1
unfolding held_count
held_count-put keys p k lt none =
    omega (arith, sum_by-set one_of keys p (Some k) None lt, ap one_of none)

pub held_count-take : (keys : List (Option ℕ)) (p k : ℕ) → p < length keys
    → get_or keys p None ≡ Some k → held_count (set keys p None) + 1 ≡ held_count keys
unfolding held_count
held_count-take keys p k lt some =
    omega (arith, sum_by-set one_of keys p None None lt, ap one_of some)

pub held_count-more : (keys : List (Option ℕ)) → held_count (keys ++ None ∷ []) ≡ held_count keys
unfolding held_count
held_count-more keys = omega (arith, sum_by_push one_of keys None)

-- a place more, where none was free
pub free-more : (keys : List (Option ℕ)) (place : ℕ) → place ≡ length keys → AreFree keys []
    → AreFree (keys ++ None ∷ []) (place ∷ [])
free-more keys place e f = record {
  within = λ i lt. let first : i ≡ 0 = omega (arith, lt) in
      omega (arith, ap (slice_index (place ∷ [])) first, e, length_push keys None);
  empty = λ i lt. let first : i ≡ 0 = omega (arith, lt) in
      ap (λ n. get_or (keys ++ None ∷ []) (slice_index (place ∷ []) n) None) first
      ∙ get_or_push keys None None place (sym e);
  once = λ i j lt less same. omega (arith, lt, less);
  count = omega (arith, f.count, held_count-more keys, length_push keys None);
}

-- the place that was taken
module _ (keys : List (Option ℕ)) (free : List ℕ) (place : ℕ)
    (f : AreFree keys (free ++ place ∷ [])) where
  last : slice_index (free ++ place ∷ []) (length free) ≡ place
  last = get_or_push free place 0 (length free) refl

  others : (i : ℕ) → i < length free
      → slice_index (free ++ place ∷ []) i ≡ slice_index free i
  others i lt = get_or_append_left free (place ∷ []) 0 i lt

  last_in : length free < length (free ++ place ∷ [])
  last_in = omega (arith, length_push free place)

  other_in : (i : ℕ) → i < length free → i < length (free ++ place ∷ [])
  other_in i lt = omega (arith, lt, length_push free place)

  pub place-within : place < length keys
  place-within = omega (arith, last, f.within (length free) last_in)

  pub place-empty : get_or keys place None ≡ None
  place-empty = ap (λ n. get_or keys n None) (sym last) ∙ f.empty (length free) last_in

  apart : (i : ℕ) → i < length free → slice_index free i ≢ place
  apart i lt e = absurd
      (omega (
        arith,
        lt,
        f.once i (length free) (other_in i lt) last_in (others i lt ∙ e ∙ sym last),
      ))

  -- it is filled
  pub free-put : (k : ℕ) → AreFree (set keys place (Some k)) free
  free-put k = record {
    within = λ i lt.
        omega (arith, f.within i (other_in i lt), others i lt, length-set keys place (Some k));
    empty = λ i lt. get_or-set_other keys place (slice_index free i) (Some k) None (apart i lt)
        ∙ ap (λ n. get_or keys n None) (sym (others i lt)) ∙ f.empty i (other_in i lt);
    once = λ i j lt less e. f.once i j (other_in i lt) (other_in j less)
        (others i lt ∙ e ∙ sym (others j less));
    count = omega (
      arith,
      f.count,
      length_push free place,
      held_count-put keys place k place-within place-empty,
      length-set keys place (Some k),
    );
  }

-- a place is emptied
module _ (keys : List (Option ℕ)) (free : List ℕ) (f : AreFree keys free) (place k : ℕ)
    (within : place < length keys) (held : get_or keys place None ≡ Some k) where
  now_last : slice_index (free ++ place ∷ []) (length free) ≡ place
  now_last = get_or_push free place 0 (length free) refl

  before : (i : ℕ) → i < length free
      → slice_index (free ++ place ∷ []) i ≡ slice_index free i
  before i lt = get_or_append_left free (place ∷ []) 0 i lt

  is_last : (i : ℕ) → i < length (free ++ place ∷ []) → length free ≤ i → i ≡ length free
  is_last i lt le = omega (arith, lt, le, length_push free place)

  at_last : (i : ℕ) → i < length (free ++ place ∷ []) → length free ≤ i
      → slice_index (free ++ place ∷ []) i ≡ place
  at_last i lt le = ap (slice_index (free ++ place ∷ [])) (is_last i lt le) ∙ now_last

  was_held : (i : ℕ) → i < length free → slice_index free i ≢ place
  was_held i lt e =
      let none : get_or keys place None ≡ None =
      ap (λ n. get_or keys n None) (sym e) ∙ f.empty i lt in
      absurd cc

  pub free-take : AreFree (set keys place None) (free ++ place ∷ [])
  free-take = record {
    within = λ i lt. elim (cases_lt i (length free)) [
      | inl less ↦ omega (arith, before i less, f.within i less, length-set keys place None)
      | inr le ↦ omega (arith, at_last i lt le, within, length-set keys place None)
    ];
    empty = λ i lt. elim (cases_lt i (length free)) [
      | inl less ↦ ap (λ n. get_or (set keys place None) n None) (before i less)
          ∙ get_or-set_other keys place (slice_index free i) None None (was_held i less)
          ∙ f.empty i less
      | inr le ↦ ap (λ n. get_or (set keys place None) n None) (at_last i lt le)
          ∙ get_or-set_same keys place None None within
    ];
    once = λ i j lt less e. elim (cases_lt i (length free)) [
      | inl il ↦ elim (cases_lt j (length free)) [
        | inl jl ↦ f.once i j il jl (sym (before i il) ∙ e ∙ before j jl)
        | inr jg ↦ absurd (was_held i il (sym (before i il) ∙ e ∙ at_last j less jg))
      ]
      | inr ig ↦ elim (cases_lt j (length free)) [
        | inl jl ↦ absurd (was_held j jl (sym (before j jl) ∙ sym e ∙ at_last i lt ig))
        | inr jg ↦ is_last i lt ig ∙ sym (is_last j less jg)
      ]
    ];
    count = omega (
      arith,
      f.count,
      length_push free place,
      held_count-take keys place k within held,
      length-set keys place None,
    );
  }
