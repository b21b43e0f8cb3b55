-- The keys of sizes at positions.
use Rattle.std.proofs.Common.{◌≡◌, ◌≢◌, ℕ, ◌+◌, ◌-◌, ◌*◌, ◌/◌, ◌%◌, ◌^◌, ◌<◌, ◌≤◌, ◌++◌, inl, inr}
use Rattle.std.proofs.Common.{refl, sym, ap, ◌∙◌, arith, List, [], length, set, get_or, replicate}
use Rattle.std.proofs.Common.{zero, suc, ◌∷◌, slice_index, Option, Some, None}
use Rattle.std.proofs.Common.{div-add-mod', if◌then◌else◌, ◌==◌}
use Rattle.std.proofs.lemmas.Bool.{cases_eq, cases_lt}
use Rattle.std.proofs.lemmas.Grind.{same_number_lists}
use Rattle.std.proofs.lemmas.List.{get_or-set_other, get_or-set_same, get_or_past, get_or-replicate}
use Rattle.std.proofs.lemmas.List.{length-replicate, length-set}
use Rattle.std.proofs.lemmas.List.FromFn.{get_or-map-range_with_len, length-map-range_with_len}
use Rattle.std.proofs.lemmas.List.Sums.{sum_by-cons, sum_by-set, sum_by_push}
use Rattle.std.proofs.lemmas.Nat.{mul-le, mul-add-lt, div-mul-add, mod-mul-add, div_below}
use Rattle.std.proofs.lemmas.Nat.{le-div, mod_below}
use Rattle.ea_keytree.specs.Keys.{KeysHeld}
use Rattle.ea_sizemap.specs.Held.{Sizes}
use Rattle.ea_sizemap.specs.Keyed.{key, size_said, size_at, sizes_in, IsMap}

-- keys rise by size
pub key_rises : (span s p t q : ℕ) → p < span → s < t → key span s p < key span t q
unfolding key
key_rises span s p t q lt l =
    omega (arith, mul-le (s + 1) span t span (omega arith) (omega arith))

-- and at one size by position
pub key_at : (span size position : ℕ) → key span size position ≡ key span size 0 + position
unfolding key
key_at span size position = omega arith

pub key_div : (span size position : ℕ) → position < span → key span size position / span ≡ size
unfolding key
key_div span size position lt = div-mul-add size span position lt

pub key_mod : (span size position : ℕ) → position < span → key span size position % span ≡ position
unfolding key
key_mod span size position lt = mod-mul-add size span position lt

pub floor_fits : (span size : ℕ) → span < 2 ^ 32 → size < 2 ^ 32
    → key span size 0 + span < 2 ^ 64
unfolding key
floor_fits span size s l =
    omega (arith, mul-le size span (2 ^ 32 - 1) (2 ^ 32 - 1) (omega arith) (omega arith))

-- they are below the number of all
pub key_lt : (span size position most : ℕ) → size ≤ most → position < span
    → key span size position < (most + 1) * span
unfolding key
key_lt span size position most le lt =
    omega (arith, mul-add-lt size span position (most + 1) (omega arith) lt)

-- the number of all
pub width_fits : (most span : ℕ) → most < 2 ^ 32 → span < 2 ^ 32
    → (most + 1) * span ≤ 2 ^ 64 - 1
width_fits most span l s =
    omega (arith, mul-le (most + 1) span (2 ^ 32) (2 ^ 32 - 1) (omega arith) (omega arith))

-- the least key of a size is at most those of at least that size
pub floor_below : (span size s q : ℕ) → size ≤ s → key span size 0 ≤ key span s q
unfolding key
floor_below span size s q le = omega (arith, mul-le size span s span le (omega arith))

-- no key of a size is below the number of positions
pub key_some : (span size position : ℕ) → 1 ≤ size → span ≤ key span size position
unfolding key
key_some span size position some = omega (arith, mul-le 1 span size span some (omega arith))

-- a key is that of the size and the position that it says
key_parts : (span k : ℕ) → k ≡ key span (k / span) (k % span)
unfolding key
key_parts span k = sym (div-add-mod' k span)

-- what one key says
picked : (a p n : ℕ) → a ≡ p → (if a == p then n else 0) ≡ n
picked a p n e = grind arith

passed : (a p n : ℕ) → a ≢ p → (if a == p then n else 0) ≡ 0
passed a p n e = grind arith

pub said-here : (span p k : ℕ) → k % span ≡ p → size_said span p (Some k) ≡ k / span
said-here span p k e = picked (k % span) p (k / span) e

pub said-past : (span p k : ℕ) → k % span ≢ p → size_said span p (Some k) ≡ 0
said-past span p k n = passed (k % span) p (k / span) n

-- what all say
size_at-cons : (span p : ℕ) (o : Option ℕ) (keys : List (Option ℕ))
    → size_at span (o ∷ keys) p ≡ size_said span p o + size_at span keys p
unfolding size_at
size_at-cons span p o keys = sum_by-cons (size_said span p) o keys

pub size_at-set : (span p : ℕ) (keys : List (Option ℕ)) (q : ℕ) (o : Option ℕ) → q < length keys
    → size_at span (set keys q o) p + size_said span p (get_or keys q None)
    ≡ size_at span keys p + size_said span p o
unfolding size_at
size_at-set span p keys q o lt = sum_by-set (size_said span p) keys q o None lt

pub size_at-more : (span p : ℕ) (keys : List (Option ℕ))
    → size_at span (keys ++ None ∷ []) p ≡ size_at span keys p
unfolding size_at
size_at-more span p keys = omega (arith, sum_by_push (size_said span p) keys None)

-- where none says anything of the position
size_at-nil : (span p : ℕ) → size_at span [] p ≡ 0
unfolding size_at
size_at-nil span p = refl

size_at-none : (span p : ℕ) (keys : List (Option ℕ))
    → ((q k : ℕ) → get_or keys q None ≡ Some k → k % span ≢ p) → size_at span keys p ≡ 0
size_at-none span p [] none = size_at-nil span p
size_at-none span p (None ∷ keys) none =
    omega (arith, size_at-cons span p None keys, size_at-none span p keys (λ q. none (suc q)))
size_at-none span p (Some k ∷ keys) none =
    omega (
      arith,
      size_at-cons span p (Some k) keys,
      said-past span p k (none zero k refl),
      size_at-none span p keys (λ q. none (suc q)),
    )

-- where some key does
record Said (span p : ℕ) (keys : List (Option ℕ)) : Type 0 where
  pub at : ℕ
  pub one : ℕ
  pub is : get_or keys at None ≡ Some one
  pub here : one % span ≡ p

said_by : (span p : ℕ) (keys : List (Option ℕ)) → 0 < size_at span keys p → Said span p keys
said_by span p [] some = absurd (omega (arith, some, size_at-nil span p))
said_by span p (None ∷ keys) some =
    let more = said_by span p keys (omega (arith, some, size_at-cons span p None keys)) in
    record { at = suc more.at; one = more.one; is = more.is; here = more.here }
said_by span p (Some k ∷ keys) some = elim (cases_eq (k % span) p) [
  | inl e ↦ record { at = zero; one = k; is = refl; here = e }
  | inr n ↦
      let more = said_by span p keys
      (omega (arith, some, size_at-cons span p (Some k) keys, said-past span p k n)) in
      record { at = suc more.at; one = more.one; is = more.is; here = more.here }
]

pub in_keys : (keys : List (Option ℕ)) (q k : ℕ) → get_or keys q None ≡ Some k → q < length keys
in_keys keys q k e = elim (cases_lt q (length keys)) [
  | inl lt ↦ lt
  | inr le ↦ absurd (let f = get_or_past keys q None le in grind arith)
]

-- the list of the sizes
pub sizes-long : (span : ℕ) (keys : List (Option ℕ)) → length (sizes_in span keys) ≡ span
sizes-long span keys = length-map-range_with_len (size_at span keys) 0 span

pub size-at : (span : ℕ) (keys : List (Option ℕ)) (p : ℕ) → p < span
    → slice_index (sizes_in span keys) p ≡ size_at span keys p
size-at span keys p lt =
    get_or-map-range_with_len (size_at span keys) 0 span p p 0 lt (omega arith)

pub sizes-same : (span : ℕ) (keys others : List (Option ℕ))
    → ((p : ℕ) → size_at span others p ≡ size_at span keys p)
    → sizes_in span others ≡ sizes_in span keys
sizes-same span keys others same =
    same_number_lists (sizes_in span others) (sizes_in span keys)
    (sizes-long span others ∙ sym (sizes-long span keys))
    (λ p lt. let within : p < span = omega (arith, lt, sizes-long span others) in
    size-at span others p within ∙ same p ∙ sym (size-at span keys p within))

-- a size is set
pub sizes-set : (span : ℕ) (keys others : List (Option ℕ)) (position size : ℕ) → position < span
    → size_at span others position ≡ size
    → ((p : ℕ) → p ≢ position → size_at span others p ≡ size_at span keys p)
    → sizes_in span others ≡ set (sizes_in span keys) position size
sizes-set span keys others position size lt here past =
    same_number_lists (sizes_in span others) (set (sizes_in span keys) position size)
    (sizes-long span others ∙ sym (sizes-long span keys)
    ∙ sym (length-set (sizes_in span keys) position size))
    (λ p in_p. let within : p < span = omega (arith, in_p, sizes-long span others) in
    size-at span others p within ∙ elim (cases_eq p position) [
      | inl e ↦ ap (size_at span others) e ∙ here
          ∙ sym (get_or-set_same (sizes_in span keys) position size 0
          (omega (arith, lt, sizes-long span keys)))
          ∙ ap (slice_index (set (sizes_in span keys) position size)) (sym e)
      | inr n ↦ past p n ∙ sym (size-at span keys p within)
          ∙ sym (get_or-set_other (sizes_in span keys) position p size 0 n)
    ])

-- what a key says, where no other says anything of its position
pub record Says (most span : ℕ) (keys : List (Option ℕ)) (k : ℕ) : Type 0 where
  pub within : k % span < span
  pub inside : k % span < length (sizes_in span keys)
  pub is : k ≡ key span (k / span) (k % span)
  pub size : size_at span keys (k % span) ≡ k / span
  pub held : slice_index (sizes_in span keys) (k % span) ≡ k / span
  pub some : 1 ≤ k / span
  pub may : k / span ≤ most

pub none_is_not_some : (o : Option ℕ) (k : ℕ) → o ≡ None → o ≢ Some k
none_is_not_some o k e f = absurd cc

pub same_key : (o : Option ℕ) (j k : ℕ) → o ≡ Some j → o ≡ Some k → j ≡ k
same_key o j k e f = cc

module _ (most span : ℕ) (s : KeysHeld) (free : List ℕ) (capacity : ℕ)
    (m : IsMap most span s free capacity) where
  -- without the key its position has no size
  pub size-taken : (q k : ℕ) → get_or s.keys q None ≡ Some k
      → size_at span (set s.keys q None) (k % span) ≡ 0
  size-taken q k e = size_at-none span (k % span) (set s.keys q None) (λ r j is same.
      elim (cases_eq r q) [
        | inl here ↦ none_is_not_some (get_or (set s.keys q None) r None) j
            (ap (λ n. get_or (set s.keys q None) n None) here
            ∙ get_or-set_same s.keys q None None (in_keys s.keys q k e)) is
        | inr past ↦ past (m.apart r q j k
            (sym (get_or-set_other s.keys q r None None past) ∙ is) e same)
      ])

  pub says : (q k : ℕ) → get_or s.keys q None ≡ Some k → Says most span s.keys k
  says q k e =
      let may = m.keyed q k e in
      let positions : 0 < span = elim (cases_lt 0 span) [
        | inl lt ↦ lt
        | inr le ↦
            let none : span ≡ 0 = omega (arith, le) in
            absurd (omega (arith, may.1, ap (λ n. (most + 1) * n) none))
      ] in
      let within = mod_below k span positions in
      let size : size_at span s.keys (k % span) ≡ k / span =
      omega (
        arith,
        size_at-set span (k % span) s.keys q None (in_keys s.keys q k e),
        size-taken q k e,
        ap (size_said span (k % span)) e,
        said-here span (k % span) k refl,
      ) in
      record {
        within = within;
        inside = omega (arith, within, sizes-long span s.keys);
        is = key_parts span k;
        size = size;
        held = size-at span s.keys (k % span) within ∙ size;
        some = le-div 1 k span positions (omega (arith, may.0));
        may = omega (arith, div_below k span (most + 1) positions may.1);
      }

  -- a position that holds a size has its key
  pub record Has (size p : ℕ) : Type 0 where
    pub at : ℕ
    pub within : p < span
    pub is : get_or s.keys at None ≡ Some (key span size p)
    pub may : size ≤ most

  pub has : (size p : ℕ) → slice_index (sizes_in span s.keys) p ≡ size → 1 ≤ size → Has size p
  has size p e some =
      let within : p < span = elim (cases_lt p span) [
        | inl lt ↦ lt
        | inr le ↦
            absurd
            (omega (
              arith,
              e,
              some,
              get_or_past (sizes_in span s.keys) p 0 (omega (arith, le, sizes-long span s.keys)),
            ))
      ] in
      let is : size_at span s.keys p ≡ size = sym (size-at span s.keys p within) ∙ e in
      let by = said_by span p s.keys (omega (arith, is, some)) in
      let w = says by.at by.one by.is in
      let its : by.one / span ≡ size = sym w.size ∙ ap (size_at span s.keys) by.here ∙ is in
      record {
        at = by.at;
        within = within;
        is = by.is ∙ ap Some (w.is ∙ ap (λ n. key span n (by.one % span)) its
            ∙ ap (key span size) by.here);
        may = omega (arith, w.may, its);
      }

-- a map that holds nothing
pub sizes-none : (span : ℕ) → sizes_in span [] ≡ replicate span 0
sizes-none span =
    same_number_lists (sizes_in span []) (replicate span 0)
    (sizes-long span [] ∙ sym (length-replicate {A = ℕ} span 0))
    (λ p lt. let within : p < span = omega (arith, lt, sizes-long span []) in
    size-at span [] p within ∙ size_at-nil span p ∙ sym (get_or-replicate span p 0 0 within))

-- what the calls need and make of a map that is seen as the sizes v
abbrev pub seen : ℕ → ℕ → List (Option ℕ) → Sizes
seen most span keys = record { most = most; held = sizes_in span keys }
