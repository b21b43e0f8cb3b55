-- Taken segments, as one more is taken and as one goes back.
use Rattle.std.proofs.Common.{◌≡◌, ℕ, ◌+◌, ◌<◌, ◌≤◌, List, [], ◌∷◌, length}
use Rattle.std.proofs.Common.{drop, filter, sym, ap, ◌∙◌, subst, refl, inl, inr, arith, get_or}
use Rattle.std.specs.Prelude.{true, Some, None, IfSome, IsSome, All, AllPairs, sum_by}
use Rattle.std.proofs.lemmas.Bool.{cases_eq, cases_lt}
use Rattle.std.proofs.lemmas.List.Elements.{All-nil, All-cons, All-filter}
use Rattle.std.proofs.lemmas.List.Elements.{All-weaker, filter_passes}
use Rattle.std.proofs.lemmas.List.{drop_more}
use Rattle.std.proofs.lemmas.List.Kept.{AllPairs-cons}
use Rattle.std.proofs.lemmas.List.Sums.{sum_by-cons}
use Rattle.ea_model.specs.Keyed.{entered, item_at, without, IsBelow}
use Rattle.ea_model.specs.Region.{Laid, lowest_run, runs}
use Rattle.ea_model.proofs.First.{first-All}
use Rattle.ea_model.proofs.Options.{both_some, some_holds}
use Rattle.ea_model.proofs.Pairs.{pairs_nil, pairs_tail}
use Rattle.ea_model.proofs.Rising.{entered-map, entered_here, entered_past, item_at-each}
use Rattle.ea_model.proofs.Rising.{item_here, item_past, others, without_here, without_none}
use Rattle.ea_model.proofs.Rising.{without_past}
use Rattle.ea_laws.proofs.FreeRuns.{lowest-Fits}
use Rattle.ea_laws.proofs.Segments.{Laid-earlier, Laid-entered}
use Rattle.ea_laws.proofs.Segments as laws
use Rattle.ea_segments.specs.declared.held.Held.{Held}
use Rattle.ea_segments.specs.Histories.{HeldApart, is_earlier, is_of, oldest, segment_of, segments}
use Rattle.ea_segments.specs.Histories.{start_of}

-- segments that are laid from a page on begin there or after it

laid-after : (at end : ℕ) (hs : List Held) → Laid at end (segments hs) → All (λ h. at ≤ h.start) hs
laid-after at end [] t = All-nil (λ (h : Held). at ≤ h.start)
laid-after at end (h ∷ hs) t =
    All-cons (λ (x : Held). at ≤ x.start) h hs t.0
    (All-weaker (λ (x : Held). h.start + h.pages ≤ x.start) (λ x. at ≤ x.start)
    (λ x le. omega (arith, t.0, le)) hs (laid-after (h.start + h.pages) end hs t.2))

pub laid-rising : (at end : ℕ) (hs : List Held) → Laid at end (segments hs)
    → AllPairs (IsBelow start_of) hs
laid-rising at end [] t = pairs_nil (IsBelow start_of)
laid-rising at end (h ∷ hs) t =
    AllPairs-cons (IsBelow start_of) h hs
    (All-weaker (λ (x : Held). h.start + h.pages ≤ x.start) (IsBelow start_of h)
    (λ x le. omega (arith, t.1, le)) hs (laid-after (h.start + h.pages) end hs t.2))
    (laid-rising (h.start + h.pages) end hs t.2)

pub laid-apart : (at end : ℕ) (hs : List Held) → Laid at end (segments hs) → AllPairs HeldApart hs
laid-apart at end [] t = pairs_nil HeldApart
laid-apart at end (h ∷ hs) t =
    AllPairs-cons HeldApart h hs
    (All-weaker (λ (x : Held). h.start + h.pages ≤ x.start) (HeldApart h)
    (λ x le. inl le) hs (laid-after (h.start + h.pages) end hs t.2))
    (laid-apart (h.start + h.pages) end hs t.2)

-- one more segment where a free run was found
pub laid-taken : (total : ℕ) (x : Held) (hs : List Held) → Laid 0 total (segments hs)
    → lowest_run x.pages (runs 0 total (segments hs)) ≡ Some x.start → 1 ≤ x.pages
    → Laid 0 total (segments (entered start_of x hs))
laid-taken total x hs t found some =
    let f = some_holds (lowest_run x.pages (runs 0 total (segments hs))) x.start _ found
    (lowest-Fits 0 total x.pages (segments hs) t) in
    subst (Laid 0 total) (entered-map laws.start_of segment_of x hs)
    (Laid-entered 0 total (segment_of x) (segments hs) t f.behind f.before some f.apart)

-- one segment fewer
pub laid-without : (at end key : ℕ) (hs : List Held) → Laid at end (segments hs)
    → Laid at end (segments (without start_of key hs))
laid-without at end key [] t = t
laid-without at end key (h ∷ hs) t =
    let more = laid-without (h.start + h.pages) end key hs t.2 in
    elim (cases_eq h.start key) [
      | inl e ↦ subst (λ ys. Laid at end (segments ys)) (sym (without_here start_of key h hs e))
          (Laid-earlier at (h.start + h.pages) end (segments (without start_of key hs))
          (omega (arith, t.0)) more)
      | inr n ↦ subst (λ ys. Laid at end (segments ys)) (sym (without_past start_of key h hs n))
          (t.0, t.1, more)
    ]

-- sums over segments

pub sum-entered : (f : Held → ℕ) (x : Held) (hs : List Held)
    → sum_by f (entered start_of x hs) ≡ f x + sum_by f hs
sum-entered f x [] = sum_by-cons f x []
sum-entered f x (h ∷ hs) =
    elim (cases_lt x.start h.start) [
      | inl p ↦ ap (sum_by f) (entered_here start_of x h hs p) ∙ sum_by-cons f x (h ∷ hs)
      | inr q ↦ omega (
        arith,
        ap (sum_by f) (entered_past start_of x h hs q),
        sum_by-cons f h (entered start_of x hs),
        sum_by-cons f h hs,
        sum-entered f x hs,
      )
    ]

found-first : (key : ℕ) (x h : Held) (hs : List Held) → h.start ≡ key
    → item_at start_of (h ∷ hs) key ≡ Some x → h ≡ x
found-first key x h hs e there =
    let same : Some h ≡ Some x = sym (item_here start_of key h hs e) ∙ there in cc

pub sum-without : (f : Held → ℕ) (key : ℕ) (x : Held) (hs : List Held)
    → AllPairs (IsBelow start_of) hs → item_at start_of hs key ≡ Some x
    → sum_by f (without start_of key hs) + f x ≡ sum_by f hs
sum-without f key x [] rising there = absurd cc
sum-without f key x (h ∷ hs) rising there =
    elim (cases_eq h.start key) [
      | inl e ↦ omega (
        arith,
        ap (sum_by f) (without_here start_of key h hs e
            ∙ without_none start_of key hs (others start_of key h hs rising e)),
        ap f (found-first key x h hs e there),
        sum_by-cons f h hs,
      )
      | inr n ↦ omega (
        arith,
        ap (sum_by f) (without_past start_of key h hs n),
        sum_by-cons f h (without start_of key hs),
        sum_by-cons f h hs,
        sum-without f key x hs (pairs_tail (IsBelow start_of) h hs rising)
            (sym (item_past start_of key h hs n) ∙ there),
      )
    ]

pub length-without : (key : ℕ) (hs : List Held) → length (without start_of key hs) ≤ length hs
length-without key [] = omega arith
length-without key (h ∷ hs) =
    elim (cases_eq h.start key) [
      | inl e ↦ omega
          (arith, ap length (without_here start_of key h hs e), length-without key hs)
      | inr n ↦ omega
          (arith, ap length (without_past start_of key h hs n), length-without key hs)
    ]

-- the oldest segment is one of them
pub oldest-All : (P : Held → Type 0) (i name : ℕ) (hs : List Held) → All P hs
    → IfSome (oldest i name hs) P
oldest-All P i name hs all =
    first-All P is_earlier None (filter (is_of i name) hs) tt (All-filter (is_of i name) P hs all)

-- and it is found by its start
pub oldest-found : (i name : ℕ) (hs : List Held) → AllPairs (IsBelow start_of) hs
    → IfSome (oldest i name hs) (λ h. item_at start_of hs h.start ≡ Some h)
oldest-found i name hs rising =
    oldest-All (λ h. item_at start_of hs h.start ≡ Some h) i name hs
    (λ k d within. item_at-each start_of k d hs rising within)

-- and it is one of the scheduler under the name
pub oldest-own : (i name : ℕ) (hs : List Held) → AllPairs (IsBelow start_of) hs
    → IfSome (oldest i name hs)
    (λ h. (item_at start_of hs h.start ≡ Some h) × (is_of i name h ≡ true))
oldest-own i name hs rising =
    both_some (oldest i name hs) (λ h. item_at start_of hs h.start ≡ Some h)
    (λ h. is_of i name h ≡ true) (λ h. (item_at start_of hs h.start ≡ Some h)
    × (is_of i name h ≡ true)) (λ h found own. (found, own)) (oldest-found i name hs rising)
    (first-All (λ h. is_of i name h ≡ true) is_earlier None (filter (is_of i name) hs) tt
    (filter_passes (is_of i name) hs))

pub oldest-there : (i name : ℕ) (h : Held) (hs : List Held) → AllPairs (IsBelow start_of) hs
    → oldest i name hs ≡ Some h → IsSome (item_at start_of hs h.start)
oldest-there i name h hs rising is =
    subst IsSome
    (sym (some_holds (oldest i name hs) h (λ x. item_at start_of hs x.start ≡ Some x) is
    (oldest-found i name hs rising))) refl

-- the next segment of the rest, and the rest after it

abbrev pub no_segment : Held
no_segment = record { start = 0; pages = 0; scheduler = 0; name = 0; turn = 0 }

pub laid-next : (at end : ℕ) (hs : List Held) (i : ℕ) → i < length hs
    → Laid at end (segments (drop i hs))
    → Laid at end (segments (get_or hs i no_segment ∷ drop (i + 1) hs))
laid-next at end hs i h t = rw (drop_more hs i no_segment h) at t
