-- The taken segments by their index.
use Rattle.std.proofs.Common.{◌≡◌, ◌≢◌, ℕ, ◌+◌, ◌-◌, ◌<◌, ◌≤◌, true, false, List, [], ◌∷◌, ◌++◌}
use Rattle.std.proofs.Common.{length, get_or, set, drop, sym, ap, ◌∙◌, subst, refl, inl, inr, arith}
use Rattle.std.specs.Prelude.{remove}
use Rattle.std.specs.List.{position_or_len}
use Rattle.std.proofs.lemmas.List.{drop_more, get_or_default}
use Rattle.ea_model.specs.declared.carriers.Segment.{Segment}
use Rattle.ea_model.specs.Region.{stretch, covers, cut_from, Laid, IsTailOf, IsTail}
use Rattle.ea_model.proofs.Rising.{get_or_cons, remove_cons, set_cons}
use Rattle.ea_laws.proofs.Segments.{covers_cases, cut_first, cut_past, stretch_none, IsTail_cases}
use Rattle.ea_laws.proofs.Segments.{IsTail_behind}

-- the default of an index past the end
abbrev pub no_segment : Segment
no_segment = record { base = 0; pages = 0 }

-- the next segment of the rest, and the rest after it
pub Laid-next : (at end : ℕ) (ss : List Segment) (i : ℕ) → i < length ss → Laid at end (drop i ss)
    → Laid at end (get_or ss i no_segment ∷ drop (i + 1) ss)
Laid-next at end ss i h t = rw (drop_more ss i no_segment h) at t

position_first : (page : ℕ) (s : Segment) (ss : List Segment) → covers page s ≡ true
    → position_or_len (covers page) (s ∷ ss) ≡ 0
position_first page s ss h = rw h refl

position_past : (page : ℕ) (s : Segment) (ss : List Segment) → covers page s ≡ false
    → position_or_len (covers page) (s ∷ ss) ≡ 1 + position_or_len (covers page) ss
position_past page s ss h = rw h refl

-- the whole segment that begins at the page is taken out
pub remove-cut : (at end page : ℕ) (d : Segment) (ss : List Segment) → Laid at end ss
    → (get_or ss (position_or_len (covers page) ss) d).base ≡ page
    → position_or_len (covers page) ss < length ss
    → remove ss (position_or_len (covers page) ss) ≡ cut_from page ss
remove-cut at end page d [] t h lt = absurd (omega arith)
remove-cut at end page d (s ∷ ss) t h lt =
    elim (covers_cases page s) [
      | inl p ↦
          let zero = position_first page s ss p.2 in
          let begins : s.base ≡ page = subst (λ n. (get_or (s ∷ ss) n d).base ≡ page) zero h in
          ap (remove (s ∷ ss)) zero
          ∙ sym (cut_first at end page s ss t p.1 p.2
          ∙ ap (λ xs. xs ++ ss) (stretch_none s.base page (omega arith)))
      | inr q ↦
          let n = position_or_len (covers page) ss in
          let past = position_past page s ss q.1 in
          let there : (get_or ss n d).base ≡ page = subst (λ x. x.base ≡ page)
          (ap (λ k. get_or (s ∷ ss) k d) past ∙ get_or_cons s d ss n) h in
          ap (remove (s ∷ ss)) past ∙ remove_cons s ss n
          ∙ ap (λ xs. s ∷ xs)
          (remove-cut (s.base + s.pages) end page d ss t.2 there (omega arith))
          ∙ sym (cut_past page s ss q.1)
    ]

-- the pages of a segment from the page on are taken off
pub set-cut : (at end page : ℕ) (x d : Segment) (ss : List Segment) → Laid at end ss
    → x.base ≡ (get_or ss (position_or_len (covers page) ss) d).base → x.base + x.pages ≡ page
    → 0 < x.pages → position_or_len (covers page) ss < length ss
    → set ss (position_or_len (covers page) ss) x ≡ cut_from page ss
set-cut at end page x d [] t begins ends some lt = absurd (omega arith)
set-cut at end page x d (s ∷ ss) t begins ends some lt =
    elim (covers_cases page s) [
      | inl p ↦
          let zero = position_first page s ss p.2 in
          let base : x.base ≡ s.base = subst (λ n. x.base ≡ (get_or (s ∷ ss) n d).base) zero begins
          in
          let same : x ∷ [] ≡ stretch s.base page = grind arith in
          ap (λ n. set (s ∷ ss) n x) zero ∙ ap (λ xs. xs ++ ss) same
          ∙ sym (cut_first at end page s ss t p.1 p.2)
      | inr q ↦
          let n = position_or_len (covers page) ss in
          let past = position_past page s ss q.1 in
          let there : x.base ≡ (get_or ss n d).base = subst (λ y. x.base ≡ y.base)
          (ap (λ k. get_or (s ∷ ss) k d) past ∙ get_or_cons s d ss n) begins in
          ap (λ k. set (s ∷ ss) k x) past ∙ set_cons x s ss n
          ∙ ap (λ xs. s ∷ xs) (set-cut (s.base + s.pages) end page x d ss t.2 there ends some
          (omega arith)) ∙ sym (cut_past page s ss q.1)
    ]

-- the first segment that covers the base of a tail is the one that it is the tail of
pub record IsTailAt (base pages n : ℕ) (ss : List Segment) : Type 0 where
  pub inside : n < length ss
  pub tail : (d : Segment) → IsTailOf base pages (get_or ss n d)

pub IsTail-at : (at end base pages : ℕ) (ss : List Segment) → Laid at end ss → IsTail base pages ss
    → IsTailAt base pages (position_or_len (covers base) ss) ss
IsTail-at at end base pages [] t h = absurd (omega (arith, h.2))
IsTail-at at end base pages (s ∷ ss) t h =
    elim (IsTail_cases base pages s ss h) [
      | inl p ↦ elim (covers_cases base s) [
        | inl c ↦ subst (λ n. IsTailAt base pages n (s ∷ ss)) (sym (position_first base s ss c.2))
            (record { inside = omega arith; tail = λ d. p })
        | inr n ↦ absurd
            (elim n.0 [ inl b ↦ omega (arith, p.within) | inr b ↦ omega (arith, p.some, p.to_end) ])
      ]
      | inr q ↦
          let behind = IsTail_behind (s.base + s.pages) end base pages ss t.2 q in
          let more = IsTail-at (s.base + s.pages) end base pages ss t.2 q in
          let n = position_or_len (covers base) ss in
          elim (covers_cases base s) [
            | inl c ↦ absurd (omega arith)
            | inr c ↦ subst (λ k. IsTailAt base pages k (s ∷ ss))
                (sym (position_past base s ss c.1))
                (record {
                  inside = omega (arith, more.inside);
                  tail = λ d. subst
                      (IsTailOf base pages) (sym (get_or_cons s d ss n)) (more.tail d);
                })
          ]
    ]

-- s stands at the place n, and the pages are its tail
pub record Found (base pages n : ℕ) (s : Segment) (ss : List Segment) : Type 0 where
  pub inside : n < length ss
  pub place : n ≡ position_or_len (covers base) ss
  pub element : s ≡ get_or ss n s
  pub tail : IsTailOf base pages s

pub IsTail-found : (at end base pages n : ℕ) (s : Segment) (ss : List Segment) → Laid at end ss
    → IsTail base pages ss → n ≡ position_or_len (covers base) ss → s ≡ get_or ss n s
    → Found base pages n s ss
IsTail-found at end base pages n s ss t h place element =
    let found = subst (λ k. IsTailAt base pages k ss) (sym place)
    (IsTail-at at end base pages ss t h) in
    record {
      inside = found.inside;
      place = place;
      element = element;
      tail = subst
          (IsTailOf base pages) (sym element) (found.tail s);
    }

-- the whole segment is given back
pub remove-found : (at end base pages n : ℕ) (s : Segment) (ss : List Segment) → Laid at end ss
    → Found base pages n s ss → s.pages ≡ pages → remove ss n ≡ cut_from base ss
remove-found at end base pages n s ss t f e =
    let begins : s.base ≡ base = omega (arith, f.tail.to_end) in
    let there = subst (λ k. (get_or ss k s).base ≡ base) f.place (ap (λ x. x.base) (sym f.element)
    ∙ begins) in
    ap (remove ss) f.place
    ∙ remove-cut at end base s ss t there (subst (λ k. k < length ss) f.place f.inside)

-- the tail of the segment is given back
pub set-found : (at end base pages n : ℕ) (s y : Segment) (ss : List Segment) → Laid at end ss
    → Found base pages n s ss → s.pages ≢ pages → y ≡ get_or ss n y
    → set ss n (record { base = y.base; pages = s.pages - pages }) ≡ cut_from base ss
set-found at end base pages n s y ss t f e same =
    let x : Segment = record { base = y.base; pages = s.pages - pages } in
    let begins : y.base ≡ s.base = ap (λ z. z.base) (same ∙ get_or_default ss n y s f.inside
    ∙ sym f.element) in
    let there = subst (λ k. x.base ≡ (get_or ss k s).base) f.place (begins
    ∙ ap (λ z. z.base) f.element) in
    let le : s.base ≤ base = f.tail.within in
    let to_end : base + pages ≡ s.base + s.pages = f.tail.to_end in
    ap (λ k. set ss k x) f.place ∙ set-cut at end base x s ss t there (omega arith) (omega arith)
    (subst (λ k. k < length ss) f.place f.inside)
