-- Segments that lie one after another.
use Rattle.std.proofs.Common.{suc, zero, ◌≡◌, ℕ, ◌+◌, ◌-◌, ◌<◌, ◌≤◌, true, false, List, [], ◌∷◌}
use Rattle.std.proofs.Common.{◌++◌, length, get_or, sym, ap, ◌∙◌, subst, refl, inl, inr, ◌⊎◌, arith}
use Rattle.std.specs.Prelude.{Any}
use Rattle.std.proofs.lemmas.Bool.{cases_lt}
use Rattle.std.proofs.lemmas.List.Elements.{All-head, All-tail}
use Rattle.ea_model.specs.declared.carriers.Segment.{Segment}
use Rattle.ea_model.specs.Region.{stretch, with_segment, covers, cut_from, Laid, SegmentApart}
use Rattle.ea_model.specs.Region.{AreFree, IsTailOf, IsTail}
use Rattle.ea_model.proofs.Rising.{entered_here, entered_past}

-- they end at the end or before it
pub Laid-end : (at end : ℕ) (ss : List Segment) → Laid at end ss → at ≤ end
Laid-end at end [] t = t
Laid-end at end (s ∷ ss) t = omega (arith, t.0, t.1, Laid-end (s.base + s.pages) end ss t.2)

-- they may begin earlier
pub Laid-earlier : (a at end : ℕ) (ss : List Segment) → a ≤ at → Laid at end ss → Laid a end ss
Laid-earlier a at end [] le t = omega arith
Laid-earlier a at end (s ∷ ss) le t = (omega arith, t.1, t.2)

abbrev pub start_of : Segment → ℕ
start_of s = s.base

-- still laid with a segment that meets no other
pub Laid-entered : (at end : ℕ) (x : Segment) (ss : List Segment) → Laid at end ss → at ≤ x.base
    → x.base + x.pages ≤ end → 0 < x.pages → AreFree x.base x.pages ss
    → Laid at end (with_segment x ss)
Laid-entered at end x [] t behind before some apart = (behind, some, before)
Laid-entered at end x (s ∷ ss) t behind before some apart =
    let beside : SegmentApart x.base x.pages s = All-head (SegmentApart x.base x.pages) s ss apart
    in
    elim (cases_lt x.base s.base) [
      | inl lt ↦ subst (Laid at end) (sym (entered_here start_of x s ss lt)) (
        behind,
        some,
        elim beside [ inl p ↦ absurd (omega (arith, t.1)) | inr q ↦ (q, t.1, t.2) ],
      )
      | inr le ↦ subst (Laid at end) (sym (entered_past start_of x s ss le)) (
        t.0,
        t.1,
        elim beside [
          | inl p ↦ Laid-entered (s.base + s.pages) end x ss t.2 p before
              some (All-tail (SegmentApart x.base x.pages) s ss apart)
          | inr q ↦ absurd (omega arith)
        ],
      )
    ]

-- a segment covers the page, or it lies beside it
pub covers_cases : (page : ℕ) (s : Segment)
    → ((s.base ≤ page) × (page < s.base + s.pages) × (covers page s ≡ true))
    ⊎ (((page < s.base) ⊎ (s.base + s.pages ≤ page)) × (covers page s ≡ false))
covers_cases page s = grind arith

cut_here : (page : ℕ) (s : Segment) (ss : List Segment) → covers page s ≡ true
    → cut_from page (s ∷ ss) ≡ stretch s.base page ++ cut_from page ss
cut_here page s ss h = rw h refl

pub cut_past : (page : ℕ) (s : Segment) (ss : List Segment) → covers page s ≡ false
    → cut_from page (s ∷ ss) ≡ s ∷ cut_from page ss
cut_past page s ss h = rw h refl

-- no segment covers a page before the first one
pub cut-before : (at end page : ℕ) (ss : List Segment) → Laid at end ss → page < at
    → cut_from page ss ≡ ss
cut-before at end page [] t h = refl
cut-before at end page (s ∷ ss) t h =
    elim (covers_cases page s) [
      | inl p ↦ absurd (omega (arith, t.0))
      | inr q ↦ cut_past page s ss q.1
          ∙ ap (λ xs. s ∷ xs) (cut-before (s.base + s.pages) end page ss t.2 (omega (arith, t.0)))
    ]

pub stretch_some : (a b : ℕ) → a < b → stretch a b ≡ record { base = a; pages = b - a } ∷ []
stretch_some a b h = grind arith

pub stretch_none : (a b : ℕ) → b ≤ a → stretch a b ≡ []
stretch_none a b h = grind arith

-- what is cut of the segments whose first one covers the page
pub cut_first : (at end page : ℕ) (s : Segment) (ss : List Segment) → Laid at end (s ∷ ss)
    → page < s.base + s.pages → covers page s ≡ true
    → cut_from page (s ∷ ss) ≡ stretch s.base page ++ ss
cut_first at end page s ss t lt c = cut_here page s ss c
    ∙ ap (λ xs. stretch s.base page ++ xs) (cut-before (s.base + s.pages) end page ss t.2 lt)

-- still laid without the pages of a segment from the page on
pub Laid-cut : (at end page : ℕ) (ss : List Segment) → Laid at end ss
    → Laid at end (cut_from page ss)
Laid-cut at end page [] t = t
Laid-cut at end page (s ∷ ss) t =
    elim (covers_cases page s) [
      | inl p ↦ subst (Laid at end) (sym (cut_first at end page s ss t p.1 p.2))
          (elim (cases_lt s.base page) [
            | inl lt ↦ subst (λ xs. Laid at end (xs ++ ss)) (sym (stretch_some s.base page lt)) (
              t.0,
              omega arith,
              Laid-earlier (s.base + (page - s.base)) (s.base + s.pages) end ss
                  (omega arith) t.2,
            )
            | inr le ↦ subst (λ xs. Laid at end (xs ++ ss)) (sym (stretch_none s.base page le))
                (Laid-earlier at (s.base + s.pages) end ss (omega (arith, t.0)) t.2)
          ])
      | inr q ↦ subst (Laid at end) (sym (cut_past page s ss q.1))
          (t.0, t.1, Laid-cut (s.base + s.pages) end page ss t.2)
    ]

-- what holds of some element holds of the first one or of some later one
pub any_cases : {A : Type 0} (P : A → Type 0) (x : A) (xs : List A) (k : ℕ) (y : A)
    → k < length (x ∷ xs) → get_or (x ∷ xs) k y ≡ y → P y → P x ⊎ Any P xs
any_cases P x xs zero y lt e p = inl (subst P (sym e) p)
any_cases P x xs (suc k) y lt e p = inr (k, y, omega arith, e, p)

pub IsTail_cases : (base pages : ℕ) (s : Segment) (ss : List Segment) → IsTail base pages (s ∷ ss)
    → IsTailOf base pages s ⊎ IsTail base pages ss
IsTail_cases base pages s ss h = any_cases (IsTailOf base pages) s ss h.0 h.1 h.2 h.3 h.4

-- it is not before the first segment
pub IsTail_behind : (at end base pages : ℕ) (ss : List Segment) → Laid at end ss
    → IsTail base pages ss → at ≤ base
IsTail_behind at end base pages [] t h = absurd (omega (arith, h.2))
IsTail_behind at end base pages (s ∷ ss) t h =
    elim (IsTail_cases base pages s ss h) [
      | inl p ↦ omega (arith, t.0, p.within)
      | inr q ↦ omega (arith, t.0, IsTail_behind (s.base + s.pages) end base pages ss t.2 q)
    ]
