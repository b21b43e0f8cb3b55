-- The lowest run that is long enough, the end of the highest one, and where a segment is placed.
use Rattle.std.proofs.Common.{◌≡◌, ℕ, ◌+◌, ◌-◌, ◌<◌, ◌≤◌, ◌↔◌, List, [], ◌∷◌, ◌++◌, sym, ap, ◌∙◌}
use Rattle.std.proofs.Common.{subst, refl, inl, inr, ◌⊎◌, append-nil, arith}
use Rattle.std.specs.Prelude.{Bool, true, false, Option, Some, None, IfSome, IsNone, All, nat_le}
use Rattle.std.specs.Prelude.{nat_lt}
use Rattle.std.specs.Prelude.{if◌then◌else◌}
use Rattle.std.specs.Option.{option_or}
use Rattle.std.proofs.lemmas.Bool.{cases_lt, cond-false, cond-true}
use Rattle.std.proofs.lemmas.List.Elements.{All-nil, All-cons, All-head, All-tail}
use Rattle.ea_model.specs.declared.carriers.Segment.{Segment}
use Rattle.ea_model.specs.Region.{stretch, runs, lowest_run, highest_end, place_in, Laid}
use Rattle.ea_model.specs.Region.{SegmentApart, AreFree}
use Rattle.ea_model.proofs.Options.{if_some}
use Rattle.ea_laws.proofs.Segments.{Laid-end}

-- the pages lie between the ends and meet no segment
pub record Fits (at end base pages : ℕ) (ss : List Segment) : Type 0 where
  pub behind : at ≤ base
  pub before : base + pages ≤ end
  pub apart : AreFree base pages ss

-- the first run is long enough, or a later one is looked for
lowest_step : (pages a b : ℕ) (rest : List Segment)
    → ((a < b) × (pages ≤ b - a) × (lowest_run pages (stretch a b ++ rest) ≡ Some a))
    ⊎ (lowest_run pages (stretch a b ++ rest) ≡ lowest_run pages rest)
lowest_step pages a b rest = grind arith

lowest_last : (pages a b : ℕ)
    → ((a < b) × (pages ≤ b - a) × (lowest_run pages (stretch a b) ≡ Some a))
    ⊎ (lowest_run pages (stretch a b) ≡ None)
lowest_last pages a b = grind arith

-- pages before the segments meet none of them
pub apart-before : (at end base pages : ℕ) (ss : List Segment) → Laid at end ss → base + pages ≤ at
    → AreFree base pages ss
apart-before at end base pages [] t h = All-nil (SegmentApart base pages)
apart-before at end base pages (s ∷ ss) t h =
    All-cons (SegmentApart base pages) s ss (inr (omega (arith, t.0)))
    (apart-before (s.base + s.pages) end base pages ss t.2 (omega (arith, t.0)))

pub lowest-Fits : (at end pages : ℕ) (ss : List Segment) → Laid at end ss
    → IfSome (lowest_run pages (runs at end ss)) (λ base. Fits at end base pages ss)
lowest-Fits at end pages [] t =
    elim (lowest_last pages at end) [
      | inl p ↦ subst (λ r. IfSome r (λ base. Fits at end base pages [])) (sym p.2)
          (record {
            behind = omega arith;
            before = omega arith;
            apart = All-nil
                (SegmentApart at pages);
          })
      | inr q ↦ subst (λ r. IfSome r (λ base. Fits at end base pages [])) (sym q) tt
    ]
lowest-Fits at end pages (s ∷ ss) t =
    elim (lowest_step pages at s.base (runs (s.base + s.pages) end ss)) [
      | inl p ↦ subst (λ r. IfSome r (λ base. Fits at end base pages (s ∷ ss))) (sym p.2)
          (record {
            behind = omega arith;
            before = omega
                (arith, t.1, Laid-end (s.base + s.pages) end ss t.2);
            apart = apart-before s.base end at
                pages (s ∷ ss) (omega arith, t.1, t.2) (omega arith);
          })
      | inr q ↦ subst (λ r. IfSome r (λ base. Fits at end base pages (s ∷ ss))) (sym q)
          (if_some _ (λ base. Fits (s.base + s.pages) end base pages ss)
          (λ base. Fits at end base pages (s ∷ ss))
          (λ base f. record {
            behind = omega (arith, t.0, f.behind);
            before = f.before;
            apart = All-cons (SegmentApart base pages) s ss (inl f.behind) f.apart;
          })
          (lowest-Fits (s.base + s.pages) end pages ss t.2))
    ]

pub lowest_past : (pages : ℕ) (r : Segment) (rs : List Segment) → r.pages < pages
    → lowest_run pages (r ∷ rs) ≡ lowest_run pages rs
lowest_past pages r rs h = grind arith

lowest_tail : (pages : ℕ) (r : Segment) (rs : List Segment) → IsNone (lowest_run pages (r ∷ rs))
    → (r.pages < pages) × IsNone (lowest_run pages rs)
lowest_tail pages r rs h = elim (cases_lt r.pages pages)
    [ inl lt ↦ (lt, subst IsNone (lowest_past pages r rs lt) h) | inr le ↦ absurd (grind arith) ]

none_short : (pages : ℕ) (rs : List Segment) → IsNone (lowest_run pages rs)
    → All (λ r. r.pages < pages) rs
none_short pages [] h = All-nil (λ (r : Segment). r.pages < pages)
none_short pages (r ∷ rs) h =
    let both = lowest_tail pages r rs h in
    All-cons (λ (r : Segment). r.pages < pages) r rs both.0 (none_short pages rs both.1)

short_none : (pages : ℕ) (rs : List Segment) → All (λ r. r.pages < pages) rs
    → IsNone (lowest_run pages rs)
short_none pages [] h = refl
short_none pages (r ∷ rs) h =
    subst IsNone (sym (lowest_past pages r rs (All-head (λ (r : Segment). r.pages < pages) r rs h)))
    (short_none pages rs (All-tail (λ (r : Segment). r.pages < pages) r rs h))

-- none is found exactly where each run is too short
pub lowest-none : (pages : ℕ) (rs : List Segment)
    → IsNone (lowest_run pages rs) ↔ All (λ r. r.pages < pages) rs
lowest-none pages rs = (none_short pages rs, short_none pages rs)

-- the last pages of one run, where it is long enough
abbrev end_of : ℕ → Segment → Option ℕ
end_of pages r = if nat_le pages r.pages then Some (r.base + r.pages - pages) else None

pub highest-nil : (pages : ℕ) → highest_end pages [] ≡ None
unfolding highest_end
highest-nil pages = refl

pub highest-cons : (pages : ℕ) (r : Segment) (rs : List Segment)
    → highest_end pages (r ∷ rs) ≡ option_or (highest_end pages rs) (end_of pages r)
unfolding highest_end
highest-cons pages r rs = refl

end-long : (pages : ℕ) (r : Segment) → pages ≤ r.pages
    → end_of pages r ≡ Some (r.base + r.pages - pages)
end-long pages r long = grind (arith, long)

end-short : (pages : ℕ) (r : Segment) → r.pages < pages → end_of pages r ≡ None
end-short pages r short = grind (arith, short)

-- a later run is long enough, or this one is looked at
or-found : (o : Option ℕ) (other : Option ℕ) (base : ℕ) → option_or o other ≡ Some base
    → (o ≡ Some base) ⊎ ((o ≡ None) × (other ≡ Some base))
or-found None other base e = inr (refl, e)
or-found (Some x) other base e = inl e

or-none : (o other : Option ℕ) → IsNone (option_or o other) → IsNone o × IsNone other
or-none None other h = (refl, h)
or-none (Some x) other h = absurd cc

end-found : (pages : ℕ) (r : Segment) (base : ℕ) → end_of pages r ≡ Some base
    → (pages ≤ r.pages) × (base + pages ≡ r.base + r.pages)
end-found pages r base e = elim (cases_lt r.pages pages) [
  | inl short ↦ let never : None ≡ Some base = sym (end-short pages r short) ∙ e in absurd cc
  | inr long ↦
      let is : Some (r.base + r.pages - pages) ≡ Some base = sym (end-long pages r long) ∙ e in
      let same : r.base + r.pages - pages ≡ base = cc in
      (long, omega (arith, long, same))
]

-- a run that ends where it is found
pub highest-found : (pages : ℕ) (r : Segment) (rs : List Segment) (base : ℕ)
    → highest_end pages (r ∷ rs) ≡ Some base
    → (highest_end pages rs ≡ Some base)
    ⊎ ((highest_end pages rs ≡ None) × (pages ≤ r.pages) × (base + pages ≡ r.base + r.pages))
highest-found pages r rs base e = elim (or-found (highest_end pages rs) (end_of pages r) base
    (sym (highest-cons pages r rs) ∙ e)) [
      | inl later ↦ inl later
      | inr here ↦ let is = end-found pages r base here.1 in inr (here.0, is.0, is.1)
    ]

end_none : (pages : ℕ) (r : Segment) → IsNone (end_of pages r) → r.pages < pages
end_none pages r h = elim (cases_lt r.pages pages)
    [ inl lt ↦ lt | inr le ↦ absurd (let e = end-long pages r le in cc) ]

highest_short : (pages : ℕ) (rs : List Segment) → IsNone (highest_end pages rs)
    → All (λ r. r.pages < pages) rs
highest_short pages [] h = All-nil (λ (r : Segment). r.pages < pages)
highest_short pages (r ∷ rs) h =
    let both = or-none (highest_end pages rs) (end_of pages r)
    (subst IsNone (highest-cons pages r rs) h) in
    All-cons (λ (r : Segment). r.pages < pages) r rs (end_none pages r both.1)
    (highest_short pages rs both.0)

short_highest : (pages : ℕ) (rs : List Segment) → All (λ r. r.pages < pages) rs
    → highest_end pages rs ≡ None
short_highest pages [] h = highest-nil pages
short_highest pages (r ∷ rs) h =
    highest-cons pages r rs
    ∙ ap (λ o. option_or o (end_of pages r))
    (short_highest pages rs (All-tail (λ (r : Segment). r.pages < pages) r rs h))
    ∙ end-short pages r (All-head (λ (r : Segment). r.pages < pages) r rs h)

-- none is found exactly where each run is too short
pub highest-none : (pages : ℕ) (rs : List Segment)
    → IsNone (highest_end pages rs) ↔ All (λ r. r.pages < pages) rs
highest-none pages rs = (
  highest_short pages rs,
  λ h. subst IsNone (sym (short_highest pages rs h)) refl,
)

-- of a stretch before other runs
stretch_found : (pages a b : ℕ) (rest : List Segment) (base : ℕ)
    → highest_end pages (stretch a b ++ rest) ≡ Some base
    → (highest_end pages rest ≡ Some base) ⊎ ((a ≤ base) × (base + pages ≡ b))
stretch_found pages a b rest base = elim (cases_lt a b) [
  | inl lt ↦ subst (λ ss. highest_end pages (ss ++ rest) ≡ Some base
      → (highest_end pages rest ≡ Some base) ⊎ ((a ≤ base) × (base + pages ≡ b)))
      (sym (cond-true (nat_lt a b) (record { base = a; pages = b - a } ∷ []) []
      (grind (arith, lt))))
      (λ e. elim (highest-found pages (record { base = a; pages = b - a }) rest base e) [
        | inl later ↦ inl later
        | inr here ↦ inr (omega (arith, lt, here.1, here.2), omega (arith, lt, here.2))
      ])
  | inr ge ↦ subst (λ ss. highest_end pages (ss ++ rest) ≡ Some base
      → (highest_end pages rest ≡ Some base) ⊎ ((a ≤ base) × (base + pages ≡ b)))
      (sym (cond-false (nat_lt a b) (record { base = a; pages = b - a } ∷ []) []
      (grind (arith, ge))))
      (λ e. inl e)
]

highest_fits : (at end pages : ℕ) (ss : List Segment) (base : ℕ) → Laid at end ss
    → highest_end pages (runs at end ss) ≡ Some base → Fits at end base pages ss
highest_fits at end pages [] base t e = elim (stretch_found pages at end [] base
    (subst (λ rs. highest_end pages rs ≡ Some base) (sym (append-nil (stretch at end))) e)) [
      | inl later ↦ let never : None ≡ Some base = sym (highest-nil pages) ∙ later in absurd cc
      | inr here ↦ record {
        behind = here.0;
        before = omega (arith, here.1);
        apart = All-nil (SegmentApart base pages);
      }
    ]
highest_fits at end pages (s ∷ ss) base t e =
    elim (stretch_found pages at s.base (runs (s.base + s.pages) end ss) base e) [
      | inl later ↦
          let f = highest_fits (s.base + s.pages) end pages ss base t.2 later in record {
            behind = omega (arith, t.0, f.behind);
            before = f.before;
            apart = All-cons (SegmentApart base pages) s ss (inl f.behind) f.apart;
          }
      | inr here ↦ record {
        behind = here.0;
        before = omega (arith, here.1, t.1, Laid-end (s.base + s.pages) end ss t.2);
        apart = apart-before s.base end base pages (s ∷ ss) (omega arith, t.1, t.2)
            (omega (arith, here.1));
      }
    ]

found-Fits : (o : Option ℕ) (P : ℕ → Type 0) → ((base : ℕ) → o ≡ Some base → P base)
    → IfSome o P
found-Fits None P h = tt
found-Fits (Some base) P h = h base refl

pub highest-Fits : (at end pages : ℕ) (ss : List Segment) → Laid at end ss
    → IfSome (highest_end pages (runs at end ss)) (λ base. Fits at end base pages ss)
highest-Fits at end pages ss t =
    found-Fits (highest_end pages (runs at end ss)) (λ base. Fits at end base pages ss)
    (λ base e. highest_fits at end pages ss base t e)

-- where a segment is placed its pages fit, whether segments fall or not
pub place-Fits : (falling : Bool) (at end pages : ℕ) (ss : List Segment) → Laid at end ss
    → IfSome (place_in falling pages (runs at end ss)) (λ base. Fits at end base pages ss)
place-Fits true at end pages ss t = highest-Fits at end pages ss t
place-Fits false at end pages ss t = lowest-Fits at end pages ss t

pub place-none : (falling : Bool) (pages : ℕ) (rs : List Segment)
    → IsNone (place_in falling pages rs) ↔ All (λ r. r.pages < pages) rs
place-none true pages rs = highest-none pages rs
place-none false pages rs = lowest-none pages rs
