-- Which pages can be given back after a call.
use Rattle.std.proofs.Common.{suc, ℕ, ◌+◌, ◌-◌, ◌<◌, ◌≤◌, List, [], ◌∷◌, ◌++◌, sym, subst, refl}
use Rattle.std.proofs.Common.{inl, inr, ◌⊎◌, arith}
use Rattle.std.specs.Prelude.{Any}
use Rattle.std.proofs.lemmas.Bool.{cases_lt}
use Rattle.ea_model.specs.declared.carriers.Segment.{Segment}
use Rattle.ea_model.specs.Region.{stretch, with_segment, cut_from, Laid, IsTailOf, IsTail}
use Rattle.ea_model.proofs.Rising.{entered_here, entered_past}
use Rattle.ea_laws.proofs.Segments.{covers_cases, stretch_some, stretch_none, cut_first, cut_past}
use Rattle.ea_laws.proofs.Segments.{start_of, IsTail_cases, IsTail_behind}

pub any_here : {A : Type 0} (P : A → Type 0) (x : A) (xs : List A) → P x → Any P (x ∷ xs)
any_here P x xs p = (0, x, omega arith, refl, p)

pub any_later : {A : Type 0} (P : A → Type 0) (x : A) (xs : List A) → Any P xs → Any P (x ∷ xs)
any_later P x xs h = (suc h.0, h.1, omega (arith, h.2), h.3, h.4)

-- the whole of a segment that was entered
pub IsTail-entered : (x : Segment) (ss : List Segment) → 0 < x.pages
    → IsTail x.base x.pages (with_segment x ss)
IsTail-entered x [] some = any_here (IsTailOf x.base x.pages) x []
    (record { within = omega arith; some = some; to_end = refl })
IsTail-entered x (s ∷ ss) some =
    elim (cases_lt x.base s.base) [
      | inl lt ↦ subst (IsTail x.base x.pages) (sym (entered_here start_of x s ss lt))
          (any_here (IsTailOf x.base x.pages) x (s ∷ ss)
          (record { within = omega arith; some = some; to_end = refl }))
      | inr le ↦ subst (IsTail x.base x.pages) (sym (entered_past start_of x s ss le))
          (any_later (IsTailOf x.base x.pages) s (with_segment x ss) (IsTail-entered x ss some))
    ]

-- beside a segment that was entered
pub IsTail-entered_other : (at n : ℕ) (x : Segment) (ss : List Segment) → IsTail at n ss
    → IsTail at n (with_segment x ss)
IsTail-entered_other at n x [] h = any_later (IsTailOf at n) x [] h
IsTail-entered_other at n x (s ∷ ss) h =
    elim (cases_lt x.base s.base) [
      | inl lt ↦ subst (IsTail at n) (sym (entered_here start_of x s ss lt))
          (any_later (IsTailOf at n) x (s ∷ ss) h)
      | inr le ↦ subst (IsTail at n) (sym (entered_past start_of x s ss le))
          (elim (IsTail_cases at n s ss h) [
            | inl p ↦ any_here (IsTailOf at n) s (with_segment x ss) p
            | inr q ↦
                any_later (IsTailOf at n) s (with_segment x ss) (IsTail-entered_other at n x ss q)
          ])
    ]

-- a tail begins in its segment
not_beside : (base pages : ℕ) (s : Segment) → IsTailOf base pages s → (base < s.base)
    ⊎ (s.base + s.pages ≤ base) → ⊥
not_beside base pages s p away =
    elim away [ inl b ↦ omega (arith, p.within) | inr b ↦ omega (arith, p.some, p.to_end) ]

behind_stretch : (at n a b : ℕ) (ss : List Segment) → IsTail at n ss
    → IsTail at n (stretch a b ++ ss)
behind_stretch at n a b ss h =
    elim (cases_lt a b) [
      | inl lt ↦ subst (λ xs. IsTail at n (xs ++ ss)) (sym (stretch_some a b lt))
          (any_later (IsTailOf at n) (record { base = a; pages = b - a }) ss h)
      | inr le ↦ subst (λ xs. IsTail at n (xs ++ ss)) (sym (stretch_none a b le)) h
    ]

-- beside the pages given back
pub IsTail-cut_other : (from end base pages at n : ℕ) (ss : List Segment) → Laid from end ss
    → IsTail base pages ss → (at + n ≤ base) ⊎ (base + pages ≤ at) → IsTail at n ss
    → IsTail at n (cut_from base ss)
IsTail-cut_other from end base pages at n [] t g away h = h
IsTail-cut_other from end base pages at n (s ∷ ss) t g away h =
    elim (covers_cases base s) [
      | inl c ↦ subst (IsTail at n) (sym (cut_first from end base s ss t c.1 c.2))
          (elim (IsTail_cases at n s ss h) [
            | inl p ↦ absurd (elim away [
              | inl b ↦ omega (arith, p.to_end)
              | inr b ↦ elim (IsTail_cases base pages s ss g) [
                | inl q ↦ omega (arith, p.some, p.to_end, q.to_end)
                | inr q ↦ omega
                    (arith, IsTail_behind (s.base + s.pages) end base pages ss t.2 q)
              ]
            ])
            | inr q ↦ behind_stretch at n s.base base ss q
          ])
      | inr c ↦ subst (IsTail at n) (sym (cut_past base s ss c.1))
          (elim (IsTail_cases at n s ss h) [
            | inl p ↦ any_here (IsTailOf at n) s (cut_from base ss) p
            | inr q ↦ elim (IsTail_cases base pages s ss g) [
              | inl p ↦ absurd (not_beside base pages s p c.0)
              | inr r ↦ any_later (IsTailOf at n) s (cut_from base ss)
                  (IsTail-cut_other (s.base + s.pages) end base pages at n ss t.2 r away q)
            ]
          ])
    ]

front_of : (at base pages : ℕ) (s : Segment) (ss : List Segment) → at < base
    → IsTailOf at (base + pages - at) s → IsTail at (base - at) (stretch s.base base ++ ss)
front_of at base pages s ss lt p =
    let x : Segment = record { base = s.base; pages = base - s.base } in
    let le : s.base ≤ at = p.within in
    subst (λ xs. IsTail at (base - at) (xs ++ ss)) (sym (stretch_some s.base base (omega arith)))
    (any_here (IsTailOf at (base - at)) x ss
    (record { within = le; some = omega arith; to_end = omega arith }))

-- the front that is left of the segment
pub IsTail-cut_front : (from end base pages at : ℕ) (ss : List Segment) → Laid from end ss
    → IsTail base pages ss → at < base → IsTail at (base + pages - at) ss
    → IsTail at (base - at) (cut_from base ss)
IsTail-cut_front from end base pages at [] t g lt h = absurd (omega (arith, h.2))
IsTail-cut_front from end base pages at (s ∷ ss) t g lt h =
    elim (covers_cases base s) [
      | inl c ↦ subst (IsTail at (base - at)) (sym (cut_first from end base s ss t c.1 c.2))
          (elim (IsTail_cases at (base + pages - at) s ss h) [
            | inl p ↦ front_of at base pages s ss lt p
            | inr q ↦
                let behind = IsTail_behind (s.base + s.pages) end at (base + pages - at) ss t.2 q in
                absurd (omega arith)
          ])
      | inr c ↦ subst (IsTail at (base - at)) (sym (cut_past base s ss c.1))
          (elim (IsTail_cases base pages s ss g) [
            | inl p ↦ absurd (not_beside base pages s p c.0)
            | inr r ↦ elim (IsTail_cases at (base + pages - at) s ss h) [
              | inl p ↦ absurd
                  (omega (
                    arith,
                    p.to_end,
                    r.4.some,
                    IsTail_behind (s.base + s.pages) end base pages ss
                        t.2 r,
                  ))
              | inr q ↦ any_later (IsTailOf at (base - at)) s (cut_from base ss)
                  (IsTail-cut_front (s.base + s.pages) end base pages at ss t.2 r lt q)
            ]
          ])
    ]
