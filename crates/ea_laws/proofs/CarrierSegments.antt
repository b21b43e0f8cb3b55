-- The segments of an instance's carriers.
use Rattle.std.proofs.Common.{◌≡◌, ◌≢◌, ℕ, ◌+◌, ◌-◌, ◌<◌, ◌≤◌, true, List, [], ◌∷◌, ◌++◌, length}
use Rattle.std.proofs.Common.{All, sym, ap, ◌∙◌, subst, refl, inl, inr, ◌⊎◌, arith}
use Rattle.std.specs.Prelude.{Some, AllPairs, Any}
use Rattle.std.proofs.lemmas.Bool.{cases_lt, cases_eq}
use Rattle.std.proofs.lemmas.List.Elements.{All-nil, All-cons, All-head, All-tail}
use Rattle.std.proofs.lemmas.List.Kept.{AllPairs-cons}
use Rattle.ea_model.specs.declared.carriers.Segment.{Segment}
use Rattle.ea_model.specs.declared.carriers.OwnCarrier.{OwnCarrier}
use Rattle.ea_model.specs.Keyed.{IsBelow, changed_at}
use Rattle.ea_model.specs.Region.{stretch, with_segment, covers, cut_from, Laid, SegmentApart}
use Rattle.ea_model.specs.Region.{AreFree, IsTailOf, IsTail}
use Rattle.ea_model.specs.Instance.{segment_of, segments, with_own, without_own, own_at}
use Rattle.ea_model.proofs.Merged.{entered-All, entered-entered}
use Rattle.ea_model.proofs.Pairs.{pairs_nil, pairs_tail}
use Rattle.ea_model.proofs.Rising.{changed_here, changed_none, changed_past, entered_here}
use Rattle.ea_model.proofs.Rising.{entered_past, item_at-All, length-entered, others, without_here}
use Rattle.ea_model.proofs.Rising.{without_none, without_past}
use Rattle.ea_laws.proofs.FreeRuns.{apart-before}
use Rattle.ea_laws.proofs.Segments.{start_of, covers_cases, cut_past, cut_first, stretch_none}
use Rattle.ea_laws.proofs.Segments.{stretch_some, Laid-cut, any_cases, IsTail_cases, IsTail_behind}
use Rattle.ea_laws.proofs.Tails.{any_here, any_later}
use Rattle.ea_laws.specs.Kept.{own_number, HasPages, IsRisingOwn}

pub length-segments : (os : List OwnCarrier) → length (segments os) ≡ length os
length-segments [] = refl
length-segments (o ∷ os) = length-entered start_of (segment_of o) (segments os)
    ∙ ap (λ n. n + 1) (length-segments os) ∙ omega arith

other_base : (x o : OwnCarrier) → HasPages x → HasPages o
    → SegmentApart x.base x.pages (segment_of o) → o.base ≢ x.base
other_base x o some pages apart =
    elim apart [ inl p ↦ λ e. omega (arith, pages) | inr q ↦ λ e. omega (arith, some) ]

-- one more carrier is one more segment
pub segments-with_own : (x : OwnCarrier) (os : List OwnCarrier) → HasPages x → All HasPages os
    → AreFree x.base x.pages (segments os)
    → segments (with_own x os) ≡ with_segment (segment_of x) (segments os)
segments-with_own x [] some pages apart = refl
segments-with_own x (o ∷ os) some pages apart =
    elim (cases_lt x.number o.number) [
      | inl p ↦ ap segments (entered_here own_number x o os p)
      | inr q ↦
          let both =
          entered-All start_of (SegmentApart x.base x.pages) (segment_of o) (segments os) apart
          in
          ap segments (entered_past own_number x o os q)
          ∙ ap (with_segment (segment_of o))
          (segments-with_own x os some (All-tail HasPages o os pages) both.1)
          ∙ entered-entered start_of (segment_of o) (segment_of x) (segments os)
          (other_base x o some (All-head HasPages o os pages) both.0)
    ]

any_entered : (P : Segment → Type 0) (s : Segment) (ts : List Segment) → P s
    → Any P (with_segment s ts)
any_entered P s [] p = any_here P s [] p
any_entered P s (t ∷ ts) p =
    elim (cases_lt s.base t.base) [
      | inl lt ↦ subst (Any P) (sym (entered_here start_of s t ts lt)) (any_here P s (t ∷ ts) p)
      | inr le ↦ subst (Any P) (sym (entered_past start_of s t ts le))
          (any_later P t (with_segment s ts) (any_entered P s ts p))
    ]

any_among : (P : Segment → Type 0) (s : Segment) (ts : List Segment) → Any P ts
    → Any P (with_segment s ts)
any_among P s [] h = any_later P s [] h
any_among P s (t ∷ ts) h =
    elim (cases_lt s.base t.base) [
      | inl lt ↦ subst (Any P) (sym (entered_here start_of s t ts lt)) (any_later P s (t ∷ ts) h)
      | inr le ↦ subst (Any P) (sym (entered_past start_of s t ts le))
          (elim (any_cases P t ts h.0 h.1 h.2 h.3 h.4) [
            | inl p ↦ any_here P t (with_segment s ts) p
            | inr q ↦ any_later P t (with_segment s ts) (any_among P s ts q)
          ])
    ]

-- the carrier of a number is the first one, or it is among the others
own_cases : (number : ℕ) (o x : OwnCarrier) (xs : List OwnCarrier)
    → own_at (x ∷ xs) number ≡ Some o → ((x.number ≡ number) × (x ≡ o))
    ⊎ ((x.number ≢ number) × (own_at xs number ≡ Some o))
own_cases number o x xs h = elim (cases_eq x.number number)
    [ inl e ↦ inl (e, grind arith) | inr n ↦ inr (n, grind arith) ]

-- the tail of a carrier's segment is that of one of the taken ones
tail_among : (base pages number : ℕ) (o : OwnCarrier) (os : List OwnCarrier)
    → own_at os number ≡ Some o → IsTailOf base pages (segment_of o)
    → IsTail base pages (segments os)
tail_among base pages number o [] there tail = absurd (grind arith)
tail_among base pages number o (x ∷ xs) there tail =
    let is_tail : Segment → Type 0 = IsTailOf base pages in
    elim (own_cases number o x xs there) [
      | inl p ↦ any_entered is_tail (segment_of x) (segments xs)
          (subst (λ y. is_tail (segment_of y)) (sym p.1) tail)
      | inr q ↦ any_among is_tail (segment_of x) (segments xs)
          (tail_among base pages number o xs q.1 tail)
    ]

-- a carrier's segment is one of the taken ones
pub own_at-IsTail : (number : ℕ) (o : OwnCarrier) (os : List OwnCarrier)
    → own_at os number ≡ Some o → All HasPages os → IsTail o.base o.pages (segments os)
own_at-IsTail number o os there pages =
    let some : HasPages o = item_at-All own_number HasPages number o os pages there in
    tail_among o.base o.pages number o os there
    (record { within = omega arith; some = some; to_end = refl })

-- and its last pages are the tail of one of them
pub shortened-IsTail : (number pages : ℕ) (o : OwnCarrier) (os : List OwnCarrier)
    → own_at os number ≡ Some o → pages < o.pages
    → IsTail (o.base + pages) (o.pages - pages) (segments os)
shortened-IsTail number pages o os there fewer =
    tail_among (o.base + pages) (o.pages - pages) number o os there
    (record { within = omega arith; some = omega arith; to_end = omega arith })

-- of segments laid with one more, that one begins after the beginning and has pages, and the
-- others are laid without it
laid_entered : (at end : ℕ) (s : Segment) (ts : List Segment) → Laid at end (with_segment s ts)
    → (at ≤ s.base) × (0 < s.pages) × Laid at end ts
laid_entered at end s [] t = (t.0, t.1, omega (arith, t.0, t.2))
laid_entered at end s (r ∷ rs) t =
    elim (cases_lt s.base r.base) [
      | inl lt ↦ let l = subst (Laid at end) (entered_here start_of s r rs lt) t in
          (l.0, l.1, (omega (arith, l.0), l.2.1, l.2.2))
      | inr le ↦
          let l = subst (Laid at end) (entered_past start_of s r rs le) t in
          let more = laid_entered (r.base + r.pages) end s rs l.2 in
          (omega (arith, l.0), more.1, (l.0, l.1, more.2))
    ]

-- and none of them meets it
laid_apart : (at end : ℕ) (s : Segment) (ts : List Segment) → Laid at end (with_segment s ts)
    → AreFree s.base s.pages ts
laid_apart at end s [] t = All-nil (SegmentApart s.base s.pages)
laid_apart at end s (r ∷ rs) t =
    elim (cases_lt s.base r.base) [
      | inl lt ↦ let l = subst (Laid at end) (entered_here start_of s r rs lt) t in
          apart-before (s.base + s.pages) end s.base s.pages (r ∷ rs) l.2 (omega arith)
      | inr le ↦
          let l = subst (Laid at end) (entered_past start_of s r rs le) t in
          All-cons (SegmentApart s.base s.pages) r rs
          (inl (laid_entered (r.base + r.pages) end s rs l.2).0)
          (laid_apart (r.base + r.pages) end s rs l.2)
    ]

-- pages that meet no segment meet none of the carriers
pub free-own : (base pages : ℕ) (os : List OwnCarrier) → AreFree base pages (segments os)
    → All (λ o. SegmentApart base pages (segment_of o)) os
free-own base pages [] free = All-nil (λ o. SegmentApart base pages (segment_of o))
free-own base pages (o ∷ os) free =
    let both = entered-All start_of (SegmentApart base pages) (segment_of o) (segments os) free in
    All-cons (λ x. SegmentApart base pages (segment_of x)) o os both.0
    (free-own base pages os both.1)

-- no two carriers have a page in common
pub own-apart : (at end : ℕ) (os : List OwnCarrier) → Laid at end (segments os)
    → AllPairs (λ x o. SegmentApart x.base x.pages (segment_of o)) os
own-apart at end [] laid = pairs_nil (λ x o. SegmentApart x.base x.pages (segment_of o))
own-apart at end (o ∷ os) laid =
    AllPairs-cons (λ x y. SegmentApart x.base x.pages (segment_of y)) o os
    (free-own o.base o.pages os (laid_apart at end (segment_of o) (segments os) laid))
    (own-apart at end os (laid_entered at end (segment_of o) (segments os) laid).2)

covers_start : (s : Segment) → 0 < s.pages → covers s.base s ≡ true
covers_start s h = elim (covers_cases s.base s)
    [ inl p ↦ p.2 | inr q ↦ absurd (elim q.0 [ inl b ↦ omega arith | inr b ↦ omega arith ]) ]

cut_whole : (at end : ℕ) (s : Segment) (ts : List Segment) → Laid at end (s ∷ ts)
    → cut_from s.base (s ∷ ts) ≡ ts
cut_whole at end s ts t =
    cut_first at end s.base s ts t (omega (arith, t.1)) (covers_start s t.1)
    ∙ ap (λ xs. xs ++ ts) (stretch_none s.base s.base (omega arith))

-- the segment that was entered is cut out again
cut_entered : (at end : ℕ) (s : Segment) (ts : List Segment) → Laid at end (with_segment s ts)
    → cut_from s.base (with_segment s ts) ≡ ts
cut_entered at end s [] t = cut_whole at end s [] t
cut_entered at end s (r ∷ rs) t =
    elim (cases_lt s.base r.base) [
      | inl lt ↦ ap (cut_from s.base) (entered_here start_of s r rs lt)
          ∙ cut_whole at end s (r ∷ rs) (subst (Laid at end) (entered_here start_of s r rs lt) t)
      | inr le ↦
          let l = subst (Laid at end) (entered_past start_of s r rs le) t in
          let behind = (laid_entered (r.base + r.pages) end s rs l.2).0 in
          elim (covers_cases s.base r) [
            | inl p ↦ absurd (omega arith)
            | inr q ↦ ap (cut_from s.base) (entered_past start_of s r rs le)
                ∙ cut_past s.base r (with_segment s rs) q.1
                ∙ ap (λ xs. r ∷ xs) (cut_entered (r.base + r.pages) end s rs l.2)
          ]
    ]

-- a segment before all others is entered as the first
entered_front : (at end : ℕ) (s : Segment) (ts : List Segment) → Laid at end ts → s.base < at
    → with_segment s ts ≡ s ∷ ts
entered_front at end s [] t h = refl
entered_front at end s (r ∷ rs) t h = entered_here start_of s r rs (omega (arith, t.0))

entered_stretch : (a b : ℕ) (s : Segment) (ts : List Segment) → a ≤ s.base
    → with_segment s (stretch a b ++ ts) ≡ stretch a b ++ with_segment s ts
entered_stretch a b s ts h = elim (cases_lt a b) [ inl lt ↦ grind arith | inr le ↦ grind arith ]

-- an entry and the cut of another segment may be done in either order
cut_other : (at end page pages : ℕ) (s : Segment) (ts : List Segment)
    → Laid at end (with_segment s ts) → IsTail page pages ts
    → cut_from page (with_segment s ts) ≡ with_segment s (cut_from page ts)
cut_other at end page pages s [] t h = absurd (omega (arith, h.2))
cut_other at end page pages s (r ∷ rs) t h =
    elim (cases_lt s.base r.base) [
      | inl lt ↦
          let l = subst (Laid at end) (entered_here start_of s r rs lt) t in
          let later : Laid r.base end (r ∷ rs) = (omega arith, l.2.1, l.2.2) in
          let behind = IsTail_behind r.base end page pages (r ∷ rs) later h in
          elim (covers_cases page s) [
            | inl p ↦ absurd (omega (arith, l.2.0))
            | inr q ↦ ap (cut_from page) (entered_here start_of s r rs lt)
                ∙ cut_past page s (r ∷ rs) q.1
                ∙ sym (entered_front r.base end s (cut_from page (r ∷ rs))
                (Laid-cut r.base end page (r ∷ rs) later) lt)
          ]
      | inr le ↦
          let l = subst (Laid at end) (entered_past start_of s r rs le) t in
          elim (covers_cases page r) [
            | inl p ↦
                let rest : Laid at end (r ∷ rs) =
                (l.0, l.1, (laid_entered (r.base + r.pages) end s rs l.2).2) in
                ap (cut_from page) (entered_past start_of s r rs le)
                ∙ cut_first at end page r (with_segment s rs) l p.1 p.2
                ∙ sym (entered_stretch r.base page s rs le)
                ∙ ap (with_segment s) (sym (cut_first at end page r rs rest p.1 p.2))
            | inr q ↦ elim (IsTail_cases page pages r rs h) [
              | inl p ↦ absurd
                  (elim q.0 [
                    | inl b ↦ omega (arith, p.within)
                    | inr b ↦ omega
                        (arith, p.some, p.to_end)
                  ])
              | inr more ↦ ap (cut_from page) (entered_past start_of s r rs le)
                  ∙ cut_past page r (with_segment s rs) q.1
                  ∙ ap (λ xs. r ∷ xs) (cut_other (r.base + r.pages) end page pages s rs l.2 more)
                  ∙ sym (ap (with_segment s) (cut_past page r rs q.1)
                  ∙ entered_past start_of s r (cut_from page rs) le)
            ]
          ]
    ]

-- one carrier less is its segment less
pub segments-without : (first end number : ℕ) (o : OwnCarrier) (os : List OwnCarrier)
    → Laid first end (segments os) → All HasPages os → IsRisingOwn os → own_at os number ≡ Some o
    → segments (without_own number os) ≡ cut_from o.base (segments os)
segments-without first end number o [] laid pages rising there = absurd (grind arith)
segments-without first end number o (x ∷ xs) laid pages rising there =
    elim (own_cases number o x xs there) [
      | inl p ↦
          let cut : cut_from o.base (segments (x ∷ xs)) ≡ segments xs = subst
          (λ y. cut_from y.base (segments (x ∷ xs)) ≡ segments xs) p.1
          (cut_entered first end (segment_of x) (segments xs) laid) in
          ap segments (without_here own_number number x xs p.0
          ∙ without_none own_number number xs (others own_number number x xs rising p.0))
          ∙ sym cut
      | inr q ↦
          let rest = All-tail HasPages x xs pages in
          ap segments (without_past own_number number x xs q.0)
          ∙ ap (with_segment (segment_of x))
          (segments-without first end number o xs
          (laid_entered first end (segment_of x) (segments xs) laid).2 rest
          (pairs_tail (IsBelow own_number) x xs rising) q.1)
          ∙ sym (cut_other first end o.base o.pages (segment_of x) (segments xs) laid
          (own_at-IsTail number o xs q.1 rest))
    ]

cut_end : (at end pages : ℕ) (s : Segment) (ts : List Segment) → Laid at end (s ∷ ts)
    → 1 ≤ pages → pages < s.pages
    → cut_from (s.base + pages) (s ∷ ts) ≡ record { base = s.base; pages = pages } ∷ ts
cut_end at end pages s ts t some fewer =
    elim (covers_cases (s.base + pages) s) [
      | inl p ↦ cut_first at end (s.base + pages) s ts t p.1 p.2
          ∙ ap (λ xs. xs ++ ts) (stretch_some s.base (s.base + pages) (omega arith))
          ∙ (let e : s.base + pages - s.base ≡ pages = omega arith in
          ap (λ n. record { base = s.base; pages = n } ∷ ts) e)
      | inr q ↦ absurd (elim q.0 [ inl b ↦ omega arith | inr b ↦ omega arith ])
    ]

-- the segment that was entered has fewer pages once its last ones are cut off
cut_shorter : (at end pages : ℕ) (s : Segment) (ts : List Segment)
    → Laid at end (with_segment s ts) → 1 ≤ pages → pages < s.pages
    → cut_from (s.base + pages) (with_segment s ts)
    ≡ with_segment (record { base = s.base; pages = pages }) ts
cut_shorter at end pages s [] t some fewer = cut_end at end pages s [] t some fewer
cut_shorter at end pages s (r ∷ rs) t some fewer =
    let less : Segment = record { base = s.base; pages = pages } in
    elim (cases_lt s.base r.base) [
      | inl lt ↦ ap (cut_from (s.base + pages)) (entered_here start_of s r rs lt)
          ∙ cut_end at end pages s (r ∷ rs)
          (subst (Laid at end) (entered_here start_of s r rs lt) t) some fewer
          ∙ sym (entered_here start_of less r rs lt)
      | inr le ↦
          let l = subst (Laid at end) (entered_past start_of s r rs le) t in
          let behind = (laid_entered (r.base + r.pages) end s rs l.2).0 in
          elim (covers_cases (s.base + pages) r) [
            | inl p ↦ absurd (omega (arith, p.1, behind))
            | inr q ↦ ap (cut_from (s.base + pages)) (entered_past start_of s r rs le)
                ∙ cut_past (s.base + pages) r (with_segment s rs) q.1
                ∙ ap (λ xs. r ∷ xs)
                (cut_shorter (r.base + r.pages) end pages s rs l.2 some fewer)
                ∙ sym (entered_past start_of less r rs le)
          ]
    ]

-- the own carriers where that of the number has that many pages
abbrev pub with_pages : ℕ → ℕ → List OwnCarrier → List OwnCarrier
with_pages number pages os = changed_at own_number (λ o. record o { pages = pages }) number os

-- a carrier of fewer pages has its segment without the last ones
pub segments-shortened : (first end number : ℕ) (o : OwnCarrier) (os : List OwnCarrier)
    (pages : ℕ) → Laid first end (segments os) → IsRisingOwn os → own_at os number ≡ Some o
    → 1 ≤ pages → pages < o.pages
    → segments (with_pages number pages os) ≡ cut_from (o.base + pages) (segments os)
segments-shortened first end number o [] pages laid rising there some fewer =
    absurd (grind arith)
segments-shortened first end number o (x ∷ xs) pages laid rising there some fewer =
    let f : OwnCarrier → OwnCarrier = λ y. record y { pages = pages } in
    elim (own_cases number o x xs there) [
      | inl p ↦
          let less : pages < x.pages = subst (λ y. pages < y.pages) (sym p.1) fewer in
          ap segments (changed_here own_number f number x xs p.0
          ∙ ap (λ ys. f x ∷ ys)
          (changed_none own_number f number xs (others own_number number x xs rising p.0)))
          ∙ sym (cut_shorter first end pages (segment_of x) (segments xs) laid some less)
          ∙ ap (λ y. cut_from (y.base + pages) (segments (x ∷ xs))) p.1
      | inr q ↦
          ap segments (changed_past own_number f number x xs q.0)
          ∙ ap (with_segment (segment_of x))
          (segments-shortened first end number o xs pages
          (laid_entered first end (segment_of x) (segments xs) laid).2
          (pairs_tail (IsBelow own_number) x xs rising) q.1 some fewer)
          ∙ sym (cut_other first end (o.base + pages) (o.pages - pages) (segment_of x)
          (segments xs) laid (shortened-IsTail number pages o xs q.1 fewer))
    ]
