-- The units that an instance employs where carriers don't migrate, and those of its region.
use Rattle.std.proofs.Common.{◌≡◌, ℕ, ◌+◌, ◌-◌, ◌*◌, ◌<◌, ◌≤◌, List, [], ◌∷◌, All, sym, ap}
use Rattle.std.proofs.Common.{◌∙◌, inl, inr, arith}
use Rattle.std.specs.Prelude.{None, Some, sum_by}
use Rattle.std.proofs.lemmas.Bool.{cases_eq}
use Rattle.std.proofs.lemmas.List.Elements.{All-cons, All-head, All-tail, All-weaker}
use Rattle.std.proofs.lemmas.List.Sums.{sum_by-cons}
use Rattle.ea_model.specs.declared.carriers.OwnCarrier.{OwnCarrier}
use Rattle.ea_model.specs.declared.carriers.Segment.{Segment}
use Rattle.ea_model.specs.declared.units.TheConstants.{PAGE_UNITS}
use Rattle.ea_model.specs.Content.{Content}
use Rattle.ea_model.specs.Instance.{Instance, own_at, own_of, segment_of, segments}
use Rattle.ea_model.specs.Keyed.{IsBelow}
use Rattle.ea_model.specs.Region.{Laid}
use Rattle.ea_model.proofs.Merged.{sum-merged}
use Rattle.ea_model.proofs.Pairs.{pairs_head, pairs_tail}
use Rattle.ea_model.proofs.Rising.{item_at-All, item_here, item_past}
use Rattle.ea_laws.specs.Kept.{IsLaidOut, IsOwn, IsRising, IsRisingOwn, IsWhole, Stands, number_of}
use Rattle.ea_laws.specs.Kept.{own_number}
use Rattle.ea_laws.proofs.Segments.{start_of}

-- segments that lie one after another have no more pages than there are from the first on
laid-pages : (at end : ℕ) (ss : List Segment) → Laid at end ss
    → at + sum_by (λ s. s.pages) ss ≤ end
laid-pages at end [] t = omega (arith, t)
laid-pages at end (s ∷ ss) t = omega (
  arith,
  sum_by-cons (λ (x : Segment). x.pages) s ss,
  t.0,
  laid-pages (s.base + s.pages) end ss t.2,
)

segments-pages : (os : List OwnCarrier)
    → sum_by (λ s. s.pages) (segments os) ≡ sum_by (λ o. o.pages) os
segments-pages [] = omega arith
segments-pages (o ∷ os) = omega (
  arith,
  sum-merged start_of (λ s. s.pages) (segment_of o ∷ []) (segments os),
  sum_by-cons (λ (x : Segment). x.pages) (segment_of o) [],
  sum_by-cons (λ (x : OwnCarrier). x.pages) o os,
  segments-pages os,
)

abbrev pub AreOwn : List OwnCarrier → List Content → Type 0
AreOwn os cs = All (λ c. IsOwn os (own_of c)) cs

-- contents of greater numbers than the first own carrier's are among the others
own-later : (o : OwnCarrier) (os : List OwnCarrier) (cs : List Content)
    → All (λ c. o.number < c.number) cs → AreOwn (o ∷ os) cs → AreOwn os cs
own-later o os cs above own = λ k d within.
    sym (item_past own_number _ o os (λ e. omega (arith, above k d within)))
    ∙ own k d within

-- contents by rising number that are own carriers have no more units than these have pages
owned-units : (os : List OwnCarrier) (cs : List Content) → IsRisingOwn os → IsRising cs
    → All IsWhole cs → AreOwn os cs
    → sum_by (λ c. c.units) cs ≤ PAGE_UNITS * sum_by (λ o. o.pages) os
owned-units os [] rising_own rising whole own = omega arith
owned-units [] (c ∷ cs) rising_own rising whole own =
    absurd (let none : None ≡ Some (own_of c) = All-head (λ x. IsOwn [] (own_of x)) c cs own in cc)
owned-units (o ∷ os) (c ∷ cs) rising_own rising whole own =
    let here : own_at (o ∷ os) c.number ≡ Some (own_of c) =
    All-head (λ x. IsOwn (o ∷ os) (own_of x)) c cs own in
    let above : All (IsBelow number_of c) cs = pairs_head (IsBelow number_of) c cs rising in
    let later = pairs_tail (IsBelow own_number) o os rising_own in
    let sum = sum_by-cons (λ (x : OwnCarrier). x.pages) o os in
    elim (cases_eq o.number c.number) [
      | inl e ↦
          let same : Some o ≡ Some (own_of c) = sym (item_here own_number c.number o os e) ∙ here in
          let is : o ≡ own_of c = cc in
          omega (
            arith,
            sum,
            sum_by-cons (λ (x : Content). x.units) c cs,
            ap (λ (x : OwnCarrier). x.pages) is,
            (All-head IsWhole c cs whole).0,
            owned-units os cs later (pairs_tail (IsBelow number_of) c cs rising)
                (All-tail IsWhole c cs whole)
                (own-later o os cs (λ k d within. omega (arith, above k d within))
                (All-tail (λ x. IsOwn (o ∷ os) (own_of x)) c cs own)),
          )
      | inr n ↦
          let there : own_at os c.number ≡ Some (own_of c) =
          sym (item_past own_number c.number o os n) ∙ here in
          let less : o.number < c.number = item_at-All own_number (λ x. o.number < x.number)
          c.number (own_of c) os (pairs_head (IsBelow own_number) o os rising_own) there in
          omega (
            arith,
            sum,
            owned-units os (c ∷ cs) later rising whole
                (own-later o os (c ∷ cs)
                (All-cons (λ x. o.number < x.number) c cs less
                (All-weaker (IsBelow number_of c) (λ x. o.number < x.number)
                (λ x below. omega (arith, less)) cs above)) own),
          )
    ]

pub employed-within : (i : Instance) → Stands i → i.settings.acul ≡ 0
    → sum_by (λ c. c.units) i.contents ≤ PAGE_UNITS * (i.end - i.first)
employed-within i st off =
    let kept = st.orderly.kept in
    omega (
      arith,
      owned-units i.own i.contents kept.rising st.orderly.rising
          (All-weaker IsLaidOut IsWhole (λ c laid. laid.whole) i.contents st.orderly.laid)
          (st.home off),
      segments-pages i.own,
      laid-pages i.first i.end (segments i.own) kept.laid,
    )
