-- What a plan says of the carrier, and where own carriers lie.
use Rattle.std.proofs.Common.{refl, ap, sym, ◌∙◌, ◌≡◌, ℕ, ◌+◌, ◌*◌, ◌<◌, ◌≤◌, false, List, [], ◌∷◌}
use Rattle.std.proofs.Common.{arith}
use Rattle.std.specs.Prelude.{Option, None, Some, Ok, All, is_some}
use Rattle.std.proofs.lemmas.List.Elements.{All-cons, All-nil, All-weaker}
use Rattle.ea_model.specs.declared.carriers.CarrierPlan.{CarrierPlan}
use Rattle.ea_model.specs.declared.carriers.OwnCarrier.{OwnCarrier}
use Rattle.ea_model.specs.declared.carriers.Segment.{Segment}
use Rattle.ea_model.specs.Instance.{Instance, first_number, is_used, own_at, plan, segment_of}
use Rattle.ea_model.specs.Instance.{segments, owner_of}
use Rattle.ea_model.specs.Region.{Laid}
use Rattle.ea_model.proofs.Merged.{entered-All}
use Rattle.ea_model.proofs.Rising.{item_at-All, item_at-key}
use Rattle.ea_laws.specs.Kept.{own_number, HasNumberIn, IsKept}
use Rattle.ea_laws.proofs.Keeping.{plan-IsPlanned}
use Rattle.ea_laws.proofs.Owned.{unused_from-free}
use Rattle.ea_model.specs.declared.units.TheConstants.{NUMBERS}
use Rattle.ea_laws.proofs.Segments.{start_of, Laid-end}

-- its number is one of the instance's own, and isn't in use
pub planned-number : (i : Instance) (need : ℕ) (p : CarrierPlan) → plan i need ≡ Ok p
    → (first_number i.number ≤ p.number) × (p.number < first_number i.number + NUMBERS)
    × (is_used p.number i.own ≡ false)
planned-number i need p asked = unused_from-free NUMBERS (first_number i.number) p.number i.own
    (plan-IsPlanned i need p asked).number

none_used : (o : Option OwnCarrier) → is_some o ≡ false → o ≡ None
none_used None unused = refl
none_used (Some x) unused = absurd cc

pub planned-unused : (i : Instance) (need : ℕ) (p : CarrierPlan) → plan i need ≡ Ok p
    → own_at i.own p.number ≡ None
planned-unused i need p asked =
    none_used (own_at i.own p.number) (planned-number i need p asked).2

-- a segment lies between the ends
abbrev pub IsBetween : ℕ → ℕ → Segment → Type 0
IsBetween first end s = (first ≤ s.base) × (s.base + s.pages ≤ end)

laid_between : (at end : ℕ) (ss : List Segment) → Laid at end ss → All (IsBetween at end) ss
laid_between at end [] laid = All-nil (IsBetween at end)
laid_between at end (s ∷ ss) laid =
    All-cons (IsBetween at end) s ss (laid.0, Laid-end (s.base + s.pages) end ss laid.2)
    (All-weaker (IsBetween (s.base + s.pages) end) (IsBetween at end)
    (λ t b. (omega (arith, b.0, laid.0), b.1)) ss (laid_between (s.base + s.pages) end ss laid.2))

of_segments : (P : Segment → Type 0) (os : List OwnCarrier) → All P (segments os)
    → All (λ o. P (segment_of o)) os
of_segments P [] all = All-nil (λ o. P (segment_of o))
of_segments P (o ∷ os) all =
    let both = entered-All start_of P (segment_of o) (segments os) all in
    All-cons (λ x. P (segment_of x)) o os both.0 (of_segments P os both.1)

-- an own carrier lies in the region
pub own-between : (first end n : ℕ) (o : OwnCarrier) (os : List OwnCarrier)
    → Laid first end (segments os) → own_at os n ≡ Some o → IsBetween first end (segment_of o)
own-between first end n o os laid there =
    item_at-All own_number (λ x. IsBetween first end (segment_of x)) n o os
    (of_segments (IsBetween first end) os (laid_between first end (segments os) laid)) there

-- whose a number is
pub numbered-owner : (n number : ℕ) → 1 ≤ n → first_number n ≤ number
    → number < first_number n + NUMBERS → owner_of number ≡ n
numbered-owner n number some from below = omega arith

pub planned-owner : (i : Instance) (need : ℕ) (p : CarrierPlan) → 1 ≤ i.number
    → plan i need ≡ Ok p → owner_of p.number ≡ i.number
planned-owner i need p some asked =
    let number = planned-number i need p asked in
    numbered-owner i.number p.number some number.0 number.1

pub own-owner : (i : Instance) (n : ℕ) (o : OwnCarrier)
    → IsKept i.settings i.number i.first i.end i.own → own_at i.own n ≡ Some o
    → owner_of n ≡ i.number
own-owner i n o kept there =
    let numbered = HasNumberIn (first_number i.number) (first_number i.number + NUMBERS) in
    let has = item_at-All own_number numbered n o i.own kept.numbers there in
    ap owner_of (sym (item_at-key own_number n o i.own there))
    ∙ numbered-owner i.number o.number kept.instance.0 has.0 has.1

-- and that it is none beyond the greatest
pub numbered-most : (n number schedulers : ℕ) → 1 ≤ n → n ≤ schedulers
    → number < first_number n + NUMBERS → number ≤ schedulers * NUMBERS
numbered-most n number schedulers some most below = omega arith
