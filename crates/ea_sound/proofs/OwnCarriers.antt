-- Own carriers: one that is counted is found, and two of them lie apart.
use Rattle.std.proofs.Common.{◌≡◌, ◌≢◌, ℕ, ◌≤◌, List, [], ◌∷◌, sym, subst, inl, inr, ap, ◌∙◌, arith}
use Rattle.std.proofs.lemmas.Bool.{cases_eq}
use Rattle.ea_model.specs.Content.{Content}
use Rattle.ea_model.specs.Keyed.{item_at}
use Rattle.ea_model.specs.Region.{Laid, SegmentApart}
use Rattle.ea_model.proofs.Options.{same-some}
use Rattle.ea_model.proofs.Pairs.{pairs_head, pairs_tail}
use Rattle.ea_model.proofs.Rising.{item_at-All, item_here, item_past}
use Rattle.ea_laws.proofs.CarrierSegments.{own-apart}
use Rattle.std.specs.Prelude.{Some, AllPairs}
use Rattle.ea_model.specs.declared.carriers.OwnCarrier.{OwnCarrier}
use Rattle.ea_model.specs.Instance.{own_at, own_of, segment_of, segments}
use Rattle.ea_laws.specs.Kept.{own_number, ContentsApart, IsRisingOwn, IsWhole}
use Rattle.ea_sound.specs.Places.{same_own}
use Rattle.ea_machine.specs.Sums.{one_if, sum_over}
use Rattle.ea_sound.proofs.KeyedWeights.{item-hit, times-once}

-- 1 for this own carrier
abbrev pub this_own : OwnCarrier → OwnCarrier → ℕ
this_own o x = one_if (same_own x o)

same_base : (o x : OwnCarrier) → 1 ≤ this_own o x → x.base ≡ o.base
same_base o x some = grind arith

same_pages : (o x : OwnCarrier) → 1 ≤ this_own o x → x.pages ≡ o.pages
same_pages o x some = grind arith

same_number : (o x : OwnCarrier) → 1 ≤ this_own o x → x.number ≡ o.number
same_number o x some = grind arith

other_own : (o x : OwnCarrier) → x.number ≢ o.number → this_own o x ≡ 0
other_own o x other = grind arith

all_same : (o x : OwnCarrier) → x.number ≡ o.number → x.base ≡ o.base → x.pages ≡ o.pages → x ≡ o
all_same o x n b p =
    ap (λ m. record { number = m; base = x.base; pages = x.pages }) n
    ∙ ap (λ m. record { number = o.number; base = m; pages = x.pages }) b
    ∙ ap (λ m. record { number = o.number; base = o.base; pages = m }) p

pub own-hit : (o : OwnCarrier) (os : List OwnCarrier) → IsRisingOwn os
    → 1 ≤ sum_over (this_own o) os → own_at os o.number ≡ Some o
own-hit o os rising some =
    let hit = item-hit own_number (this_own o) o.number os (other_own o)
    (times-once own_number o.number os rising) some in
    let x = hit.0 in
    hit.1 ∙ ap Some (all_same o x (same_number o x hit.2) (same_base o x hit.2)
    (same_pages o x hit.2))

-- what holds both ways of each pair of items holds of two that are found by different keys
module _ {A : Type 0} (key_of : A → ℕ) (R : A → A → Type 0) (turned : (a b : A) → R a b → R b a)
  where
    with_first : (k : ℕ) (x y : A) (ys : List A) → AllPairs R (x ∷ ys)
        → item_at key_of (x ∷ ys) k ≡ Some y → key_of x ≢ k → R x y
    with_first k x y ys pairs found other =
        item_at-All key_of (R x) k y ys (pairs_head R x ys pairs)
        (sym (item_past key_of k x ys other) ∙ found)

    is_first : (k : ℕ) (x y : A) (ys : List A) → item_at key_of (x ∷ ys) k ≡ Some y → key_of x ≡ k
        → x ≡ y
    is_first k x y ys found e = same-some (item_at key_of (x ∷ ys) k) x y
        (item_here key_of k x ys e) found

    pairs-found : (k l : ℕ) (a b : A) (xs : List A) → AllPairs R xs
        → item_at key_of xs k ≡ Some a → item_at key_of xs l ≡ Some b → k ≢ l → R a b
    pairs-found k l a b [] pairs f g other = absurd cc
    pairs-found k l a b (x ∷ xs) pairs f g other =
        elim (cases_eq (key_of x) k) [
          | inl e ↦ subst (λ z. R z b) (is_first k x a xs f e)
              (with_first l x b xs pairs g (λ s. other (sym e ∙ s)))
          | inr n ↦ elim (cases_eq (key_of x) l) [
            | inl e ↦ turned b a (subst (λ z. R z a) (is_first l x b xs g e)
                (with_first k x a xs pairs f n))
            | inr m ↦ pairs-found k l a b xs (pairs_tail R x xs pairs)
                (sym (item_past key_of k x xs n) ∙ f) (sym (item_past key_of l x xs m) ∙ g) other
          ]
        ]

abbrev pub OwnApart : OwnCarrier → OwnCarrier → Type 0
OwnApart x o = SegmentApart x.base x.pages (segment_of o)

-- two carriers that an instance owns have no unit in common
pub owned-apart : (first end : ℕ) (os : List OwnCarrier) (a b : Content)
    → Laid first end (segments os) → own_at os a.number ≡ Some (own_of a)
    → own_at os b.number ≡ Some (own_of b) → a.number ≢ b.number → IsWhole a → IsWhole b
    → ContentsApart a b
owned-apart first end os a b laid f g other whole_a whole_b =
    let beside = pairs-found own_number OwnApart
    (λ x y away. elim away [ inl p ↦ inr p | inr q ↦ inl q ]) a.number b.number (own_of a)
    (own_of b) os (own-apart first end os laid) f g other in
    elim beside [
      | inl p ↦ inr (omega (arith, whole_a.0, whole_b.0))
      | inr q ↦ inl (omega (arith, whole_a.0, whole_b.0))
    ]
