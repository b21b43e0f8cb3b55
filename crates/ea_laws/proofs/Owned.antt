-- The carriers that an instance owns, by rising number, and the contents that they are.
use Rattle.std.proofs.Common.{suc, zero, ◌≡◌, ◌≢◌, ℕ, ◌+◌, ◌-◌, ◌*◌, ◌<◌, ◌≤◌, true, false, List}
use Rattle.std.proofs.Common.{[], ◌∷◌, length, All, sym, ◌∙◌, subst, refl, inl, inr, arith}
use Rattle.std.specs.Prelude.{Option, Some, None, is_some}
use Rattle.std.proofs.lemmas.Bool.{cases_Bool}
use Rattle.std.proofs.lemmas.List.Elements.{All-tail}
use Rattle.ea_model.specs.declared.carriers.OwnCarrier.{OwnCarrier}
use Rattle.ea_model.specs.Content.{Content}
use Rattle.ea_model.specs.Keyed.{IsBelow}
use Rattle.ea_model.specs.Region.{SegmentApart}
use Rattle.ea_model.specs.Instance.{is_used, own_at, own_of, segment_of, unused_from}
use Rattle.ea_model.proofs.Pairs.{pairs_head, pairs_tail}
use Rattle.ea_model.proofs.Rising.{none-other}
use Rattle.ea_laws.proofs.Unused.{unused_from-zero, unused_from-used, unused_from-free_here}
use Rattle.ea_laws.specs.Kept.{own_number, ContentsApart, HasNumberIn, IsRisingOwn, IsWhole}

unused_here : (k low n : ℕ) (os : List OwnCarrier) → is_used low os ≡ false
    → unused_from (suc k) low os ≡ Some n → low ≡ n
unused_here k low n os free h = let e : Some low ≡ Some n = sym
    (unused_from-free_here k low os free) ∙ h in cc

unused_past : (k low n : ℕ) (os : List OwnCarrier) → is_used low os ≡ true
    → unused_from (suc k) low os ≡ Some n → unused_from k (low + 1) os ≡ Some n
unused_past k low n os used h = sym (unused_from-used k low os used) ∙ h

-- the lowest unused number is one of those asked for, and isn't in use
pub unused_from-free : (k low n : ℕ) (os : List OwnCarrier) → unused_from k low os ≡ Some n
    → (low ≤ n) × (n < low + k) × (is_used n os ≡ false)
unused_from-free zero low n os h = let e : None ≡ Some n = sym (unused_from-zero low os)
    ∙ h in absurd cc
unused_from-free (suc k) low n os h =
    elim (cases_Bool (is_used low os)) [
      | inl used ↦ let more = unused_from-free k (low + 1) n os (unused_past k low n os used h) in
          (omega arith, omega arith, more.2)
      | inr free ↦ let e : low ≡ n = unused_here k low n os free h in
          (omega arith, omega arith, subst (λ m. is_used m os ≡ false) e free)
    ]

-- there are at most as many own carriers as numbers
pub rising-length : (low high : ℕ) (os : List OwnCarrier) → IsRisingOwn os
    → All (HasNumberIn low high) os → length os ≤ high - low
rising-length low high [] rising own = omega arith
rising-length low high (o ∷ os) rising own =
    let here = own 0 o (omega arith) in
    let above : All (IsBelow own_number o) os = pairs_head (IsBelow own_number) o os rising in
    let rest : All (HasNumberIn (o.number + 1) high) os = λ i d within.
    (omega (arith, above i d within), (All-tail (HasNumberIn low high) o os own i d within).1)
    in
    omega (
      arith,
      here.0,
      here.1,
      rising-length (o.number + 1) high os
          (pairs_tail (IsBelow own_number) o os rising) rest,
    )

none_owned : (o : Option OwnCarrier) → is_some o ≡ false → o ≡ None
none_owned None h = refl
none_owned (Some x) h = absurd cc

pub unused-All : (n : ℕ) (os : List OwnCarrier) → is_used n os ≡ false → All (λ o. o.number ≢ n) os
unused-All n os h = none-other own_number n os (none_owned (own_at os n) h)

-- the content of a carrier with that many pages
abbrev pub with_units : ℕ → Content → Content
with_units pages c = record c { units = 512 * pages }

pub apart_from : (x c : Content) (pages : ℕ) → x.units ≡ 512 * pages → IsWhole c
    → SegmentApart x.base pages (segment_of (own_of c)) → ContentsApart x c
apart_from x c pages size whole beside =
    elim beside [ inl p ↦ inr (omega (arith, whole.0)) | inr q ↦ inl (omega (arith, size)) ]
