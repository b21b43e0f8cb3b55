-- The lowest number that isn't in use, found along the carriers by rising number.
use Rattle.std.proofs.Common.{zero, suc, ◌≡◌, ◌≢◌, ℕ, ◌+◌, ◌-◌, ◌<◌, ◌≤◌, true, false, List, [], ◌∷◌}
use Rattle.std.proofs.Common.{length, get_or, drop, All, sym, ap, ◌∙◌, refl, inl, inr, arith}
use Rattle.std.specs.Prelude.{None, Some, is_some}
use Rattle.std.proofs.lemmas.Bool.{cases_Bool}
use Rattle.std.proofs.Math.ListN.{drop_of_length-le}
use Rattle.std.proofs.lemmas.List.{drop_more}
use Rattle.std.proofs.lemmas.List.Elements.{All-head, All-tail}
use Rattle.ea_model.specs.declared.carriers.OwnCarrier.{OwnCarrier}
use Rattle.ea_model.specs.declared.units.TheConstants.{NUMBERS}
use Rattle.ea_model.specs.Instance.{is_used, unused_from}
use Rattle.ea_model.specs.Keyed.{IsBelow}
use Rattle.ea_model.proofs.Pairs.{pairs_head, pairs_tail}
use Rattle.ea_model.proofs.Rising.{item_here, item_past}
use Rattle.ea_laws.specs.Kept.{own_number, IsRisingOwn}
use Rattle.ea_laws.proofs.Unused.{unused_from-zero, unused_from-used, unused_from-free_here}
use Rattle.ea_laws.proofs.Unused.{stops_here, goes_on, ends}

used_past : (n : ℕ) (o : OwnCarrier) (os : List OwnCarrier) → o.number < n
    → is_used n (o ∷ os) ≡ is_used n os
used_past n o os lt = ap is_some (item_past own_number n o os (λ e. omega arith))

used_here : (n : ℕ) (o : OwnCarrier) (os : List OwnCarrier) → o.number ≡ n
    → is_used n (o ∷ os) ≡ true
used_here n o os e = ap is_some (item_here own_number n o os e)

-- no carrier has a number below all of theirs
unused_below : (n : ℕ) (os : List OwnCarrier) → All (λ o. n < o.number) os → is_used n os ≡ false
unused_below n [] above = refl
unused_below n (o ∷ os) above =
    let here : n < o.number = All-head (λ (x : OwnCarrier). n < x.number) o os above in
    ap is_some (item_past own_number n o os (λ e. omega arith))
    ∙ unused_below n os (All-tail (λ (x : OwnCarrier). n < x.number) o os above)

-- a carrier of a lower number doesn't matter
from_past : (k n : ℕ) (o : OwnCarrier) (os : List OwnCarrier) → o.number < n
    → unused_from k n (o ∷ os) ≡ unused_from k n os
from_past zero n o os lt = unused_from-zero n (o ∷ os) ∙ sym (unused_from-zero n os)
from_past (suc k) n o os lt =
    elim (cases_Bool (is_used n os)) [
      | inl used ↦ unused_from-used k n (o ∷ os) (used_past n o os lt ∙ used)
          ∙ from_past k (n + 1) o os (omega arith) ∙ sym (unused_from-used k n os used)
      | inr free ↦ unused_from-free_here k n (o ∷ os) (used_past n o os lt ∙ free)
          ∙ sym (unused_from-free_here k n os free)
    ]

-- the numbers from `first` up to `number` are in use, `number` is one of those asked for, and the
-- carriers that are left tell the lowest one that isn't in use
pub record IsNext (first number : ℕ) (rest all : List OwnCarrier) : Type 0 where
  pub used : ℕ
  pub left : ℕ
  pub at : first + used ≡ number
  pub count : left + used ≡ NUMBERS
  pub within : used < NUMBERS
  pub rising : IsRisingOwn rest
  pub same : unused_from left (first + used) rest ≡ unused_from NUMBERS first all

pub next_first : (first : ℕ) (all : List OwnCarrier) → IsRisingOwn all → IsNext first first all all
next_first first all rising =
    let at : first + 0 ≡ first = omega arith in
    record {
      used = 0;
      left = NUMBERS;
      at = at;
      count = refl;
      within = omega arith;
      rising = rising;
      same = ap (λ n. unused_from NUMBERS n all) at;
    }

-- the default of an index past the end
abbrev pub no_carrier : OwnCarrier
no_carrier = record { number = 0; base = 0; pages = 0 }

-- the carrier at an index and those after it are left
pub next_at : (first number i : ℕ) (os all : List OwnCarrier) → i < length os
    → IsNext first number (drop i os) all
    → IsNext first number (get_or os i no_carrier ∷ drop (i + 1) os) all
next_at first number i os all within h = rw (drop_more os i no_carrier within) at h

-- where no carrier is left, the number isn't in use
pub next_end : (first number i : ℕ) (os all : List OwnCarrier) → length os ≤ i
    → IsNext first number (drop i os) all → Some number ≡ unused_from NUMBERS first all
next_end first number i os all past h =
    ap Some (sym h.at)
    ∙ stops_here h.left h.used first (drop i os) _ h.count h.within
    (ap (is_used (first + h.used)) (drop_of_length-le os past)) h.same

module _ (first number : ℕ) (o : OwnCarrier) (os all : List OwnCarrier)
    (h : IsNext first number (o ∷ os) all) where
  -- before a carrier of a greater number it isn't either
  pub next_before : number < o.number → Some number ≡ unused_from NUMBERS first all
  next_before lt =
      ap Some (sym h.at)
      ∙ stops_here h.left h.used first (o ∷ os) _ h.count h.within
      (ap is_some (item_past own_number (first + h.used) o os (λ e. omega (arith, h.at)))
      ∙ unused_below (first + h.used) os
      (λ i d within. omega (
        arith,
        pairs_head (IsBelow own_number) o os h.rising i d within,
        h.at,
      )))
      h.same

  -- a carrier of a lower number is passed
  pub next_past : (n : ℕ) → n ≡ number → o.number ≤ number → number ≢ o.number
      → IsNext first n os all
  next_past n is le other = record {
    used = h.used;
    left = h.left;
    at = h.at ∙ sym is;
    count = h.count;
    within = h.within;
    rising = pairs_tail (IsBelow own_number) o os h.rising;
    same = sym (from_past h.left (first + h.used) o os (omega (arith, h.at))) ∙ h.same;
  }

  -- the number of a carrier is in use
  taken : number ≡ o.number → (left : ℕ) × (left + (h.used + 1) ≡ NUMBERS)
      × (unused_from left (first + (h.used + 1)) (o ∷ os) ≡ unused_from NUMBERS first all)
  taken e = goes_on h.left h.used first (o ∷ os) _ h.count h.within
      (used_here (first + h.used) o os (sym e ∙ sym h.at)) h.same

  -- if it is the last one, all are in use
  pub next_none : number ≡ o.number → number ≡ first + (NUMBERS - 1) → None ≡ unused_from NUMBERS first all
  next_none e last =
      let (left, count, same) = taken e in
      ends left (h.used + 1) first (o ∷ os) _ count (omega (arith, h.at)) same

  -- else the next number is the candidate
  pub next_up : (n : ℕ) → n ≡ number + 1 → number ≡ o.number → number ≢ first + (NUMBERS - 1)
      → IsNext first n os all
  next_up n is e more =
      let (left, count, same) = taken e in
      record {
        used = h.used + 1;
        left = left;
        at = omega (arith, h.at);
        count = count;
        within = omega (arith, h.at, h.within);
        rising = pairs_tail (IsBelow own_number) o os h.rising;
        same = sym (from_past left (first + (h.used + 1)) o os (omega (arith, h.at))) ∙ same;
      }
