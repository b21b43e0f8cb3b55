-- The lowest number that isn't in use, number by number.
use Rattle.std.proofs.Common.{◌≡◌, ℕ, zero, suc, ◌+◌, ◌<◌, true, false, List, sym, ◌∙◌, ap, refl}
use Rattle.std.proofs.Common.{arith}
use Rattle.std.specs.Prelude.{Option, Some, None}
use Rattle.std.proofs.lemmas.Bool.{cond-true, cond-false}
use Rattle.ea_model.specs.declared.units.TheConstants.{NUMBERS}
use Rattle.ea_model.specs.declared.carriers.OwnCarrier.{OwnCarrier}
use Rattle.ea_model.specs.Instance.{unused_from, is_used}

pub unused_from-zero : (n : ℕ) (os : List OwnCarrier) → unused_from zero n os ≡ None
unfolding unused_from
unused_from-zero n os = refl

pub unused_from-used : (k n : ℕ) (os : List OwnCarrier) → is_used n os ≡ true
    → unused_from (suc k) n os ≡ unused_from k (n + 1) os
unfolding unused_from
unused_from-used k n os h = cond-true (is_used n os) (unused_from k (n + 1) os) (Some n) h

pub unused_from-free_here : (k n : ℕ) (os : List OwnCarrier) → is_used n os ≡ false
    → unused_from (suc k) n os ≡ Some n
unfolding unused_from
unused_from-free_here k n os h = cond-false (is_used n os) (unused_from k (n + 1) os) (Some n) h

-- at a number that isn't in use the search is over
pub stops_here : (left k first : ℕ) (os : List OwnCarrier) (all : Option ℕ) → left + k ≡ NUMBERS
    → k < NUMBERS → is_used (first + k) os ≡ false → unused_from left (first + k) os ≡ all
    → Some (first + k) ≡ all
stops_here zero k first os all e h unused same = absurd (omega arith)
stops_here (suc left) k first os all e h unused same = sym
    (unused_from-free_here left (first + k) os unused) ∙ same

-- at a number that is in use it goes on
pub goes_on : (left k first : ℕ) (os : List OwnCarrier) (all : Option ℕ) → left + k ≡ NUMBERS → k < NUMBERS
    → is_used (first + k) os ≡ true → unused_from left (first + k) os ≡ all
    → (rest : ℕ) × (rest + (k + 1) ≡ NUMBERS) × (unused_from rest (first + (k + 1)) os ≡ all)
goes_on zero k first os all e h used same = absurd (omega arith)
goes_on (suc left) k first os all e h used same =
    let at : first + (k + 1) ≡ first + k + 1 = omega arith in (
      left,
      omega arith,
      ap (λ n. unused_from left n os) at
          ∙ sym (unused_from-used left (first + k) os used) ∙ same,
    )

-- at the end of the numbers there is none
pub ends : (left k first : ℕ) (os : List OwnCarrier) (all : Option ℕ) → left + k ≡ NUMBERS → NUMBERS < k + 1
    → unused_from left (first + k) os ≡ all → None ≡ all
ends zero k first os all e h same = sym (unused_from-zero (first + k) os) ∙ same
ends (suc left) k first os all e h same = absurd (omega arith)
