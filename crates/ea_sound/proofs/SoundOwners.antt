-- The own carriers of instances are those of all contents.
use Rattle.std.proofs.Common.{◌≡◌, ◌≢◌, ℕ, ◌+◌, ◌*◌, ◌/◌, ◌≤◌, ◌∙◌, List, [], Bool, true, false}
use Rattle.std.proofs.Common.{refl, sym, ap, subst, arith}
use Rattle.std.specs.Prelude.{Option, None, Some, is_some, ◌==◌, ◌&&◌}
use Rattle.ea_model.specs.declared.units.TheConstants.{NUMBERS}
use Rattle.ea_model.specs.declared.carriers.OwnCarrier.{OwnCarrier}
use Rattle.ea_model.specs.Instance.{Instance, first_number, is_used, own_at, owner_of}
use Rattle.ea_model.specs.Keyed.{IsBelow}
use Rattle.ea_model.proofs.Pairs.{pairs_nil}
use Rattle.ea_model.proofs.Rising.{item_at-All, item_at-key}
use Rattle.ea_laws.specs.Kept.{number_of, own_number, HasNumberIn, IsOrderly, IsRising, IsRisingOwn}
use Rattle.ea_laws.proofs.Keeping.{pages_of_units}
use Rattle.ea_machine.specs.Actor.{Actor}
use Rattle.ea_sound.specs.Contents.{seats, sum_everywhere}
use Rattle.ea_sound.specs.NodePlaces.{anywhere}
use Rattle.ea_sound.specs.Places.{IsNumber, OwnTheirCarriers, has_number, owned_as, same_own}
use Rattle.ea_machine.specs.Setup.{Setup, is_scheduler}
use Rattle.ea_machine.specs.State.{State}
use Rattle.ea_machine.specs.Sums.{one_if, sum_over}
use Rattle.ea_sound.specs.Rule.{HasNoCarrier, Kept, of_own, own_numbers}
use Rattle.ea_sound.proofs.Created.{scheduler-number}
use Rattle.ea_sound.proofs.Global.{anywhere-only}
use Rattle.ea_sound.proofs.KeyedWeights.{counts-other, sum-missing, sum-only, times-once}
use Rattle.ea_sound.proofs.Numbered.{no_scheduler-beyond, own-other, total_at-exact}
use Rattle.ea_sound.proofs.Plans.{numbered-most}
use Rattle.ea_sound.proofs.Weights.{one-most, sum-same, sum-zero}

-- a number is used where an own carrier has it
pub own-used : (c : ℕ) (os : List OwnCarrier) → IsRisingOwn os
    → sum_over (λ (o : OwnCarrier). one_if (o.number == c)) os ≡ one_if (is_used c os)
own-used c os rising = by (own_at os c) refl where
  itself : (o : OwnCarrier) → o.number ≡ c → one_if (o.number == c) ≡ 1
  itself o is = grind (arith, is)

  by : (o : Option OwnCarrier) → own_at os c ≡ o
      → sum_over (λ (o : OwnCarrier). one_if (o.number == c)) os ≡ one_if (is_used c os)
  by None none = sum-missing own_number _ c os (counts-other own_number c) none
      ∙ sym (ap (λ o. one_if (is_some o)) none)
  by (Some o) there = sum-only own_number _ c o os (counts-other own_number c)
      (times-once own_number c os rising) there
      ∙ itself o (item_at-key own_number c o os there)
      ∙ sym (ap (λ o. one_if (is_some o)) there)

module _ (e : Setup) (w : State) (k : Kept e w) where
  -- what holds of a list of each instance in order, and of the empty one
  pub instance-has : {A : Type 0} (list : Instance → List A) (P : List A → Type 0)
      → ((a : Actor) → HasNoCarrier a → list a.instance ≡ []) → P []
      → ((j : Instance) → IsOrderly j → P (list j)) → (i : ℕ) → P (list (w.actors i).instance)
  instance-has list P none nil has i = by (is_scheduler e i) refl where
    by : (b : Bool) → is_scheduler e i ≡ b → P (list (w.actors i).instance)
    by true is = has (w.actors i).instance (k.ranges.instances i is).order
    by false not = subst P (sym (none (w.actors i) (k.ranges.nobody i not))) nil

  pub own-rising : (i : ℕ) → IsRisingOwn (w.actors i).instance.own
  own-rising = instance-has (λ j. j.own) IsRisingOwn (λ a h. h.own)
      (pairs_nil (IsBelow own_number)) (λ j order. order.kept.rising)

  -- the contents of a number are as many as the own carriers of its owner that have it
  pub number-owned : (c : ℕ) → sum_everywhere e (has_number c) w
      ≡ one_if (is_used c (w.actors (owner_of c)).instance.own)
  number-owned c = k.placed.own (λ i n b u. one_if (n == c))
      ∙ total_at-exact (own_numbers (anywhere c)) w.actors (owner_of c) (seats e)
      (λ i other. own-other e w k (anywhere c) c i (anywhere-only c) other)
      (λ past. ap (sum_over (λ (o : OwnCarrier). one_if (o.number == c)))
      (k.ranges.nobody (owner_of c) (no_scheduler-beyond e (owner_of c) past)).own)
      ∙ own-used c (w.actors (owner_of c)).instance.own (own-rising (owner_of c))

  -- one at most
  pub number-once : (c : ℕ) → sum_everywhere e (has_number c) w ≤ 1
  number-once c = omega
      (arith, number-owned c, one-most (is_used c (w.actors (owner_of c)).instance.own))

  -- a number that is used is one of the carrier numbers
  used-number : (c i : ℕ) (o : OwnCarrier) → own_at (w.actors i).instance.own c ≡ Some o
      → IsNumber e c
  used-number c i o found = by (is_scheduler e i) refl where
    by : (b : Bool) → is_scheduler e i ≡ b → IsNumber e c
    by false not = absurd (
        let empty = (k.ranges.nobody i not).own in
        let none : None ≡ Some o = sym (ap (λ os. own_at os c) empty) ∙ found in
        cc
        )
    by true is =
        let stands = k.ranges.instances i is in
        let n = (w.actors i).instance.number in
        let low = first_number n in
        let numbers = item_at-All own_number (HasNumberIn low (low + NUMBERS)) c o
        (w.actors i).instance.own stands.order.kept.numbers found in
        let same = item_at-key own_number c o (w.actors i).instance.own found in
        let scheduler = scheduler-number e i is in (
          omega (arith, numbers.0, same),
          numbered-most n c e.schedulers (omega (arith, scheduler.0, stands.number))
              (omega (arith, scheduler.1, stands.number)) (omega (arith, numbers.1, same)),
        )

  -- so is the number of a content
  pub content-number : (c : ℕ) → 1 ≤ sum_everywhere e (has_number c) w → IsNumber e c
  content-number c some = by (own_at (w.actors (owner_of c)).instance.own c) refl where
    by : (o : Option OwnCarrier) → own_at (w.actors (owner_of c)).instance.own c ≡ o
        → IsNumber e c
    by None none = absurd (omega (
      arith,
      some,
      number-owned c,
      ap (λ (o : Option OwnCarrier). one_if (is_some o)) none,
    ))
    by (Some o) found = used-number c (owner_of c) o found

  module _ (i : ℕ) (o : OwnCarrier) where
    abbrev this : ℕ → ℕ → ℕ → ℕ → ℕ
    this j n b u =
        one_if ((j == i) && ((n == o.number) && ((b == o.base) && (u / 512 == o.pages))))

    not_here : (j : ℕ) → j ≢ i → of_own this j (w.actors j) ≡ 0
    not_here j other = sum-zero (λ (p : OwnCarrier). this j p.number p.base (512 * p.pages))
        (w.actors j).instance.own (λ m d within. elsewhere _ _ _) where
          elsewhere : (n b u : ℕ) → this j n b u ≡ 0
          elsewhere n b u = grind (arith, other)

    here : (p : OwnCarrier) → this i p.number p.base (512 * p.pages) ≡ one_if (same_own p o)
    here p = by (512 * p.pages / 512) (pages_of_units p.pages) where
      by : (u : ℕ) → u ≡ p.pages
          → one_if ((i == i) && ((p.number == o.number) && ((p.base == o.base) && (u == o.pages))))
          ≡ one_if (same_own p o)
      by u is = grind (arith, is)

    owned-exactly : sum_over (λ p. one_if (same_own p o)) (w.actors i).instance.own
        ≡ sum_everywhere e (owned_as i o) w
    owned-exactly =
        let counts : OwnCarrier → ℕ = λ p. this i p.number p.base (512 * p.pages) in
        sym (k.placed.own this
        ∙ total_at-exact (of_own this) w.actors i (seats e) not_here
        (λ past. ap (sum_over counts) (k.ranges.nobody i (no_scheduler-beyond e i past)).own)
        ∙ sum-same counts (λ p. one_if (same_own p o)) (w.actors i).instance.own
        (λ m d within. here _))

  pub sound-own : OwnTheirCarriers e w
  sound-own = record {
    exactly = owned-exactly;
    contents = instance-has (λ j. j.contents) IsRising (λ a h. h.contents)
        (pairs_nil (IsBelow number_of)) (λ j order. order.rising);
    singles = instance-has (λ j. j.singles) IsRising (λ a h. h.singles)
        (pairs_nil (IsBelow number_of)) (λ j order. order.rising_singles);
  }
