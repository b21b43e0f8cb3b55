-- Carriers lie apart, each laid out, in the regions of their owners.
use Rattle.std.proofs.Common.{◌≡◌, ℕ, List, ◌+◌, ◌*◌, ◌/◌, ◌≤◌, true, subst, inl, inr, arith}
use Rattle.std.specs.Prelude.{All, Some}
use Rattle.std.proofs.lemmas.Bool.{cases_eq, cases_lt}
use Rattle.std.proofs.lemmas.List.Elements.{All-nil}
use Rattle.ea_model.specs.declared.carriers.OwnCarrier.{OwnCarrier}
use Rattle.ea_model.specs.declared.settings.Settings.{Settings}
use Rattle.ea_model.specs.Content.{Content}
use Rattle.ea_model.specs.Instance.{own_at, own_of}
use Rattle.ea_model.specs.Trace.{IsScheduler}
use Rattle.ea_laws.specs.Kept.{IsKept, IsLaidOut, IsLaidOutAlone, IsWhole}
use Rattle.ea_sound.specs.Contents.{Everywhere}
use Rattle.ea_sound.specs.Ranges.{IsApartFrom, IsLaidOutAsKind, LaysOut}
use Rattle.ea_machine.specs.Setup.{Setup, first_page, is_scheduler}
use Rattle.ea_machine.specs.State.{State}
use Rattle.ea_sound.specs.Rule.{Belongs, Kept, of_owner}
use Rattle.ea_sound.proofs.Anywhere.{everywhere}
use Rattle.ea_sound.proofs.Counted.{Counts, counts-less}
use Rattle.ea_sound.proofs.Created.{scheduler-number}
use Rattle.ea_sound.proofs.OwnCarriers.{owned-apart}
use Rattle.ea_sound.proofs.OwnEntries.{IsSomewhere, owner-has, owner-scheduler, this, this-itself}
use Rattle.ea_sound.proofs.SoundOwners.{instance-has}
use Rattle.ea_sound.proofs.Starting.{regions-apart}
use Rattle.ea_sound.proofs.Laid.{as_kind-whole}

pub number-scheduler : (e : Setup) (i : ℕ) → IsScheduler e.schedulers i → is_scheduler e i ≡ true
number-scheduler e i is = grind (arith, is.0, is.1)

-- an instance keeps its own carriers by what its numbers are
kept-as : (s t : Settings) (n m f g h j : ℕ) (own : List OwnCarrier) → s ≡ t → n ≡ m → f ≡ g → h ≡ j
    → IsKept s n f h own → IsKept t m g j own
kept-as s t n m f g h j own settings number first end kept =
    subst (λ x. IsKept t m g x own) end
    (subst (λ x. IsKept t m x h own) first
    (subst (λ x. IsKept t x f h own) number (subst (λ x. IsKept x n f h own) settings kept)))

-- two carriers where the region of the first one ends before that of the second one
across : (e : Setup) (x y : Content) → IsWhole x
    → x.base + x.units / 512 ≤ first_page e x.owner + e.pages → first_page e y.owner ≤ y.base
    → first_page e x.owner + e.pages ≤ first_page e y.owner
    → 512 * x.base + x.units ≤ 512 * y.base
across e x y whole high low apart = omega (arith, whole.0, high, low, apart)

module _ (e : Setup) (w : State) (k : Kept e w) where
  -- a carrier whose owner has it in its region
  pub record IsOwned (x : Content) : Type 0 where
    pub scheduler : is_scheduler e x.owner ≡ true
    pub found : own_at (w.actors x.owner).instance.own x.number ≡ Some (own_of x)
    pub whole : IsWhole x
    pub low : first_page e x.owner ≤ x.base
    pub high : x.base + x.units / 512 ≤ first_page e x.owner + e.pages

  pub is-owned : (i : ℕ) (x : Content) → Belongs e i x → IsLaidOutAsKind x → Counts e w x → IsOwned x
  is-owned i x belongs laid counts =
      let there : IsSomewhere e w x =
      omega (arith, this-itself x, counts-less e w x counts (of_owner (this x))) in
      record {
        scheduler = owner-scheduler e w k x there;
        found = owner-has e w k x there;
        whole = as_kind-whole x laid;
        low = belongs.low;
        high = belongs.high;
      }

  pub apart : (x y : Content) → IsOwned x → IsOwned y → IsApartFrom x y
  apart x y a b other = elim (cases_eq y.owner x.owner) [
    | inl same ↦
        let own = (w.actors x.owner).instance.own in
        let kept = (k.ranges.instances x.owner a.scheduler).order.kept in
        owned-apart _ _ own x y kept.laid a.found
        (subst (λ i. own_at (w.actors i).instance.own y.number ≡ Some (own_of y)) same b.found)
        other a.whole b.whole
    | inr differ ↦ elim (cases_lt x.owner y.owner) [
      | inl before ↦ inl (across e x y a.whole a.high b.low
          (regions-apart e x.owner y.owner (scheduler-number e x.owner a.scheduler).0 before))
      | inr after ↦ inr (across e y x b.whole b.high a.low
          (regions-apart e y.owner x.owner (scheduler-number e y.owner b.scheduler).0
          (omega (arith, after, differ))))
    ]
  ]

  -- no two carriers have a unit in common
  all-apart : Everywhere (λ x. Everywhere (IsApartFrom x) w) w
  all-apart = everywhere e w k (λ x. Everywhere (IsApartFrom x) w)
      (λ i x b l c. everywhere e w k (IsApartFrom x)
      (λ j y d m n. apart x y (is-owned i x b l c) (is-owned j y d m n)))

  own-kept : (i : ℕ) → IsScheduler e.schedulers i
      → IsKept e.settings i (first_page e i) (first_page e i + e.pages) (w.actors i).instance.own
  own-kept i is =
      let j = (w.actors i).instance in
      let stands = k.ranges.instances i (number-scheduler e i is) in
      kept-as j.settings e.settings j.number i j.first (first_page e i) j.end
      (first_page e i + e.pages) j.own stands.settings stands.number stands.first stands.end
      stands.order.kept

  pub sound-ranges : LaysOut e w
  sound-ranges = record {
    contents = instance-has e w k (λ j. j.contents) (All IsLaidOut) (λ a h. h.contents)
        (All-nil IsLaidOut) (λ j order. order.laid);
    singles = instance-has e w k (λ j. j.singles) (All IsLaidOutAlone) (λ a h. h.singles)
        (All-nil IsLaidOutAlone) (λ j order. order.alone);
    in_hand = k.ranges.hand_laid;
    home = k.ranges.home_laid;
    apart = all-apart;
    own = own-kept;
  }
