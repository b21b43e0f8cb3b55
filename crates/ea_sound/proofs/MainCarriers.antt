-- The main carrier of an instance, through each change of it.
use Rattle.std.proofs.Common.{◌≡◌, ◌≢◌, ℕ, ◌+◌, ◌<◌, ◌≤◌, List, [], ◌∷◌, Bool, true, false, refl}
use Rattle.std.proofs.Common.{ap, get_or, inl, inr, arith}
use Rattle.std.specs.Prelude.{Some, nat_lt, if◌then◌else◌}
use Rattle.std.proofs.lemmas.Bool.{cases_eq}
use Rattle.ea_model.specs.declared.carriers.CarrierPlan.{CarrierPlan}
use Rattle.ea_model.specs.declared.carriers.Kind.{Kind}
use Rattle.ea_model.specs.declared.carriers.Kind.TheVariants.{Main, Multi, Single}
use Rattle.ea_model.specs.declared.carriers.Spot.{Spot}
use Rattle.ea_model.specs.declared.reallocation.Decision.{Decision}
use Rattle.ea_model.specs.declared.reallocation.Decision.TheVariants.{Stay, ShrinkHere, GrowHere}
use Rattle.ea_model.specs.declared.reallocation.Decision.TheVariants.{ShrinkCarrier, Move}
use Rattle.ea_model.specs.Content.{Content, can_go, placed, released, resized}
use Rattle.ea_model.specs.Instance.{Instance, content_of, creating, creating_single, decision_at}
use Rattle.ea_model.specs.Instance.{employed, first_number, main_content, placing_at, releasing_at}
use Rattle.ea_model.specs.Instance.{resized_by, resized_in, resized_to, resizing_at}
use Rattle.ea_model.specs.Keyed.{changed_at}
use Rattle.ea_model.proofs.Rising.{changed_here, changed_past}
use Rattle.ea_laws.specs.Kept.{number_of, IsLaidOutAlone, IsOrderly}
use Rattle.ea_laws.proofs.Owned.{with_units}
use Rattle.ea_model.specs.Employment.{dismissing, employing}
use Rattle.ea_machine.specs.Machine.{full_instance}
use Rattle.ea_sound.specs.Places.{HasMain}
use Rattle.ea_machine.specs.Setup.{Setup, first_page}
use Rattle.ea_machine.specs.Sums.{sum_over}
use Rattle.ea_sound.specs.Blocks.{EmploysMain, main_count}
use Rattle.ea_sound.proofs.EmployedWeights.{employed_sum-creating, employed_sum-creating_single}
use Rattle.ea_sound.proofs.EmployedWeights.{employed_sum-dismissing, employed_sum-employing}
use Rattle.ea_sound.proofs.KeyedWeights.{item-hit, times-once}
use Rattle.ea_sound.proofs.Weights.{sum-zero}

-- a carrier that may go is none
may_go-none : (i : ℕ) (x : Content) → can_go x.kind ≡ true → main_count i x ≡ 0
may_go-none i x go = grind (arith, go)

other-none : (i : ℕ) (x : Content) → x.number ≢ first_number i → main_count i x ≡ 0
other-none i x other = grind (arith, other)

stays-main : (i : ℕ) (x : Content) → 1 ≤ main_count i x → can_go x.kind ≡ false
stays-main i x some = grind (arith, some)

module _ (e : Setup) (me : ℕ) (i : Instance) (has : EmploysMain e me i) where
  abbrev f : Content → ℕ
  f = main_count me

  -- carriers that change keep their numbers and kinds
  changed-same : (g : Content → Content) (n : ℕ)
      → ((x : Content) → main_count me (g x) ≡ main_count me x)
      → (xs : List Content) → sum_over f (changed_at number_of g n xs) ≡ sum_over f xs
  changed-same g n same [] = refl
  changed-same g n same (x ∷ xs) = elim (cases_eq x.number n) [
    | inl q ↦ omega (
      arith,
      ap (sum_over f) (changed_here number_of g n x xs q),
      same x,
      changed-same g n same xs,
    )
    | inr other ↦ omega (
      arith,
      ap (sum_over f) (changed_past number_of g n x xs other),
      changed-same g n same xs,
    )
  ]

  pub placing-main : (spot : Spot) (need name : ℕ) → EmploysMain e me (placing_at i spot need name)
  placing-main spot need name some = omega (
    arith,
    has some,
    changed-same (λ x. placed x spot.offset need name) spot.carrier (λ x. refl) i.contents,
  )

  pub releasing-main : (spot : Spot) → EmploysMain e me (releasing_at i spot)
  releasing-main spot some = omega (
    arith,
    has some,
    changed-same (λ x. released x spot.offset) spot.carrier (λ x. refl) i.contents,
    changed-same (λ x. released x spot.offset) spot.carrier (λ x. refl) i.singles,
  )

  pub resizing-main : (spot : Spot) (need name : ℕ)
      → EmploysMain e me (resizing_at i spot need name)
  resizing-main spot need name =
      by (decision_at i spot need) (resized_to i spot need) where
        in_place : (size : ℕ) → EmploysMain e me (resized_in i spot size name)
        in_place size some = omega (
          arith,
          has some,
          changed-same (λ x. resized x spot.offset size name) spot.carrier (λ x. refl) i.contents,
          changed-same (λ x. resized x spot.offset size name) spot.carrier (λ x. refl) i.singles,
        )

        by : (d : Decision) (size : ℕ) → EmploysMain e me (resized_by d i spot size name)
        by Stay size = in_place size
        by ShrinkHere size = in_place size
        by GrowHere size = in_place size
        by (ShrinkCarrier pages) size = λ some. omega (
          arith,
          in_place size some,
          changed-same (with_units pages) spot.carrier (λ x. refl)
              (resized_in i spot size name).singles,
        )
        by Move size = λ some. has some

  -- others come
  pub employing-main : (x : Content) → EmploysMain e me (employing i x)
  employing-main x some = omega (arith, has some, employed_sum-employing f i x)

  pub creating-main : (p : CarrierPlan) → EmploysMain e me (creating i p)
  creating-main p some = omega (arith, has some, employed_sum-creating f i p)

  pub creating_single-main : (p : CarrierPlan) (need name : ℕ)
      → EmploysMain e me (creating_single i p need name)
  creating_single-main p need name some =
      omega (arith, has some, employed_sum-creating_single f i p need name)

  -- and one that may go leaves
  pub dismissing-main : (x : Content) → IsOrderly i → content_of (employed i) x.number ≡ Some x
      → can_go x.kind ≡ true → EmploysMain e me (dismissing i x.number)
  dismissing-main x order there go some = omega (
    arith,
    has some,
    employed_sum-dismissing f i x.number x order there,
    may_go-none me x go,
  )

  -- it is among the carriers of many blocks
  pub main-there : IsOrderly i → 0 < e.settings.mmbcs → HasMain me i
  main-there order some =
      let (x, there, counts) = item-hit number_of f (first_number me) i.contents (other-none me)
      (times-once number_of (first_number me) i.contents order.rising)
      (omega (
        arith,
        has some,
        sum-zero f i.singles (λ k d within.
            alone (get_or i.singles k d) (order.alone k d within)),
      )) in
      (x, there, kind x.kind (stays-main me x counts)) where
        alone : (x : Content) → IsLaidOutAlone x → main_count me x ≡ 0
        alone x laid = may_go-none me x (ap can_go laid.single)

        kind : (k : Kind) → can_go k ≡ false → k ≡ Main
        kind Main q = refl
        kind Multi q = absurd cc
        kind Single q = absurd cc

-- an instance begins with it
pub first-main : (e : Setup) (me : ℕ) → EmploysMain e me (full_instance e me)
first-main e me some = by (nat_lt 0 e.settings.mmbcs) (lt some) where
  lt : 0 < e.settings.mmbcs → nat_lt 0 e.settings.mmbcs ≡ true
  lt l = grind (arith, l)

  itself : main_count me (main_content e.settings me (first_page e me)) ≡ 1
  itself = grind arith

  by : (b : Bool) → b ≡ true
      → 1 ≤ sum_over (main_count me)
      (if b then main_content e.settings me (first_page e me) ∷ [] else []) + 0
  by true q = omega (arith, itself)
  by false q = absurd cc
