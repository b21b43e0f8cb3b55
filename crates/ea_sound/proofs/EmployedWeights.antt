-- Weights of the contents that an instance employs, through each change of it.
use Rattle.std.proofs.Common.{◌≡◌, ℕ, ◌+◌, ◌≤◌, refl, sym, ap, ◌∙◌, arith}
use Rattle.std.specs.Prelude.{Some, None}
use Rattle.ea_model.specs.declared.carriers.CarrierPlan.{CarrierPlan}
use Rattle.ea_model.specs.declared.carriers.OwnCarrier.{OwnCarrier}
use Rattle.ea_model.specs.declared.carriers.Kind.TheVariants.{Multi}
use Rattle.ea_model.specs.declared.carriers.Spot.{Spot}
use Rattle.ea_model.specs.declared.reallocation.Decision.{Decision}
use Rattle.ea_model.specs.declared.reallocation.Decision.TheVariants.{Stay, ShrinkHere, GrowHere}
use Rattle.ea_model.specs.declared.reallocation.Decision.TheVariants.{ShrinkCarrier, Move}
use Rattle.ea_model.specs.Content.{Content, placed, resized}
use Rattle.ea_model.specs.Instance.{Instance, changing, content_of, created_content, created_single}
use Rattle.ea_model.specs.Instance.{creating, creating_single, decision_at, employed, own_at}
use Rattle.ea_model.specs.Instance.{own_of, placing_at, resized_by, resized_in, resized_to}
use Rattle.ea_model.specs.Instance.{resizing_at, shortened, without_content}
use Rattle.ea_model.proofs.Rising.{changed-found, rising-changed}
use Rattle.ea_laws.specs.Kept.{number_of, own_number, IsOrderly}
use Rattle.ea_laws.proofs.Changed.{KeepsPlace, resized-keeps}
use Rattle.ea_laws.proofs.Employed.{employed-changed, employed-dismissed}
use Rattle.ea_laws.proofs.Keeping.{pages_of_units}
use Rattle.ea_laws.proofs.Owned.{with_units}
use Rattle.ea_laws.proofs.Resizing.{shortened-alone}
use Rattle.ea_model.specs.Employment.{dismissing, employing}
use Rattle.ea_sound.specs.Blocks.{employed_sum}
use Rattle.ea_machine.specs.Sums.{sum_over}
use Rattle.ea_sound.proofs.KeyedWeights.{times, times-once, sum-changed, sum-entered, sum-merged}
use Rattle.ea_sound.proofs.KeyedWeights.{sum-without}
use Rattle.ea_laws.proofs.Orderly.{employed-alone}
use Rattle.ea_laws.proofs.Resizing.{content_after}

module _ (f : Content → ℕ) (i : Instance) where
  pub employed_sum-employed : sum_over f (employed i) ≡ employed_sum f i
  employed_sum-employed = sum-merged number_of f i.contents i.singles

  -- a carrier comes
  pub employed_sum-employing : (x : Content)
      → employed_sum f (employing i x) ≡ f x + employed_sum f i
  employed_sum-employing x = omega (arith, sum-entered number_of f x i.contents)

  pub employed_sum-creating : (p : CarrierPlan)
      → employed_sum f (creating i p) ≡ f (created_content i.number Multi p) + employed_sum f i
  employed_sum-creating p = employed_sum-employing (created_content i.number Multi p)

  pub employed_sum-creating_single : (p : CarrierPlan) (need name : ℕ)
      → employed_sum f (creating_single i p need name)
      ≡ f (created_single i.number p need name) + employed_sum f i
  employed_sum-creating_single p need name =
      omega (arith, sum-entered number_of f (created_single i.number p need name) i.singles)

  module _ (n : ℕ) (c : Content) (order : IsOrderly i)
      (there : content_of (employed i) n ≡ Some c) where
    once : times number_of n (employed i) ≤ 1
    once = times-once number_of n (employed i) order.once

    -- a carrier goes
    pub employed_sum-dismissing : f c + employed_sum f (dismissing i n) ≡ employed_sum f i
    employed_sum-dismissing = omega (
      arith,
      sum-without number_of f n c (employed i) once there,
      ap (sum_over f) (employed-dismissed i n order.once),
      sum-merged number_of f (without_content n i.contents) (without_content n i.singles),
      employed_sum-employed,
    )

    -- a carrier changes in its place
    pub employed_sum-changing : (g : Content → Content) → KeepsPlace g
        → f c + employed_sum f (changing i g n) ≡ f (g c) + employed_sum f i
    employed_sum-changing g keeps = omega (
      arith,
      sum-changed number_of g n f c (employed i) once there,
      ap (sum_over f) (employed-changed g keeps n i),
      sum-merged number_of f (changing i g n).contents (changing i g n).singles,
      employed_sum-employed,
    )

  -- a block is placed
  pub employed_sum-placing : (spot : Spot) (need name : ℕ) (c : Content) → IsOrderly i
      → content_of i.contents spot.carrier ≡ Some c
      → f c + employed_sum f (placing_at i spot need name)
      ≡ f (placed c spot.offset need name) + employed_sum f i
  employed_sum-placing spot need name c order there = omega (
    arith,
    sum-changed number_of (λ x. placed x spot.offset need name) spot.carrier f c i.contents
        (times-once number_of spot.carrier i.contents order.rising) there,
  )

-- a block gets other units in place
module _ (i : Instance) (spot : Spot) (need name : ℕ) (c : Content) (order : IsOrderly i)
    (there : content_of (employed i) spot.carrier ≡ Some c) where
  abbrev at : ℕ
  at = spot.carrier

  abbrev with_new : ℕ → Content → Content
  with_new size x = resized x spot.offset size name

  module _ (f : Content → ℕ) where
    shortened_by : (size pages : ℕ) → content_of i.contents at ≡ None
        → f c + employed_sum f (shortened (resized_in i spot size name) at pages)
        ≡ f (with_units pages (with_new size c)) + employed_sum f i
    shortened_by size pages others =
        let g = with_new size in
        let j = resized_in i spot size name in
        let here = sym (employed-alone i at others) ∙ there in
        omega (
          arith,
          employed_sum-changing f i at c order there g (resized-keeps spot.offset size name),
          sum-changed number_of (with_units pages) at f (g c) j.singles
              (times-once number_of at j.singles
              (rising-changed number_of g at (λ _. refl) i.singles order.rising_singles))
              (changed-found number_of g at (λ _. refl) c i.singles here),
        )

    resized_weighs : (d : Decision) (size : ℕ) → decision_at i spot need ≡ d
        → f c + employed_sum f (resized_by d i spot size name)
        ≡ f (content_after d spot.offset size name c) + employed_sum f i
    resized_weighs Stay size e =
        employed_sum-changing f i at c order there (with_new size)
        (resized-keeps spot.offset size name)
    resized_weighs ShrinkHere size e =
        employed_sum-changing f i at c order there (with_new size)
        (resized-keeps spot.offset size name)
    resized_weighs GrowHere size e =
        employed_sum-changing f i at c order there (with_new size)
        (resized-keeps spot.offset size name)
    resized_weighs (ShrinkCarrier pages) size e =
        shortened_by size pages (shortened-alone i spot need pages e)
    resized_weighs Move size e = refl

    pub employed_sum-resizing : f c + employed_sum f (resizing_at i spot need name)
        ≡ f (content_after (decision_at i spot need) spot.offset (resized_to i spot need) name c)
        + employed_sum f i
    employed_sum-resizing = resized_weighs (decision_at i spot need) (resized_to i spot need) refl

  -- what the owner of the carrier knows of it changes alike
  module _ (f : OwnCarrier → ℕ) (owns : own_at i.own at ≡ Some (own_of c)) where
    own_weighs : (d : Decision) (size : ℕ)
        → f (own_of c) + sum_over f (resized_by d i spot size name).own
        ≡ f (own_of (content_after d spot.offset size name c)) + sum_over f i.own
    own_weighs Stay size = refl
    own_weighs ShrinkHere size = refl
    own_weighs GrowHere size = refl
    own_weighs (ShrinkCarrier pages) size = omega (
      arith,
      sum-changed own_number (λ o. record o { pages = pages }) at f (own_of c) i.own
          (times-once own_number at i.own order.kept.rising) owns,
      ap (λ n. f (record { number = c.number; base = c.base; pages = n })) (pages_of_units pages),
    )
    own_weighs Move size = refl

    pub sum-own_resizing : f (own_of c) + sum_over f (resizing_at i spot need name).own
        ≡ f (own_of
        (content_after (decision_at i spot need) spot.offset (resized_to i spot need) name c))
        + sum_over f i.own
    sum-own_resizing = own_weighs (decision_at i spot need) (resized_to i spot need)
