-- The carrier that an instance plans.
use Rattle.std.proofs.Common.{◌≡◌, ℕ, ◌+◌, ◌<◌, ◌↔◌, Bool, true, false, All, sym, ap, ◌∙◌, subst}
use Rattle.std.specs.Prelude.{Some, None, Ok, Err, Result, if◌then◌else◌}
use Rattle.ea_model.specs.declared.carriers.CarrierPlan.{CarrierPlan}
use Rattle.ea_model.specs.declared.carriers.Segment.{Segment}
use Rattle.ea_model.specs.declared.entries.NoCarrier.{NoCarrier}
use Rattle.ea_model.specs.declared.entries.NoCarrier.TheVariants.{Numbers, Space}
use Rattle.ea_model.specs.declared.units.TheConstants.{NUMBERS}
use Rattle.ea_model.specs.Instance.{Instance, first_number, free_run, is_alone}
use Rattle.ea_model.specs.Instance.{least_plan, next_pages, numbered_plan, plan, planned, segments}
use Rattle.ea_model.specs.Instance.{sized_plan, unused_from, wanted_pages}
use Rattle.ea_model.specs.Region.{runs}
use Rattle.ea_model.specs.Units.{least_pages}
use Rattle.ea_laws.specs.Spots.{AllUsed}
use Rattle.ea_laws.proofs.Refusals.{plan-numbers, plan-space}

-- why there is no carrier
pub told-numbers : (i : Instance) (need : ℕ) (r : Result CarrierPlan NoCarrier) → r ≡ plan i need
    → (r ≡ Err Numbers) ↔ AllUsed i
told-numbers i need r is = subst (λ x. (x ≡ Err Numbers) ↔ AllUsed i) (sym is) (plan-numbers i need)

pub told-space : (i : Instance) (need : ℕ) (r : Result CarrierPlan NoCarrier) → r ≡ plan i need
    → (r ≡ Err Space) ↔ ((AllUsed i → ⊥)
    × All (λ (s : Segment). s.pages < least_pages need) (runs i.first i.end (segments i.own)))
told-space i need r is =
    subst (λ x. (x ≡ Err Space) ↔ ((AllUsed i → ⊥)
    × All (λ (s : Segment). s.pages < least_pages need) (runs i.first i.end (segments i.own))))
    (sym is) (plan-space i need)

-- the pages that are wanted
pub wanted-least : (i : Instance) (need : ℕ) → is_alone i need ≡ true
    → least_pages need ≡ wanted_pages i need
wanted-least i need alone =
    sym (ap (λ b. if b then least_pages need else next_pages i need) alone)

pub wanted-next : (i : Instance) (need : ℕ) → is_alone i need ≡ false
    → next_pages i need ≡ wanted_pages i need
wanted-next i need alone =
    sym (ap (λ b. if b then least_pages need else next_pages i need) alone)

module _ (i : Instance) (need : ℕ) where
  pub plan-no_number : None ≡ unused_from NUMBERS (first_number i.number) i.own
      → Err Numbers ≡ plan i need
  plan-no_number none = ap (numbered_plan i need) none

  module _ (number wanted : ℕ) (alone : Bool) (is : alone ≡ is_alone i need)
      (free : Some number ≡ unused_from NUMBERS (first_number i.number) i.own)
      (wants : wanted ≡ wanted_pages i need) where
    abbrev made : ℕ → ℕ → CarrierPlan
    made base pages = record {
      number = number;
      base = base;
      pages = pages;
      birth = i.created + 1;
      single = alone;
    }

    is_made : (base pages : ℕ) → made base pages ≡ planned i need number base pages
    is_made base pages = ap (λ b. record {
      number = number;
      base = base;
      pages = pages;
      birth = i.created + 1;
      single = b;
    }) is

    sized : sized_plan i need number (free_run i wanted) ≡ plan i need
    sized = ap (λ n. sized_plan i need number (free_run i n)) wants
        ∙ ap (numbered_plan i need) free

    pub plan-wanted : (base : ℕ) → Some base ≡ free_run i wanted
        → Ok (made base wanted) ≡ plan i need
    plan-wanted base there =
        ap Ok (is_made base wanted) ∙ ap (λ n. Ok (planned i need number base n)) wants
        ∙ ap (sized_plan i need number) there ∙ sized

    least : None ≡ free_run i wanted
        → least_plan i need number (free_run i (least_pages need)) ≡ plan i need
    least none = ap (sized_plan i need number) none ∙ sized

    pub plan-least : None ≡ free_run i wanted → (base : ℕ)
        → Some base ≡ free_run i (least_pages need)
        → Ok (made base (least_pages need)) ≡ plan i need
    plan-least none base there =
        ap Ok (is_made base (least_pages need)) ∙ ap (least_plan i need number) there ∙ least none

    pub plan-no_space : None ≡ free_run i wanted → None ≡ free_run i (least_pages need)
        → Err Space ≡ plan i need
    plan-no_space none lacks = ap (least_plan i need number) lacks ∙ least none
