-- What an instance keeps of its carriers through each change.
use Rattle.std.proofs.Common.{◌≡◌, ℕ, ◌+◌, ◌*◌, ◌/◌, ◌%◌, ◌<◌, ◌≤◌, false, List, length, All, sym}
use Rattle.std.proofs.Common.{subst, refl, arith}
use Rattle.std.specs.Prelude.{Option, Some, None, Ok, IsSome, max, ◌==◌}
use Rattle.std.proofs.lemmas.Bool.{cond_both}
use Rattle.std.proofs.lemmas.List.Elements.{All-filter, All-map, All-weaker}
use Rattle.std.proofs.lemmas.List.Kept.{AllPairs-filter}
use Rattle.ea_model.specs.declared.units.TheConstants.{NUMBERS}
use Rattle.ea_model.specs.declared.settings.Settings.{Settings}
use Rattle.ea_model.specs.declared.units.TheConstants.{MAX_UNITS}
use Rattle.ea_model.specs.declared.carriers.OwnCarrier.{OwnCarrier}
use Rattle.ea_model.specs.declared.carriers.CarrierPlan.{CarrierPlan}
use Rattle.ea_model.specs.declared.carriers.Kind.TheVariants.{Multi}
use Rattle.ea_model.specs.Content.{Content}
use Rattle.ea_model.specs.Keyed.{IsBelow}
use Rattle.ea_model.specs.Region.{AreFree, Laid, with_segment}
use Rattle.ea_model.specs.Instance.{Instance, segments, segment_of, first_number, own_at, own_of}
use Rattle.ea_model.specs.Instance.{planned_own, with_own, without_own, unused_from, is_used}
use Rattle.ea_model.specs.Instance.{free_run, is_alone, next_pages, wanted_pages}
use Rattle.ea_model.specs.Instance.{planned, least_plan, sized_plan, numbered_plan, plan}
use Rattle.ea_model.specs.Instance.{created_content, creating, chosen_spot, growth, multis}
use Rattle.ea_model.specs.Units.{least_pages, pages_for}
use Rattle.ea_model.proofs.Options.{some_holds}
use Rattle.ea_model.proofs.Rising.{All-entered, change, key_stays, length-entered, rising-changed}
use Rattle.ea_model.proofs.Rising.{rising-entered}
use Rattle.ea_laws.specs.Kept.{own_number, HasNumberIn, HasPages, IsRisingOwn, IsKept, IsLaidOut}
use Rattle.ea_laws.proofs.FreeRuns.{Fits, place-Fits}
use Rattle.ea_laws.proofs.Segments.{Laid-cut, Laid-entered}
use Rattle.ea_laws.proofs.Owned.{rising-length, unused_from-free, unused-All}
use Rattle.ea_laws.proofs.Powers.{rounded-from}
use Rattle.ea_laws.proofs.Room.{chosen-created}
use Rattle.ea_laws.proofs.CarrierSegments.{segments-shortened, segments-with_own, segments-without}
use Rattle.ea_laws.proofs.CarrierSegments.{with_pages}

-- the own carriers without one of them
pub IsKept-cleared : (s : Settings) (n number first end : ℕ) (o : OwnCarrier)
    (os : List OwnCarrier) → IsKept s n first end os → own_at os number ≡ Some o
    → IsKept s n first end (without_own number os)
IsKept-cleared s n number first end o os k there = record {
  valid = k.valid;
  instance = k.instance;
  rising = AllPairs-filter (IsBelow own_number) _ os k.rising;
  numbers = All-filter _ (HasNumberIn (first_number n) (first_number n + NUMBERS)) os k.numbers;
  pages = All-filter _ HasPages os k.pages;
  within = k.within;
  laid = subst (Laid first end)
      (sym (segments-without first end number o os k.laid k.pages k.rising there))
      (Laid-cut first end o.base (segments os) k.laid);
}

-- the own carriers where one of them has fewer pages
module _ (s : Settings) (n number first end pages : ℕ) (o : OwnCarrier) (os : List OwnCarrier)
    (k : IsKept s n first end os) (there : own_at os number ≡ Some o) (some : 1 ≤ pages)
    (fewer : pages < o.pages) where
  abbrev shorter : OwnCarrier → OwnCarrier
  shorter x = record x { pages = pages }

  numbers_stay : (x : OwnCarrier) → own_number (change own_number shorter number x) ≡ x.number
  numbers_stay x = key_stays own_number shorter number (λ _. refl) x

  pub IsKept-shortened : IsKept s n first end (with_pages number pages os)
  IsKept-shortened =
      let owns = HasNumberIn (first_number n) (first_number n + NUMBERS) in
      let less = change own_number shorter number in
      record {
        valid = k.valid;
        instance = k.instance;
        rising = rising-changed own_number shorter number (λ _. refl) os k.rising;
        numbers = All-map owns less os
            (All-weaker owns (λ x. owns (less x))
            (λ x has. (omega (arith, has.0, numbers_stay x), omega (arith, has.1, numbers_stay x)))
            os k.numbers);
        pages = All-map HasPages less os
            (All-weaker HasPages (λ x. HasPages (less x))
            (λ x has. cond_both (x.number == number) (shorter x) x HasPages (λ _. some) (λ _. has))
            os k.pages);
        within = k.within;
        laid = subst (Laid first end)
            (sym (segments-shortened first end number o os pages k.laid k.rising there some fewer))
            (Laid-cut first end (o.base + pages) (segments os) k.laid);
      }

-- what a plan says
pub record IsPlanned (i : Instance) (need : ℕ) (p : CarrierPlan) : Type 0 where
  pub number : unused_from NUMBERS (first_number i.number) i.own ≡ Some p.number
  pub run : free_run i p.pages ≡ Some p.base
  pub birth : p.birth ≡ i.created + 1
  pub single : p.single ≡ is_alone i need
  pub enough : least_pages need ≤ p.pages

-- the wanted pages are enough
pub wanted-enough : (i : Instance) (need : ℕ) → least_pages need ≤ wanted_pages i need
wanted-enough i need = cond_both (is_alone i need) (least_pages need) (next_pages i need)
    (λ n. least_pages need ≤ n) (λ _. omega arith) (λ _. omega (arith, enough)) where
      wanted : ℕ
      wanted = max (least_pages need) (pages_for (growth i.settings (multis i.contents)))

      enough : wanted ≤ next_pages i need
      enough = rounded-from i.settings wanted

at_least : (i : Instance) (need number : ℕ) (p : CarrierPlan) (o : Option ℕ)
    → unused_from NUMBERS (first_number i.number) i.own ≡ Some number
    → free_run i (least_pages need) ≡ o → least_plan i need number o ≡ Ok p → IsPlanned i need p
at_least i need number p None n f e = absurd cc
at_least i need number p (Some base) n f e =
    let is : planned i need number base (least_pages need) ≡ p = cc in
    subst (IsPlanned i need) is (record {
      number = n;
      run = f;
      birth = refl;
      single = refl;
      enough = omega arith;
    })

at_size : (i : Instance) (need number : ℕ) (p : CarrierPlan) (o : Option ℕ)
    → unused_from NUMBERS (first_number i.number) i.own ≡ Some number
    → free_run i (wanted_pages i need) ≡ o → sized_plan i need number o ≡ Ok p → IsPlanned i need p
at_size i need number p None n f e = at_least i need number p (free_run i (least_pages need)) n refl
    e
at_size i need number p (Some base) n f e =
    let is : planned i need number base (wanted_pages i need) ≡ p = cc in
    subst (IsPlanned i need) is (record {
      number = n;
      run = f;
      birth = refl;
      single = refl;
      enough = wanted-enough i need;
    })

at_number : (i : Instance) (need : ℕ) (p : CarrierPlan) (o : Option ℕ)
    → unused_from NUMBERS (first_number i.number) i.own ≡ o → numbered_plan i need o ≡ Ok p
    → IsPlanned i need p
at_number i need p None n e = absurd cc
at_number i need p (Some number) n e = at_size i need number p (free_run i (wanted_pages i need)) n
    refl e

pub plan-IsPlanned : (i : Instance) (need : ℕ) (p : CarrierPlan) → plan i need ≡ Ok p
    → IsPlanned i need p
plan-IsPlanned i need p e = at_number i need p (unused_from NUMBERS (first_number i.number) i.own)
    refl e

-- pages in units are pages
pub pages_of_units : (n : ℕ) → 512 * n / 512 ≡ n
pages_of_units n = omega arith

pub whole_pages : (n : ℕ) → 512 * n % 512 ≡ 0
whole_pages n = omega arith

-- the instance has a choice in the carrier of its plan
pub chosen-planned : (i : Instance) (need : ℕ) (p : CarrierPlan) → plan i need ≡ Ok p
    → IsSome (chosen_spot (creating i p) need)
chosen-planned i need p asked =
    let enough = (plan-IsPlanned i need p asked).enough in
    chosen-created i need p (omega (arith, enough)) (omega (arith, enough))

-- the carrier of a plan among the others
module _ (i : Instance) (need : ℕ) (p : CarrierPlan)
    (k : IsKept i.settings i.number i.first i.end i.own) (asked : plan i need ≡ Ok p) where
  planned_here : IsPlanned i need p
  planned_here = plan-IsPlanned i need p asked

  some_pages : 1 ≤ p.pages
  some_pages = omega (arith, planned_here.enough)

  unused : (first_number i.number ≤ p.number) × (p.number < first_number i.number + NUMBERS)
      × (is_used p.number i.own ≡ false)
  unused = unused_from-free NUMBERS (first_number i.number) p.number i.own planned_here.number

  run_fits : Fits i.first i.end p.base p.pages (segments i.own)
  run_fits =
      some_holds (free_run i p.pages) p.base
      (λ base. Fits i.first i.end base p.pages (segments i.own)) planned_here.run
      (place-Fits i.settings.rules.falling i.first i.end p.pages (segments i.own) k.laid)

  -- its pages are free
  pub planned-free : AreFree p.base p.pages (segments i.own)
  planned-free = run_fits.apart

  -- within the region
  pub planned-within : (i.first ≤ p.base) × (p.base + p.pages ≤ i.end)
  planned-within = (run_fits.behind, run_fits.before)

  -- it has a number of the instance
  pub planned-numbered : HasNumberIn (first_number i.number) (first_number i.number + NUMBERS)
      (planned_own p)
  planned-numbered = (unused.0, unused.1)

  -- that is unused
  pub other-numbers : is_used p.number i.own ≡ false
  other-numbers = unused.2

  -- and lies low enough
  pub lies-low : 512 * p.base + 512 * p.pages ≤ MAX_UNITS
  lies-low = omega (arith, run_fits.before, k.within)

  still_rising : IsRisingOwn (with_own (planned_own p) i.own)
  still_rising = rising-entered own_number (planned_own p) i.own k.rising
      (unused-All p.number i.own unused.2)

  still_numbered : All (HasNumberIn (first_number i.number) (first_number i.number + NUMBERS))
      (with_own (planned_own p) i.own)
  still_numbered = All-entered own_number
      (HasNumberIn (first_number i.number) (first_number i.number + NUMBERS)) (planned_own p) i.own
      (unused.0, unused.1) k.numbers

  -- there are fewer carriers than numbers
  pub has-number : length i.own < NUMBERS
  has-number = omega (
    arith,
    length-entered own_number (planned_own p) i.own,
    rising-length (first_number i.number) (first_number i.number + NUMBERS)
        (with_own (planned_own p) i.own) still_rising still_numbered,
  )

  -- one more carrier is one more segment
  pub segments-made : segments (with_own (planned_own p) i.own) ≡ with_segment
      (segment_of (planned_own p)) (segments i.own)
  segments-made = segments-with_own (planned_own p) i.own some_pages k.pages run_fits.apart

  pub IsKept-made : IsKept i.settings i.number i.first i.end (with_own (planned_own p) i.own)
  IsKept-made = record {
    valid = k.valid;
    instance = k.instance;
    rising = still_rising;
    numbers = still_numbered;
    pages = All-entered own_number HasPages (planned_own p) i.own some_pages k.pages;
    within = k.within;
    laid = subst (Laid i.first i.end) (sym segments-made)
        (Laid-entered i.first i.end (segment_of (planned_own p)) (segments i.own) k.laid
        run_fits.behind run_fits.before some_pages run_fits.apart);
  }

  abbrev pub made : Content
  made = created_content i.number Multi p

  -- its owner knows it as the plan does
  pub own_of-made : own_of made ≡ planned_own p
  own_of-made = (let e = pages_of_units p.pages in cc)

  pub IsLaidOut-made : IsLaidOut made
  IsLaidOut-made =
      record {
        whole = (
          whole_pages p.pages,
          subst (λ m. 1 ≤ m) (sym (pages_of_units p.pages)) some_pages,
        );
        shared = refl;
        tiled = (
          omega (arith, some_pages),
          record { even = omega arith; whole = λ _. omega (arith, some_pages) },
        );
        low = lies-low;
      }
