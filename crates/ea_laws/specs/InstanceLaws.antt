-- Laws of an instance: that it stands at its beginning and through each change, and what each
-- change does to its blocks. The statement of each law is one name.
use Rattle.std.specs.Prelude.{◌≡◌, ◌↔◌, ℕ, ◌+◌, ◌%◌, ◌≢◌, ◌<◌, ◌≤◌, true, None, Some, Ok, Err, All}
use Rattle.std.specs.Prelude.{◌-◌, ◌*◌, IsSome, sum_by}
use Rattle.ea_model.specs.declared.carriers.CarrierPlan.{CarrierPlan}
use Rattle.ea_model.specs.declared.carriers.OwnCarrier.{OwnCarrier}
use Rattle.ea_model.specs.declared.carriers.Spot.{Spot}
use Rattle.ea_model.specs.declared.entries.NoCarrier.TheVariants.{Numbers, Space}
use Rattle.ea_model.specs.declared.reallocation.Decision.TheVariants.{Move}
use Rattle.ea_model.specs.declared.settings.Settings.{Settings}
use Rattle.ea_model.specs.declared.units.TheConstants.{MAX_PAGES, MAX_SCHEDULERS, MIN_BLOCK}
use Rattle.ea_model.specs.declared.units.TheConstants.{PAGE_UNITS}
use Rattle.ea_model.specs.Content.{Content, is_vacant}
use Rattle.ea_model.specs.Employment.{dismissing, disowning}
use Rattle.ea_model.specs.Instance.{Instance, block_in, chosen_spot, content_of, creating}
use Rattle.ea_model.specs.Instance.{creating_single, decision_at, employed}
use Rattle.ea_model.specs.Instance.{new_instance, own_at, place_at, placing_at, plan, releasing_at}
use Rattle.ea_model.specs.Instance.{resized_to, resizing_at, segments, single_place}
use Rattle.ea_model.specs.Region.{runs}
use Rattle.ea_model.specs.Settings.{IsValid}
use Rattle.ea_model.specs.Units.{least_pages, pages_for}
use Rattle.ea_laws.specs.InOrder.{IsInOrder}
use Rattle.ea_laws.specs.Kept.{Stands}
use Rattle.ea_laws.specs.Spots.{AllUsed, HaveSameBlocks, IsOther, IsPlaced}

-- an instance may begin with these settings, this number and the pages from `first` on: the main
-- carrier fits
pub record MayBegin (s : Settings) (number first pages : ℕ) : Type 0 where
  pub valid : IsValid s
  pub instance : (1 ≤ number) × (number ≤ MAX_SCHEDULERS)
  pub within : first + pages ≤ MAX_PAGES
  pub main : pages_for s.mmbcs ≤ pages

abbrev pub StandsAtBeginning : Type 0
StandsAtBeginning = (s : Settings) (number first pages : ℕ) → MayBegin s number first pages
    → Stands (new_instance s number first pages)

abbrev pub StandsInOrder : Type 0
StandsInOrder = (i : Instance) → Stands i → IsInOrder i

-- where carriers don't migrate, the instance employs no more units in its main and multiblock
-- carriers than its region has
abbrev pub EmploysWithinRegion : Type 0
EmploysWithinRegion = (i : Instance) → Stands i → i.settings.acul ≡ 0
    → sum_by (λ c. c.units) i.contents ≤ PAGE_UNITS * (i.end - i.first)

-- a block at the chosen spot, of a need as requests have it
abbrev pub Places : Type 0
Places = (i : Instance) (need name : ℕ) (spot : Spot) → Stands i → MIN_BLOCK ≤ need → need % 2 ≡ 0
    → chosen_spot i need ≡ Some spot
    → Stands (placing_at i spot need name)
    × IsPlaced (employed i) (employed (placing_at i spot need name)) name (place_at i spot need)

-- a release leaves no block at the spot, and other blocks as they are
abbrev pub Releases : Type 0
Releases = (i : Instance) (spot : Spot) → Stands i
    → Stands (releasing_at i spot) × (block_in (employed (releasing_at i spot)) spot ≡ None)
    × ((at : Spot) → IsOther spot.carrier spot.offset at
    → block_in (employed (releasing_at i spot)) at ≡ block_in (employed i) at)

-- a carrier without blocks is employed no longer, and no block goes with it
abbrev pub Dismisses : Type 0
Dismisses = (i : Instance) (number : ℕ) (c : Content) → Stands i
    → content_of (employed i) number ≡ Some c → is_vacant c ≡ true
    → Stands (dismissing i number) × HaveSameBlocks (employed i) (employed (dismissing i number))

-- a carrier that isn't employed is owned no longer
abbrev pub Disowns : Type 0
Disowns = (i : Instance) (number : ℕ) (o : OwnCarrier) → Stands i
    → own_at i.own number ≡ Some o → content_of (employed i) number ≡ None
    → Stands (disowning i number)

-- a planned multiblock carrier comes, and no block with it; it has a choice for the need
abbrev pub Creates : Type 0
Creates = (i : Instance) (need : ℕ) (p : CarrierPlan) → Stands i → plan i need ≡ Ok p
    → Stands (creating i p) × HaveSameBlocks (employed i) (employed (creating i p))
    × IsSome (chosen_spot (creating i p) need)

-- a planned singleblock carrier comes with its block
abbrev pub CreatesSingle : Type 0
CreatesSingle = (i : Instance) (need name : ℕ) (p : CarrierPlan) → Stands i → MIN_BLOCK ≤ need
    → need % 2 ≡ 0 → plan i need ≡ Ok p
    → Stands (creating_single i p need name)
    × IsPlaced (employed i) (employed (creating_single i p need name)) name (single_place p need)

-- a block that isn't to move has the units that are decided and the new name, and other blocks stay
abbrev pub Resizes : Type 0
Resizes = (i : Instance) (spot : Spot) (need name : ℕ) → Stands i → MIN_BLOCK ≤ need → need % 2 ≡ 0
    → IsSome (block_in (employed i) spot) → decision_at i spot need ≢ Move
    → Stands (resizing_at i spot need name)
    × (block_in (employed (resizing_at i spot need name)) spot
    ≡ Some (record { name = name; offset = spot.offset; size = resized_to i spot need }))
    × ((at : Spot) → IsOther spot.carrier spot.offset at
    → block_in (employed (resizing_at i spot need name)) at ≡ block_in (employed i) at)

-- the numbers are the cause exactly where all are in use
abbrev pub RefusesNumbers : Type 0
RefusesNumbers = (i : Instance) (need : ℕ) → (plan i need ≡ Err Numbers) ↔ AllUsed i

-- the space exactly where a number is free, and no run of free pages holds the least carrier
abbrev pub RefusesSpace : Type 0
RefusesSpace = (i : Instance) (need : ℕ)
    → (plan i need ≡ Err Space) ↔ ((AllUsed i → ⊥)
    × All (λ r. r.pages < least_pages need) (runs i.first i.end (segments i.own)))
