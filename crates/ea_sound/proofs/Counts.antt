-- An instance's count is at most what its settings let it be.
use Rattle.std.proofs.Common.{◌≡◌, ℕ, ◌+◌, ◌≤◌, Bool, true, false, subst, arith}
use Rattle.std.specs.Prelude.{min}
use Rattle.ea_model.specs.declared.carriers.Spot.{Spot}
use Rattle.ea_model.specs.declared.reallocation.Decision.{Decision}
use Rattle.ea_model.specs.declared.reallocation.Decision.TheVariants.{Stay, ShrinkHere, GrowHere}
use Rattle.ea_model.specs.declared.reallocation.Decision.TheVariants.{ShrinkCarrier, Move}
use Rattle.ea_model.specs.declared.settings.Settings.{Settings}
use Rattle.ea_model.specs.declared.units.TheConstants.{PLACED_COUNT, RESIZED_COUNT}
use Rattle.ea_model.specs.Instance.{Instance, has_content, lessened, resized_by}
use Rattle.ea_model.specs.Settings.{most_count, raised}

-- after a block was placed
pub raised-most : (s t : Settings) (count : ℕ) → s ≡ t → raised s count ≤ most_count t
raised-most s t count same =
    subst (λ x. raised s count ≤ most_count x) same (least (count + PLACED_COUNT) (most_count s))
  where
    least : (m n : ℕ) → min m n ≤ n
    least m n = omega arith

-- of an allocation that has no choice
pub refilled-most : (s t : Settings) → s ≡ t → most_count s ≤ most_count t
refilled-most s t same =
    subst (λ x. most_count s ≤ most_count x) same (itself (most_count s))
  where
    itself : (n : ℕ) → n ≤ n
    itself n = omega arith

-- after a block was released
pub lessened-most : (many : Bool) (n count most : ℕ) → count ≤ most → lessened many n count ≤ most
lessened-most true n count most is = omega (arith, is)
lessened-most false n count most is = is

-- after a block was resized where it is
pub resized-most : (d : Decision) (i : Instance) (spot : Spot) (size name most : ℕ)
    → i.count ≤ most → (resized_by d i spot size name).count ≤ most
resized-most Stay i spot size name most is = is
resized-most ShrinkHere i spot size name most is =
    lessened-most (has_content spot.carrier i.contents) RESIZED_COUNT i.count most is
resized-most GrowHere i spot size name most is =
    lessened-most (has_content spot.carrier i.contents) RESIZED_COUNT i.count most is
resized-most (ShrinkCarrier pages) i spot size name most is = is
resized-most Move i spot size name most is = is
