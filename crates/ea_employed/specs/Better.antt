-- The better of what was chosen so far and what is chosen elsewhere.
use Rattle.std.specs.Prelude.{Bool, Option, Some, None, if◌then◌else◌}

abbrev pub better_of : {A : Type 0} → (A → A → Bool) → Option A → Option A → Option A
better_of before best None = best
better_of before None (Some x) = Some x
better_of before (Some best) (Some x) = Some (if before x best then x else best)
