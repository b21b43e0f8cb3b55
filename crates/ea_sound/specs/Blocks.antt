-- Blocks and contents as they are counted. Words of proofs: no clause of `run` names them.
use Rattle.std.specs.Prelude.{ℕ, ◌+◌, ◌<◌, ◌≤◌, ◌==◌, ◌&&◌, not}
use Rattle.ea_model.specs.declared.carriers.Spot.{Spot}
use Rattle.ea_model.specs.Content.{Content, can_go}
use Rattle.ea_model.specs.Instance.{Instance, first_number}
use Rattle.ea_machine.specs.Setup.{Setup}
use Rattle.ea_machine.specs.Sums.{one_if, sum_over}

-- the spot in a carrier
abbrev pub spot_at : ℕ → ℕ → Spot
spot_at number offset = record { carrier = number; offset = offset }

-- 1 for the main carrier of an instance
abbrev pub main_count : ℕ → Content → ℕ
main_count i x = one_if ((x.number == first_number i) && not (can_go x.kind))

-- the sum over all contents that an instance employs
abbrev pub employed_sum : (Content → ℕ) → Instance → ℕ
employed_sum f i = sum_over f i.contents + sum_over f i.singles

-- where the settings ask for a main carrier, the instance of that number employs it
abbrev pub EmploysMain : Setup → ℕ → Instance → Type 0
EmploysMain e me i = 0 < e.settings.mmbcs → 1 ≤ employed_sum (main_count me) i
