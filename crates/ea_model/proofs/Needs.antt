-- The need of a request.
use Rattle.std.proofs.Common.{◌≡◌, ℕ, ◌+◌, ◌/◌, ◌%◌, ◌≤◌, arith}
use Rattle.std.specs.Prelude.{max}
use Rattle.ea_model.specs.Units.{even, need_of}

pub need-least : (bytes : ℕ) → 6 ≤ need_of bytes
need-least bytes = omega arith

at_least_six : (n : ℕ) → n % 2 ≡ 0 → max 6 n % 2 ≡ 0
at_least_six n e = omega arith

pub need-even : (bytes : ℕ) → need_of bytes % 2 ≡ 0
need-even bytes = at_least_six (even (1 + (bytes + 7) / 8)) (omega arith)
