use Rattle.std.proofs.Common.{◌≡◌, ℕ, ◌≤◌, true, false, ◌&&◌, nat_le, Bool, Option, Some, None}
use Rattle.std.proofs.Common.{if◌then◌else◌, rules, tests, refl}
use Rattle.std.specs.Prelude.{IfSome}
use Rattle.ea_model.specs.Words.{from_to, numeral}
use Rattle.ea_model.specs.declared.units.TheConstants.{MAX_PAGES}
use Rattle.ea_super.proofs.lines.pages.Goals as goal

at-least : (n : ℕ) (a b : Bool) → nat_le 1 n ≡ a
    → IfSome (if a && b then Some n else None) (λ m. 1 ≤ m)
at-least n true true e = search (rules, tests)
at-least n true false e = tt
at-least n false b e = tt

from : (high : ℕ) (o : Option ℕ) → IfSome (from_to 1 high o) (λ m. 1 ≤ m)
from high None = tt
from high (Some n) = at-least n (nat_le 1 n) (nat_le n high) refl

pub returns-clause-some : goal.returns-clause-some
returns-clause-some c = rw c.number.ensures (from MAX_PAGES (numeral c.args.word.now))
