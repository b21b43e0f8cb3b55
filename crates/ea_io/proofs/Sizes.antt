-- How many bytes a sink took.
use Rattle.std.proofs.Common.{◌≡◌, ℕ, ◌+◌, ◌≤◌, List, ◌++◌, Option, None, Some, length, take, arith}
use Rattle.std.proofs.lemmas.Grind.{common_steps}
use Rattle.ea_io.specs.Counts.{Grows}

pub grows_none : (a : Option ℕ) → Grows a a 0
grows_none None = tt
grows_none (Some x) = omega arith

grows_on : (a b c : Option ℕ) (m n k : ℕ) → k ≡ m + n → Grows a b m → Grows b c n → Grows a c k
grows_on None b c m n k e p q = tt
grows_on (Some x) None c m n k e p q = absurd p
grows_on (Some x) (Some y) None m n k e p q = absurd q
grows_on (Some x) (Some y) (Some z) m n k e p q = omega arith

length_taken : (done rest : List ℕ) (n : ℕ) → n ≤ length rest
    → length (done ++ take n rest) ≡ length done + n
length_taken done rest n h = grind (arith, common_steps)

pub more : (a b c : Option ℕ) (done rest : List ℕ) (n : ℕ) → n ≤ length rest
    → Grows a b (length done) → Grows b c n → Grows a c (length (done ++ take n rest))
more a b c done rest n h p q = grows_on a b c (length done) n _ (length_taken done rest n h) p q
