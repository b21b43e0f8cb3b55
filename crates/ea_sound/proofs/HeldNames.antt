-- Names that a scheduler holds, by rising name: one that comes, and one that goes.
use Rattle.std.proofs.Common.{◌≡◌, ℕ, ◌+◌, ◌≤◌, List, arith}
use Rattle.std.specs.Prelude.{AllPairs, ◌==◌}
use Rattle.std.proofs.lemmas.List.Kept.{AllPairs-filter}
use Rattle.ea_model.specs.declared.carriers.Spot.{Spot}
use Rattle.ea_model.specs.Keyed.{IsBelow}
use Rattle.ea_model.proofs.Rising.{rising-entered}
use Rattle.ea_machine.specs.Nodes.{with_name, without_name, name_of}
use Rattle.ea_machine.specs.declared.nodes.Named.{Named}
use Rattle.ea_machine.specs.Sums.{one_if}
use Rattle.ea_sound.proofs.KeyedWeights.{counts, sum-entered, sum-without_less, times, times-others}
use Rattle.ea_sound.proofs.Weights.{one-itself}

-- how often a name is held
abbrev pub times_held : ℕ → List Named → ℕ
times_held n held = times name_of n held

pub turned-equal : (m n : ℕ) → one_if (m == n) ≡ one_if (n == m)
turned-equal m n = grind arith

-- a name that is to be made is held once it is
module _ (name : ℕ) (spot : Spot) (held : List Named) (left : ℕ → ℕ)
    (names : (n : ℕ) → times_held n held + (one_if (n == name) + left n) ≤ 1) where
  abbrev new : Named
  new = record { name = name; spot = spot }

  pub holding-rising : AllPairs (IsBelow name_of) held
      → AllPairs (IsBelow name_of) (with_name new held)
  holding-rising rising = rising-entered name_of new held rising
      (times-others name_of name held (omega (arith, names name, one-itself name)))

  pub holding-names : (n : ℕ) → times_held n (with_name new held) + left n ≤ 1
  holding-names n = omega (
    arith,
    names n,
    sum-entered name_of (counts name_of n) new held,
    turned-equal name n,
  )

-- a name that goes
pub let_go-rising : (name : ℕ) (held : List Named) → AllPairs (IsBelow name_of) held
    → AllPairs (IsBelow name_of) (without_name name held)
let_go-rising name held rising = AllPairs-filter (IsBelow name_of) _ held rising

pub let_go-times : (name n : ℕ) (held : List Named)
    → times_held n (without_name name held) ≤ times_held n held
let_go-times name n held = sum-without_less name_of (counts name_of n) name held
