-- The carriers that a scheduler employs, by what is shared. Words of proofs: no clause of `run`
-- names them.
use Rattle.std.specs.Prelude.{◌≡◌, ◌⊎◌, ℕ, true, false}
use Rattle.ea_machine.specs.Owners.{Employed}
use Rattle.ea_model.specs.Instance.{owner_of}
use Rattle.ea_machine.specs.Setup.{Setup, migration}
use Rattle.ea_machine.specs.Shared.{Shared}

-- the word says so; where carriers don't migrate a scheduler employs those that it owns
abbrev pub Here : Setup → Shared → ℕ → ℕ → Type 0
Here e s me c = ((migration e ≡ true) × (s.places c ≡ Employed me))
    ⊎ ((migration e ≡ false) × (owner_of c ≡ me))
