-- Blocks of which none is called 0 (`AreNamed`).
use Rattle.std.specs.Prelude.{◌≡◌, ◌≤◌, Bool, true, All, List}
use Rattle.ea_model.specs.declared.carriers.BlockAt.{BlockAt}

-- none is, if that is told
abbrev pub AreNamed : Bool → List BlockAt → Type 0
AreNamed told bs = told ≡ true → All (λ b. 1 ≤ b.name) bs
