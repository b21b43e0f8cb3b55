-- What schedulers share, where nobody steps (`SharedAtRest`).
use Rattle.std.specs.Prelude.{ℕ, Bool, List}
use Rattle.ea_machine.specs.declared.nodes.Named.{Named}
use Rattle.ea_machine.specs.Owners.{CarrierAt}

-- how many schedulers share it, the greatest name of a block, whether carriers migrate, where each
-- carrier is, by its number, and the names that are given and not yet taken, by rising name
pub record SharedAtRest : Type 0 where
  pub schedulers : ℕ
  pub greatest : ℕ
  pub migrates : Bool
  pub places : ℕ → CarrierAt
  pub named : List Named
