-- What a contract sees of a `Ledger`.
use Rattle.std.specs.Prelude.{ℕ, List}
use Rattle.ea_segments.specs.declared.calls.Call.{Call}

-- how many pages the region has, for how many calls there is room, and the calls so far
pub record Account : Type 0 where
  pub pages : ℕ
  pub most : ℕ
  pub history : List Call
