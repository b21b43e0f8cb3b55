-- Words of tests: ends in memory, as contracts see them.
use Rattle.std.specs.Prelude.{ℕ, List}

-- the bytes left, the most bytes that a call gives, the calls that fail, the calls made, the faults
pub record Giving : Type 0 where
  pub left : List ℕ
  pub piece : ℕ
  pub failing : List ℕ
  pub calls : ℕ
  pub faults : ℕ

-- the bytes taken, the room for more, the most bytes that a call takes, the calls that fail, the
-- calls made, the faults
pub record Taking : Type 0 where
  pub taken : List ℕ
  pub room : ℕ
  pub piece : ℕ
  pub failing : List ℕ
  pub calls : ℕ
  pub faults : ℕ
