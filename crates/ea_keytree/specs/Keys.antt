-- Keys by position (`KeysHeld`), and the next key up or down from a bound.
use Rattle.std.specs.Prelude.{◌≡◌, ℕ, ◌<◌, ◌≤◌, List, Option, Some, None, length}
use Rattle.std.specs.Prelude.{slice_index_or}
use Rattle.ea_keytree.specs.declared.tree.Found.{Found}

-- what keys are below, the key that each position holds, None where it holds none, and how many
-- positions more there can be without memory
pub record KeysHeld : Type 0 where
  pub width : ℕ
  pub keys : List (Option ℕ)
  pub room : ℕ

-- it is the least of the keys of at least the bound, with its position
pub record IsFirstFrom (bound : ℕ) (keys : List (Option ℕ)) (f : Found) : Type 0 where
  pub held : slice_index_or keys f.position None ≡ Some f.key
  pub within : f.position < length keys
  pub great : bound ≤ f.key
  pub least : (q k : ℕ) → slice_index_or keys q None ≡ Some k → bound ≤ k → f.key ≤ k

-- it is the greatest of the keys of at most the bound, with its position
pub record IsLastUpTo (bound : ℕ) (keys : List (Option ℕ)) (f : Found) : Type 0 where
  pub held : slice_index_or keys f.position None ≡ Some f.key
  pub within : f.position < length keys
  pub small : f.key ≤ bound
  pub greatest : (q k : ℕ) → slice_index_or keys q None ≡ Some k → k ≤ bound → k ≤ f.key
