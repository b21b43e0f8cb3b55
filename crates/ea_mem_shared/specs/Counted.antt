-- Which numbers count, and the greatest of them (`IsLast`).
use Rattle.std.specs.Prelude.{◌≡◌, ℕ, ◌<◌, ◌≤◌, Bool, true, false, List, Option, None, Some, get_or}

-- whether the number counts, by what is known of each from 0 on
abbrev pub is_counted : List Bool → ℕ → Bool
is_counted counts n = get_or counts n false

-- it is the greatest number up to n that counts, or 0 if none from 1 on does
pub record IsLast (f : ℕ → Bool) (n last : ℕ) : Type 0 where
  pub upto : last ≤ n
  pub none_after : (m : ℕ) → last < m → m ≤ n → f m ≡ false
  pub counts : 0 < last → f last ≡ true

-- a position that holds a key holds its own number
abbrev pub AreOwn : List (Option ℕ) → Type 0
AreOwn keys = (n k : ℕ) → get_or keys n None ≡ Some k → k ≡ n
