-- Items with a key each, by rising key.
use Rattle.std.specs.Prelude.{ℕ, ◌<◌, Bool, not, if◌then◌else◌, nat_lt, ◌==◌, List, [], ◌∷◌, Option}
use Rattle.std.specs.Prelude.{filter, find, map}

module _ {A : Type 0} (key_of : A → ℕ) where
  -- whether the item has the key
  abbrev pub has_key : ℕ → A → Bool
  has_key key x = key_of x == key

  -- whether the item has a greater key
  abbrev pub is_after : ℕ → A → Bool
  is_after key x = nat_lt key (key_of x)

  -- the item with the key
  abbrev pub item_at : List A → ℕ → Option A
  item_at xs key = find (has_key key) xs

  -- x among the items, by its key
  abbrev pub entered : A → List A → List A
  entered x [] = x ∷ []
  entered x (y ∷ ys) = if nat_lt (key_of x) (key_of y) then x ∷ y ∷ ys else y ∷ entered x ys

  -- the items of two lists as one, by their keys
  abbrev pub merged : List A → List A → List A
  merged [] ys = ys
  merged (x ∷ xs) ys = entered x (merged xs ys)

  -- without the item with the key
  abbrev pub without : ℕ → List A → List A
  without key xs = filter (λ x. not (has_key key x)) xs

  -- the items, where the one with the key is changed
  abbrev pub changed_at : (A → A) → ℕ → List A → List A
  changed_at f key xs = map (λ x. if has_key key x then f x else x) xs

  -- a has the lower key
  abbrev pub IsBelow : A → A → Type 0
  IsBelow a b = key_of a < key_of b
