-- What a name's table says after a write, and with more places.
use Rattle.std.proofs.Common.{zero, suc, ◌≡◌, ℕ, ◌<◌, ◌≤◌, Bool, false, ◌&&◌, ◌||◌, nat_lt, ◌==◌}
use Rattle.std.proofs.Common.{if◌then◌else◌, List, [], ◌∷◌, ◌++◌, length, refl}
use Rattle.std.proofs.Common.{get_or, set, inl, inr, arith, get_or-set_other, get_or-set_same}
use Rattle.std.proofs.lemmas.Bool.{cases_eq}

-- the value of a name that is set, in a table that was lengthened
pub value_set : {T : Type 0} (xs ys : List T) (name k : ℕ) (v d : T) → name < length ys
    → get_or ys k d ≡ get_or xs k d
    → get_or (set ys name v) k d ≡ (if k == name then v else get_or xs k d)
value_set xs ys name k v d lt e = elim (cases_eq k name) [
  | inl h ↦ grind (arith, get_or-set_same, get_or-set_other)
  | inr h ↦ grind (arith, get_or-set_same, get_or-set_other)
]

-- what a new value says, by what the old one says
module _ (k name : ℕ) where
  pub given_more : (old new to : ℕ) (g : Bool) → 1 ≤ to → new ≡ (if k == name then to else old)
      → nat_lt 0 old ≡ g → nat_lt 0 new ≡ ((k == name) || g)
  given_more old new to g one e h = elim (cases_eq k name) [
    | inl is ↦ grind arith
    | inr other ↦ grind arith
  ]

  pub given_to_more : (old new to i : ℕ) (g : Bool) → 1 ≤ i → new ≡ (if k == name then to else old)
      → (k ≡ name → nat_lt 0 old ≡ false) → (i == old) ≡ g
      → (i == new) ≡ (((k == name) && (i == to)) || g)
  given_to_more old new to i g one e none h = elim (cases_eq k name) [
    | inl is ↦ grind (arith, none is)
    | inr other ↦ grind arith
  ]

-- one place more that holds nothing
pub none_more : {T : Type 0} (xs : List T) (d : T) (k : ℕ)
    → get_or (xs ++ d ∷ []) k d ≡ get_or xs k d
none_more [] d zero = refl
none_more [] d (suc k) = refl
none_more (x ∷ xs) d zero = refl
none_more (x ∷ xs) d (suc k) = none_more xs d k
