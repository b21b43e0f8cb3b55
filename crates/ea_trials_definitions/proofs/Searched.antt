-- What a search saw, as a test, and where the search is after it.
use Rattle.std.proofs.Common.{◌≡◌, ℕ, Bool, true, false, ◌==◌, ◌&&◌, not, List, [], ◌∷◌, refl}
use Rattle.std.proofs.Common.{arith}
use Rattle.ea_machine.specs.Owners.{same_word}
use Rattle.ea_machine.specs.Searches.{Search, fits, goes_on}
use Rattle.ea_sound.specs.Searches.{IsNextLook, Missed, Searched, Shown, Sight, past}

abbrev pub is_next : Search → ℕ → Bool
is_next x m = (m == x.at) && goes_on x.part

module _ (greatest : ℕ) where
  -- whether a search saw this
  abbrev pub is_searched : ℕ → Search → List Sight → Bool
  is_searched need x [] = true
  is_searched need x (Missed m w ∷ xs) = false
  is_searched need x (Shown m w ∷ []) = is_next x m && not (fits need w)
  is_searched need x (Shown m w ∷ Shown p v ∷ xs) = is_next x m
      && (not (fits need w) && is_searched need (past greatest x w w) (Shown p v ∷ xs))
  is_searched need x (Shown m w ∷ Missed p v ∷ xs) = is_next x m
      && (fits need w && ((p == x.at) && (not (same_word v w)
      && is_searched need (past greatest x w v) xs)))

  -- where it is then
  abbrev pub last_of : Search → List Sight → Search
  last_of x [] = x
  last_of x (Missed m w ∷ xs) = x
  last_of x (Shown m w ∷ []) = past greatest x w w
  last_of x (Shown m w ∷ Shown p v ∷ xs) = last_of (past greatest x w w) (Shown p v ∷ xs)
  last_of x (Shown m w ∷ Missed p v ∷ xs) = last_of (past greatest x w v) xs

both : (a b : Bool) → (a && b) ≡ true → (a ≡ true) × (b ≡ true)
both true b q = (refl, q)
both false b q = absurd (grind (arith, q))

no : (b : Bool) → not b ≡ true → b ≡ false
no false q = refl
no true q = absurd (grind (arith, q))

same : (a b : ℕ) → (a == b) ≡ true → a ≡ b
same a b q = grind (arith, q)

next : (x : Search) (m : ℕ) → is_next x m ≡ true → IsNextLook x m
next x m q = let p = both (m == x.at) (goes_on x.part) q in (same m x.at p.0, p.1)

pub searched : (greatest need : ℕ) (x : Search) (xs : List Sight)
    → is_searched greatest need x xs ≡ true
    → Searched greatest need x (last_of greatest x xs) xs
searched greatest need x [] q = refl
searched greatest need x (Missed m w ∷ xs) q = absurd (grind (arith, q))
searched greatest need x (Shown m w ∷ []) q =
    let p = both (is_next x m) _ q in
    (next x m p.0, no (fits need w) p.1, refl)
searched greatest need x (Shown m w ∷ Shown n v ∷ xs) q =
    let p = both (is_next x m) _ q in
    let r = both (not (fits need w)) _ p.1 in
    let later = searched greatest need (past greatest x w w) (Shown n v ∷ xs) r.1 in
    (next x m p.0, no (fits need w) r.0, later)
searched greatest need x (Shown m w ∷ Missed n v ∷ xs) q =
    let p = both (is_next x m) _ q in
    let r = both (fits need w) _ p.1 in
    let t = both (n == x.at) _ r.1 in
    let d = both (not (same_word v w)) _ t.1 in
    let later = searched greatest need (past greatest x w v) xs d.1 in
    (next x m p.0, r.0, same n x.at t.0, no (same_word v w) d.0, later)
