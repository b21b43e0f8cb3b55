-- The values by position, in a tree.
use Rattle.std.proofs.Common.{zero, suc, ◌≡◌, ◌≢◌, ℕ, ◌+◌, ◌-◌, ◌^◌, ◌/◌, ◌<◌, ◌≤◌, ◌++◌, List, length}
use Rattle.std.proofs.Common.{get_or, drop, take, replicate, set, get_or-set_other, All, sym}
use Rattle.std.proofs.Common.{subst, ap, ◌∙◌, inl, inr, arith}
use Rattle.std.specs.Int.{IsPowerOfTwo}
use Rattle.std.specs.Prelude.{Contains}
use Rattle.std.proofs.lemmas.Bool.{cases_lt}
use Rattle.std.proofs.lemmas.Grind.{get_or_default_zero, same_number_lists}
use Rattle.std.proofs.lemmas.Nat.{pow_pos}
use Rattle.std.proofs.Math.Nat.{two-pow-succ}
use Rattle.std.proofs.Math.Pow.{pow_mono}
use Rattle.std.proofs.Math.ListN.{get_or-append}
use Rattle.std.proofs.Math.Seq.{get_or-append_right, take-set-lt}
use Rattle.std.proofs.lemmas.List.{drop-set-add, get_or_past, get_or-replicate, set-append_left}
use Rattle.std.proofs.lemmas.List.{get_or-drop, get_or-take, length-drop, length-take-le}
use Rattle.std.proofs.lemmas.List.{length-append, length-replicate}
use Rattle.std.proofs.lemmas.List.Elements.{All-from_get_or, Contains-get_or}
use Rattle.ea_postree.specs.Firsts.{IsFirstAtLeast}
use Rattle.ea_postree.specs.Maxima.{values, HasValues, IsKept, IsTree}
use Rattle.ea_postree.proofs.Levels.{Greater, root-le, leaf-same, root}

abbrev pub zeros : ℕ → List ℕ
zeros n = replicate n 0

-- zeros after the last value are read as if they were not there
zeros-read : (n i : ℕ) → get_or (zeros n) i zero ≡ zero
zeros-read n i = elim (cases_lt i n) [
  | inl lt ↦ get_or-replicate n i 0 0 lt
  | inr le ↦ get_or_past (zeros n) i 0 (omega (arith, le, length-replicate n zero))
]

pub padded : (xs : List ℕ) (n i : ℕ) → get_or (xs ++ zeros n) i 0 ≡ get_or xs i 0
padded xs n i = elim (cases_lt i (length xs)) [
  | inl lt ↦ get_or-append xs (zeros n) 0 i lt
  | inr le ↦
      get_or-append_right xs (zeros n) i 0 le
      ∙ zeros-read n (i - length xs)
      ∙ sym (get_or_past xs i 0 le)
]

pub values-long : (n leaves : ℕ) (m : List ℕ) → length (values n leaves m) ≡ n
values-long n leaves m = length-take-le n (drop leaves m ++ zeros n)
    (omega (arith, length-append (drop leaves m) (zeros n), length-replicate n zero))

pub leaf_at : (n leaves : ℕ) (m : List ℕ) (p : ℕ) → p < n
    → get_or (values n leaves m) p 0 ≡ get_or (drop leaves m) p 0
leaf_at n leaves m p lt =
    get_or-take n (drop leaves m ++ zeros n) p 0 lt ∙ padded (drop leaves m) n p

pub value_at : (n leaves : ℕ) (m : List ℕ) (p : ℕ) → p < n
    → get_or (values n leaves m) p 0 ≡ get_or m (leaves + p) 0
value_at n leaves m p lt = leaf_at n leaves m p lt ∙ get_or-drop leaves m p 0

-- a power of two of which the half is less than another power of two is at most that one
pub next-le : (w r : ℕ) → IsPowerOfTwo w → IsPowerOfTwo r → w / 2 < r → w ≤ r
next-le w r (j, w_is) (k, r_is) half = elim (cases_lt k j) [
  | inl lt ↦
      let twice : 2 ^ suc k ≤ 2 ^ j = pow_mono {i = suc k} {j = j} (omega (arith, lt)) in
      absurd (omega (arith, half, w_is, r_is, twice, two-pow-succ k))
  | inr le ↦ omega (arith, w_is, r_is, pow_mono {i = j} {j = k} le)
]

-- the tree after it was made wider
pub kept-widened : (n leaves wider capacity more : ℕ) (m m2 : List ℕ) → IsKept n leaves capacity m
    → IsTree wider m2 → HasValues leaves m wider m2 → capacity ≤ more → IsKept n wider more m2
kept-widened n leaves wider capacity more m m2 k tree same le = record {
  tree = tree;
  small = k.small;
  room = (k.room.0, k.room.1, k.room.2, omega (arith, k.room.3, le));
  unused = λ q lt. same q ∙ k.unused q lt;
}

pub values-widened : (n leaves wider : ℕ) (m m2 : List ℕ) → HasValues leaves m wider m2
    → values n wider m2 ≡ values n leaves m
values-widened n leaves wider m m2 same =
    let long = values-long n wider m2 in
    same_number_lists (values n wider m2) (values n leaves m)
    (long ∙ sym (values-long n leaves m))
    (λ p lt.
    let within : p < n = omega (arith, lt, long) in
    leaf_at n wider m2 p within ∙ same p ∙ sym (leaf_at n leaves m p within))

-- the tree after a leaf was changed, and then the nodes above it
pub kept_after : (n leaves capacity : ℕ) (m m2 : List ℕ) (p v : ℕ) → IsKept n leaves capacity m
    → p < n → Greater leaves m2 → drop leaves m2 ≡ drop leaves (set m (leaves + p) v)
    → length m2 ≡ length m → IsKept n leaves capacity m2
kept_after n leaves capacity m m2 p v k lt greater same long = record {
  tree = record { power = k.tree.power; long = long ∙ k.tree.long; greater = greater };
  small = k.small;
  room = k.room;
  unused = λ q le.
      let ne : q ≢ p = omega arith in
      ap (λ xs. get_or xs q 0) (same ∙ drop-set-add leaves m p v)
      ∙ get_or-set_other (drop leaves m) p q v 0 ne ∙ k.unused q le;
}

pub values_after : (n leaves : ℕ) (m m2 : List ℕ) (p v : ℕ) → p < n → leaves + p < length m
    → drop leaves m2 ≡ drop leaves (set m (leaves + p) v)
    → values n leaves m2 ≡ set (values n leaves m) p v
values_after n leaves m m2 p v lt within same =
    ap (λ xs. take n (xs ++ zeros n)) (same ∙ drop-set-add leaves m p v)
    ∙ ap (take n) (sym (set-append_left (drop leaves m) (zeros n) p v
    (omega (arith, within, length-drop leaves m))))
    ∙ take-set-lt n (drop leaves m ++ zeros n) p v lt

-- the first leaf that is great enough is that of a position
pub first-values : (value n leaves capacity : ℕ) (m : List ℕ) (p : ℕ) → IsKept n leaves capacity m
    → 1 ≤ value → IsFirstAtLeast value (drop leaves m) p
    → IsFirstAtLeast value (values n leaves m) p
first-values value n leaves capacity m p k some f =
    let within : p < n = elim (cases_lt p n) [
      | inl lt ↦ lt
      | inr le ↦ absurd (omega (arith, f.great, k.unused p le, some))
    ] in
    record {
      within = omega (arith, values-long n leaves m, within);
      great = omega (arith, f.great, leaf_at n leaves m p within);
      first = λ q lt. omega (
        arith,
        f.first q lt,
        leaf_at n leaves m q (omega (arith, lt, within)),
      );
    }

-- no value is greater than that of the root
below-root : (leaves : ℕ) (m : List ℕ) → IsTree leaves m → (p : ℕ)
    → get_or m (leaves + p) 0 ≤ get_or m 1 0
below-root leaves m t p = elim (cases_lt p leaves) [
  | inl lt ↦ root-le leaves m t p lt
  | inr le ↦ omega (arith, get_or_past m (leaves + p) 0 (omega (arith, le, t.long)))
]

pub values-le : (n leaves : ℕ) (m : List ℕ) → IsTree leaves m
    → All (λ v. v ≤ get_or m 1 0) (values n leaves m)
values-le n leaves m t =
    All-from_get_or (λ v. v ≤ get_or m 1 0) (values n leaves m) 0
    (λ p lt.
    let within : p < n = omega (arith, lt, values-long n leaves m) in
    omega (arith, value_at n leaves m p within, below-root leaves m t p))

-- some position has the root's value
pub values-met : (n leaves capacity : ℕ) (m : List ℕ) → IsKept n leaves capacity m
    → 0 < get_or m 1 0 → Contains (values n leaves m) (get_or m 1 0)
values-met n leaves capacity m k some =
    let r = leaf-same leaves m k.tree.greater k.tree.power.0 1 (root leaves m k.tree) in
    let within : r.0 < n = elim (cases_lt r.0 n) [
      | inl lt ↦ lt
      | inr le ↦ absurd (omega (arith, some, r.2, k.unused r.0 le, get_or-drop leaves m r.0 0))
    ] in
    subst (Contains (values n leaves m)) (value_at n leaves m r.0 within ∙ r.2)
    (Contains-get_or (values n leaves m) r.0 0 (omega (arith, within, values-long n leaves m)))

-- the root has the value that was read from it
pub root-read : (leaves : ℕ) (m : List ℕ) (v : ℕ) → IsTree leaves m → v ≡ get_or m 1 v
    → get_or m 1 0 ≡ v
root-read leaves m v t e =
    let some : 1 ≤ leaves = omega (arith, t.power.1, pow_pos t.power.0) in
    sym (e ∙ get_or_default_zero m 1 v (omega (arith, some, t.long)))

-- where the root has less, no position has that much
pub values-lt : (value n leaves : ℕ) (m : List ℕ) → IsTree leaves m → get_or m 1 0 < value
    → All (λ v. v < value) (values n leaves m)
values-lt value n leaves m t lt = λ p d within. omega (arith, lt, values-le n leaves m t p d within)

pub not-none : (value : ℕ) (vs : List ℕ) (p : ℕ) → IsFirstAtLeast value vs p
    → All (λ v. v < value) vs → ⊥
not-none value vs p f a = omega (arith, f.great, a p 0 f.within)
