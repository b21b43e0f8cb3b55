-- Where a scheduler stands in its section.
use Rattle.std.proofs.Common.{◌≡◌, ◌≢◌, ◌⊎◌, ℕ, zero, suc, ◌+◌, ◌-◌, ◌<◌, true, false, ◌==◌}
use Rattle.std.proofs.Common.{List, [], ◌∷◌, refl, sym, ap, ◌∙◌, subst, arith, length, inl, inr}
use Rattle.std.specs.Prelude.{Option, Some, None, drop, map, filter}
use Rattle.std.proofs.lemmas.Bool.{cases_Bool, cond-false, cond-true}
use Rattle.ea_contents.specs.declared.access.Access.{Access}
use Rattle.ea_contents.specs.declared.input.Placed.{Placed}
use Rattle.ea_contents.specs.Placing.{IsAt, first_if, first_of, next_at}
use Rattle.ea_contents.specs.Script.{IsRising, RisesFrom, accesses_at}

-- one place further
pub drop-next : {A : Type 0} (n : ℕ) (xs ys : List A) (x : A) → drop n xs ≡ x ∷ ys
    → drop (n + 1) xs ≡ ys
drop-next zero [] ys x e = absurd cc
drop-next zero (z ∷ zs) ys x e = tail zs ys z x e where
  tail : {A : Type 0} (zs ys : List A) (z x : A) → z ∷ zs ≡ x ∷ ys → zs ≡ ys
  tail zs ys z x e = cc
drop-next (suc n) [] ys x e = absurd cc
drop-next (suc n) (z ∷ zs) ys x e =
    ap (λ k. drop k (z ∷ zs)) (further n) ∙ drop-next n zs ys x e
  where
    further : (n : ℕ) → suc n + 1 ≡ suc (n + 1)
    further n = omega arith

pub dropped-within : {A : Type 0} (n : ℕ) (xs ys : List A) (x : A) → drop n xs ≡ x ∷ ys
    → n < length xs
dropped-within zero [] ys x e = absurd cc
dropped-within zero (z ∷ zs) ys x e = omega arith
dropped-within (suc n) [] ys x e = absurd cc
dropped-within (suc n) (z ∷ zs) ys x e = omega (arith, dropped-within n zs ys x e)

equal : (a b : ℕ) → (a == b) ≡ true → a ≡ b
equal a b e = grind (arith, e)

unequal : (a b : ℕ) → (a == b) ≡ false → a ≢ b
unequal a b e = λ q. grind (arith, e, q)

not-equal : (a b : ℕ) → a ≢ b → (a == b) ≡ false
not-equal a b n = grind (arith, n)

same : (a : ℕ) → (a == a) ≡ true
same a = grind arith

module _ (d : ℕ) (p : Placed) (placed : List Placed) where
  pub here-first : (p.after == d) ≡ true
      → accesses_at d (p ∷ placed) ≡ p.access ∷ accesses_at d placed
  here-first e = ap (map (λ (q : Placed). q.access))
      (cond-true (p.after == d) (p ∷ filter (λ (q : Placed). q.after == d) placed)
      (filter (λ (q : Placed). q.after == d) placed) e)

  pub here-later : (p.after == d) ≡ false → accesses_at d (p ∷ placed) ≡ accesses_at d placed
  here-later e = ap (map (λ (q : Placed). q.access))
      (cond-false (p.after == d) (p ∷ filter (λ (q : Placed). q.after == d) placed)
      (filter (λ (q : Placed). q.after == d) placed) e)

-- nothing stands before the least place
none-before : (d least : ℕ) (placed : List Placed) → RisesFrom least placed → d < least
    → accesses_at d placed ≡ []
none-before d least [] rises before = refl
none-before d least (p ∷ placed) rises before =
    here-later d p placed
    (not-equal p.after d (λ q. absurd (omega (arith, q, rises.0, before))))
    ∙ none-before d p.after placed rises.1 (omega (arith, rises.0, before))

-- whether one stands here is seen at the first
none-here : (d : ℕ) (placed : List Placed) → RisesFrom d placed → next_at d placed ≡ None
    → (accesses_at d placed ≡ []) × RisesFrom (d + 1) placed
none-here d [] rises none = (refl, tt)
none-here d (p ∷ placed) rises none = by (cases_Bool (p.after == d)) where
  by : ((p.after == d) ≡ true) ⊎ ((p.after == d) ≡ false)
      → (accesses_at d (p ∷ placed) ≡ []) × RisesFrom (d + 1) (p ∷ placed)
  by (inl is) = absurd (let no : Some p.access ≡ None = sym (ap (λ b. first_if b p.access) is)
      ∙ none in cc)
  by (inr not) =
      let after : d < p.after = omega (arith, rises.0, unequal p.after d not) in (
        here-later d p placed not ∙ none-before d p.after placed rises.1 after,
        (omega (arith, after), rises.1),
      )

-- at a next one that stands here
pub record Next (d : ℕ) (placed : List Placed) (a : Access) : Type 0 where
  pub first : Placed
  pub rest : List Placed
  pub is : placed ≡ first ∷ rest
  pub here : (first.after == d) ≡ true
  pub access : first.access ≡ a

pub next-is : (d : ℕ) (placed : List Placed) (a : Access) → next_at d placed ≡ Some a
    → Next d placed a
next-is d [] a some = absurd cc
next-is d (p ∷ placed) a some = by (cases_Bool (p.after == d)) where
  by : ((p.after == d) ≡ true) ⊎ ((p.after == d) ≡ false) → Next d (p ∷ placed) a
  by (inl is) = record {
    first = p;
    rest = placed;
    is = refl;
    here = is;
    access = let same : Some p.access ≡ Some a = sym (ap (λ b. first_if b p.access) is) ∙ some in
        cc;
  }
  by (inr not) = absurd (let no : None ≡ Some a = sym (ap (λ b. first_if b p.access) not) ∙ some
      in cc)

-- before the first turn
pub at-first : (placed : List Placed) → IsRising placed → IsAt placed 0 0 0
at-first placed rises = record {
  here = refl;
  later = λ n after. refl;
  rises = rises;
  few = omega arith;
}

module _ (placed : List Placed) (made d past : ℕ) (at : IsAt placed made d past) where
  abbrev rest : List Placed
  rest = drop made placed

  -- the one that is next waits
  module _ (a : Access) (some : next_at d (drop made placed) ≡ Some a) where
    abbrev pub next : Next d (drop made placed) a
    next = next-is d (drop made placed) a some

    is-here : accesses_at d (drop made placed) ≡ a ∷ accesses_at d next.rest
    is-here = ap (accesses_at d) next.is ∙ here-first d next.first next.rest next.here
        ∙ ap (λ x. x ∷ accesses_at d next.rest) next.access

    after-is : next.first.after ≡ d
    after-is = equal next.first.after d next.here

    rest-is : drop (made + 1) placed ≡ next.rest
    rest-is = drop-next made placed next.rest next.first next.is

    pub waits : drop past (accesses_at d placed) ≡ a ∷ accesses_at d next.rest
    waits = at.here ∙ is-here

    pub within : made < length placed
    within = dropped-within made placed next.rest next.first next.is

    -- and is made
    pub at-made : IsAt placed (made + 1) d (past + 1)
    at-made = record {
      here = drop-next past (accesses_at d placed) (accesses_at d next.rest) a waits
          ∙ ap (accesses_at d) (sym rest-is);
      later = λ n after. at.later n after ∙ ap (accesses_at n) next.is
          ∙ here-later n next.first next.rest
          (not-equal next.first.after n (λ q. absurd (omega (arith, q, after, after-is))))
          ∙ ap (accesses_at n) (sym rest-is);
      rises = subst (RisesFrom d) (sym rest-is)
          (subst (λ k. RisesFrom k next.rest) after-is (subst (RisesFrom d) next.is at.rises).1);
      few = omega (
        arith,
        dropped-within past (accesses_at d placed) (accesses_at d next.rest) a
            waits,
      );
    }

  -- none waits
  module _ (none : next_at d (drop made placed) ≡ None) where
    pub none-waits : drop past (accesses_at d placed) ≡ []
    none-waits = at.here ∙ (none-here d (drop made placed) at.rises none).0

    -- one more operation is over
    pub at-next : IsAt placed made (d + 1) 0
    at-next = record {
      here = at.later (d + 1) (omega arith);
      later = λ n after. at.later n (omega (arith, after));
      rises = (none-here d (drop made placed) at.rises none).1;
      few = omega arith;
    }

  by-next : (o : Option Access) → next_at d (drop made placed) ≡ o
      → first_of (drop past (accesses_at d placed)) ≡ next_at d (drop made placed)
  by-next None none = ap first_of (none-waits none) ∙ sym none
  by-next (Some a) some = ap first_of (waits a some) ∙ sym some

  -- what waits is seen at the next one
  pub first-is : first_of (drop past (accesses_at d placed)) ≡ next_at d (drop made placed)
  first-is = by-next (next_at d (drop made placed)) refl

-- the same with equal numbers
pub at-same : (placed : List Placed) (made k d n past j : ℕ) → IsAt placed made d past → k ≡ made
    → n ≡ d → j ≡ past → IsAt placed k n j
at-same placed made k d n past j at many operations now =
    subst (λ x. IsAt placed x n j) (sym many)
    (subst (λ x. IsAt placed made x j) (sym operations)
    (subst (IsAt placed made d) (sym now) at))

-- a first one is there, or none
pub first-some : (xs : List Access) (a : Access) → first_of xs ≡ Some a
    → (later : List Access) × (xs ≡ a ∷ later)
first-some [] a some = absurd cc
first-some (x ∷ xs) a some = (xs, cc)

pub first-none : (xs : List Access) → first_of xs ≡ None → xs ≡ []
first-none [] none = refl
first-none (x ∷ xs) none = absurd cc
