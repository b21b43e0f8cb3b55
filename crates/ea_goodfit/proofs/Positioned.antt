-- The gaps by address, where they stand by position.
use Rattle.std.proofs.Common.{zero, suc, ◌≡◌, ◌≢◌, ℕ, ◌<◌, true, false, List, [], ◌∷◌, ◌++◌}
use Rattle.std.proofs.Common.{length, get_or, set, map, sym, ap, ◌∙◌, subst, refl, inl, inr, arith}
use Rattle.std.specs.Prelude.{Option, Some, None, option_map, All, AllPairs, ◌||◌}
use Rattle.std.proofs.lemmas.Bool.{cases_Bool}
use Rattle.std.proofs.lemmas.List.Elements.{All-nil, All-cons}
use Rattle.ea_model.specs.Keyed.{entered, merged, without}
use Rattle.ea_model.proofs.Merged.{entered-All, entered-differ, entered-entered, entered-pairs}
use Rattle.ea_model.proofs.Merged.{merged-without}
use Rattle.ea_model.proofs.Rising.{All-entered, without_here, without_none}
use Rattle.ea_goodfit.specs.declared.gaps.BinnedGap.{BinnedGap}
use Rattle.ea_goodfit.specs.Gaps.{address_of, is_held, is_same, IsBelow}
use Rattle.ea_goodfit.specs.Keys.{by_address}
use Rattle.ea_goodfit.proofs.Lists.{held-entered}
use Rattle.ea_goodfit.proofs.Permuted.{is_same-gap}

-- a gap of another address may be entered before
entered_later : (h g : BinnedGap) (us vs : List BinnedGap) → us ≡ entered address_of g vs
    → h.address ≢ g.address
    → entered address_of h us ≡ entered address_of g (entered address_of h vs)
entered_later h g us vs e n = ap (entered address_of h) e ∙ entered-entered address_of h g vs n

-- with one more position
pub by_address-more : (gs : List (Option BinnedGap)) (g : BinnedGap)
    → All (λ h. h.address ≢ g.address) (by_address gs)
    → by_address (gs ++ Some g ∷ []) ≡ entered address_of g (by_address gs)
by_address-more [] g new = refl
by_address-more (None ∷ gs) g new = by_address-more gs g new
by_address-more (Some h ∷ gs) g new =
    let both = entered-All address_of (λ x. x.address ≢ g.address) h (by_address gs) new in
    entered_later h g (by_address (gs ++ Some g ∷ [])) (by_address gs)
    (by_address-more gs g both.1) both.0

-- with a gap where there was none
pub by_address-put : (gs : List (Option BinnedGap)) (p : ℕ) (g : BinnedGap) → p < length gs
    → get_or gs p None ≡ None → All (λ h. h.address ≢ g.address) (by_address gs)
    → by_address (set gs p (Some g)) ≡ entered address_of g (by_address gs)
by_address-put [] p g within empty new = absurd (omega arith)
by_address-put (None ∷ gs) zero g within empty new = refl
by_address-put (Some h ∷ gs) zero g within empty new = absurd cc
by_address-put (None ∷ gs) (suc p) g within empty new =
    by_address-put gs p g (omega arith) empty new
by_address-put (Some h ∷ gs) (suc p) g within empty new =
    let both = entered-All address_of (λ x. x.address ≢ g.address) h (by_address gs) new in
    entered_later h g (by_address (set gs p (Some g))) (by_address gs)
    (by_address-put gs p g (omega arith) empty both.1) both.0

-- what holds of the gaps holds of that of each position
pub by_address-at : (P : BinnedGap → Type 0) (gs : List (Option BinnedGap)) (p : ℕ) (g : BinnedGap)
    → All P (by_address gs) → get_or gs p None ≡ Some g → P g
by_address-at P [] p g a there = absurd cc
by_address-at P (None ∷ gs) zero g a there = absurd cc
by_address-at P (Some h ∷ gs) zero g a there =
    let same : h ≡ g = cc in
    subst P same (entered-All address_of P h (by_address gs) a).0
by_address-at P (None ∷ gs) (suc p) g a there = by_address-at P gs p g a there
by_address-at P (Some h ∷ gs) (suc p) g a there =
    by_address-at P gs p g (entered-All address_of P h (by_address gs) a).1 there

-- what holds of those of the positions holds of the gaps
pub at-by_address : (P : BinnedGap → Type 0) (gs : List (Option BinnedGap))
    → ((p : ℕ) (g : BinnedGap) → get_or gs p None ≡ Some g → P g) → All P (by_address gs)
at-by_address P [] each = All-nil P
at-by_address P (None ∷ gs) each = at-by_address P gs (λ p g. each (suc p) g)
at-by_address P (Some h ∷ gs) each = All-entered address_of P h (by_address gs) (each zero h refl)
    (at-by_address P gs (λ p g. each (suc p) g))

-- a gap that is held has a position
pub by_address-place : (gs : List (Option BinnedGap)) (g : BinnedGap)
    → is_held g (by_address gs) ≡ true
    → (p : ℕ) × (p < length gs) × (get_or gs p None ≡ Some g)
by_address-place [] g held = absurd cc
by_address-place (None ∷ gs) g held =
    let more = by_address-place gs g held in
    (suc more.0, omega (arith, more.1), more.2)
by_address-place (Some h ∷ gs) g held =
    elim (cases_Bool (is_same g h)) [
      | inl t ↦ (zero, omega arith, ap Some (is_same-gap g h t))
      | inr f ↦
          let more = by_address-place gs g
          (other g h gs f (sym (held-entered g h (by_address gs)) ∙ held)) in
          (suc more.0, omega (arith, more.1), more.2)
    ] where
      other : (g h : BinnedGap) (gs : List (Option BinnedGap)) → is_same g h ≡ false
          → (is_same g h || is_held g (by_address gs)) ≡ true → is_held g (by_address gs) ≡ true
      other g h gs f e = grind arith

-- the others, where one is taken out
pub by_address-left : (gs : List (Option BinnedGap)) (p : ℕ) (g : BinnedGap)
    → get_or gs p None ≡ Some g → AllPairs IsBelow (by_address gs)
    → by_address gs ≡ entered address_of g (by_address (set gs p None))
by_address-left [] p g there rise = absurd cc
by_address-left (None ∷ gs) zero g there rise = absurd cc
by_address-left (Some h ∷ gs) zero g there rise =
    let same : h ≡ g = cc in ap (λ x. entered address_of x (by_address gs)) same
by_address-left (None ∷ gs) (suc p) g there rise = by_address-left gs p g there rise
by_address-left (Some h ∷ gs) (suc p) g there rise =
    let differ = entered-differ address_of h (by_address gs) rise in
    let other = by_address-at (λ x. x.address ≢ h.address) gs p g differ there in
    entered_later h g (by_address gs) (by_address (set gs p None))
    (by_address-left gs p g there
    (entered-pairs address_of IsBelow h (by_address gs) rise))
    (λ e. other (sym e))

without_one : (g : BinnedGap) (gs : List BinnedGap) (a : ℕ)
    → AllPairs IsBelow (entered address_of g gs) → g.address ≡ a
    → gs ≡ without address_of a (entered address_of g gs)
without_one g gs a rise e =
    sym (merged-without address_of a (g ∷ []) gs rise
    ∙ ap (λ xs. merged address_of xs (without address_of a gs)) (without_here address_of a g [] e)
    ∙ without_none address_of a gs
    (subst (λ n. All (λ h. h.address ≢ n) gs) e (entered-differ address_of g gs rise)))

-- with no gap where there was one
pub by_address-take : (gs : List (Option BinnedGap)) (p a : ℕ) (g : BinnedGap)
    → get_or gs p None ≡ Some g → g.address ≡ a → AllPairs IsBelow (by_address gs)
    → by_address (set gs p None) ≡ without address_of a (by_address gs)
by_address-take gs p a g there e rise =
    let left = by_address-left gs p g there rise in
    without_one g (by_address (set gs p None)) a (subst (AllPairs IsBelow) left rise) e
    ∙ ap (without address_of a) (sym left)

module _ (k : BinnedGap → ℕ) where
  -- the gap of a position that has a key
  pub keyed-at : (gs : List (Option BinnedGap)) (p n : ℕ)
      → get_or (map (option_map k) gs) p None ≡ Some n
      → (g : BinnedGap) × (get_or gs p None ≡ Some g) × (k g ≡ n)
  keyed-at [] p n there = absurd cc
  keyed-at (None ∷ gs) zero n there = absurd cc
  keyed-at (Some g ∷ gs) zero n there = (g, refl, let e : k g ≡ n = cc in e)
  keyed-at (None ∷ gs) (suc p) n there = keyed-at gs p n there
  keyed-at (Some h ∷ gs) (suc p) n there = keyed-at gs p n there

  -- the key of a position
  pub at-keyed : (gs : List (Option BinnedGap)) (p : ℕ)
      → get_or (map (option_map k) gs) p None ≡ option_map k (get_or gs p None)
  at-keyed [] p = refl
  at-keyed (x ∷ gs) zero = refl
  at-keyed (x ∷ gs) (suc p) = at-keyed gs p

  some_differs : (m n : ℕ) → m ≢ n → Some m ≢ Some n
  some_differs m n d e = d (let same : m ≡ n = cc in same)

  -- a key that no gap has is none of the keys
  pub keyed-new : (n : ℕ) (gs : List (Option BinnedGap)) → All (λ g. k g ≢ n) (by_address gs)
      → All (λ o. o ≢ Some n) (map (option_map k) gs)
  keyed-new n [] new = All-nil (λ o. o ≢ Some n)
  keyed-new n (None ∷ gs) new = All-cons (λ o. o ≢ Some n) None (map (option_map k) gs)
      (λ e. absurd cc) (keyed-new n gs new)
  keyed-new n (Some g ∷ gs) new =
      let both = entered-All address_of (λ g. k g ≢ n) g (by_address gs) new in
      All-cons (λ o. o ≢ Some n) (Some (k g)) (map (option_map k) gs) (some_differs (k g) n both.0)
      (keyed-new n gs both.1)
