-- Gaps that are held, with one more and without one.
use Rattle.std.proofs.Common.{◌≡◌, ◌≢◌, ℕ, Bool, true, false, not, List, [], ◌∷◌, ap, ◌∙◌}
use Rattle.std.proofs.Common.{refl, inl, inr, arith}
use Rattle.std.specs.Prelude.{◌&&◌, ◌||◌}
use Rattle.std.proofs.lemmas.Bool.{cases_lt, cases_eq}
use Rattle.ea_model.specs.Keyed.{has_key, entered, without}
use Rattle.ea_model.proofs.Rising.{entered_here, entered_past, without_here}
use Rattle.ea_model.proofs.Rising.{without_past}
use Rattle.ea_goodfit.specs.declared.gaps.BinnedGap.{BinnedGap}
use Rattle.ea_goodfit.specs.Gaps.{address_of, is_same, is_held}

either_order : (a b c : Bool) → (a || (b || c)) ≡ (b || (a || c))
either_order a b c = grind arith

-- the gap is held now, and the others are as before
pub held-entered : (y x : BinnedGap) (gs : List BinnedGap)
    → is_held y (entered address_of x gs) ≡ (is_same y x || is_held y gs)
held-entered y x [] = refl
held-entered y x (g ∷ gs) =
    elim (cases_lt x.address g.address) [
      | inl lt ↦ ap (is_held y) (entered_here address_of x g gs lt)
      | inr le ↦ ap (is_held y) (entered_past address_of x g gs le)
          ∙ ap (λ b. is_same y g || b) (held-entered y x gs)
          ∙ either_order (is_same y g) (is_same y x) (is_held y gs)
    ]

same_gone : (a : ℕ) (y g : BinnedGap) (b : Bool) → g.address ≡ a
    → (b && not (has_key address_of a y)) ≡ ((is_same y g || b) && not (has_key address_of a y))
same_gone a y g b e = grind arith

same_stays : (a : ℕ) (y g : BinnedGap) (b : Bool) → g.address ≢ a
    → (is_same y g || (b && not (has_key address_of a y))) ≡
    ((is_same y g || b) && not (has_key address_of a y))
same_stays a y g b n = grind arith

-- the gap at the address is gone, and the others are as before
pub held-without : (y : BinnedGap) (a : ℕ) (gs : List BinnedGap)
    → is_held y (without address_of a gs) ≡ (is_held y gs && not (has_key address_of a y))
held-without y a [] = refl
held-without y a (g ∷ gs) =
    elim (cases_eq g.address a) [
      | inl e ↦ ap (is_held y) (without_here address_of a g gs e) ∙ held-without y a gs
          ∙ same_gone a y g (is_held y gs) e
      | inr n ↦ ap (is_held y) (without_past address_of a g gs n)
          ∙ ap (λ b. is_same y g || b) (held-without y a gs) ∙ same_stays a y g (is_held y gs) n
    ]

pub same_parts : (p g : BinnedGap) → is_same p g ≡ true → (g.address ≡ p.address)
    × (g.size ≡ p.size)
same_parts p g t = grind arith

pub held_past : (g h : BinnedGap) (gs : List BinnedGap) → is_same g h ≡ false
    → is_held g (h ∷ gs) ≡ true → is_held g gs ≡ true
held_past g h gs f t = grind arith
