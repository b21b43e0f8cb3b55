-- The first carrier that fits.
use Rattle.std.proofs.Common.{◌≡◌, ℕ, ◌<◌, ◌≤◌, ◌↔◌, Bool, true, false, List}
use Rattle.std.proofs.Common.{[], ◌∷◌, refl, sym, subst, inl, inr, arith}
use Rattle.std.specs.Prelude.{Option, Some, None, IfSome, IsNone, option_map}
use Rattle.std.specs.Prelude.{nat_le, nat_lt, All, Contains}
use Rattle.std.specs.Cmp.{IsStrictWeakOrder}
use Rattle.std.proofs.lemmas.Bool.{cases_lt, leb-true}
use Rattle.std.proofs.lemmas.List.Elements.{All-nil, All-cons, All-head, All-tail}
use Rattle.std.proofs.lemmas.List.Elements.{All-filter, All-contains_itself, filter_passes}
use Rattle.ea_model.specs.Choice.{first}
use Rattle.ea_model.proofs.First.{both_All, IsLeast, first-All, first-IsLeast, first-none}
use Rattle.ea_model.proofs.First.{large-here, large-none, large-past, none-large}
use Rattle.ea_model.proofs.Options.{both_some, some_map, unmapped}
use Rattle.ea_cset.specs.declared.keys.CarrierFit.{CarrierFit}
use Rattle.ea_cset.specs.declared.keys.Found.{Found}
use Rattle.ea_model.proofs.Orders.{rising-order, less-order}
use Rattle.ea_cset.specs.declared.keys.Order.{Order}
use Rattle.ea_cset.specs.declared.keys.Order.TheVariants.{Address, Age}
use Rattle.ea_cset.specs.Carriers.{comes_first, number_of, lower, older}
use Rattle.ea_cset.specs.Carriers.{fitting, first_number, number_found, IsFirstOf}

lower-order : IsStrictWeakOrder lower
lower-order = rising-order (λ (h : CarrierFit). h.key.base)

older-order : IsStrictWeakOrder older
older-order = less-order (λ (h : CarrierFit). h.key.birth) (λ a b. nat_lt a.key.number b.key.number)
    (rising-order number_of)

pub first-order : (o : Order) → IsStrictWeakOrder (comes_first o)
first-order Address = lower-order
first-order Age = older-order

-- none is found exactly where no carrier fits
pub first_number-none : (before : CarrierFit → CarrierFit → Bool) (need : ℕ) (hs : List CarrierFit)
    → IsNone (first_number before need hs) ↔ All (λ h. h.fit < need) hs
first_number-none before need hs = (
  λ h. none-large (λ (x : CarrierFit). x.fit) need hs
      (first-none before (fitting need hs)
      (unmapped (λ (x : CarrierFit). x.key.number) (first before (fitting need hs)) h)),
  λ h. subst (λ xs. IsNone (option_map (λ (x : CarrierFit). x.key.number) (first before xs)))
      (sym (large-none (λ (x : CarrierFit). x.fit) need hs h)) refl,
)

-- what holds of each carrier that is left holds of each that fits
fitting-All : (P : CarrierFit → Type 0) (need : ℕ) (hs : List CarrierFit) → All P (fitting need hs)
    → All (λ h. need ≤ h.fit → P h) hs
fitting-All P need [] a = All-nil (λ (x : CarrierFit). need ≤ x.fit → P x)
fitting-All P need (h ∷ hs) a =
    elim (cases_lt h.fit need) [
      | inl lt ↦ All-cons (λ (x : CarrierFit). need ≤ x.fit → P x) h hs (λ le. absurd (omega arith))
          (fitting-All P need hs
          (subst (All P) (large-past (λ (x : CarrierFit). x.fit) need h hs lt) a))
      | inr le ↦
          let b : All P (h ∷ fitting need hs) = subst (All P)
          (large-here (λ (x : CarrierFit). x.fit) need h hs le) a in
          All-cons (λ (x : CarrierFit). need ≤ x.fit → P x) h hs
          (λ _. All-head P h (fitting need hs) b)
          (fitting-All P need hs (All-tail P h (fitting need hs) b))
    ]

-- the number found is that of the first carrier that fits
pub first_number-IsFirstOf : (before : CarrierFit → CarrierFit → Bool) → IsStrictWeakOrder before
    → (need : ℕ) (hs : List CarrierFit)
    → IfSome (first_number before need hs) (IsFirstOf before need hs)
first_number-IsFirstOf before o need hs =
    let found = first before (fitting need hs) in
    some_map (λ (h : CarrierFit). h.key.number) (IsFirstOf before need hs) found
    (both_some found (λ h. Contains hs h × (need ≤ h.fit)) (IsLeast before (fitting need hs))
    (λ h. IsFirstOf before need hs h.key.number)
    (λ h c l. (
      c.0.0,
      h,
      c.0.1,
      c.0.2,
      record {
        number_is = refl;
        fits = c.1;
        least = fitting-All (λ y. before y h ≡ false) need hs
            l;
      },
    ))
    (first-All (λ h. Contains hs h × (need ≤ h.fit)) before None (fitting need hs) tt
    (both_All (Contains hs) (λ h. nat_le need h.fit ≡ true) (λ h. Contains hs h × (need ≤ h.fit))
    (λ h c f. (c, leb-true need h.fit f)) (fitting need hs)
    (All-filter (λ h. nat_le need h.fit) (Contains hs) hs (All-contains_itself hs))
    (filter_passes (λ h. nat_le need h.fit) hs)))
    (first-IsLeast before o (fitting need hs)))

-- what holds of the number of a carrier that was found
pub number_found-IsNone : (P : Type 0) (found : Option Found) → IsNone (number_found found) ↔ P
    → IsNone found ↔ P
number_found-IsNone P None h = h
number_found-IsNone P (Some f) h = h

pub number_found-IfSome : (P : ℕ → Type 0) (found : Option Found) → IfSome (number_found found) P
    → IfSome found (λ f. P f.carrier.key.number)
number_found-IfSome P None h = h
number_found-IfSome P (Some f) h = h
