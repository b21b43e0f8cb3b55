-- Which of two gaps is taken, and which are inspected.
use Rattle.std.proofs.Common.{◌≡◌, ℕ, ◌≤◌, Bool, false, List, sym, ap, subst, arith}
use Rattle.std.specs.Prelude.{filter, nat_lt, All, AllPairs}
use Rattle.std.specs.Cmp.{IsStrictWeakOrder}
use Rattle.std.specs.List.Sorted.{IsPermutation}
use Rattle.std.proofs.lemmas.List.Elements.{All-filter, filter_agree}
use Rattle.std.proofs.lemmas.List.Kept.{AllPairs-filter}
use Rattle.ea_model.specs.GoodFit.{is_inspected, is_ahead}
use Rattle.ea_model.proofs.Orders.{rising-order, falling-order, less-order}
use Rattle.ea_goodfit.specs.declared.gaps.BinnedGap.{BinnedGap}
use Rattle.ea_goodfit.specs.declared.fits.Fit.{Fit}
use Rattle.ea_goodfit.specs.declared.fits.Fit.TheVariants.{Good, Best, AddressOrderBest}
use Rattle.ea_goodfit.specs.Gaps.{address_of, smaller, smaller_high, takes_first, inspected_by}
use Rattle.ea_goodfit.proofs.AnyOrder.{AreSame, same_permuted, same_passing, length_permuted}
use Rattle.ea_goodfit.proofs.AnyOrder.{IsApart}

smaller-order : IsStrictWeakOrder smaller
smaller-order = less-order (λ (g : BinnedGap). g.size) (λ a b. nat_lt a.address b.address)
    (rising-order address_of)

smaller_high-order : IsStrictWeakOrder smaller_high
smaller_high-order = less-order (λ (g : BinnedGap). g.size) (λ a b. nat_lt b.address a.address)
    (falling-order address_of)

pub takes_first-order : (fit : Fit) → IsStrictWeakOrder (takes_first fit)
takes_first-order Good = smaller-order
takes_first-order Best = smaller_high-order
takes_first-order AddressOrderBest = smaller-order

low_tied : (a b : BinnedGap) → smaller a b ≡ false → smaller b a ≡ false → a.address ≡ b.address
low_tied a b h k = grind arith

high_tied : (a b : BinnedGap) → smaller_high a b ≡ false → smaller_high b a ≡ false
    → a.address ≡ b.address
high_tied a b h k = grind arith

-- only gaps of one address tie
pub takes_first-tied : (fit : Fit) (a b : BinnedGap) → takes_first fit a b ≡ false
    → takes_first fit b a ≡ false → a.address ≡ b.address
takes_first-tied Good a b h k = low_tied a b h k
takes_first-tied Best a b h k = high_tied a b h k
takes_first-tied AddressOrderBest a b h k = low_tied a b h k

low_size : (h g : BinnedGap) → smaller h g ≡ false → g.size ≤ h.size
low_size h g f = grind arith

high_size : (h g : BinnedGap) → smaller_high h g ≡ false → g.size ≤ h.size
high_size h g f = grind arith

-- none that comes after is smaller
pub takes_first-size : (fit : Fit) (h g : BinnedGap) → takes_first fit h g ≡ false
    → g.size ≤ h.size
takes_first-size Good h g f = low_size h g f
takes_first-size Best h g f = high_size h g f
takes_first-size AddressOrderBest h g f = low_size h g f

-- what holds of the gaps holds of those inspected
pub inspected-All : (P : BinnedGap → Type 0) (fit : Fit) (depth : ℕ) (gs : List BinnedGap)
    → All P gs → All P (inspected_by fit depth gs)
inspected-All P Good depth gs a =
    All-filter (is_inspected (λ h. h.address) (λ h. h.size) depth gs) P gs a
inspected-All P Best depth gs a = a
inspected-All P AddressOrderBest depth gs a = a

pub inspected-apart : (fit : Fit) (depth : ℕ) (gs : List BinnedGap)
    → AllPairs (IsApart address_of) gs → AllPairs (IsApart address_of) (inspected_by fit depth gs)
inspected-apart Good depth gs a = AllPairs-filter (IsApart address_of)
    (is_inspected (λ h. h.address) (λ h. h.size) depth gs) gs a
inspected-apart Best depth gs a = a
inspected-apart AddressOrderBest depth gs a = a

inspects : ℕ → List BinnedGap → BinnedGap → Bool
inspects depth gs g = is_inspected (λ h. h.address) (λ h. h.size) depth gs g

inspects_permuted : (depth : ℕ) (xs ys : List BinnedGap) (g : BinnedGap) → IsPermutation xs ys
    → inspects depth ys g ≡ inspects depth xs g
unfolding inspects
inspects_permuted depth xs ys g m = ap (λ n. nat_lt n depth)
    (length_permuted (is_ahead (λ h. h.address) (λ h. h.size) g) xs ys m)

seen_permuted : (depth : ℕ) (xs ys : List BinnedGap) → IsPermutation xs ys
    → AreSame (filter (inspects depth xs) xs) (filter (inspects depth ys) ys)
seen_permuted depth xs ys m =
    subst (AreSame (filter (inspects depth xs) xs))
    (filter_agree (inspects depth xs) (inspects depth ys)
    (λ g. sym (inspects_permuted depth xs ys g m)) ys)
    (same_passing (inspects depth xs) xs ys (same_permuted xs ys m))

-- those inspected are the same, in whatever order the gaps are listed
pub inspected-permuted : (fit : Fit) (depth : ℕ) (xs ys : List BinnedGap) → IsPermutation xs ys
    → AreSame (inspected_by fit depth xs) (inspected_by fit depth ys)
unfolding inspects
inspected-permuted Good depth xs ys m = seen_permuted depth xs ys m
inspected-permuted Best depth xs ys m = same_permuted xs ys m
inspected-permuted AddressOrderBest depth xs ys m = same_permuted xs ys m
