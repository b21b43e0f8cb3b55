-- A search for the gap to take, by rising keys.
use Rattle.std.proofs.Common.{zero, suc, ◌≡◌, ◌≢◌, ℕ, ◌+◌, ◌-◌, ◌*◌, ◌^◌, ◌<◌, ◌≤◌, true, false}
use Rattle.std.proofs.Common.{List, []}
use Rattle.std.proofs.Common.{◌∷◌, length, get_or, take, fold, sym, ap, ◌∙◌, subst, refl, inl, inr}
use Rattle.std.proofs.Common.{◌⊎◌}
use Rattle.std.proofs.Common.{arith}
use Rattle.std.proofs.Math.Seq.{take-nil}
use Rattle.std.specs.Prelude.{Bool, Option, Some, None, IfSome, IsNone, IsTrue, ◌==◌, filter}
use Rattle.std.specs.Prelude.{nat_le, All}
use Rattle.std.specs.Prelude.{AllPairs, Contains}
use Rattle.std.proofs.lemmas.Bool.{cases_lt, cases_eq, leb-true, le-leb}
use Rattle.std.proofs.lemmas.List.Elements.{All-head, All-tail, All-weaker}
use Rattle.std.proofs.lemmas.List.Elements.{All-contains, All-contains_itself, All-filter, All-take}
use Rattle.std.proofs.lemmas.List.Elements.{filter_passes}
use Rattle.std.proofs.lemmas.List.Kept.{AllPairs-filter}
use Rattle.ea_model.specs.Choice.{better, first, IsFirst}
use Rattle.ea_model.specs.GoodFit.{bin_of}
use Rattle.ea_model.proofs.First.{both_All, first-IsFirst, first-none, large-here}
use Rattle.ea_model.proofs.First.{large-past, none-large}
use Rattle.ea_model.proofs.Options.{some_holds}
use Rattle.ea_model.proofs.Pairs.{pairs_head, pairs_tail}
use Rattle.ea_goodfit.specs.declared.gaps.BinnedGap.{BinnedGap}
use Rattle.ea_goodfit.specs.declared.fits.Fit.{Fit}
use Rattle.ea_goodfit.specs.declared.fits.Fit.TheVariants.{Good, Best, AddressOrderBest}
use Rattle.ea_goodfit.specs.Gaps.{considered, found_by, found_in, inspected_by, inspected_fitting}
use Rattle.ea_goodfit.specs.Gaps.{of_bin, smaller, takes_first, IsBelow}
use Rattle.ea_goodfit.specs.Keys.{key_of, IsNext}
use Rattle.ea_goodfit.proofs.AnyOrder.{filter_here, filter_past, passing-All, All-passing}
use Rattle.ea_goodfit.proofs.AnyOrder.{Contains-passing, passing_into}
use Rattle.ea_goodfit.proofs.Bin.{bin_of-rises}
use Rattle.ea_goodfit.proofs.Found.{found-none, found-only}
use Rattle.ea_goodfit.proofs.Inspected.{bin_here, filter_none, first_of, inspected-bin}
use Rattle.ea_goodfit.proofs.Inspected.{inspected-none, is_bin}
use Rattle.ea_goodfit.proofs.Inspected.{take_none, take_one}
use Rattle.ea_goodfit.proofs.KeyOrder.{fits-key_of, key_of-after, key_of-fits}
use Rattle.ea_goodfit.proofs.Orders.{inspected-All, takes_first-order}

pub nothing_there : (o : Option BinnedGap) → IsNone o → o ≡ None
nothing_there None h = refl
nothing_there (Some g) h = absurd cc

abbrev AreBounded : List BinnedGap → Type 0
AreBounded gs = All (λ g. g.address < 2 ^ 32) gs

all_seen : (fit : Fit) → fit ≢ Good → (depth : ℕ) (gs : List BinnedGap)
    → inspected_by fit depth gs ≡ gs
all_seen Good n depth gs = absurd (n refl)
all_seen Best n depth gs = refl
all_seen AddressOrderBest n depth gs = refl

-- where gaps are found by their sizes, the first key from the need on is that of the gap to take
module _ (fit : Fit) (size : fit ≢ Good) (depth need : ℕ) (gs : List BinnedGap)
    (rise : AllPairs IsBelow gs) (bounded : AreBounded gs) where
  same : inspected_by fit depth gs ≡ gs
  same = all_seen fit size depth gs

  found-next : (g : BinnedGap) → IsNext fit (need * 2 ^ 32) gs g
      → found_by fit depth need gs ≡ Some g
  found-next g n =
      let below = All-contains (λ h. h.address < 2 ^ 32) gs g bounded n.among in
      let fits = le-leb need g.size (key_of-fits fit need g size below n.great) in
      found-only fit depth need gs rise g
      (subst (λ xs. IsFirst (takes_first fit) (filter (λ h. nat_le need h.size) xs) g) (sym same)
      (record {
        among = Contains-passing (λ h. nat_le need h.size) gs g n.among fits;
        least = All-passing (λ h. nat_le need h.size) (λ h. takes_first fit h g ≡ false) gs
            (both_All (λ h. h.address < 2 ^ 32)
            (λ h. need * 2 ^ 32 ≤ key_of fit h → key_of fit g ≤ key_of fit h)
            (λ h. IsTrue (nat_le need h.size) → takes_first fit h g ≡ false)
            (λ h b le t. key_of-after fit g h size below b
            (le (fits-key_of fit need h size (leb-true need h.size t)))) gs bounded n.least);
      }))

  too_small : (g : BinnedGap) → key_of fit g < need * 2 ^ 32 → g.size < need
  too_small g lt =
      elim (cases_lt g.size need) [
        | inl less ↦ less
        | inr le ↦ absurd (let more = fits-key_of fit need g size le in omega (arith, lt, more))
      ]

  found-nothing : All (λ g. key_of fit g < need * 2 ^ 32) gs → found_by fit depth need gs ≡ None
  found-nothing less =
      nothing_there (found_by fit depth need gs)
      ((found-none fit depth need gs).1 (subst (All (λ g. g.size < need)) (sym same)
      (All-weaker (λ g. key_of fit g < need * 2 ^ 32) (λ g. g.size < need) too_small gs less)))

  pub found-by_size : (o : Option BinnedGap) → IfSome o (IsNext fit (need * 2 ^ 32) gs)
      → (IsNone o → All (λ g. key_of fit g < need * 2 ^ 32) gs) → o ≡ found_by fit depth need gs
  found-by_size None next none = sym (found-nothing (none refl))
  found-by_size (Some g) next none = sym (found-next g next)

-- those that lie at the address or above it
abbrev pub from_address : ℕ → List BinnedGap → List BinnedGap
from_address address gs = filter (λ g. nat_le address g.address) gs

le_is : (a b : ℕ) → a ≤ b → nat_le a b ≡ true
le_is a b le = grind arith

lt_not : (a b : ℕ) → b < a → nat_le a b ≡ false
lt_not a b lt = grind arith

from-here : (a : ℕ) (g : BinnedGap) (gs : List BinnedGap) → a ≤ g.address
    → from_address a (g ∷ gs) ≡ g ∷ from_address a gs
from-here a g gs le = filter_here (λ h. nat_le a h.address) g gs (le_is a g.address le)

from-past : (a : ℕ) (g : BinnedGap) (gs : List BinnedGap) → g.address < a
    → from_address a (g ∷ gs) ≡ from_address a gs
from-past a g gs lt = filter_past (λ h. nat_le a h.address) g gs (lt_not a g.address lt)

from-all : (a : ℕ) (gs : List BinnedGap) → All (λ g. a ≤ g.address) gs
    → from_address a gs ≡ gs
from-all a [] all = refl
from-all a (g ∷ gs) all = from-here a g gs (All-head (λ g. a ≤ g.address) g gs all)
    ∙ ap (λ xs. g ∷ xs) (from-all a gs (All-tail (λ g. a ≤ g.address) g gs all))

pub from-start : (depth : ℕ) (gs : List BinnedGap)
    → take (depth - 0) (from_address 0 gs) ≡ take depth gs
from-start depth gs =
    ap (λ n. take n (from_address 0 gs)) (all_left depth)
    ∙ ap (take depth) (from-all 0 gs (All-weaker (Contains gs) (λ g. 0 ≤ g.address)
    (λ g c. omega arith) gs (All-contains_itself gs))) where
      all_left : (depth : ℕ) → depth - 0 ≡ depth
      all_left depth = omega arith

from-none : (a : ℕ) (gs : List BinnedGap) → All (λ g. g.address < a) gs → from_address a gs ≡ []
from-none a gs all = filter_none (λ g. nat_le a g.address) gs
    (All-weaker (λ g. g.address < a) (λ g. nat_le a g.address ≡ false)
    (λ g lt. lt_not a g.address lt) gs all)

-- the first of them, and those above it
from-first : (a : ℕ) (g : BinnedGap) (gs : List BinnedGap) (i : ℕ) → AllPairs IsBelow gs
    → i < length gs → get_or gs i g ≡ g → a ≤ g.address
    → All (λ h. a ≤ h.address → g.address ≤ h.address) gs
    → from_address a gs ≡ g ∷ from_address (g.address + 1) gs
from-first a g [] i rise within at le least = absurd (omega arith)
from-first a g (x ∷ xs) zero rise within at le least =
    let above : All (IsBelow x) xs = pairs_head IsBelow x xs rise in
    let low : All (λ h. a ≤ h.address) xs = All-weaker (IsBelow x) (λ h. a ≤ h.address)
    (λ h lt. let same : x.address ≡ g.address = ap (λ (y : BinnedGap). y.address) at in
    omega (arith, lt, same, le)) xs above in
    let high : All (λ h. g.address + 1 ≤ h.address) xs = All-weaker (IsBelow x)
    (λ h. g.address + 1 ≤ h.address)
    (λ h lt. let same : x.address ≡ g.address = ap (λ (y : BinnedGap). y.address) at in
    omega (arith, lt, same)) xs above in
    let same : x.address ≡ g.address = ap (λ (y : BinnedGap). y.address) at in
    from-here a x xs (omega (arith, same, le)) ∙ ap (λ ys. x ∷ ys) (from-all a xs low)
    ∙ ap (λ y. y ∷ xs) at
    ∙ ap (λ ys. g ∷ ys) (sym (from-past (g.address + 1) x xs (omega (arith, same))
    ∙ from-all (g.address + 1) xs high))
from-first a g (x ∷ xs) (suc i) rise within at le least =
    let above : x.address < g.address = subst (λ (y : BinnedGap). x.address < y.address) at
    (pairs_head IsBelow x xs rise i g (omega arith)) in
    let below : x.address < a = elim (cases_lt x.address a) [
      | inl lt ↦ lt
      | inr ge ↦ absurd (let too = All-head (λ h. a ≤ h.address → g.address ≤ h.address) x xs least
          ge in omega (arith, too, above))
    ] in
    from-past a x xs below
    ∙ from-first a g xs i (pairs_tail IsBelow x xs rise) (omega arith) at le
    (All-tail (λ h. a ≤ h.address → g.address ≤ h.address) x xs least)
    ∙ ap (λ ys. g ∷ ys) (sym (from-past (g.address + 1) x xs (omega (arith, above))))

-- a search in a bin, from an address on
module _ (gs : List BinnedGap) (rise : AllPairs IsBelow gs) (bounded : AreBounded gs) (bin a : ℕ)
  where
    -- what holds of each gap of the bin
    of_bin-All : (P Q : BinnedGap → Type 0) → ((h : BinnedGap) → P h → bin_of h.size ≡ bin → Q h)
        → All P gs → All Q (of_bin bin gs)
    of_bin-All P Q f all = both_All P (λ h. (bin_of h.size == bin) ≡ true) Q
        (λ h p t. f h p (is_bin bin h t)) (of_bin bin gs)
        (All-filter (λ h. bin_of h.size == bin) P gs all)
        (filter_passes (λ h. bin_of h.size == bin) gs)

    in_bin : (k b c x : ℕ) → k ≡ b → b * 2 ^ 32 + a ≤ k * 2 ^ 32 + x → a ≤ x
    in_bin k b c x e le = omega (arith, ap (λ n. n * 2 ^ 32) e)

    above_in : (k j b x y : ℕ) → k ≡ b → j ≡ b
        → (b * 2 ^ 32 + a ≤ j * 2 ^ 32 + y → k * 2 ^ 32 + x ≤ j * 2 ^ 32 + y) → a ≤ y → x ≤ y
    above_in k j b x y e f least le =
        let more = least (omega (arith, f, le)) in omega (arith, e, f, more)

    pub next-in : (g : BinnedGap) → IsNext Good (bin * 2 ^ 32 + a) gs g → bin_of g.size ≡ bin
        → from_address a (of_bin bin gs) ≡ g ∷ from_address (g.address + 1) (of_bin bin gs)
    next-in g n is =
        let c = Contains-passing (λ h. bin_of h.size == bin) gs g n.among (bin_here bin g is) in
        from-first a g (of_bin bin gs) c.0
        (AllPairs-filter IsBelow (λ h. bin_of h.size == bin) gs rise) c.1 c.2
        (in_bin (bin_of g.size) bin 0 g.address is n.great)
        (of_bin-All (λ h. bin * 2 ^ 32 + a ≤ key_of Good h → key_of Good g ≤ key_of Good h)
        (λ h. a ≤ h.address → g.address ≤ h.address)
        (λ h least b le. above_in (bin_of g.size) (bin_of h.size) bin g.address h.address is b least
        le) n.least)

    not_reached : (k j b x y : ℕ) → k ≢ b → j ≡ b → x < 2 ^ 32 → y < 2 ^ 32
        → b * 2 ^ 32 + a ≤ k * 2 ^ 32 + x
        → (b * 2 ^ 32 + a ≤ j * 2 ^ 32 + y → k * 2 ^ 32 + x ≤ j * 2 ^ 32 + y) → y < a
    not_reached k j b x y n e lx ly great least =
        elim (cases_lt y a) [
          | inl lt ↦ lt
          | inr le ↦ absurd (let more = least (omega (arith, e, le)) in omega (arith, e, n, more))
        ]

    pub next-out : (g : BinnedGap) → IsNext Good (bin * 2 ^ 32 + a) gs g → bin_of g.size ≢ bin
        → from_address a (of_bin bin gs) ≡ []
    next-out g n other =
        let below = All-contains (λ h. h.address < 2 ^ 32) gs g bounded n.among in
        from-none a (of_bin bin gs)
        (of_bin-All (λ h. (h.address < 2 ^ 32)
        × (bin * 2 ^ 32 + a ≤ key_of Good h → key_of Good g ≤ key_of Good h)) (λ h. h.address < a)
        (λ h both b. not_reached (bin_of g.size) (bin_of h.size) bin g.address h.address other b
        below both.0 n.great both.1)
        (both_All (λ h. h.address < 2 ^ 32)
        (λ h. bin * 2 ^ 32 + a ≤ key_of Good h → key_of Good g ≤ key_of Good h)
        (λ h. (h.address < 2 ^ 32)
        × (bin * 2 ^ 32 + a ≤ key_of Good h → key_of Good g ≤ key_of Good h))
        (λ h b l. (b, l)) gs bounded n.least))

    below_in : (j b y : ℕ) → j ≡ b → j * 2 ^ 32 + y < b * 2 ^ 32 + a → y < a
    below_in j b y e lt = omega (arith, e)

    pub next-none : All (λ g. key_of Good g < bin * 2 ^ 32 + a) gs
        → from_address a (of_bin bin gs) ≡ []
    next-none less = from-none a (of_bin bin gs)
        (of_bin-All (λ g. key_of Good g < bin * 2 ^ 32 + a) (λ g. g.address < a)
        (λ g lt e. below_in (bin_of g.size) bin g.address e lt) less)

-- considering each gap is taking the better of those that fit
module _ (need : ℕ) where
  considered_past : (best : Option BinnedGap) (g : BinnedGap) → g.size < need
      → considered need best g ≡ best
  considered_past best g lt = grind arith

  considered_fits : (best : Option BinnedGap) (g : BinnedGap) → need ≤ g.size
      → considered need best g ≡ better smaller best g
  considered_fits best g le = grind arith

  pub considered-fitting : (best : Option BinnedGap) (gs : List BinnedGap)
      → fold (considered need) best gs ≡ fold (better smaller) best
      (filter (λ g. nat_le need g.size) gs)
  considered-fitting best [] = refl
  considered-fitting best (g ∷ gs) =
      elim (cases_lt g.size need) [
        | inl lt ↦
            ap (λ o. fold (considered need) o gs) (considered_past best g lt)
            ∙ considered-fitting best gs
            ∙ ap (fold (better smaller) best)
            (sym (large-past (λ (x : BinnedGap). x.size) need g gs lt))
        | inr le ↦
            ap (λ o. fold (considered need) o gs) (considered_fits best g le)
            ∙ considered-fitting (better smaller best g) gs
            ∙ ap (fold (better smaller) best)
            (sym (large-here (λ (x : BinnedGap). x.size) need g gs le))
      ]

  -- a turn of the search in a bin
  pub goes_on : (n m : ℕ) (best now r : Option BinnedGap) (g : BinnedGap) (xs ys : List BinnedGap)
      → n ≡ suc m → xs ≡ g ∷ ys → now ≡ considered need best g
      → fold (considered need) best (take n xs) ≡ r → fold (considered need) now (take m ys) ≡ r
  goes_on n m best now r g xs ys one next is rest =
      ap (λ o. fold (considered need) o (take m ys)) is
      ∙ sym (ap (fold (considered need) best) (ap (take n) next ∙ take_one n m g ys one)) ∙ rest

  -- and its end, where none is left, or none is inspected any more
  pub ends : (n : ℕ) (best r : Option BinnedGap) (xs : List BinnedGap) → (n ≡ 0) ⊎ (xs ≡ [])
      → fold (considered need) best (take n xs) ≡ r → best ≡ r
  ends n best r xs end rest =
      ap (fold (considered need) best)
      (sym (elim end [
        | inl e ↦ take_none n xs e
        | inr e ↦ ap (take n) e ∙ take-nil n
      ])) ∙ rest

-- the search of good fit
module _ (depth need : ℕ) (gs : List BinnedGap) (rise : AllPairs IsBelow gs)
    (bounded : AreBounded gs) where
  fitting_in : ℕ → List BinnedGap
  fitting_in bin = filter (λ g. nat_le need g.size) (of_bin bin (inspected_by Good depth gs))

  abbrev IsLow : ℕ → Type 0
  IsLow bin = All (λ h. need ≤ h.size → bin ≤ bin_of h.size) (inspected_by Good depth gs)

  taken_in : (bin : ℕ) → found_in bin depth need gs ≡ first smaller (fitting_in bin)
  unfolding fitting_in
  taken_in bin = ap (λ xs. first smaller (filter (λ g. nat_le need g.size) xs))
      (sym (inspected-bin depth bin gs rise))

  after_bin : (g h : BinnedGap) → bin_of g.size < bin_of h.size → smaller h g ≡ false
  after_bin g h lt =
      elim (cases_lt g.size h.size) [
        | inl less ↦ larger g h less
        | inr le ↦ absurd (let more = bin_of-rises h.size g.size le in omega (arith, lt, more))
      ] where
        larger : (g h : BinnedGap) → g.size < h.size → smaller h g ≡ false
        larger g h less = grind arith

  -- none comes before the first of the lowest bin
  first_of_all : (bin : ℕ) (g : BinnedGap) → IsLow bin → IsFirst smaller (fitting_in bin) g
      → IsFirst smaller (inspected_fitting Good depth need gs) g
  unfolding fitting_in
  first_of_all bin g low f =
      let in_bin = of_bin bin (inspected_by Good depth gs) in
      let fits : BinnedGap → Bool = λ h. nat_le need h.size in
      let own : bin_of g.size ≡ bin = is_bin bin g
      (All-contains (λ h. (bin_of h.size == bin) ≡ true) (filter fits in_bin) g
      (All-filter fits (λ h. (bin_of h.size == bin) ≡ true) in_bin
      (filter_passes (λ h. bin_of h.size == bin) (inspected_by Good depth gs))) f.among) in
      record {
        among = All-contains (Contains (filter fits (inspected_by Good depth gs)))
            (filter fits in_bin) g
            (passing_into fits in_bin (inspected_by Good depth gs)
            (All-filter (λ h. bin_of h.size == bin) (Contains (inspected_by Good depth gs))
            (inspected_by Good depth gs) (All-contains_itself (inspected_by Good depth gs))))
            f.among;
        least = All-passing fits (λ h. smaller h g ≡ false) (inspected_by Good depth gs)
            (both_All (λ h. need ≤ h.size → bin ≤ bin_of h.size)
            (λ h. IsTrue (bin_of h.size == bin) → IsTrue (fits h) → smaller h g ≡ false)
            (λ h. IsTrue (fits h) → smaller h g ≡ false)
            (λ h l same t. elim (cases_eq (bin_of h.size) bin) [
              | inl e ↦ same (bin_here bin h e) t
              | inr n ↦ after_bin g h (omega (arith, own, n, l (leb-true need h.size t)))
            ]) (inspected_by Good depth gs) low
            (passing-All (λ h. bin_of h.size == bin)
            (λ h. IsTrue (fits h) → smaller h g ≡ false) (inspected_by Good depth gs)
            (passing-All fits (λ h. smaller h g ≡ false) in_bin f.least)));
      }

  pub found-lowest : (bin : ℕ) (g : BinnedGap) → IsLow bin → found_in bin depth need gs ≡ Some g
      → found_by Good depth need gs ≡ Some g
  found-lowest bin g low e =
      found-only Good depth need gs rise g
      (first_of_all bin g low
      (some_holds (first smaller (fitting_in bin)) g (IsFirst smaller (fitting_in bin))
      (sym (taken_in bin) ∙ e)
      (first-IsFirst smaller (takes_first-order Good) (fitting_in bin))))

  -- the bin of the need is the lowest where a gap can fit
  pub need_low : IsLow (bin_of need)
  need_low = All-weaker (Contains (inspected_by Good depth gs))
      (λ h. need ≤ h.size → bin_of need ≤ bin_of h.size)
      (λ h c le. bin_of-rises need h.size le) (inspected_by Good depth gs)
      (All-contains_itself (inspected_by Good depth gs))

  -- where none of it is found, those that fit lie in higher bins
  higher : found_in (bin_of need) depth need gs ≡ None
      → All (λ h. need ≤ h.size → bin_of need < bin_of h.size) (inspected_by Good depth gs)
  unfolding fitting_in
  higher none =
      let in_bin = of_bin (bin_of need) (inspected_by Good depth gs) in
      let empty : fitting_in (bin_of need) ≡ [] = first-none smaller (fitting_in (bin_of need))
      (subst (λ o. IsNone o) (sym (sym (taken_in (bin_of need)) ∙ none)) refl) in
      both_All (λ h. need ≤ h.size → bin_of need ≤ bin_of h.size)
      (λ h. IsTrue (bin_of h.size == bin_of need) → h.size < need)
      (λ h. need ≤ h.size → bin_of need < bin_of h.size)
      (λ h l small le. elim (cases_eq (bin_of h.size) (bin_of need)) [
        | inl e ↦ absurd (let less = small (bin_here (bin_of need) h e) in omega (arith, le, less))
        | inr n ↦ let more = l le in omega (arith, n, more)
      ]) (inspected_by Good depth gs) need_low
      (passing-All (λ h. bin_of h.size == bin_of need) (λ h. h.size < need)
      (inspected_by Good depth gs) (none-large (λ (x : BinnedGap). x.size) need in_bin empty))

  -- and where all lie in lower ones, none is found
  pub found-no_higher : found_in (bin_of need) depth need gs ≡ None
      → All (λ g. key_of Good g < (bin_of need + 1) * 2 ^ 32) gs
      → found_by Good depth need gs ≡ None
  found-no_higher none less =
      nothing_there (found_by Good depth need gs)
      ((found-none Good depth need gs).1
      (both_All (λ h. need ≤ h.size → bin_of need < bin_of h.size)
      (λ h. key_of Good h < (bin_of need + 1) * 2 ^ 32) (λ h. h.size < need)
      (λ h f lt. elim (cases_lt h.size need) [
        | inl small ↦ small
        | inr le ↦ absurd
            (let more = f le in too_low (bin_of need) (bin_of h.size) h.address lt more)
      ]) (inspected_by Good depth gs) (higher none)
      (inspected-All (λ g. key_of Good g < (bin_of need + 1) * 2 ^ 32) Good depth gs less))) where
        too_low : (b k x : ℕ) → k * 2 ^ 32 + x < (b + 1) * 2 ^ 32 → b < k → ⊥
        too_low b k x lt more = omega arith

  -- the next bin that has any is the lowest that is left
  module _ (none : found_in (bin_of need) depth need gs ≡ None) (g : BinnedGap)
      (next : IsNext Good ((bin_of need + 1) * 2 ^ 32) gs g) where
    not_lower : (b k j x y : ℕ) → x < 2 ^ 32 → y < 2 ^ 32 → b < j
        → ((b + 1) * 2 ^ 32 ≤ j * 2 ^ 32 + y → k * 2 ^ 32 + x ≤ j * 2 ^ 32 + y) → k ≤ j
    not_lower b k j x y lx ly lt least = let more = least (omega (arith, lt)) in omega
        (arith, more, ly)

    pub next_low : IsLow (bin_of g.size)
    next_low =
        let below = All-contains (λ h. h.address < 2 ^ 32) gs g bounded next.among in
        both_All (λ h. need ≤ h.size → bin_of need < bin_of h.size)
        (λ h. (h.address < 2 ^ 32)
        × ((bin_of need + 1) * 2 ^ 32 ≤ key_of Good h → key_of Good g ≤ key_of Good h))
        (λ h. need ≤ h.size → bin_of g.size ≤ bin_of h.size)
        (λ h f both le. not_lower (bin_of need) (bin_of g.size) (bin_of h.size) g.address h.address
        below both.0 (f le) both.1) (inspected_by Good depth gs) (higher none)
        (inspected-All (λ h. (h.address < 2 ^ 32)
        × ((bin_of need + 1) * 2 ^ 32 ≤ key_of Good h → key_of Good g ≤ key_of Good h)) Good depth
        gs
        (both_All (λ h. h.address < 2 ^ 32)
        (λ h. (bin_of need + 1) * 2 ^ 32 ≤ key_of Good h → key_of Good g ≤ key_of Good h)
        (λ h. (h.address < 2 ^ 32)
        × ((bin_of need + 1) * 2 ^ 32 ≤ key_of Good h → key_of Good g ≤ key_of Good h))
        (λ h b l. (b, l)) gs bounded next.least))

    next_higher : (b k x : ℕ) → (b + 1) * 2 ^ 32 ≤ k * 2 ^ 32 + x → x < 2 ^ 32 → b < k
    next_higher b k x great lt = omega arith

    -- each gap of it fits, so that one is found where any is inspected
    found_some : found_in (bin_of g.size) depth need gs ≡ None → depth < 1
    found_some empty =
        elim (cases_lt depth 1) [
          | inl less ↦ less
          | inr one ↦
              let bin = bin_of g.size in
              let below = All-contains (λ h. h.address < 2 ^ 32) gs g bounded next.among in
              let there = first_of depth g (of_bin bin gs) one
              (Contains-passing (λ h. bin_of h.size == bin) gs g next.among
              (bin_here bin g refl)) in
              let small = All-head (λ h. h.size < need) there.0 there.1
              (subst (All (λ h. h.size < need)) there.2
              (none-large (λ (x : BinnedGap). x.size) need (take depth (of_bin bin gs))
              (first-none smaller
              (filter (λ h. nat_le need h.size) (take depth (of_bin bin gs)))
              (subst (λ o. IsNone o) (sym empty) refl)))) in
              let own = is_bin bin there.0
              (All-head (λ h. (bin_of h.size == bin) ≡ true) there.0 there.1
              (subst (All (λ h. (bin_of h.size == bin) ≡ true)) there.2
              (All-take (λ h. (bin_of h.size == bin) ≡ true) depth (of_bin bin gs)
              (filter_passes (λ h. bin_of h.size == bin) gs)))) in
              let low = bin_of-rises there.0.size need (omega (arith, small)) in
              let high = next_higher (bin_of need) bin g.address next.great below in
              absurd (omega (arith, own, low, high))
        ]

    found-none_next : found_in (bin_of g.size) depth need gs ≡ None
        → found_by Good depth need gs ≡ None
    found-none_next empty =
        ap (λ xs. first (takes_first Good) (filter (λ g. nat_le need g.size) xs))
        (ap (λ d. inspected_by Good d gs) (omega (arith, found_some empty)) ∙ inspected-none gs)

    pub found-next_bin : found_by Good depth need gs ≡ found_in (bin_of g.size) depth need gs
    found-next_bin = by_case (found_in (bin_of g.size) depth need gs) refl where
      by_case : (o : Option BinnedGap) → found_in (bin_of g.size) depth need gs ≡ o
          → found_by Good depth need gs ≡ found_in (bin_of g.size) depth need gs
      by_case None e = found-none_next e ∙ sym e
      by_case (Some x) e = found-lowest (bin_of g.size) x next_low e ∙ sym e
