-- Weights of contents: what each change of an instance makes of their sum, at most.
use Rattle.std.proofs.Common.{◌≡◌, ◌≢◌, ℕ, ◌+◌, ◌≤◌, List, [], ◌∷◌, refl, sym, ap, ◌∙◌, inl, inr}
use Rattle.std.proofs.Common.{arith, subst}
use Rattle.std.specs.Prelude.{Some, ◌==◌, if◌then◌else◌}
use Rattle.std.proofs.lemmas.Bool.{cases_eq}
use Rattle.ea_model.specs.declared.carriers.OwnCarrier.{OwnCarrier}
use Rattle.ea_model.specs.declared.carriers.Spot.{Spot}
use Rattle.ea_model.specs.declared.reallocation.Decision.{Decision}
use Rattle.ea_model.specs.declared.reallocation.Decision.TheVariants.{Stay, ShrinkHere, GrowHere}
use Rattle.ea_model.specs.declared.reallocation.Decision.TheVariants.{ShrinkCarrier, Move}
use Rattle.ea_model.specs.Content.{Content, placed, released, resized}
use Rattle.ea_model.specs.Employment.{dismissing}
use Rattle.ea_model.specs.Instance.{Instance, content_of, employed, placing_at}
use Rattle.ea_model.specs.Instance.{releasing_at, resized_by, resized_in, shortened}
use Rattle.ea_model.specs.Keyed.{changed_at, item_at, without}
use Rattle.ea_model.proofs.Rising.{changed_here, changed_past, item_here, item_past}
use Rattle.ea_model.proofs.Rising.{without_here}
use Rattle.ea_model.proofs.Rising.{without_past}
use Rattle.ea_laws.specs.Kept.{number_of, own_number}
use Rattle.ea_laws.proofs.Owned.{with_units}
use Rattle.ea_machine.specs.Sums.{sum_over}
use Rattle.ea_sound.specs.Blocks.{employed_sum}
use Rattle.ea_sound.proofs.KeyedWeights.{counts, counts-other, sum-merged, times}

-- a weight of contents that no change of blocks raises, where blocks are placed only in carriers of
-- the numbers `Places`, and only those of the numbers `Shortens` get fewer pages
pub record Weight : Type 1 where
  pub of : Content → ℕ
  pub Places : ℕ → Type 0
  pub Shortens : ℕ → Type 0
  pub release : (x : Content) (offset : ℕ) → of (released x offset) ≤ of x
  pub resize : (x : Content) (offset size name : ℕ) → of (resized x offset size name) ≤ of x
  pub place : (x : Content) (offset need name : ℕ) → Places x.number
      → of (placed x offset need name) ≤ of x
  pub shorten : (x : Content) (pages : ℕ) → Shortens x.number → of (with_units pages x) ≤ of x

module _ {A : Type 0} (key_of : A → ℕ) where
  -- a change of the items with a key that raises no weight
  module _ (g : A → A) (key : ℕ) (f : A → ℕ) where
    pub sum-changed_less : ((x : A) → key_of x ≡ key → f (g x) ≤ f x) → (xs : List A)
        → sum_over f (changed_at key_of g key xs) ≤ sum_over f xs
    sum-changed_less less [] = omega arith
    sum-changed_less less (x ∷ xs) = elim (cases_eq (key_of x) key) [
      | inl e ↦ omega (
        arith,
        ap (sum_over f) (changed_here key_of g key x xs e),
        less x e,
        sum-changed_less less xs,
      )
      | inr n ↦ omega (
        arith,
        ap (sum_over f) (changed_past key_of g key x xs n),
        sum-changed_less less xs,
      )
    ]

    pub sum-changed_same : ((x : A) → f (g x) ≡ f x) → (xs : List A)
        → sum_over f (changed_at key_of g key xs) ≡ sum_over f xs
    sum-changed_same same [] = refl
    sum-changed_same same (x ∷ xs) = elim (cases_eq (key_of x) key) [
      | inl e ↦ omega (
        arith,
        ap (sum_over f) (changed_here key_of g key x xs e),
        same x,
        sum-changed_same same xs,
      )
      | inr n ↦ omega (
        arith,
        ap (sum_over f) (changed_past key_of g key x xs n),
        sum-changed_same same xs,
      )
    ]

  -- the weight of items of other keys
  module _ (key : ℕ) (f : A → ℕ) where
    abbrev of_others : A → ℕ
    of_others x = if key_of x == key then 0 else f x

    others-here : (x : A) → key_of x ≡ key → of_others x ≡ 0
    others-here x e = grind (arith, e)

    others-past : (x : A) → key_of x ≢ key → of_others x ≡ f x
    others-past x n = grind (arith, n)

    others-less : (xs : List A) → sum_over of_others xs ≤ sum_over f xs
    others-less [] = omega arith
    others-less (x ∷ xs) = elim (cases_eq (key_of x) key) [
      | inl e ↦ omega (arith, others-here x e, others-less xs)
      | inr n ↦ omega (arith, others-past x n, others-less xs)
    ]

    sum-without_others : (xs : List A)
        → sum_over f (without key_of key xs) ≡ sum_over of_others xs
    sum-without_others [] = refl
    sum-without_others (x ∷ xs) = elim (cases_eq (key_of x) key) [
      | inl e ↦ omega (
        arith,
        ap (sum_over f) (without_here key_of key x xs e),
        others-here x e,
        sum-without_others xs,
      )
      | inr n ↦ omega (
        arith,
        ap (sum_over f) (without_past key_of key x xs n),
        others-past x n,
        sum-without_others xs,
      )
    ]

    first-found : (x y : A) (ys : List A) → key_of y ≡ key
        → item_at key_of (y ∷ ys) key ≡ Some x → y ≡ x
    first-found x y ys e there =
        let same : Some y ≡ Some x = sym (item_here key_of key y ys e) ∙ there in cc

    -- with an item that is found they weigh no more than all
    found-others : (x : A) (xs : List A) → item_at key_of xs key ≡ Some x
        → f x + sum_over of_others xs ≤ sum_over f xs
    found-others x [] there = absurd cc
    found-others x (y ∷ ys) there = elim (cases_eq (key_of y) key) [
      | inl e ↦ omega (
        arith,
        ap f (first-found x y ys e there),
        others-here y e,
        others-less ys,
      )
      | inr n ↦ omega (
        arith,
        others-past y n,
        found-others x ys (sym (item_past key_of key y ys n) ∙ there),
      )
    ]

-- how many own carriers of an instance have the number
abbrev pub own_times : ℕ → Instance → ℕ
own_times c i = times own_number c i.own

-- a carrier that leaves the instance
pub dismissed-weighs : (f : Content → ℕ) (i : Instance) (n : ℕ) (x : Content)
    → content_of (employed i) n ≡ Some x
    → f x + employed_sum f (dismissing i n) ≤ employed_sum f i
dismissed-weighs f i n x there = omega (
  arith,
  found-others number_of n f x (employed i) there,
  sum-merged number_of f i.contents i.singles,
  sum-merged number_of (of_others number_of n f) i.contents i.singles,
  sum-without_others number_of n f i.contents,
  sum-without_others number_of n f i.singles,
)

-- another own carrier is one still once one is deallocated
pub own-stays : (c n : ℕ) (os : List OwnCarrier) → c ≢ n
    → times own_number c (without own_number n os) ≡ times own_number c os
own-stays c n [] other = refl
own-stays c n (o ∷ os) other = elim (cases_eq o.number n) [
  | inl e ↦ omega (
    arith,
    ap (times own_number c) (without_here own_number n o os e),
    counts-other own_number c o (λ q. other (sym q ∙ e)),
    own-stays c n os other,
  )
  | inr d ↦ omega (
    arith,
    ap (times own_number c) (without_past own_number n o os d),
    own-stays c n os other,
  )
]

module _ (f : Weight) where
  -- a block is released, or is placed
  pub releasing-weighs : (i : Instance) (spot : Spot)
      → employed_sum f.of (releasing_at i spot) ≤ employed_sum f.of i
  releasing-weighs i spot =
      let g : Content → Content = λ x. released x spot.offset in
      omega (
        arith,
        sum-changed_less number_of g spot.carrier f.of (λ x e. f.release x spot.offset) i.contents,
        sum-changed_less number_of g spot.carrier f.of (λ x e. f.release x spot.offset) i.singles,
      )

  pub placing-weighs : (i : Instance) (spot : Spot) (need name : ℕ) → f.Places spot.carrier
      → employed_sum f.of (placing_at i spot need name) ≤ employed_sum f.of i
  placing-weighs i spot need name places =
      let g : Content → Content = λ x. placed x spot.offset need name in
      omega (
        arith,
        sum-changed_less number_of g spot.carrier f.of
            (λ x e. f.place x spot.offset need name (subst f.Places (sym e) places)) i.contents,
      )

  -- one gets other units in its place, and its carrier perhaps fewer pages
  resized-weighs : (i : Instance) (spot : Spot) (size name : ℕ)
      → employed_sum f.of (resized_in i spot size name) ≤ employed_sum f.of i
  resized-weighs i spot size name =
      let g : Content → Content = λ x. resized x spot.offset size name in
      omega (
        arith,
        sum-changed_less number_of g spot.carrier f.of
            (λ x e. f.resize x spot.offset size name) i.contents,
        sum-changed_less number_of g spot.carrier f.of
            (λ x e. f.resize x spot.offset size name) i.singles,
      )

  shortened-weighs : (i : Instance) (n pages : ℕ) → f.Shortens n
      → employed_sum f.of (shortened i n pages) ≤ employed_sum f.of i
  shortened-weighs i n pages shortens = omega (
    arith,
    sum-changed_less number_of (with_units pages) n f.of
        (λ x e. f.shorten x pages (subst f.Shortens (sym e) shortens)) i.singles,
  )

  pub resizing-weighs : (d : Decision) (i : Instance) (spot : Spot) (size name : ℕ)
      → f.Shortens spot.carrier
      → employed_sum f.of (resized_by d i spot size name) ≤ employed_sum f.of i
  resizing-weighs Stay i spot size name h = resized-weighs i spot size name
  resizing-weighs ShrinkHere i spot size name h = resized-weighs i spot size name
  resizing-weighs GrowHere i spot size name h = resized-weighs i spot size name
  resizing-weighs (ShrinkCarrier pages) i spot size name h = omega (
    arith,
    shortened-weighs (resized_in i spot size name) spot.carrier pages h,
    resized-weighs i spot size name,
  )
  resizing-weighs Move i spot size name h = omega arith

-- own carriers keep their numbers
pub resizing-owns : (c : ℕ) (d : Decision) (i : Instance) (spot : Spot) (size name : ℕ)
    → own_times c (resized_by d i spot size name) ≡ own_times c i
resizing-owns c Stay i spot size name = refl
resizing-owns c ShrinkHere i spot size name = refl
resizing-owns c GrowHere i spot size name = refl
resizing-owns c (ShrinkCarrier pages) i spot size name =
    sum-changed_same own_number (λ o. record o { pages = pages }) spot.carrier
    (counts own_number c) (λ o. refl) i.own
resizing-owns c Move i spot size name = refl

-- nor does it create one
pub resizing-created : (d : Decision) (i : Instance) (spot : Spot) (size name : ℕ)
    → (resized_by d i spot size name).created ≡ i.created
resizing-created Stay i spot size name = refl
resizing-created ShrinkHere i spot size name = refl
resizing-created GrowHere i spot size name = refl
resizing-created (ShrinkCarrier pages) i spot size name = refl
resizing-created Move i spot size name = refl
