-- The figures of carriers, after a change.
use Rattle.std.proofs.Common.{◌≡◌, ℕ, ◌+◌, ◌*◌, ◌%◌, ◌≤◌, List, [], ◌∷◌, length, All}
use Rattle.std.proofs.Common.{AllPairs, refl, sym, ap, ◌∙◌, subst, inl, inr, arith}
use Rattle.std.specs.Prelude.{Some, IsSome, sum_by}
use Rattle.std.proofs.lemmas.Bool.{cases_eq}
use Rattle.std.proofs.lemmas.List.{length-map}
use Rattle.std.proofs.lemmas.List.Elements.{All-weaker}
use Rattle.std.proofs.lemmas.List.Sums.{sum_by-cons, sum_by-le}
use Rattle.ea_model.specs.declared.carriers.BlockAt.{BlockAt}
use Rattle.ea_model.specs.declared.carriers.Candidate.{Candidate}
use Rattle.ea_model.specs.declared.carriers.Figures.{Figures}
use Rattle.ea_model.specs.declared.units.TheConstants.{MAX_SCHEDULERS, MAX_UNITS, NUMBERS}
use Rattle.ea_model.specs.Content.{Content, allocated, block_at, gap_at, gaps_of}
use Rattle.ea_model.specs.Content.{inserted, placed, released, resized, size_of, taken_of}
use Rattle.ea_model.specs.Instance.{changed, content_of, figures, with_content, without_content}
use Rattle.ea_model.specs.Keyed.{changed_at, item_at, without, IsBelow}
use Rattle.ea_model.proofs.Merged.{sum-merged}
use Rattle.ea_model.proofs.Options.{some_value}
use Rattle.ea_model.proofs.Pairs.{pairs_tail}
use Rattle.ea_model.proofs.Rising.{changed_here, changed_none, changed_past}
use Rattle.ea_model.proofs.Rising.{item_at-All, item_here, item_past, length-entered}
use Rattle.ea_model.proofs.Rising.{others, without_here, without_none, without_past}
use Rattle.ea_laws.specs.Kept.{number_of, HasOneBlock, IsLaidOut, IsLaidOutAlone, IsRising}
use Rattle.ea_laws.proofs.BlockLists.{offset_of, Tiled-rising}
use Rattle.ea_laws.proofs.Laid.{placed-IsLaidOut}
use Rattle.ea_laws.proofs.Tiling.{Ordered-allocated, Tiled-allocated, Tiled-length, one-Ordered}
use Rattle.ea_employed.specs.Laid.{AreLaid}
use Rattle.ea_employed.proofs.Changing.{IsPlacing, IsResizing}
use Rattle.ea_employed.specs.Counted.{with_block, with_carrier, with_whole}
use Rattle.ea_mbc.specs.declared.carrier.Placed.{Placed}
use Rattle.ea_mbc.specs.declared.carrier.Resized.{Resized}

sum-ones : {A : Type 0} (xs : List A) → sum_by (λ (x : A). 1) xs ≡ length xs
sum-ones [] = refl
sum-ones {A} (x ∷ xs) = omega (arith, sum_by-cons (λ (y : A). 1) x xs, sum-ones xs)

module _ {A : Type 0} (key_of : A → ℕ) (key : ℕ) (x : A) where
  found-here : (y : A) (ys : List A) → key_of y ≡ key → item_at key_of (y ∷ ys) key ≡ Some x
      → y ≡ x
  found-here y ys e there =
      let same : Some y ≡ Some x = sym (item_here key_of key y ys e) ∙ there in cc

  -- a sum over items without that of the key
  pub sum-without : (g : A → ℕ) (xs : List A) → AllPairs (IsBelow key_of) xs
      → item_at key_of xs key ≡ Some x → sum_by g (without key_of key xs) + g x ≡ sum_by g xs
  sum-without g [] rising there = absurd cc
  sum-without g (y ∷ ys) rising there =
      elim (cases_eq (key_of y) key) [
        | inl e ↦ omega (
          arith,
          ap (sum_by g) (without_here key_of key y ys e
              ∙ without_none key_of key ys (others key_of key y ys rising e)),
          sum_by-cons g y ys,
          ap g (found-here y ys e there),
        )
        | inr n ↦ omega (
          arith,
          ap (sum_by g) (without_past key_of key y ys n),
          sum_by-cons g y (without key_of key ys),
          sum_by-cons g y ys,
          sum-without g ys (pairs_tail (IsBelow key_of) y ys rising)
              (sym (item_past key_of key y ys n) ∙ there),
        )
      ]

  -- and over items where that of the key is changed
  pub sum-changed : (g : A → ℕ) (f : A → A) (xs : List A) → AllPairs (IsBelow key_of) xs
      → item_at key_of xs key ≡ Some x
      → sum_by g (changed_at key_of f key xs) + g x ≡ sum_by g xs + g (f x)
  sum-changed g f [] rising there = absurd cc
  sum-changed g f (y ∷ ys) rising there =
      elim (cases_eq (key_of y) key) [
        | inl e ↦ omega (
          arith,
          ap (sum_by g) (changed_here key_of f key y ys e),
          sum_by-cons g (f y) (changed_at key_of f key ys),
          ap (sum_by g) (changed_none key_of f key ys (others key_of key y ys rising e)),
          sum_by-cons g y ys,
          ap g (found-here y ys e there),
          ap (λ z. g (f z)) (found-here y ys e there),
        )
        | inr n ↦ omega (
          arith,
          ap (sum_by g) (changed_past key_of f key y ys n),
          sum_by-cons g y (changed_at key_of f key ys),
          sum_by-cons g y ys,
          sum-changed g f ys (pairs_tail (IsBelow key_of) y ys rising)
              (sym (item_past key_of key y ys n) ∙ there),
        )
      ]

  pub length-without : (xs : List A) → AllPairs (IsBelow key_of) xs
      → item_at key_of xs key ≡ Some x → length (without key_of key xs) + 1 ≡ length xs
  length-without xs rising there =
      omega (
        arith,
        sum-ones (without key_of key xs),
        sum-ones xs,
        sum-without (λ _. 1) xs rising there,
      )

pub sum-entered : (g : Content → ℕ) (x : Content) (cs : List Content)
    → sum_by g (with_content x cs) ≡ sum_by g cs + g x
sum-entered g x cs = omega (arith, sum-merged number_of g (x ∷ []) cs, sum_by-cons g x [])

same-figures : (f g : Figures) → f.blocks ≡ g.blocks → f.blocks_size ≡ g.blocks_size
    → f.carriers ≡ g.carriers → f.carriers_size ≡ g.carriers_size → f ≡ g
same-figures f g p q r s =
    ap (λ n. record f { blocks = n }) p
    ∙ ap (λ n. record f { blocks = g.blocks; blocks_size = n }) q
    ∙ ap (λ n. record g { carriers = n; carriers_size = f.carriers_size }) r
    ∙ ap (λ n. record g { carriers_size = n }) s

-- figures with a block more are the same only if those without it are
pub cancel-block : (size : ℕ) (f g : Figures) → with_block size f ≡ with_block size g → f ≡ g
cancel-block size f g e =
    same-figures f g (omega (arith, ap (λ (h : Figures). h.blocks) e))
    (omega (arith, ap (λ (h : Figures). h.blocks_size) e))
    (ap (λ (h : Figures). h.carriers) e) (ap (λ (h : Figures). h.carriers_size) e)

pub cancel-carrier : (units : ℕ) (f g : Figures) → with_carrier units f ≡ with_carrier units g
    → f ≡ g
cancel-carrier units f g e =
    same-figures f g (ap (λ (h : Figures). h.blocks) e) (ap (λ (h : Figures). h.blocks_size) e)
    (omega (arith, ap (λ (h : Figures). h.carriers) e))
    (omega (arith, ap (λ (h : Figures). h.carriers_size) e))

-- what is there can be taken away
pub within-block : (size : ℕ) (f g : Figures) → with_block size f ≡ g
    → (1 ≤ g.blocks) × (size ≤ g.blocks_size)
within-block size f g e = (
  omega (arith, ap (λ (h : Figures). h.blocks) e),
  omega (arith, ap (λ (h : Figures). h.blocks_size) e),
)

pub within-carrier : (units : ℕ) (f g : Figures) → with_carrier units f ≡ g
    → (1 ≤ g.carriers) × (units ≤ g.carriers_size)
within-carrier units f g e = (
  omega (arith, ap (λ (h : Figures). h.carriers) e),
  omega (arith, ap (λ (h : Figures). h.carriers_size) e),
)

abbrev pub blocks_in : Content → ℕ
blocks_in c = length c.blocks

abbrev pub allocated_in : Content → ℕ
allocated_in c = allocated c.blocks

abbrev pub units_in : Content → ℕ
units_in c = c.units

-- a carrier changes
module _ (n : ℕ) (c : Content) (cs : List Content) (rising : IsRising cs)
    (there : content_of cs n ≡ Some c) (f : Content → Content) where
  abbrev sums : (g : Content → ℕ) → sum_by g (changed f n cs) + g c ≡ sum_by g cs + g (f c)
  sums g = sum-changed number_of n c g f cs rising there

  same-count : length (changed f n cs) ≡ length cs
  same-count = length-map cs _

  -- it has a block more
  pub figures-more : (size : ℕ) → (f c).units ≡ c.units → blocks_in (f c) ≡ blocks_in c + 1
      → allocated_in (f c) ≡ allocated_in c + size
      → figures (changed f n cs) ≡ with_block size (figures cs)
  figures-more size same count sum =
      same-figures (figures (changed f n cs)) (with_block size (figures cs))
      (omega (arith, sums blocks_in, count)) (omega (arith, sums allocated_in, sum)) same-count
      (omega (arith, sums units_in, same))

  -- it has a block less
  pub figures-less : (size : ℕ) → (f c).units ≡ c.units → blocks_in c ≡ blocks_in (f c) + 1
      → allocated_in c ≡ allocated_in (f c) + size
      → with_block size (figures (changed f n cs)) ≡ figures cs
  figures-less size same count sum =
      same-figures (with_block size (figures (changed f n cs))) (figures cs)
      (omega (arith, sums blocks_in, count)) (omega (arith, sums allocated_in, sum)) same-count
      (omega (arith, sums units_in, same))

  -- one of its blocks has another size
  pub figures-size : (was size : ℕ) → (f c).units ≡ c.units → blocks_in (f c) ≡ blocks_in c
      → allocated_in (f c) + was ≡ allocated_in c + size
      → with_block was (figures (changed f n cs)) ≡ with_block size (figures cs)
  figures-size was size same count sum =
      same-figures (with_block was (figures (changed f n cs))) (with_block size (figures cs))
      (omega (arith, sums blocks_in, count)) (omega (arith, sums allocated_in, sum)) same-count
      (omega (arith, sums units_in, same))

sum-inserted : (x : BlockAt) (bs : List BlockAt) → allocated (inserted x bs) ≡ allocated bs + x.size
sum-inserted x bs =
    let size_in : BlockAt → ℕ = λ b. b.size in
    omega (arith, sum-merged offset_of size_in (x ∷ []) bs, sum_by-cons size_in x [])

-- a block is placed
pub figures-placed : (n : ℕ) (c : Content) (cs : List Content) (offset need name size : ℕ)
    → IsRising cs → content_of cs n ≡ Some c
    → size ≡ taken_of (gap_at (gaps_of c) offset) need
    → figures (changed (λ m. placed m offset need name) n cs) ≡ with_block size (figures cs)
figures-placed n c cs offset need name size rising there is =
    let x : BlockAt = record {
      name = name;
      offset = offset;
      size = taken_of (gap_at (gaps_of c) offset) need;
    } in
    figures-more n c cs rising there (λ m. placed m offset need name) size refl
    (length-entered offset_of x c.blocks) (omega (arith, sum-inserted x c.blocks, is))

module _ (n : ℕ) (c : Content) (cs : List Content) (offset was : ℕ) (laid : AreLaid cs)
    (there : content_of cs n ≡ Some c) (block : IsSome (block_at c.blocks offset))
    (is : was ≡ size_of (block_at c.blocks offset)) where
  abbrev sound : IsLaidOut c
  sound = item_at-All number_of IsLaidOut n c cs laid.sound there

  -- a block of a carrier of many is released
  pub figures-released : with_block was (figures (changed (λ m. released m offset) n cs))
      ≡ figures cs
  figures-released =
      let (b, at) = some_value (block_at c.blocks offset) block in
      let rising = Tiled-rising 8 c.units c.blocks sound.tiled in
      figures-less n c cs laid.rising there (λ m. released m offset) was refl
      (sym (length-without offset_of offset b c.blocks rising at))
      (omega (
        arith,
        sum-without offset_of offset b (λ x. x.size) c.blocks rising at,
        ap size_of at,
        is,
      ))

  -- or it has another size
  pub figures-resized : (units : Content → ℕ) (name : ℕ)
      → with_block was (figures (changed (λ m. resized m offset (units m) name) n cs))
      ≡ with_block (units c) (figures cs)
  figures-resized units name =
      let (b, at) = some_value (block_at c.blocks offset) block in
      let made : BlockAt → BlockAt = λ x. record {
        name = name;
        offset = x.offset;
        size = units c;
      } in
      figures-size n c cs laid.rising there (λ m. resized m offset (units m) name) was (units c)
      refl (length-map c.blocks _)
      (omega (
        arith,
        sum-changed offset_of offset b (λ x. x.size) made c.blocks
            (Tiled-rising 8 c.units c.blocks sound.tiled) at,
        ap size_of at,
        is,
      ))

-- a block with another name counts the same
pub figures-renamed : (n : ℕ) (c : Content) (cs : List Content) (offset name : ℕ) → AreLaid cs
    → content_of cs n ≡ Some c → IsSome (block_at c.blocks offset)
    → figures (changed (λ m. resized m offset (size_of (block_at m.blocks offset)) name) n cs)
    ≡ figures cs
figures-renamed n c cs offset name laid there block =
    let size : Content → ℕ = λ m. size_of (block_at m.blocks offset) in
    cancel-block (size c) _ (figures cs)
    (figures-resized n c cs offset (size c) laid there block refl size name)

-- a carrier comes
pub figures-entered : (x : Content) (cs : List Content) → x.blocks ≡ []
    → figures (with_content x cs) ≡ with_carrier x.units (figures cs)
figures-entered x cs none =
    same-figures (figures (with_content x cs)) (with_carrier x.units (figures cs))
    (omega (arith, sum-entered blocks_in x cs, ap length none))
    (omega (arith, sum-entered allocated_in x cs, ap allocated none))
    (length-entered number_of x cs) (omega (arith, sum-entered units_in x cs))

-- with its one block
pub figures-single : (x : Content) (cs : List Content) → blocks_in x ≡ 1
    → figures (with_content x cs)
    ≡ with_block (allocated_in x) (with_carrier x.units (figures cs))
figures-single x cs one =
    same-figures (figures (with_content x cs))
    (with_block (allocated_in x) (with_carrier x.units (figures cs)))
    (omega (arith, sum-entered blocks_in x cs, one)) (omega (arith, sum-entered allocated_in x cs))
    (length-entered number_of x cs) (omega (arith, sum-entered units_in x cs))

-- a carrier without blocks goes
pub figures-left : (n : ℕ) (x : Content) (cs : List Content) → IsRising cs
    → content_of cs n ≡ Some x → x.blocks ≡ []
    → with_carrier x.units (figures (without_content n cs)) ≡ figures cs
figures-left n x cs rising there none =
    same-figures (with_carrier x.units (figures (without_content n cs))) (figures cs)
    (omega (arith, sum-without number_of n x blocks_in cs rising there, ap length none))
    (omega (arith, sum-without number_of n x allocated_in cs rising there, ap allocated none))
    (length-without number_of n x cs rising there)
    (omega (arith, sum-without number_of n x units_in cs rising there))

-- a carrier comes with its blocks, or goes with them
pub figures-with : (x : Content) (cs : List Content) → figures (with_content x cs)
    ≡ with_whole (blocks_in x) (allocated_in x) x.units (figures cs)
figures-with x cs =
    same-figures (figures (with_content x cs))
    (with_whole (blocks_in x) (allocated_in x) x.units (figures cs))
    (sum-entered blocks_in x cs) (sum-entered allocated_in x cs) (length-entered number_of x cs)
    (sum-entered units_in x cs)

pub figures-without : (n : ℕ) (x : Content) (cs : List Content) → IsRising cs
    → content_of cs n ≡ Some x
    → with_whole (blocks_in x) (allocated_in x) x.units (figures (without_content n cs))
    ≡ figures cs
figures-without n x cs rising there =
    same-figures
    (with_whole (blocks_in x) (allocated_in x) x.units (figures (without_content n cs)))
    (figures cs) (sum-without number_of n x blocks_in cs rising there)
    (sum-without number_of n x allocated_in cs rising there)
    (length-without number_of n x cs rising there) (sum-without number_of n x units_in cs rising
    there)

pub cancel-whole : (blocks size units : ℕ) (f g : Figures)
    → with_whole blocks size units f ≡ with_whole blocks size units g → f ≡ g
cancel-whole blocks size units f g e =
    same-figures f g (omega (arith, ap (λ (h : Figures). h.blocks) e))
    (omega (arith, ap (λ (h : Figures). h.blocks_size) e))
    (omega (arith, ap (λ (h : Figures). h.carriers) e))
    (omega (arith, ap (λ (h : Figures). h.carriers_size) e))

-- what a carrier comes to is bounded
pub record IsBounded (c : Content) : Type 0 where
  pub blocks : blocks_in c ≤ MAX_UNITS
  pub sum : allocated_in c ≤ MAX_UNITS
  pub units : units_in c ≤ MAX_UNITS

pub laid-bounded : (c : Content) → IsLaidOut c → IsBounded c
laid-bounded c laid = record {
  blocks = omega (arith, Tiled-length 8 c.units c.blocks laid.tiled, laid.low);
  sum = omega (arith, Tiled-allocated 8 c.units c.blocks laid.tiled, laid.low);
  units = omega (arith, laid.low);
}

one-length : (units : ℕ) (bs : List BlockAt) → HasOneBlock units bs → length bs ≤ 1
one-length units [] h = omega arith
one-length units (b ∷ []) h = omega arith
one-length units (b ∷ d ∷ bs) h = absurd h

alone-bounded : (c : Content) → IsLaidOutAlone c → IsBounded c
alone-bounded c laid = record {
  blocks = omega (arith, one-length c.units c.blocks laid.block);
  sum = omega (
    arith,
    Ordered-allocated 8 c.units c.blocks
        (one-Ordered c.units c.blocks (omega (arith, laid.whole)) laid.block),
    laid.low,
  );
  units = omega (arith, laid.low);
}

-- and what a block that is placed has
pub placed-most : (need name : ℕ) (x : Candidate) (p : Placed) (cs new : List Content) → AreLaid cs
    → need % 2 ≡ 0 → 6 ≤ need → IsPlacing need name x p cs new → p.size ≤ MAX_UNITS
placed-most need name x p cs new laid even least w =
    let c = w.content in
    let here = item_at-All number_of IsLaidOut x.number c cs laid.sound w.there in
    let fits : need ≤ gap_at (gaps_of c) x.offset =
    subst (λ m. need ≤ m) (sym w.chosen.gap) w.chosen.fits in
    omega (
      arith,
      (laid-bounded (placed c x.offset need name)
          (placed-IsLaidOut c x.offset need name here fits least even)).sum,
      sum-inserted (record {
        name = name;
        offset = x.offset;
        size = taken_of (gap_at (gaps_of c) x.offset) need;
      }) c.blocks,
      w.size,
      ap (λ g. taken_of g need) w.chosen.gap,
    )

-- how many carriers there can be
abbrev pub MAX_CARRIERS : ℕ
MAX_CARRIERS = NUMBERS * MAX_SCHEDULERS

-- and so are the figures of so few carriers
pub record AreBounded (f : Figures) : Type 0 where
  pub blocks : f.blocks ≤ MAX_UNITS * MAX_CARRIERS
  pub blocks_size : f.blocks_size ≤ MAX_UNITS * MAX_CARRIERS
  pub carriers : f.carriers ≤ MAX_CARRIERS
  pub carriers_size : f.carriers_size ≤ MAX_UNITS * MAX_CARRIERS

figures-bounded : (cs : List Content) → All IsBounded cs → length cs ≤ MAX_CARRIERS
    → AreBounded (figures cs)
figures-bounded cs bounded few =
    let most : (g : Content → ℕ) → ((c : Content) → IsBounded c → g c ≤ MAX_UNITS)
    → sum_by g cs ≤ MAX_UNITS * MAX_CARRIERS = λ g each. omega (
      arith,
      few,
      sum_by-le g MAX_UNITS cs (All-weaker IsBounded (λ c. g c ≤ MAX_UNITS) each cs bounded),
    ) in
    record {
      blocks = most blocks_in (λ c b. b.blocks);
      blocks_size = most allocated_in (λ c b. b.sum);
      carriers = few;
      carriers_size = most units_in (λ c b. b.units);
    }

pub laid-figures : (cs : List Content) → AreLaid cs → length cs ≤ MAX_CARRIERS → AreBounded
    (figures cs)
laid-figures cs laid few = figures-bounded cs
    (All-weaker IsLaidOut IsBounded laid-bounded cs laid.sound) few

pub alone-figures : (cs : List Content) → All IsLaidOutAlone cs → length cs ≤ MAX_CARRIERS
    → AreBounded (figures cs)
alone-figures cs laid few = figures-bounded cs
    (All-weaker IsLaidOutAlone IsBounded alone-bounded cs laid) few

-- the one block of a singleblock carrier
pub one-block : (units offset : ℕ) (bs : List BlockAt) → HasOneBlock units bs
    → IsSome (block_at bs offset) → length bs ≡ 1
one-block units offset [] h some = absurd cc
one-block units offset (b ∷ []) h some = refl
one-block units offset (b ∷ d ∷ bs) h some = absurd h

module _ (number offset : ℕ) (units : Content → ℕ) (name address : ℕ) (r : Resized)
    (cs new : List Content) (laid : AreLaid cs)
    (w : IsResizing number offset units name address r cs new) (f : Figures) where
  -- the figures of the carriers where a block has another size
  pub resized-counted : (g : Figures) → f ≡ figures cs
      → with_block r.was g ≡ with_block r.size f → g ≡ figures new
  resized-counted g counted is =
      cancel-block r.was g (figures new)
      (is ∙ ap (with_block r.size) counted
      ∙ ap (λ s. with_block s (figures cs)) w.block.size
      ∙ sym (ap (λ xs. with_block r.was (figures xs)) w.is
      ∙ figures-resized number w.content cs offset r.was laid w.there w.block.block w.block.was
      units name))

  pub resized-within : f ≡ figures cs → r.was ≤ f.blocks_size
  resized-within counted =
      (within-block r.was _ f
      (figures-released number w.content cs offset r.was laid w.there w.block.block w.block.was
      ∙ sym counted)).1

module _ (n : ℕ) (x : Content) (cs : List Content) where
  -- the figures of the carriers without one that has no blocks
  pub left-counted : (new : List Content) (units : ℕ) (f g : Figures) → IsRising cs
      → content_of cs n ≡ Some x → x.blocks ≡ [] → new ≡ without_content n cs → units ≡ x.units
      → f ≡ figures cs → with_carrier units g ≡ f → g ≡ figures new
  left-counted new units f g rising there none gone same counted is =
      cancel-carrier units g (figures new)
      (is ∙ counted
      ∙ sym (ap (λ u. with_carrier u (figures new)) same
      ∙ ap (λ xs. with_carrier x.units (figures xs)) gone
      ∙ figures-left n x cs rising there none))

  pub left-within : (units : ℕ) (f : Figures) → IsRising cs → content_of cs n ≡ Some x
      → x.blocks ≡ [] → units ≡ x.units → f ≡ figures cs
      → (1 ≤ f.carriers) × (units ≤ f.carriers_size)
  left-within units f rising there none same counted =
      within-carrier units (figures (without_content n cs)) f
      (ap (λ u. with_carrier u (figures (without_content n cs))) same
      ∙ figures-left n x cs rising there none ∙ sym counted)

-- the figures of singleblock carriers where the block of one changes
module _ (n : ℕ) (x : Content) (cs : List Content) (rising : IsRising cs)
    (there : content_of cs n ≡ Some x) (laid : All IsLaidOutAlone cs) (offset was : ℕ)
    (block : IsSome (block_at x.blocks offset)) (is : was ≡ allocated_in x) where
  one : blocks_in x ≡ 1
  one = one-block x.units offset x.blocks
      (item_at-All number_of IsLaidOutAlone n x cs laid there).block block

  -- it goes
  pub single-released : (f : Content → Content) → (f x).units ≡ x.units → (f x).blocks ≡ []
      → with_block was (figures (changed f n cs)) ≡ figures cs
  single-released f same none =
      figures-less n x cs rising there f was same (omega (arith, one, ap length none))
      (omega (arith, is, ap allocated none))

  -- or it has another size
  pub single-resized : (f : Content → Content) (size : ℕ) → (f x).units ≡ x.units
      → blocks_in (f x) ≡ 1 → allocated_in (f x) ≡ size
      → with_block was (figures (changed f n cs)) ≡ with_block size (figures cs)
  single-resized f size same count sum =
      figures-size n x cs rising there f was size same (omega (arith, one, count))
      (omega (arith, is, sum))

  pub single-within : (f : Figures) → f ≡ figures cs → (1 ≤ f.blocks) × (was ≤ f.blocks_size)
  single-within f counted =
      within-block was _ f
      (single-released (λ m. record m { blocks = [] }) refl refl ∙ sym counted)
