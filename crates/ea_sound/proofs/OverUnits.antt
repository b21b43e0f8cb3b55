-- Blocks have units of their own, and keep them.
use Rattle.std.proofs.Common.{◌≡◌, ◌≢◌, ◌⊎◌, ℕ, suc, ◌+◌, ◌-◌, ◌*◌, ◌/◌, ◌<◌, ◌≤◌, List, []}
use Rattle.std.proofs.Common.{◌∷◌, refl, sym, ap, ◌∙◌, inl, inr, Bool, true, false}
use Rattle.std.proofs.Common.{arith, ◌%◌, ◌&&◌, if◌then◌else◌, mul-le-mul_right, suc-mul}
use Rattle.std.specs.Prelude.{◌==◌}
use Rattle.std.proofs.lemmas.Bool.{cases_eq, cases_lt}
use Rattle.std.proofs.lemmas.List.Elements.{All-head}
use Rattle.ea_model.specs.Content.{Content}
use Rattle.ea_model.specs.declared.carriers.BlockAt.{BlockAt}
use Rattle.ea_model.specs.declared.carriers.Extent.{Extent}
use Rattle.ea_laws.specs.InOrder.{ExtentsApart}
use Rattle.ea_laws.proofs.Extents.{IsWithin, blocks_within}
use Rattle.ea_laws.proofs.Tiling.{Ordered, Tiled-Ordered, one-Ordered}
use Rattle.ea_machine.specs.Machine.{run}
use Rattle.ea_machine.specs.Setup.{Setup}
use Rattle.ea_machine.specs.State.{State}
use Rattle.ea_machine.specs.Sums.{one_if, sum_over}
use Rattle.ea_sound.specs.Contents.{sum_everywhere}
use Rattle.ea_sound.specs.Names.{allocated, only}
use Rattle.ea_sound.specs.Over.{HadUnits, KeepsUnits, LieApart, LiesOver, blocks_over, is_over}
use Rattle.ea_sound.specs.Over.{units_if, units_named}
use Rattle.ea_sound.specs.Places.{none}
use Rattle.ea_sound.specs.Present.{Rule}
use Rattle.ea_sound.specs.Ranges.{IsLaidOutAsKind}
use Rattle.ea_sound.specs.Rule.{Belongs, Kept}
use Rattle.ea_sound.proofs.ActorWeights.{everywhere-less}
use Rattle.ea_sound.proofs.Anywhere.{everywhere}
use Rattle.ea_sound.proofs.Counted.{Counts, counts-only}
use Rattle.ea_sound.proofs.Fading.{stays-gone}
use Rattle.ea_sound.proofs.FewBlocks.{Counting, all_of, blocks_named}
use Rattle.ea_sound.proofs.SoundOwners.{number-once}
use Rattle.ea_sound.proofs.SoundRanges.{apart, is-owned}
use Rattle.ea_sound.proofs.Created.{scheduler-number}
use Rattle.ea_sound.proofs.SumParts.{AreParts, sum-nothing, sum-parts}
use Rattle.ea_sound.proofs.Weights.{sum-both, sum-less, sum-none}

-- the block of the name with these units
abbrev over : ℕ → Extent → ℕ → BlockAt → ℕ
over n r base b = one_if (is_over n r base b)

over-small : (n : ℕ) (r : Extent) (base : ℕ) (b : BlockAt) → over n r base b ≤ one_if (b.name == n)
over-small n r base b = grind arith

abbrev overing : ℕ → Extent → Counting
overing n r = record {
  name = n;
  counts = λ number base b. over n r base b;
  small = λ number base b. over-small n r base b;
}

module _ (n : ℕ) where
  -- no block has two extents
  abbrev AreTwo : Extent → Extent → Type 0
  AreTwo r q = (base : ℕ) (b : BlockAt) → over n r base b + over n q base b ≤ one_if (b.name == n)

  other-firsts : (r q : Extent) → r.first ≢ q.first → AreTwo r q
  other-firsts r q other base b = firsts (512 * base + b.offset) where
    firsts : (at : ℕ)
        → one_if ((b.name == n) && ((at == r.first) && (b.size == r.units)))
        + one_if ((b.name == n) && ((at == q.first) && (b.size == q.units)))
        ≤ one_if (b.name == n)
    firsts at = grind (arith, other)

  other-units : (r q : Extent) → r.units ≢ q.units → AreTwo r q
  other-units r q other base b = grind (arith, other)

same-extent : (r q : Extent) → r.first ≡ q.first → r.units ≡ q.units → r ≡ q
same-extent r q first units =
    ap (λ m. record { first = m; units = r.units }) first
    ∙ ap (λ m. record { first = q.first; units = m }) units

module _ (e : Setup) where
  -- the blocks of a name at two extents are not more than all of the name
  both-named : (n : ℕ) (r q : Extent) → AreTwo n r q → (w : State) → Kept e w
      → sum_everywhere e (blocks_named (overing n r)) w
      + sum_everywhere e (blocks_named (overing n q)) w
      ≤ sum_everywhere e (blocks_named (all_of n)) w
  both-named n r q two w k =
      let f = blocks_named (overing n r) in
      let g = blocks_named (overing n q) in
      let at : ℕ → BlockAt → ℕ = λ base b. over n r base b + over n q base b in
      let both : Content → ℕ = λ x. sum_over (at x.base) x.blocks in
      omega (
        arith,
        sum-parts f g none both e w
            (everywhere e w k (AreParts f g none both) (λ i x b l c. omega
            (arith, sum-both (over n r x.base) (over n q x.base) x.blocks))),
        sum-nothing e w k none (λ x. refl),
        everywhere-less both (blocks_named (all_of n))
            (λ x. sum-less (at x.base) ((all_of n).counts x.number x.base) x.blocks
            (λ i d within. two x.base _)) e w,
      )

  one-by : (n : ℕ) (r q : Extent) → (AreTwo n r q → ⊥) → r ≡ q
  one-by n r q not-two = elim (cases_eq r.first q.first) [
    | inr other ↦ absurd (not-two (other-firsts n r q other))
    | inl first ↦ elim (cases_eq r.units q.units) [
      | inr other ↦ absurd (not-two (other-units n r q other))
      | inl units ↦ same-extent r q first units
    ]
  ]

  module _ (rules : (L : List ℕ) → Rule e (run e L)) where
    pub had-units : HadUnits e
    had-units n r L M never lies =
        elim (cases_lt 0 (blocks_over e n r (run e L))) [
          | inl some ↦ some
          | inr none ↦ absurd
              (omega (arith, lies, stays-gone e rules (overing n r) L M (omega (arith, none)) never))
        ]

    pub keeps-units : KeepsUnits e
    keeps-units n r q L M first next = one-by n q r (λ two.
        let small = both-named n q r two (run e L) (rules L).kept in
        let once = (rules L).present.later n in
        absurd (omega (
          arith,
          next,
          first,
          stays-gone e rules (overing n q) L M
              (omega (arith, first, small, once)) (omega (arith, first, small, once)),
        )))

-- blocks of one carrier

ordered : (x : Content) → IsLaidOutAsKind x → Ordered 8 x.units x.blocks
ordered x laid = elim laid [
  | inl many ↦ Tiled-Ordered 8 x.units x.blocks many.tiled
  | inr one ↦ one-Ordered x.units x.blocks (omega (arith, one.whole.1)) one.block
]

-- the block of a name with these units is one of a list
pub record IsOne (n : ℕ) (r : Extent) (base at end : ℕ) : Type 0 where
  pub block : BlockAt
  pub name : block.name ≡ n
  pub first : 512 * base + block.offset ≡ r.first
  pub units : block.size ≡ r.units
  pub some : 0 < block.size
  pub low : at ≤ block.offset
  pub high : block.offset + block.size ≤ end

over-cases : (n : ℕ) (r : Extent) (base : ℕ) (b : BlockAt)
    → ((b.name ≡ n) × (512 * base + b.offset ≡ r.first) × (b.size ≡ r.units))
    ⊎ (over n r base b ≡ 0)
over-cases n r base b = by (512 * base + b.offset) where
  by : (at : ℕ) → ((b.name ≡ n) × (at ≡ r.first) × (b.size ≡ r.units))
      ⊎ (one_if ((b.name == n) && ((at == r.first) && (b.size == r.units))) ≡ 0)
  by at = grind arith

find-one : (n : ℕ) (r : Extent) (base at end : ℕ) (bs : List BlockAt) → Ordered at end bs
    → 0 < sum_over (over n r base) bs → IsOne n r base at end
find-one n r base at end [] t some = absurd (omega (arith, some))
find-one n r base at end (b ∷ bs) t some = elim (over-cases n r base b) [
  | inl is ↦
      let inside = All-head (IsWithin at end) b bs (blocks_within at end (b ∷ bs) t) in
      record {
        block = b;
        name = is.0;
        first = is.1;
        units = is.2;
        some = t.1;
        low = inside.0;
        high = inside.1;
      }
  | inr none ↦
      let later = find-one n r base (b.offset + b.size) end bs t.2
      (omega (arith, some, none)) in
      record {
        block = later.block;
        name = later.name;
        first = later.first;
        units = later.units;
        some = later.some;
        low = omega (arith, t.0, later.low);
        high = later.high;
      }
]

-- where a block has the name and no other one has, its units are those of the name
abbrev sized : ℕ → BlockAt → ℕ
sized n b = units_if (b.name == n) b.size

sized-none : (n : ℕ) (b : BlockAt) → one_if (b.name == n) ≡ 0 → sized n b ≡ 0
sized-none n b none = by (b.name == n) none where
  by : (t : Bool) → one_if t ≡ 0 → units_if t b.size ≡ 0
  by true none = absurd (omega (arith, none))
  by false none = refl

sized-here : (n : ℕ) (b : BlockAt) → b.name ≡ n → sized n b ≡ b.size
sized-here n b is = by (b.name == n) (grind (arith, is)) where
  by : (t : Bool) → t ≡ true → units_if t b.size ≡ b.size
  by true t = refl
  by false t = absurd cc

sized-in : (n : ℕ) (r : Extent) (base : ℕ) (bs : List BlockAt) → 0 < sum_over (over n r base) bs
    → sum_over (λ b. one_if (b.name == n)) bs ≤ 1 → sum_over (sized n) bs ≡ r.units
sized-in n r base [] some once = absurd (omega (arith, some))
sized-in n r base (b ∷ bs) some once = elim (over-cases n r base b) [
  | inl is ↦
      let this : one_if (b.name == n) ≡ 1 = let name = is.0 in grind (arith, name) in
      omega (
        arith,
        is.2,
        sized-here n b is.0,
        sum-none (λ (c : BlockAt). one_if (c.name == n)) (sized n) bs (sized-none n)
            (omega (arith, once, this)),
      )
  | inr none ↦
      let later : 0 < sum_over (over n r base) bs = omega (arith, some, none) in
      let few : sum_over (over n r base) bs ≤ sum_over (λ c. one_if (c.name == n)) bs =
      sum-less (over n r base) (λ (c : BlockAt). one_if (c.name == n)) bs
      (λ i d within. over-small n r base _) in
      omega (
        arith,
        sized-none n b (omega (arith, once, later, few)),
        sized-in n r base bs later (omega (arith, once)),
      )
]

-- blocks of two names in one carrier
apart-in : (n m : ℕ) (r q : Extent) (base at end : ℕ) (bs : List BlockAt) → n ≢ m
    → Ordered at end bs → 0 < sum_over (over n r base) bs → 0 < sum_over (over m q base) bs
    → ExtentsApart r q
apart-in n m r q base at end [] differ t some other = absurd (omega (arith, some))
apart-in n m r q base at end (b ∷ bs) differ t some other = elim (over-cases n r base b) [
  | inl is ↦ elim (over-cases m q base b) [
    | inl too ↦ absurd (differ (sym is.0 ∙ too.0))
    | inr never ↦
        let d = find-one m q base (b.offset + b.size) end bs t.2 (omega (arith, other, never)) in
        inl (omega (arith, is.1, is.2, d.first, d.low))
  ]
  | inr not ↦ elim (over-cases m q base b) [
    | inl too ↦
        let d = find-one n r base (b.offset + b.size) end bs t.2 (omega (arith, some, not)) in
        inr (omega (arith, too.1, too.2, d.first, d.low))
    | inr never ↦ apart-in n m r q base (b.offset + b.size) end bs differ t.2
        (omega (arith, some, not)) (omega (arith, other, never))
  ]
]

module _ (e : Setup) (w : State) (k : Kept e w) where
  abbrev in_content : ℕ → Extent → Content → ℕ
  in_content n r x = sum_over (over n r x.base) x.blocks

  -- some content has something of what all have
  pub by-content : (f : Content → ℕ) → 0 < sum_everywhere e f w
      → ((i : ℕ) (x : Content) → Belongs e i x → IsLaidOutAsKind x → Counts e w x → 0 < f x → ⊥) → ⊥
  by-content f some not =
      let parts = everywhere e w k (AreParts f none none none) (λ i x b l c.
      nothing (f x) (not i x b l c)) in
      omega (arith, some, sum-parts f none none none e w parts, sum-nothing e w k none (λ x. refl))
    where
      nothing : (n : ℕ) → (0 < n → ⊥) → n + 0 + 0 ≡ 0
      nothing n never = elim (cases_lt 0 n) [ inl some ↦ absurd (never some) | inr le ↦ omega (arith, le) ]

  -- what f gives for the contents of a number, and for the others

  abbrev numbered : (Content → ℕ) → ℕ → Content → ℕ
  numbered f c x = if x.number == c then f x else 0

  abbrev unnumbered : (Content → ℕ) → ℕ → Content → ℕ
  unnumbered f c x = if x.number == c then 0 else f x

  numbered-here : (f : Content → ℕ) (c : ℕ) (x : Content) → x.number ≡ c → numbered f c x ≡ f x
  numbered-here f c x same = of (f x) same where
    of : (n : ℕ) → x.number ≡ c → (if x.number == c then n else 0) ≡ n
    of n same = grind (arith, same)

  numbered-other : (f : Content → ℕ) (c : ℕ) (x : Content) → x.number ≢ c → numbered f c x ≡ 0
  numbered-other f c x other = of (f x) other where
    of : (n : ℕ) → x.number ≢ c → (if x.number == c then n else 0) ≡ 0
    of n other = grind (arith, other)

  unnumbered-some : (f : Content → ℕ) (c : ℕ) (x : Content) → 0 < unnumbered f c x
      → (x.number ≢ c) × (0 < f x)
  unnumbered-some f c x some = of (f x) some where
    of : (n : ℕ) → 0 < (if x.number == c then 0 else n) → (x.number ≢ c) × (0 < n)
    of n some = grind (arith, some)

  both-numbered : (f : Content → ℕ) (c : ℕ) (x : Content)
      → numbered f c x + unnumbered f c x + 0 ≡ f x
  both-numbered f c x = of (f x) where
    of : (n : ℕ) → (if x.number == c then n else 0) + (if x.number == c then 0 else n) + 0 ≡ n
    of n = grind arith

  -- two blocks in carriers of different numbers
  apart-across : (n m : ℕ) (r q : Extent) (i j : ℕ) (x y : Content) → Belongs e i x → Belongs e j y
      → IsLaidOutAsKind x → IsLaidOutAsKind y → Counts e w x → Counts e w y → x.number ≢ y.number
      → 0 < in_content n r x → 0 < in_content m q y → ExtentsApart r q
  apart-across n m r q i j x y bx by lx ly cx cy differ some other =
      let b = find-one n r x.base 8 x.units x.blocks (ordered x lx) some in
      let d = find-one m q y.base 8 y.units y.blocks (ordered y ly) other in
      elim (apart e w k x y (is-owned e w k i x bx lx cx) (is-owned e w k j y by ly cy) differ) [
        | inl le ↦ inl (omega (arith, le, b.first, b.units, b.high, d.first))
        | inr le ↦ inr (omega (arith, le, d.first, d.units, d.high, b.first))
      ]

  overlap : (r q : Extent) → ExtentsApart r q
      ⊎ ((q.first < r.first + r.units) × (r.first < q.first + q.units))
  overlap r q = elim (cases_lt q.first (r.first + r.units)) [
    | inr le ↦ inl (inl le)
    | inl less ↦ elim (cases_lt r.first (q.first + q.units)) [
      | inr le ↦ inl (inr le)
      | inl also ↦ inr (less, also)
    ]
  ]

  lie-apart-in : (n m : ℕ) (r q : Extent) → n ≢ m → LiesOver e n r w → LiesOver e m q w
      → (ExtentsApart r q → ⊥) → ⊥
  lie-apart-in n m r q differ lies too never =
      let g = in_content m q in
      by-content (in_content n r) lies (λ i x b l c some.
      let once = counts-only e w x c (number-once e w k x.number) (numbered g x.number)
      (λ y other. numbered-other g x.number y other) in
      let others : sum_everywhere e (unnumbered g x.number) w ≡ 0 =
      elim (cases_lt 0 (sum_everywhere e (unnumbered g x.number) w)) [
        | inr le ↦ omega (arith, le)
        | inl more ↦ absurd (by-content (unnumbered g x.number) more (λ j y d l' c' other.
            let (away, has) = unnumbered-some g x.number y other in
            never (apart-across n m r q i j x y b d l l' c c' (λ s. away (sym s)) some has)))
      ] in
      let parts = everywhere e w k
      (AreParts (numbered g x.number) (unnumbered g x.number) none g)
      (λ j y d l' c'. both-numbered g x.number y) in
      let here : 0 < g x = omega (
        arith,
        too,
        sum-parts (numbered g x.number) (unnumbered g x.number) none g e w parts,
        sum-nothing e w k none (λ y. refl),
        once,
        others,
        numbered-here g x.number x refl,
      ) in
      never (apart-in n m r q x.base 8 x.units x.blocks differ (ordered x l) some here))

  last-page : (owner n p : ℕ) → 1 ≤ owner → owner ≤ n → (owner - 1) * p + p ≤ n * p
  last-page owner n p low high =
      let le : suc (owner - 1) * p ≤ n * p = mul-le-mul_right p (omega (arith, low, high)) in
      omega (arith, le, suc-mul (owner - 1) p)

  ends-in : (base units pages last : ℕ) → units % 512 ≡ 0 → base + units / 512 ≤ last
      → 512 * base + units ≤ 512 * last
  ends-in base units pages last whole high = omega (arith, whole, high)

  pub lie-apart : LieApart e w
  lie-apart = record {
    apart = λ n m r q differ lies too. elim (overlap r q) [
      | inl away ↦ away
      | inr both ↦ absurd (lie-apart-in n m r q differ lies too (λ away. elim away
          [ inl le ↦ omega (arith, le, both.0) | inr le ↦ omega (arith, le, both.1) ]))
    ];
    one = λ n r q lies too. one-by e n r q (λ two. omega (
      arith,
      lies,
      too,
      both-named e n r q two w k,
      k.names.once n,
      named-allocated n,
    ));
    sized = λ n r lies. elim (cases_eq (units_named e n w) r.units) [
      | inl same ↦ same
      | inr other ↦ absurd (by-content (in_content n r) lies (λ i x b l c has.
          let named = blocks_named (all_of n) in
          let once = k.names.once n in
          let few = sum-less (over n r x.base) (λ (d : BlockAt). one_if (d.name == n)) x.blocks
          (λ j d within. over-small n r x.base _) in
          let whole = c.whole named in
          let none = c.counted named (λ y. sum_over (sized n) y.blocks)
          (λ y zero. sum-none (λ (d : BlockAt). one_if (d.name == n)) (sized n) y.blocks
          (sized-none n) zero)
          (omega (arith, once, whole, named-allocated n, has, few)) in
          other (omega (
            arith,
            c.whole (λ y. sum_over (sized n) y.blocks),
            none,
            sized-in n r x.base x.blocks has (omega (arith, once, whole, named-allocated n)),
          ))))
    ];
    some = λ n r lies. elim (cases_lt 0 r.units) [
      | inl some ↦ some
      | inr none ↦ absurd (by-content (in_content n r) lies (λ i x b l c has.
          let d = find-one n r x.base 8 x.units x.blocks (ordered x l) has in
          omega (arith, none, d.units, d.some)))
    ];
    within = λ n r lies. elim (cases_lt (512 * (e.schedulers * e.pages)) (r.first + r.units)) [
      | inr le ↦ le
      | inl past ↦ absurd (by-content (in_content n r) lies (λ i x b l c has.
          let d = find-one n r x.base 8 x.units x.blocks (ordered x l) has in
          let o = is-owned e w k i x b l c in
          let s = scheduler-number e x.owner o.scheduler in
          omega (
            arith,
            past,
            d.first,
            d.units,
            d.high,
            ends-in x.base x.units e.pages (e.schedulers * e.pages) o.whole.0
                (omega (arith, o.high, last-page x.owner e.schedulers e.pages s.0 s.1)),
          )))
    ];
  } where
    named-allocated : (n : ℕ) → sum_everywhere e (blocks_named (all_of n)) w
        ≡ allocated e (only n) w
    named-allocated n = refl
