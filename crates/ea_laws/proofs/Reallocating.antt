-- What a reallocation in place keeps, and what it changes.
use Rattle.std.proofs.Common.{◌≡◌, ◌≢◌, ℕ, ◌+◌, ◌*◌, ◌%◌, ◌/◌, ◌<◌, ◌≤◌, List, AllPairs}
use Rattle.std.proofs.Common.{get_or, sym, ap, ◌∙◌, subst, refl, inl, inr, arith}
use Rattle.std.specs.Prelude.{Option, Some, None, IsSome, option_map, ◌==◌}
use Rattle.std.proofs.lemmas.Bool.{cases_eq, cond_both, cond-false, cond-true}
use Rattle.std.proofs.lemmas.List.Elements.{All-map, All-weaker}
use Rattle.ea_model.specs.declared.carriers.OwnCarrier.{OwnCarrier}
use Rattle.ea_model.specs.declared.carriers.BlockAt.{BlockAt}
use Rattle.ea_model.specs.declared.carriers.Spot.{Spot}
use Rattle.ea_model.specs.declared.reallocation.Decision.{Decision}
use Rattle.ea_model.specs.declared.reallocation.Decision.TheVariants.{Stay, ShrinkHere, GrowHere}
use Rattle.ea_model.specs.declared.reallocation.Decision.TheVariants.{ShrinkCarrier, Move}
use Rattle.ea_model.specs.declared.reallocation.Where.TheVariants.{Multi, Single}
use Rattle.ea_model.specs.Content.{Content, block_at, gap_behind, resized, size_of}
use Rattle.ea_model.specs.Decision.{decision, size_after}
use Rattle.ea_model.specs.Instance.{Instance, block_in, changed, content_of, decision_at, employed}
use Rattle.ea_model.specs.Instance.{own_at, own_of, resized_by, resized_in, resized_to, resizing_at}
use Rattle.ea_model.specs.Instance.{shortened, size_at, where_at, where_in}
use Rattle.ea_model.specs.Keyed.{has_key}
use Rattle.ea_model.specs.Units.{pages_for}
use Rattle.ea_model.proofs.Merged.{merged-apart, merged-second}
use Rattle.ea_model.proofs.Options.{same-some, some_value}
use Rattle.ea_model.proofs.Rising.{change, changed-found, changed-other, item_at-All}
use Rattle.ea_model.proofs.Rising.{item_at-changed, item_at-key, none-other}
use Rattle.ea_laws.specs.Kept.{number_of, own_number, ContentsApart, HasOneBlock, IsLaidOut}
use Rattle.ea_laws.specs.Kept.{IsLaidOutAlone, IsOwn, Stands}
use Rattle.ea_laws.specs.Spots.{HaveSameBlocks, IsOther}
use Rattle.ea_laws.proofs.Apart.{altered, apart-lessened, only-item}
use Rattle.ea_laws.proofs.CarrierSegments.{with_pages}
use Rattle.ea_laws.proofs.Changed.{KeepsPlace, block_in-here, block_in-others, resized-keeps}
use Rattle.ea_laws.proofs.Contents.{block_among}
use Rattle.ea_laws.proofs.Employed.{employed-changed, employed-shortened}
use Rattle.ea_laws.proofs.Owned.{with_units}
use Rattle.ea_laws.proofs.Resized.{resized-begins, resized-others}
use Rattle.ea_laws.proofs.Orderly.{shortened-IsOrderly}
use Rattle.ea_laws.proofs.Resizing.{content_after, InMulti, InSingle, in_multi, in_single}
use Rattle.ea_laws.proofs.Resizing.{one_resized, resized-IsLaidOut, shortened-alone, single-resized}
use Rattle.ea_laws.proofs.Standing.{all-own, all-someones, changing-Stands, employed-multi}
use Rattle.ea_laws.proofs.Standing.{employed-rising, resized_more-Stands, single-own}

-- a singleblock carrier that still holds its block has fewer pages
module _ (i : Instance) (number pages : ℕ) (c : Content) (st : Stands i)
    (others : content_of i.contents number ≡ None) (there : content_of i.singles number ≡ Some c)
    (some : 1 ≤ pages) (fewer : 512 * pages < c.units)
    (holds : HasOneBlock (512 * pages) c.blocks) where
  alone_in : IsLaidOutAlone c
  alone_in = item_at-All number_of IsLaidOutAlone number c i.singles st.orderly.alone there

  employed_in : content_of (employed i) number ≡ Some c
  employed_in = merged-second number_of number i.contents i.singles others ∙ there

  less_alone : IsLaidOutAlone (with_units pages c)
  less_alone = record {
    whole = (omega arith, omega (arith, some));
    single = alone_in.single;
    block = holds;
    low = omega (arith, fewer, alone_in.low);
  }

  abbrev shorter : OwnCarrier → OwnCarrier
  shorter o = record o { pages = pages }

  shorter-own : (d : Content) → IsOwn i.own (own_of d)
      → IsOwn (with_pages number pages i.own) (own_of (altered (with_units pages) number d))
  shorter-own d own = elim (cases_eq d.number number) [
    | inl same ↦
        let e : own_of (with_units pages d) ≡ shorter (own_of d) =
        (let p : 512 * pages / 512 ≡ pages = omega arith in cc) in
        subst (λ x. IsOwn (with_pages number pages i.own) (own_of x))
        (sym (cond-true (d.number == number) (with_units pages d) d (grind (arith, same))))
        (subst (λ n. own_at (with_pages number pages i.own) n ≡ Some (own_of (with_units pages d)))
        (sym same)
        (changed-found own_number shorter number (λ _. refl) (own_of d) i.own
        (ap (own_at i.own) (sym same) ∙ own)
        ∙ ap Some (sym e)))
    | inr other ↦ subst (λ x. IsOwn (with_pages number pages i.own) (own_of x))
        (sym (cond-false (d.number == number) (with_units pages d) d (grind (arith, other))))
        (changed-other own_number shorter number (λ _. refl) d.number i.own other ∙ own)
  ]

  less_units : (d : Content) → (d.number ≡ number → d ≡ c)
      → (altered (with_units pages) number d).units ≤ d.units
  less_units d one = elim (cases_eq d.number number) [
    | inl same ↦
        subst (λ x. x.units ≤ d.units)
        (sym (cond-true (d.number == number) (with_units pages d) d (grind (arith, same))))
        (omega (arith, fewer, ap (λ (x : Content). x.units) (one same)))
    | inr other ↦ subst (λ x. x.units ≤ d.units)
        (sym (cond-false (d.number == number) (with_units pages d) d (grind (arith, other))))
        (omega arith)
  ]

  pub shortened-Stands : Stands (shortened i number pages)
  shortened-Stands =
      let f = with_units pages in
      let own = with_pages number pages i.own in
      let no_multi = none-other number_of number i.contents others in
      let is = employed-shortened i number pages no_multi in
      let one = only-item number c (employed i) st.orderly.once employed_in in
      record {
        orderly = shortened-IsOrderly i number pages c st.orderly others there
            (single-own i number c st there) some (omega (arith, fewer, alone_in.whole.0))
            less_alone;
        apart = subst (AllPairs ContentsApart) (sym is)
            (apart-lessened f (λ _. refl) number (employed i)
            (λ k d within. less_units (get_or (employed i) k d) (one k d within)) st.apart);
        someones = all-someones i own i.contents
            (λ k d within. changed-other own_number shorter number (λ _. refl) _ i.own
            (no_multi k d within)) st.someones;
        owned = All-map (λ d. IsOwn own (own_of d)) (altered f number) i.singles
            (All-weaker (λ d. IsOwn i.own (own_of d))
            (λ d. IsOwn own (own_of (altered f number d))) shorter-own i.singles st.owned);
        home = λ off. all-own i own i.contents
            (λ k d within. changed-other own_number shorter number (λ _. refl) _ i.own
            (no_multi k d within)) (st.home off);
      }

-- a block of a multiblock carrier
module _ (i : Instance) (spot : Spot) (need : ℕ) (c : Content) (b : BlockAt) (st : Stands i)
    (there : content_of i.contents spot.carrier ≡ Some c)
    (found : block_at c.blocks spot.offset ≡ Some b) where
  -- its size, and what is decided of it
  pub multi-size : size_at i spot ≡ b.size
  multi-size = ap (λ o. size_of (block_among spot.offset o))
      (employed-multi i spot.carrier c st there)
      ∙ ap size_of found

  pub multi-where : where_at i spot ≡ Multi (gap_behind c spot.offset)
  multi-where = ap (λ o. where_in spot.offset o (content_of i.singles spot.carrier)) there

  pub multi-decided : decision_at i spot need
      ≡ decision i.settings b.size need (Multi (gap_behind c spot.offset))
  multi-decided = ap (λ n. decision i.settings n need (where_at i spot)) multi-size
      ∙ ap (decision i.settings b.size need) multi-where

  pub multi-resized_to : resized_to i spot need
      ≡ size_after (decision_at i spot need) b.size need (Multi (gap_behind c spot.offset))
  multi-resized_to =
      ap (λ n. size_after (decision_at i spot need) n need (where_at i spot)) multi-size
      ∙ ap (size_after (decision_at i spot need) b.size need) multi-where

  multi_decides : (d : Decision) → decision_at i spot need ≡ d
      → InMulti b.size need (gap_behind c spot.offset) d
  multi_decides d e = subst (InMulti b.size need (gap_behind c spot.offset))
      (sym multi-decided ∙ e) (in_multi i.settings b.size need (gap_behind c spot.offset))

  -- it shrinks by 6 units at least, it grows into the gap behind it, and its carrier keeps its
  -- pages
  pub multi-shrinks : decision_at i spot need ≡ ShrinkHere → need + 6 ≤ b.size
  multi-shrinks e = multi_decides ShrinkHere e

  pub multi-grows : decision_at i spot need ≡ GrowHere
      → (b.size < need) × (need ≤ b.size + gap_behind c spot.offset)
  multi-grows e = multi_decides GrowHere e

  module _ (name : ℕ) (least : 6 ≤ need) (even : need % 2 ≡ 0) where
    laid_in : IsLaidOut c
    laid_in = item_at-All number_of IsLaidOut spot.carrier c i.contents st.orderly.laid there

    multi_resized : (size : ℕ) → IsLaidOut (resized c spot.offset size name)
        → Stands (resized_in i spot size name)
    multi_resized size laid =
        let n = spot.carrier in
        changing-Stands (λ x. resized x spot.offset size name) (resized-keeps spot.offset size name)
        n i st
        (λ d is. subst (λ x. IsLaidOut (resized x spot.offset size name))
        (same-some (content_of i.contents n) c d there is) laid)
        (λ d is. absurd (item_at-All number_of (λ x. x.number ≢ n) n d i.singles
        (merged-apart number_of n c i.contents i.singles (employed-rising i st) there) is
        (item_at-key number_of n d i.singles is)))

    multi_by : (d : Decision) → InMulti b.size need (gap_behind c spot.offset) d
        → IsLaidOut (content_after d spot.offset
        (size_after d b.size need (Multi (gap_behind c spot.offset))) name c)
        → Stands (resized_by d i spot
        (size_after d b.size need (Multi (gap_behind c spot.offset))) name)
    multi_by Stay h laid = multi_resized _ laid
    multi_by ShrinkHere h laid = resized_more-Stands i spot _ name (multi_resized _ laid)
    multi_by GrowHere h laid = resized_more-Stands i spot _ name (multi_resized _ laid)
    multi_by (ShrinkCarrier pages) h laid = absurd h
    multi_by Move h laid = st

    pub multi-Stands : Stands (resizing_at i spot need name)
    multi-Stands =
        let d = decision_at i spot need in
        subst (λ n. Stands (resized_by d i spot n name)) (sym multi-resized_to)
        (multi_by d (multi_decides d refl)
        (resized-IsLaidOut i.settings c b spot.offset need name found least even laid_in d
        (sym multi-decided)))

-- the block of a singleblock carrier
module _ (i : Instance) (spot : Spot) (need : ℕ) (c : Content) (b : BlockAt) (st : Stands i)
    (others : content_of i.contents spot.carrier ≡ None)
    (there : content_of i.singles spot.carrier ≡ Some c)
    (found : block_at c.blocks spot.offset ≡ Some b) where
  -- its size, and what is decided of it
  pub single-size : size_at i spot ≡ b.size
  single-size = ap (λ o. size_of (block_among spot.offset o))
      (merged-second number_of spot.carrier i.contents i.singles others ∙ there) ∙ ap size_of found

  pub single-where : where_at i spot ≡ Single c.units
  single-where = ap (λ o. where_in spot.offset o (content_of i.singles spot.carrier)) others
      ∙ ap (where_in spot.offset None) there

  pub single-decided : decision_at i spot need
      ≡ decision i.settings b.size need (Single c.units)
  single-decided = ap (λ n. decision i.settings n need (where_at i spot)) single-size
      ∙ ap (decision i.settings b.size need) single-where

  pub single-resized_to : resized_to i spot need
      ≡ size_after (decision_at i spot need) b.size need (Single c.units)
  single-resized_to =
      ap (λ n. size_after (decision_at i spot need) n need (where_at i spot)) single-size
      ∙ ap (size_after (decision_at i spot need) b.size need) single-where

  single_decides : (d : Decision) → decision_at i spot need ≡ d
      → InSingle b.size need c.units d
  single_decides d e = subst (InSingle b.size need c.units)
      (sym single-decided ∙ e) (in_single i.settings b.size need c.units)

  laid_alone : IsLaidOutAlone c
  laid_alone = item_at-All number_of IsLaidOutAlone spot.carrier c i.singles st.orderly.alone there

  -- it stays where it has the units already, and its carrier holds what it is to have
  pub single-stays : decision_at i spot need ≡ Stay → need ≡ b.size
  single-stays e = (single_decides Stay e).0

  fits_by : (d : Decision) → d ≢ Move → InSingle b.size need c.units d → 8 + need ≤ c.units
  fits_by Stay not h = h.1
  fits_by ShrinkHere not h = h.1
  fits_by GrowHere not h = h.1
  fits_by (ShrinkCarrier pages) not h = omega (arith, h.0, h.1, laid_alone.whole.0)
  fits_by Move not h = absurd (not refl)

  pub single-fits : decision_at i spot need ≢ Move → 8 + need ≤ c.units
  single-fits not = fits_by (decision_at i spot need) not
      (single_decides (decision_at i spot need) refl)

  -- its carrier has fewer pages then, as many as it needs
  pub single-shortens : (pages : ℕ) → decision_at i spot need ≡ ShrinkCarrier pages
      → (pages ≡ pages_for (8 + need)) × (1 ≤ pages) × (512 * pages < c.units)
      × (pages < c.units / 512) × (8 + need ≤ 512 * pages)
  single-shortens pages e =
      let h = single_decides (ShrinkCarrier pages) e in (
        h.0,
        omega (arith, h.0),
        omega (arith, h.1, laid_alone.whole.0),
        omega (arith, h.1, laid_alone.whole.0),
        omega (arith, h.0),
      )

  module _ (name : ℕ) (least : 6 ≤ need) (even : need % 2 ≡ 0) where
    -- its block has a size that fits
    single_resized : (size : ℕ) → 6 ≤ size → size % 2 ≡ 0 → 8 + size ≤ c.units
        → Stands (resized_in i spot size name)
    single_resized size some whole fits =
        let n = spot.carrier in
        changing-Stands (λ x. resized x spot.offset size name) (resized-keeps spot.offset size name)
        n i st
        (λ d is. absurd (let e : None ≡ Some d = sym others ∙ is in cc))
        (λ d is. subst (λ x. IsLaidOutAlone (resized x spot.offset size name))
        (same-some (content_of i.singles n) c d there is)
        (single-resized i.settings c b spot.offset need name found least even laid_alone size some
        whole fits))

    -- and its carrier has fewer pages
    single_shortened : (pages : ℕ) → decision_at i spot need ≡ ShrinkCarrier pages
        → Stands (shortened (resized_in i spot need name) spot.carrier pages)
    single_shortened pages e =
        let n = spot.carrier in
        let f : Content → Content = λ x. resized x spot.offset need name in
        let less = single-shortens pages e in
        shortened-Stands (resized_in i spot need name) n pages (f c)
        (single_resized need least even (omega (arith, less.2, less.4)))
        (item_at-changed number_of f n (λ _. refl) n i.contents
        ∙ ap (option_map (change number_of f n)) others)
        (changed-found number_of f n (λ _. refl) c i.singles there) less.1 less.2
        (one_resized c.units (512 * pages) spot.offset need name b c.blocks laid_alone.block found
        least even less.4)

    single_by : (d : Decision) → decision_at i spot need ≡ d
        → Stands (resized_by d i spot (size_after d b.size need (Single c.units)) name)
    single_by Stay e =
        let h = single_decides Stay e in
        subst (λ n. Stands (resized_in i spot n name)) h.0 (single_resized need least even h.1)
    single_by ShrinkHere e = resized_more-Stands i spot need name
        (single_resized need least even (single_decides ShrinkHere e).1)
    single_by GrowHere e = resized_more-Stands i spot need name
        (single_resized need least even (single_decides GrowHere e).1)
    single_by (ShrinkCarrier pages) e = single_shortened pages e
    single_by Move e = st

    pub single-Stands : Stands (resizing_at i spot need name)
    single-Stands =
        let d = decision_at i spot need in
        subst (λ n. Stands (resized_by d i spot n name)) (sym single-resized_to)
        (single_by d refl)

-- the content and the block that are there
found_in : (offset : ℕ) (o : Option Content) → IsSome (block_among offset o)
    → (c : Content) × (b : BlockAt) × (o ≡ Some c) × (block_at c.blocks offset ≡ Some b)
found_in offset None h = absurd cc
found_in offset (Some c) h =
    let v = some_value (block_at c.blocks offset) h in (c, v.0, refl, v.1)

-- an instance stands after a reallocation in place, and after one that is to move
module _ (i : Instance) (spot : Spot) (need name : ℕ) (st : Stands i) (least : 6 ≤ need)
    (even : need % 2 ≡ 0) (some : IsSome (block_in (employed i) spot)) where
  stands_by : (o : Option Content) → content_of i.contents spot.carrier ≡ o
      → Stands (resizing_at i spot need name)
  stands_by (Some c) there =
      let has : IsSome (block_at c.blocks spot.offset) = subst
      (λ o. IsSome (block_among spot.offset o)) (employed-multi i spot.carrier c st there) some in
      let v = some_value (block_at c.blocks spot.offset) has in
      multi-Stands i spot need c v.0 st there v.1 name least even
  stands_by None others =
      let has : IsSome (block_among spot.offset (content_of i.singles spot.carrier)) = subst
      (λ o. IsSome (block_among spot.offset o))
      (merged-second number_of spot.carrier i.contents i.singles others) some in
      let v = found_in spot.offset (content_of i.singles spot.carrier) has in
      single-Stands i spot need v.0 v.1 st others v.2 v.3 name least even

  pub resizing-Stands : Stands (resizing_at i spot need name)
  resizing-Stands = stands_by (content_of i.contents spot.carrier) refl

-- no block changes where a carrier has other units
same_block : (offset number pages : ℕ) (o : Option Content)
    → block_among offset (option_map (change number_of (with_units pages) number) o)
    ≡ block_among offset o
same_block offset number pages None = refl
same_block offset number pages (Some c) =
    cond_both (has_key number_of number c) (with_units pages c) c
    (λ x. block_at x.blocks offset ≡ block_at c.blocks offset) (λ _. refl) (λ _. refl)

same_blocks : (number pages : ℕ) (cs : List Content)
    → HaveSameBlocks cs (changed (with_units pages) number cs)
same_blocks number pages cs at =
    ap (block_among at.offset)
    (item_at-changed number_of (with_units pages) number (λ _. refl) at.carrier cs)
    ∙ same_block at.offset number pages (content_of cs at.carrier)

-- a reallocation in place changes one block alone
module _ (i : Instance) (spot : Spot) (size name : ℕ) where
  abbrev with_new : Content → Content
  with_new c = resized c spot.offset size name

  keeps_in : KeepsPlace with_new
  keeps_in = resized-keeps spot.offset size name

  blocks_by : (d : Decision) → d ≢ Move
      → ((pages : ℕ) → d ≡ ShrinkCarrier pages → content_of i.contents spot.carrier ≡ None)
      → HaveSameBlocks (changed with_new spot.carrier (employed i))
      (employed (resized_by d i spot size name))
  blocks_by Stay stays alone at =
      ap (λ cs. block_in cs at) (employed-changed with_new keeps_in spot.carrier i)
  blocks_by ShrinkHere stays alone at =
      ap (λ cs. block_in cs at) (employed-changed with_new keeps_in spot.carrier i)
  blocks_by GrowHere stays alone at =
      ap (λ cs. block_in cs at) (employed-changed with_new keeps_in spot.carrier i)
  blocks_by (ShrinkCarrier pages) stays alone at =
      let j = resized_in i spot size name in
      let others : content_of j.contents spot.carrier ≡ None =
      item_at-changed number_of with_new spot.carrier (λ _. refl) spot.carrier i.contents
      ∙ ap (option_map (change number_of with_new spot.carrier)) (alone pages refl) in
      ap (λ cs. block_in cs at) (employed-shortened j spot.carrier pages
      (none-other number_of spot.carrier j.contents others))
      ∙ same_blocks spot.carrier pages (employed j) at
      ∙ ap (λ cs. block_in cs at) (employed-changed with_new keeps_in spot.carrier i)
  blocks_by Move stays alone at = absurd (stays refl)

module _ (i : Instance) (spot : Spot) (need name : ℕ)
    (some : IsSome (block_in (employed i) spot)) where
  found_here : (c : Content) × (b : BlockAt) × (content_of (employed i) spot.carrier ≡ Some c)
      × (block_at c.blocks spot.offset ≡ Some b)
  found_here = found_in spot.offset (content_of (employed i) spot.carrier) some

  abbrev size_then : ℕ
  size_then = resized_to i spot need

  blocks_then : decision_at i spot need ≢ Move
      → HaveSameBlocks (changed (with_new i spot size_then name) spot.carrier (employed i))
      (employed (resizing_at i spot need name))
  blocks_then stays = blocks_by i spot size_then name (decision_at i spot need) stays
      (λ pages. shortened-alone i spot need pages)

  -- the block has the units that are decided and the new name
  pub resizing-begins : decision_at i spot need ≢ Move
      → block_in (employed (resizing_at i spot need name)) spot
      ≡ Some (record { name = name; offset = spot.offset; size = resized_to i spot need })
  resizing-begins stays =
      let v = found_here in
      blocks_then stays spot
      ∙ block_in-here (with_new i spot size_then name) (keeps_in i spot size_then name) spot.carrier
      (employed i) v.0 spot v.2 refl
      ∙ resized-begins v.0 spot.offset size_then name v.1 v.3

  -- and other blocks stay
  others_by : (d : Decision) → decision_at i spot need ≡ d → (at : Spot)
      → IsOther spot.carrier spot.offset at
      → block_in (employed (resizing_at i spot need name)) at ≡ block_in (employed i) at
  others_by Move e at other =
      ap (λ d. block_in (employed (resized_by d i spot size_then name)) at) e
  others_by d e at other =
      let v = found_here in
      blocks_then (λ m. absurd (let f : d ≡ Move = sym e ∙ m in cc)) at
      ∙ block_in-others (with_new i spot size_then name) (keeps_in i spot size_then name)
      spot.carrier (employed i) v.0 spot.offset at v.2
      (λ offset n. resized-others v.0 spot.offset size_then name offset n) other

  pub resizing-others : (at : Spot) → IsOther spot.carrier spot.offset at
      → block_in (employed (resizing_at i spot need name)) at ≡ block_in (employed i) at
  resizing-others at other = others_by (decision_at i spot need) refl at other
