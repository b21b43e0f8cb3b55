-- A walk over the parts of a carrier: what is behind it, and what is still to come.
use Rattle.std.proofs.Common.{◌≡◌, ◌⊎◌, ℕ, ◌+◌, ◌-◌, ◌<◌, ◌≤◌, List, [], ◌∷◌, ◌++◌, sym, ap, ◌∙◌}
use Rattle.std.proofs.Common.{subst, refl, inl, inr, arith, All}
use Rattle.std.specs.Prelude.{None, Some, IsSome}
use Rattle.std.proofs.lemmas.Bool.{cases_eq}
use Rattle.std.proofs.lemmas.List.{append-nil, append_assoc}
use Rattle.std.proofs.lemmas.List.Elements.{All-head, All-tail}
use Rattle.ea_model.specs.declared.carriers.BlockAt.{BlockAt}
use Rattle.ea_model.specs.declared.carriers.Gap.{Gap}
use Rattle.ea_model.specs.Content.{Content, IsGapSize, Tiled, block_at, gap, gap_at, gaps, gaps_of}
use Rattle.ea_model.proofs.Rising.{item_here, item_past}
use Rattle.ea_laws.proofs.BlockLists.{Tiled-behind, offset_of}
use Rattle.ea_mbc.specs.Parts.{HasPart, block_or, part_in}
use Rattle.ea_mbc.specs.declared.parts.Part.{Part}
use Rattle.ea_mbc.specs.declared.parts.Part.TheVariants as part
use Rattle.ea_model.specs.Trace.{listed}
use Rattle.ea_instance.specs.declared.layouts.Layout.{Layout}
use Rattle.ea_instance.specs.Layouts.{block_sizes, gap_sizes}

-- the block or the gap that begins at an offset of a carrier
abbrev pub part_of : Content → ℕ → Part
part_of x offset = part_in x.blocks (gaps_of x) offset

-- the walk is at an offset of the carrier, with blocks and gaps of these sizes behind it
pub record IsWalked (x : Content) (at : ℕ) (blocks holes : List ℕ) : Type 0 where
  pub rest : List BlockAt
  pub tiled : Tiled at x.units rest
  pub blocks_are : blocks ++ block_sizes rest ≡ block_sizes x.blocks
  pub gaps_are : holes ++ gap_sizes (gaps at x.units rest) ≡ gap_sizes (gaps_of x)
  pub blocks_at : (k : ℕ) → at ≤ k → block_at x.blocks k ≡ block_at rest k
  pub gaps_at : (k : ℕ) → at ≤ k → gap_at (gaps_of x) k ≡ gap_at (gaps at x.units rest) k

-- the next part: a block that is the first of the rest, or a gap up to that or to the end
pub record IsNext (x : Content) (at : ℕ) (blocks holes : List ℕ) : Type 0 where
  pub begins : HasPart x.blocks (gaps_of x) at
  pub some : (n : ℕ) → (part_of x at ≡ part.Block n) ⊎ (part_of x at ≡ part.Gap n)
      → (0 < n) × (at + n ≤ x.units)
  pub block : (n : ℕ) → part_of x at ≡ part.Block n → IsWalked x (at + n) (blocks ++ n ∷ []) holes
  pub hole : (n : ℕ) → part_of x at ≡ part.Gap n → IsWalked x (at + n) blocks (holes ++ n ∷ [])

gap-here : (at end : ℕ) (rest : List Gap) → at < end → gap_at (gap at end ++ rest) at ≡ end - at
gap-here at end rest less = grind (arith, less)

gap-list : (at end : ℕ) → at < end → gap at end ≡ record { offset = at; size = end - at } ∷ []
gap-list at end less = grind (arith, less)

no-gap : (at : ℕ) → gap at at ≡ []
no-gap at = grind arith

gap-behind : (at end k : ℕ) (rest : List Gap) → end ≤ k → at < end
    → gap_at (gap at end ++ rest) k ≡ gap_at rest k
gap-behind at end k rest le less = grind (arith, le, less)

block-gap : (n m : ℕ) → part.Block n ≡ part.Gap m → ⊥
block-gap n m q = cc

block-size : (n m : ℕ) → part.Block n ≡ part.Block m → n ≡ m
block-size n m q = cc

gap-size : (n m : ℕ) → part.Gap n ≡ part.Gap m → n ≡ m
gap-size n m q = cc

gap-zero : (n : ℕ) → n ≡ 0 → IsGapSize n
gap-zero n e = record { even = omega arith; whole = λ h. omega arith }

tiled-end : (at end : ℕ) (bs : List BlockAt) → Tiled at end bs → at ≤ end
tiled-end at end [] t = t.0
tiled-end at end (b ∷ bs) t = omega (arith, t.0, t.2, tiled-end (b.offset + b.size) end bs t.4)

module _ (x : Content) (at : ℕ) (blocks holes : List ℕ) (less : at < x.units) where
  -- a gap up to `stop`, where the rest begins
  gap-next : (stop : ℕ) (rest : List BlockAt) → at < stop → stop ≤ x.units
      → (walked : IsWalked x at blocks holes) → Tiled stop x.units rest
      → block_sizes walked.rest ≡ block_sizes rest
      → gaps at x.units walked.rest ≡ gap at stop ++ gaps stop x.units rest
      → ((k : ℕ) → stop ≤ k → block_at walked.rest k ≡ block_at rest k)
      → block_at walked.rest at ≡ None → IsNext x at blocks holes
  gap-next stop rest before within w tiled same are found none =
      let width : gap_at (gaps_of x) at ≡ stop - at =
      w.gaps_at at (omega arith) ∙ ap (λ gs. gap_at gs at) are
      ∙ gap-here at stop (gaps stop x.units rest) before in
      let is : part_of x at ≡ part.Gap (stop - at) =
      ap (λ o. block_or o (gap_at (gaps_of x) at)) (w.blocks_at at (omega arith) ∙ none)
      ∙ ap part.Gap width in
      record {
        begins = inr (omega (arith, width, before));
        some = λ n q. elim q [
          | inl b ↦ absurd (block-gap n (stop - at) (sym b ∙ is))
          | inr g ↦ let e = gap-size n (stop - at) (sym g ∙ is) in
              (omega (arith, e, before), omega (arith, e, within, before))
        ];
        block = λ n q. absurd (block-gap n (stop - at) (sym q ∙ is));
        hole = λ n q.
            let e : n ≡ stop - at = gap-size n (stop - at) (sym q ∙ is) in
            let there : at + n ≡ stop = omega (arith, e, before) in
            subst (λ k. IsWalked x k blocks (holes ++ n ∷ [])) (sym there) (record {
              rest = rest;
              tiled = tiled;
              blocks_are = ap (λ ns. blocks ++ ns) (sym same) ∙ w.blocks_are;
              gaps_are = append_assoc holes (n ∷ []) (gap_sizes (gaps stop x.units rest))
                  ∙ ap (λ m. holes ++ m ∷ gap_sizes (gaps stop x.units rest)) e
                  ∙ ap (λ gs. holes ++ gap_sizes (gs ++ gaps stop x.units rest))
                  (sym (gap-list at stop before))
                  ∙ ap (λ gs. holes ++ gap_sizes gs) (sym are) ∙ w.gaps_are;
              blocks_at = λ k le. w.blocks_at k (omega (arith, le, before)) ∙ found k le;
              gaps_at = λ k le. w.gaps_at k (omega (arith, le, before))
                  ∙ ap (λ gs. gap_at gs k) are
                  ∙ gap-behind at stop k (gaps stop x.units rest) le before;
            });
      }

  next-by : (rest : List BlockAt) (w : IsWalked x at blocks holes) → w.rest ≡ rest
      → IsNext x at blocks holes
  next-by [] w q =
      let tiled = subst (Tiled at x.units) q w.tiled in
      gap-next x.units [] less (omega arith) w
      (omega arith, gap-zero (x.units - x.units) (omega arith)) (ap block_sizes q)
      (ap (gaps at x.units) q ∙ sym (append-nil (gap at x.units))
      ∙ ap (λ gs. gap at x.units ++ gs) (sym (no-gap x.units)))
      (λ k le. ap (λ bs. block_at bs k) q) (ap (λ bs. block_at bs at) q)
  next-by (b ∷ rest) w q =
      let tiled = subst (Tiled at x.units) q w.tiled in
      elim (cases_eq b.offset at) [
        | inl here ↦
            let found : block_at x.blocks at ≡ Some b = w.blocks_at at (omega arith)
            ∙ ap (λ bs. block_at bs at) q ∙ item_here offset_of at b rest here in
            let is : part_of x at ≡ part.Block b.size =
            ap (λ o. block_or o (gap_at (gaps_of x) at)) found in
            record {
              begins = inl (subst IsSome (sym found) refl);
              some = λ n p. elim p [
                | inl o ↦ let e = block-size n b.size (sym o ∙ is) in
                    (omega (arith, e, tiled.2), omega (arith, e, here, tiled-end (b.offset + b.size) x.units rest tiled.4))
                | inr g ↦ absurd (block-gap b.size n (sym is ∙ g))
              ];
              block = λ n p.
                  let e : n ≡ b.size = block-size n b.size (sym p ∙ is) in
                  let there : at + n ≡ b.offset + b.size = omega (arith, e, here) in
                  subst (λ k. IsWalked x k (blocks ++ n ∷ []) holes) (sym there) (record {
                    rest = rest;
                    tiled = tiled.4;
                    blocks_are = append_assoc blocks (n ∷ []) (block_sizes rest)
                        ∙ ap (λ m. blocks ++ m ∷ block_sizes rest) e
                        ∙ ap (λ bs. blocks ++ block_sizes bs) (sym q) ∙ w.blocks_are;
                    gaps_are = ap (λ gs. holes ++ gap_sizes gs) (sym (gaps-here here))
                        ∙ ap (λ bs. holes ++ gap_sizes (gaps at x.units bs)) (sym q) ∙ w.gaps_are;
                    blocks_at = λ k le. w.blocks_at k (omega (arith, le, here, tiled.2))
                        ∙ ap (λ bs. block_at bs k) q
                        ∙ item_past offset_of k b rest (λ s. omega (arith, s, le, tiled.2));
                    gaps_at = λ k le. w.gaps_at k (omega (arith, le, here, tiled.2))
                        ∙ ap (λ bs. gap_at (gaps at x.units bs) k) q
                        ∙ ap (λ gs. gap_at gs k) (gaps-here here);
                  });
              hole = λ n p. absurd (block-gap b.size n (sym is ∙ p));
            }
        | inr other ↦
            let before : at < b.offset = omega (arith, tiled.0, other) in
            gap-next b.offset (b ∷ rest) before
            (omega (arith, tiled.2, tiled-end (b.offset + b.size) x.units rest tiled.4)) w
            (omega arith, gap-zero (b.offset - b.offset) (omega arith), tiled.2, tiled.3, tiled.4)
            (ap block_sizes q)
            (ap (gaps at x.units) q
            ∙ ap (λ gs. gap at b.offset ++ (gs ++ gaps (b.offset + b.size) x.units rest))
            (sym (no-gap b.offset)))
            (λ k le. ap (λ bs. block_at bs k) q)
            (ap (λ bs. block_at bs at) q ∙ none-at at b rest tiled.4 before)
      ] where
        gaps-here : b.offset ≡ at
            → gaps at x.units (b ∷ rest) ≡ gaps (b.offset + b.size) x.units rest
        gaps-here here =
            ap (λ k. gap k b.offset ++ gaps (b.offset + b.size) x.units rest) (sym here)
            ∙ ap (λ gs. gs ++ gaps (b.offset + b.size) x.units rest) (no-gap b.offset)

        none-at : (at : ℕ) (b : BlockAt) (bs : List BlockAt)
            → Tiled (b.offset + b.size) x.units bs → at < b.offset → block_at (b ∷ bs) at ≡ None
        none-at at b bs t before =
            item_past offset_of at b bs (λ s. omega (arith, s, before))
            ∙ none-in bs (Tiled-behind (b.offset + b.size) x.units bs t) where
              none-in : (bs : List BlockAt) → All (λ d. b.offset + b.size ≤ d.offset) bs
                  → block_at bs at ≡ None
              none-in [] all = refl
              none-in (d ∷ bs) all =
                  item_past offset_of at d bs (λ s. omega (
                    arith,
                    s,
                    before,
                    All-head (λ (k : BlockAt). b.offset + b.size ≤ k.offset) d bs all,
                  ))
                  ∙ none-in bs (All-tail (λ (k : BlockAt). b.offset + b.size ≤ k.offset) d bs all)

  pub next : IsWalked x at blocks holes → IsNext x at blocks holes
  next w = next-by w.rest w refl

-- at the end nothing is still to come
pub ends : (x : Content) (at : ℕ) (blocks holes : List ℕ) → IsWalked x at blocks holes
    → x.units ≤ at → (blocks ≡ block_sizes x.blocks) × (holes ≡ gap_sizes (gaps_of x))
ends x at blocks holes w past = by w.rest w refl where
  by : (rest : List BlockAt) (w : IsWalked x at blocks holes) → w.rest ≡ rest
      → (blocks ≡ block_sizes x.blocks) × (holes ≡ gap_sizes (gaps_of x))
  by [] w q = (
    sym (append-nil blocks) ∙ ap (λ bs. blocks ++ block_sizes bs) (sym q) ∙ w.blocks_are,
    sym (append-nil holes) ∙ ap (λ gs. holes ++ gap_sizes gs) (sym (none at x.units past))
        ∙ ap (λ bs. holes ++ gap_sizes (gaps at x.units bs)) (sym q) ∙ w.gaps_are,
  ) where
    none : (at end : ℕ) → end ≤ at → gap at end ≡ []
    none at end le = grind (arith, le)
  by (b ∷ rest) w q =
      let tiled = subst (Tiled at x.units) q w.tiled in
      absurd (omega (arith, past, tiled.0, tiled.2, tiled-end (b.offset + b.size) x.units rest tiled.4))

-- layouts with the same parts
pub same-layout : (n m : ℕ) (bs cs gs hs : List ℕ) → n ≡ m → bs ≡ cs → gs ≡ hs
    → (let l : Layout = record { number = n; blocks = listed bs; gaps = listed gs } in l)
    ≡ record { number = m; blocks = listed cs; gaps = listed hs }
same-layout n m bs cs gs hs p q r = cc
