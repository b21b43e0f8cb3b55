-- The block or the gap that is read off the header at an offset.
use Rattle.std.proofs.Common.{◌≡◌, ℕ, ◌+◌, ◌<◌, ◌==◌, true, false, List, length, sym, ap}
use Rattle.std.proofs.Common.{◌∙◌, refl, subst, inl, inr, arith}
use Rattle.std.specs.Prelude.{None, Option, Some, IsSome, slice_index}
use Rattle.std.proofs.lemmas.Bool.{false≢true}
use Rattle.ea_model.specs.declared.carriers.BlockAt.{BlockAt}
use Rattle.ea_model.specs.Content.{block_at, gap_at, gaps}
use Rattle.ea_tags.specs.declared.header.Header.{Header}
use Rattle.ea_tags.specs.Words.{code}
use Rattle.ea_mbc.specs.Layout.{Layout}
use Rattle.ea_mbc.specs.Parts.{HasPart, block_or, part_in}
use Rattle.ea_mbc.specs.declared.parts.Part.TheVariants as part
use Rattle.ea_mbc.proofs.Finding.{code-injective}
use Rattle.ea_mbc.proofs.Seen.{Seen, block-read, gap-read, gap-size, header-read}

no-block : IsSome {T = BlockAt} None → ⊥
no-block t = grind arith

module _ (words names : List ℕ) (end : ℕ) (now : Layout) (offset : ℕ)
    (s : Seen words names end now) where
  abbrev gap_here : ℕ
  gap_here = gap_at (gaps 8 now.end now.blocks) offset

  -- a header stands there
  pub part-inside : HasPart now.blocks (gaps 8 now.end now.blocks) offset → offset < length words
  part-inside has = elim has [
    | inl block ↦ (block-read words names end now offset s block).inside
    | inr gap ↦
        let g = gap-read words names end now offset s gap in
        omega (arith, g.within, g.least, s.coded.long)
  ]

  module _ (h : Header) (e : code h ≡ slice_index words offset) where
    -- what it says of a block
    at-block : (b : BlockAt) → block_at now.blocks offset ≡ Some b
        → (h.size ≡ b.size) × (h.this_free ≡ false)
    at-block b is =
        let r = block-read words names end now offset s (subst IsSome (sym is) refl) in
        let said = header-read words names end now offset h s r e in
        let same : r.b ≡ b = some-same r.b b (sym r.found ∙ is) in
        (said.0 ∙ ap (λ (x : BlockAt). x.size) same, said.1) where
          some-same : (x y : BlockAt) → Some x ≡ Some y → x ≡ y
          some-same x y q = cc

    -- and of a gap
    at-gap : 0 < gap_here → (h.size ≡ gap_here) × (h.this_free ≡ true)
    at-gap some =
        let g = gap-read words names end now offset s some in (
          gap-size words now.end offset gap_here h g e,
          ap (λ (x : Header). x.this_free) (code-injective h (record {
            size = gap_here;
            this_free = true;
            prev_free = false;
            last = (offset + gap_here) == now.end;
          }) (e ∙ g.header)),
        )

    -- where no block begins a gap does
    gap-there : HasPart now.blocks (gaps 8 now.end now.blocks) offset
        → block_at now.blocks offset ≡ None → 0 < gap_here
    gap-there has none = elim has [
      | inl block ↦ absurd (no-block (subst IsSome none block))
      | inr gap ↦ gap
    ]

    pub part-free : HasPart now.blocks (gaps 8 now.end now.blocks) offset → h.this_free ≡ true
        → part.Gap h.size ≡ part_in now.blocks (gaps 8 now.end now.blocks) offset
    part-free has free = by (block_at now.blocks offset) refl where
      by : (o : Option BlockAt) → block_at now.blocks offset ≡ o
          → part.Gap h.size ≡ part_in now.blocks (gaps 8 now.end now.blocks) offset
      by None none = ap part.Gap (at-gap (gap-there has none)).0
          ∙ sym (ap (λ q. block_or q gap_here) none)
      by (Some b) is = absurd (false≢true (sym (at-block b is).1 ∙ free))

    pub part-taken : HasPart now.blocks (gaps 8 now.end now.blocks) offset → h.this_free ≡ false
        → part.Block h.size ≡ part_in now.blocks (gaps 8 now.end now.blocks) offset
    part-taken has taken = by (block_at now.blocks offset) refl where
      by : (o : Option BlockAt) → block_at now.blocks offset ≡ o
          → part.Block h.size ≡ part_in now.blocks (gaps 8 now.end now.blocks) offset
      by None none = absurd (false≢true (sym taken ∙ (at-gap (gap-there has none)).1))
      by (Some b) is = ap part.Block (at-block b is).0 ∙ sym (ap (λ q. block_or q gap_here) is)
