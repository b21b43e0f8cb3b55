-- Headers one after another, of gaps and blocks.
use Rattle.std.proofs.Common.{◌≡◌, ℕ, ◌+◌, ◌-◌, ◌/◌, ◌<◌, ◌≤◌, Bool, true, false, List, []}
use Rattle.std.proofs.Common.{◌∷◌, ◌++◌}
use Rattle.std.proofs.Common.{append-nil, refl, sym, ap, ◌∙◌, subst, inl, inr, arith}
use Rattle.std.specs.Prelude.{slice_index, nat_lt, ◌==◌}
use Rattle.std.proofs.lemmas.Bool.{cases_lt}
use Rattle.ea_model.specs.declared.carriers.BlockAt.{BlockAt}
use Rattle.ea_model.specs.Content.{gap, gaps, IsGapSize, Tiled}
use Rattle.ea_tags.specs.declared.header.Header.{Header}
use Rattle.ea_tags.specs.Words.{code}
use Rattle.ea_laws.proofs.Chosen.{gap_none}
use Rattle.ea_laws.proofs.Tiling.{Tiled-allocated}
use Rattle.ea_mbc.specs.Coding.{GapCoded, BlockCoded, Coded}
use Rattle.ea_mbc.specs.Walks.{free_of}
use Rattle.ea_mbc.proofs.Finding.{code-injective}

-- header by header from `at` on, where a block, a gap or the carrier's header ends, the units are
-- gaps and these blocks
abbrev pub Headed : List ℕ → List ℕ → ℕ → ℕ → List BlockAt → Type 0
Headed words names end at [] = GapCoded words end at end
Headed words names end at (b ∷ bs) = GapCoded words end at b.offset × (prev : Bool)
    × BlockCoded words names end prev b × Headed words names end (b.offset + b.size) bs

pub Coded-Headed : (words names : List ℕ) (end at : ℕ) (bs : List BlockAt)
    → Coded words names end at bs → Headed words names end at bs
Coded-Headed words names end at [] c = c.0
Coded-Headed words names end at (b ∷ bs) c =
    (c.0, nat_lt at b.offset, c.2, Coded-Headed words names end (b.offset + b.size) bs c.4)

-- behind the gap or block of the header at `at` the rest of the blocks follows
pub record Stepped (words names : List ℕ) (end at : ℕ) (h : Header) (bs : List BlockAt)
    : Type 0 where
  pub rest : List BlockAt
  pub tiled : Tiled (at + h.size) end rest
  pub headed : Headed words names end (at + h.size) rest
  pub least : 6 ≤ h.size
  pub within : at + h.size ≤ end
  pub gaps : gaps at end bs ≡ gap at (at + free_of h) ++ gaps (at + h.size) end rest
  pub free : h.this_free ≡ true → bs ≡ rest
  pub block : h.this_free ≡ false
      → bs ≡ record { name = slice_index names (at / 2); offset = at; size = h.size } ∷ rest

nothing_whole : (n : ℕ) → IsGapSize (n - n)
nothing_whole n = record { even = omega arith; whole = λ some. absurd (omega arith) }

free_gap : (h : Header) → h.this_free ≡ true → free_of h ≡ h.size
free_gap h e = grind arith

free_block : (h : Header) → h.this_free ≡ false → free_of h ≡ 0
free_block h e = grind arith

over_gap : (words names : List ℕ) (end at to : ℕ) (h : Header) (bs : List BlockAt) → at < to
    → to ≤ end → IsGapSize (to - at) → GapCoded words end at to → code h ≡ slice_index words at
    → Tiled to end bs → Headed words names end to bs
    → gaps at end bs ≡ gap at to ++ gaps to end bs → Stepped words names end at h bs
over_gap words names end at to h bs lt le whole g e t d gs =
    let is = code-injective h (record {
      size = to - at;
      this_free = true;
      prev_free = false;
      last = to == end;
    }) (e ∙ (g lt).0) in
    let size : h.size ≡ to - at = ap (λ (x : Header). x.size) is in
    let free : h.this_free ≡ true = ap (λ (x : Header). x.this_free) is in
    let ends : to ≡ at + h.size = omega arith in
    let free_ends : to ≡ at + free_of h = omega (arith, free_gap h free) in
    record {
      rest = bs;
      tiled = subst (λ n. Tiled n end bs) ends t;
      headed = subst (λ n. Headed words names end n bs) ends d;
      least = omega (arith, whole.whole (omega arith));
      within = omega arith;
      gaps = gs ∙ ap (λ n. gap at n ++ gaps to end bs) free_ends
          ∙ ap (λ n. gap at (at + free_of h) ++ gaps n end bs) ends;
      free = λ _. refl;
      block = λ no. absurd cc;
    }

block_is : (n at s : ℕ) (b : BlockAt) → n ≡ b.name → at ≡ b.offset → s ≡ b.size
    → b ≡ record { name = n; offset = at; size = s }
block_is n at s b e f g = grind arith

over_block : (words names : List ℕ) (end at : ℕ) (prev : Bool) (h : Header) (b : BlockAt)
    (bs : List BlockAt) → b.offset ≡ at → 6 ≤ b.size → b.offset + b.size ≤ end
    → BlockCoded words names end prev b → code h ≡ slice_index words at
    → Tiled (b.offset + b.size) end bs → Headed words names end (b.offset + b.size) bs
    → Stepped words names end at h (b ∷ bs)
over_block words names end at prev h b bs same least le c e t d =
    let is = code-injective h (record {
      size = b.size;
      this_free = false;
      prev_free = prev;
      last = (b.offset + b.size) == end;
    }) (e ∙ ap (slice_index words) (sym same) ∙ c.0) in
    let size : h.size ≡ b.size = ap (λ (x : Header). x.size) is in
    let taken : h.this_free ≡ false = ap (λ (x : Header). x.this_free) is in
    let ends : b.offset + b.size ≡ at + h.size = omega arith in
    let none : b.offset ≡ at + free_of h = omega (arith, free_block h taken) in
    record {
      rest = bs;
      tiled = subst (λ n. Tiled n end bs) ends t;
      headed = subst (λ n. Headed words names end n bs) ends d;
      least = omega arith;
      within = omega arith;
      gaps = ap (λ n. gap at n ++ gaps (b.offset + b.size) end bs) none
          ∙ ap (λ n. gap at (at + free_of h) ++ gaps n end bs) ends;
      free = λ no. absurd cc;
      block = λ _. ap (λ x. x ∷ bs)
          (block_is (slice_index names (at / 2)) at h.size b
          (ap (λ n. slice_index names (n / 2)) (sym same) ∙ c.1) (sym same) size);
    }

-- the step from the header at `at` to the next one, or to the end
pub stepped : (words names : List ℕ) (end at : ℕ) (h : Header) (bs : List BlockAt)
    → Tiled at end bs → Headed words names end at bs → at < end → code h ≡ slice_index words at
    → Stepped words names end at h bs
stepped words names end at h [] t d lt e =
    over_gap words names end at end h [] lt (omega arith) t.1 d e
    (omega arith, nothing_whole end) (λ no. absurd (omega arith))
    (sym (ap (λ gs. gap at end ++ gs) (gap_none end end (omega arith))
    ∙ append-nil (gap at end)))
stepped words names end at h (b ∷ bs) t d lt e =
    let within = Tiled-allocated (b.offset + b.size) end bs t.4 in
    elim (cases_lt at b.offset) [
      | inl some ↦ over_gap words names end at b.offset h (b ∷ bs) some (omega (arith, within)) t.1
          d.0 e (omega arith, nothing_whole b.offset, t.2, t.3, t.4)
          (λ no. absurd (omega arith), d.1, d.2, d.3)
          (sym (ap (λ gs. gap at b.offset ++ (gs ++ gaps (b.offset + b.size) end bs))
          (gap_none b.offset b.offset (omega arith))))
      | inr none ↦ over_block words names end at d.1 h b bs (omega (arith, t.0)) t.2
          (omega (arith, within)) d.2 e t.4 d.3
    ]
