-- A carrier's units and names after a block was given another size or name.
use Rattle.std.proofs.Common.{◌≡◌, ◌≢◌, ℕ, ◌+◌, ◌-◌, ◌/◌, ◌%◌, ◌<◌, ◌≤◌, List, [], ◌∷◌}
use Rattle.std.proofs.Common.{refl, sym, ap, ◌∙◌, subst, inl, inr, arith}
use Rattle.std.specs.Prelude.{Some, nat_lt, length, slice_index}
use Rattle.std.proofs.lemmas.Bool.{cases_eq}
use Rattle.std.proofs.lemmas.List.Elements.{All-weaker}
use Rattle.ea_model.specs.declared.carriers.BlockAt.{BlockAt}
use Rattle.ea_model.specs.Content.{gaps, gap_at, gap_up_to, block_at, Tiled}
use Rattle.ea_model.proofs.Rising.{changed_here, changed_past, changed_none}
use Rattle.ea_laws.proofs.BlockLists.{offset_of, block_at-past, Tiled-behind}
use Rattle.ea_laws.proofs.Resized.{first_at, none_there, same_block, gap_at-past, with_size}
use Rattle.ea_laws.proofs.Resized.{with_block}
use Rattle.ea_mbc.specs.Coding.{Unnamed, Coded, IsCoded, Laid}
use Rattle.ea_mbc.proofs.Beside.{gap_up_to-first}
use Rattle.ea_mbc.proofs.Replacing.{before_past}
use Rattle.ea_mbc.proofs.Frame.{OtherNames, Coded-past, Coded-told, Coded-keeps, Unnamed-behind}
use Rattle.ea_mbc.proofs.Frame.{Unnamed-keeps, GapCoded-keeps}
use Rattle.ea_mbc.proofs.Frame.{front-kept, first_behind, block_at-even, block_at-behind}

-- no block behind the offset changes
with_block-behind : (at end offset size name : ℕ) (bs : List BlockAt) → Tiled at end bs
    → offset < at → with_block offset size name bs ≡ bs
with_block-behind at end offset size name bs t lt =
    changed_none offset_of (with_size size name) offset bs
    (All-weaker (λ (b : BlockAt). at ≤ b.offset) (λ (b : BlockAt). b.offset ≢ offset)
    (λ b le same. omega arith) bs (Tiled-behind at end bs t))

-- the first block changes
with_block-first : (at end offset size name : ℕ) (x : BlockAt) (bs : List BlockAt)
    → Tiled at end (x ∷ bs) → x.offset ≡ offset
    → with_block offset size name (x ∷ bs) ≡ with_size size name x ∷ bs
with_block-first at end offset size name x bs t begins =
    changed_here offset_of (with_size size name) offset x bs begins
    ∙ ap (λ ys. with_size size name x ∷ ys)
    (with_block-behind (x.offset + x.size) end offset size name bs t.4 (omega (arith, t.2)))

-- a gap ends at the offset just where the offset is behind the place where the gaps begin
prev_same : (at offset before : ℕ) → before ≡ offset - at → nat_lt 0 before ≡ nat_lt at offset
prev_same at offset before e = grind arith

-- the first block has another size
resized_here : (ws vs ns ms : List ℕ) (end at size stop name : ℕ) (x : BlockAt)
    (bs : List BlockAt) → Tiled at end (x ∷ bs) → first_at end bs ≡ stop → 6 ≤ size
    → x.offset + size ≤ stop → x.offset % 2 ≡ 0 → Coded ws ns end at (x ∷ bs)
    → Laid ws vs ns ms end x.offset size stop name (nat_lt at x.offset)
    → Coded vs ms end at (with_size size name x ∷ bs)
resized_here ws vs ns ms end at size stop name x bs t first least fits even c laid =
    let unnamed : Unnamed ms (x.offset + 1) stop = λ k lo hi. laid.other_names k (λ e. omega arith)
    ∙ Unnamed-behind ws ns end at x bs c k lo (omega (arith, first)) in (
      GapCoded-keeps ws vs end at x.offset (λ k lo hi. laid.kept k (inl hi)) c.0,
      Unnamed-keeps ns ms at x.offset (λ k lo hi. laid.other_names k (λ e. omega arith)) c.1,
      (laid.header, laid.its_name),
      λ k lo hi. unnamed k lo (omega arith),
      Coded-told ws vs ns ms end (x.offset + x.size) (x.offset + size) stop bs t.4 first laid.gap
          (λ k lo hi. unnamed k (omega arith) hi) laid.told (λ k behind. laid.kept k (inr behind))
          (λ k behind. laid.other_names k (λ e. omega arith)) c.4,
    )

resized_from : (ws vs ns ms : List ℕ) (end at offset size stop name : ℕ) (b : BlockAt)
    (bs : List BlockAt) → Tiled at end bs → block_at bs offset ≡ Some b
    → stop ≡ offset + b.size + gap_at (gaps at end bs) (offset + b.size) → 6 ≤ size
    → offset + size ≤ stop → offset % 2 ≡ 0 → Coded ws ns end at bs
    → Laid ws vs ns ms end offset size stop name (nat_lt 0 (gap_up_to (gaps at end bs) offset))
    → Coded vs ms end at (with_block offset size name bs)
resized_from ws vs ns ms end at offset size stop name b [] t found is least fits even c laid =
    absurd (none_there offset b found)
resized_from ws vs ns ms end at offset size stop name b (x ∷ bs) t found is least fits even c laid =
    elim (cases_eq x.offset offset) [
      | inl e ↦
          let first = first_behind at end offset stop x b bs t e (same_block offset x b bs e found)
          is in
          let prev = prev_same at offset (gap_up_to (gaps at end (x ∷ bs)) offset)
          (gap_up_to-first at end offset x bs t e) in
          subst (Coded vs ms end at) (sym (with_block-first at end offset size name x bs t e))
          (resized_here ws vs ns ms end at size stop name x bs t first least (omega arith)
          (omega arith) c
          (subst (λ n. Laid ws vs ns ms end n size stop name (nat_lt at n)) (sym e)
          (subst (Laid ws vs ns ms end offset size stop name) prev laid)))
      | inr n ↦
          let there : block_at bs offset ≡ Some b = sym (block_at-past offset x bs n) ∙ found in
          let behind = block_at-behind (x.offset + x.size) end offset b bs t.4 there in
          subst (Coded vs ms end at)
          (sym (changed_past offset_of (with_size size name) offset x bs n))
          (Coded-past ws vs ns ms end at x bs (with_block offset size name bs) t
          (λ k lo hi. laid.kept k (inl (omega arith)))
          (λ k lo hi. laid.other_names k (λ e. omega arith)) c
          (resized_from ws vs ns ms end (x.offset + x.size) offset size stop name b bs t.4 there
          (omega (arith, gap_at-past at end (offset + b.size) x bs (omega (arith, t.2)))) least fits
          even c.4
          (subst (λ m. Laid ws vs ns ms end offset size stop name (nat_lt 0 m))
          (before_past at end offset x bs n) laid)))
    ]

-- units and names where a block was laid over a block stand for the blocks with that size and name
pub resized-coded : (ws vs ns ms : List ℕ) (end offset size stop name : ℕ) (b : BlockAt)
    (bs : List BlockAt) → Tiled 8 end bs → block_at bs offset ≡ Some b
    → stop ≡ offset + b.size + gap_at (gaps 8 end bs) (offset + b.size) → 6 ≤ size
    → offset + size ≤ stop → Coded ws ns end 8 bs
    → Laid ws vs ns ms end offset size stop name (nat_lt 0 (gap_up_to (gaps 8 end bs) offset))
    → Coded vs ms end 8 (with_block offset size name bs)
resized-coded ws vs ns ms end offset size stop name b bs t found is least fits c laid =
    resized_from ws vs ns ms end 8 offset size stop name b bs t found is least fits
    (block_at-even 8 end offset b bs t (omega arith) found) c laid

pub resized-IsCoded : (ws vs ns ms : List ℕ) (end offset size stop name : ℕ) (b : BlockAt)
    (bs : List BlockAt) → IsCoded ws ns end bs → block_at bs offset ≡ Some b
    → stop ≡ offset + b.size + gap_at (gaps 8 end bs) (offset + b.size) → 6 ≤ size
    → offset + size ≤ stop → Tiled 8 end (with_block offset size name bs)
    → Laid ws vs ns ms end offset size stop name (nat_lt 0 (gap_up_to (gaps 8 end bs) offset))
    → IsCoded vs ms end (with_block offset size name bs)
resized-IsCoded ws vs ns ms end offset size stop name b bs i found is least fits tiled laid =
    record {
      long = laid.words ∙ i.long;
      half = omega (arith, laid.halves, i.half);
      front = front-kept ns ms offset (block_at-behind 8 end offset b bs i.tiled found)
          laid.other_names i.front;
      tiled = tiled;
      coded = resized-coded ws vs ns ms end offset size stop name b bs i.tiled found is least fits
          i.coded laid;
    }

-- the first block has another name
renamed_here : (ws ns ms : List ℕ) (end at name : ℕ) (x : BlockAt) (bs : List BlockAt)
    → Tiled at end (x ∷ bs) → x.offset % 2 ≡ 0 → Coded ws ns end at (x ∷ bs)
    → slice_index ms (x.offset / 2) ≡ name → OtherNames ns ms x.offset
    → Coded ws ms end at (with_size x.size name x ∷ bs)
renamed_here ws ns ms end at name x bs t even c its_name others = (
  c.0,
  Unnamed-keeps ns ms at x.offset (λ k lo hi. others k (λ e. omega arith)) c.1,
  (c.2.0, its_name),
  λ k lo hi. others k (λ e. omega arith) ∙ c.3 k lo hi,
  Coded-keeps ws ws ns ms end (x.offset + x.size) bs t.4 (λ k lo hi. refl)
      (λ k lo hi. others k (λ e. omega (arith, t.2))) c.4,
)

renamed_from : (ws ns ms : List ℕ) (end at offset name : ℕ) (b : BlockAt) (bs : List BlockAt)
    → Tiled at end bs → block_at bs offset ≡ Some b → offset % 2 ≡ 0 → Coded ws ns end at bs
    → slice_index ms (offset / 2) ≡ name → OtherNames ns ms offset
    → Coded ws ms end at (with_block offset b.size name bs)
renamed_from ws ns ms end at offset name b [] t found even c its_name others =
    absurd (none_there offset b found)
renamed_from ws ns ms end at offset name b (x ∷ bs) t found even c its_name others =
    elim (cases_eq x.offset offset) [
      | inl e ↦
          let same : x ≡ b = same_block offset x b bs e found in
          subst (Coded ws ms end at)
          (ap (λ (y : BlockAt). with_size y.size name x ∷ bs) same
          ∙ sym (with_block-first at end offset b.size name x bs t e))
          (renamed_here ws ns ms end at name x bs t (omega arith) c
          (subst (λ n. slice_index ms (n / 2) ≡ name) (sym e) its_name)
          (subst (OtherNames ns ms) (sym e) others))
      | inr n ↦
          let there : block_at bs offset ≡ Some b = sym (block_at-past offset x bs n) ∙ found in
          let behind = block_at-behind (x.offset + x.size) end offset b bs t.4 there in
          subst (Coded ws ms end at)
          (sym (changed_past offset_of (with_size b.size name) offset x bs n))
          (Coded-past ws ws ns ms end at x bs (with_block offset b.size name bs) t
          (λ k lo hi. refl) (λ k lo hi. others k (λ e. omega arith)) c
          (renamed_from ws ns ms end (x.offset + x.size) offset name b bs t.4 there even c.4
          its_name others))
    ]

-- names where one was written stand for the blocks with that name
pub renamed-coded : (ws ns ms : List ℕ) (end offset name : ℕ) (b : BlockAt) (bs : List BlockAt)
    → Tiled 8 end bs → block_at bs offset ≡ Some b → Coded ws ns end 8 bs
    → slice_index ms (offset / 2) ≡ name → OtherNames ns ms offset
    → Coded ws ms end 8 (with_block offset b.size name bs)
renamed-coded ws ns ms end offset name b bs t found c its_name others =
    renamed_from ws ns ms end 8 offset name b bs t found
    (block_at-even 8 end offset b bs t (omega arith) found) c its_name others

pub renamed-IsCoded : (ws ns ms : List ℕ) (end offset name : ℕ) (b : BlockAt) (bs : List BlockAt)
    → IsCoded ws ns end bs → block_at bs offset ≡ Some b
    → Tiled 8 end (with_block offset b.size name bs) → length ms ≡ length ns
    → slice_index ms (offset / 2) ≡ name → OtherNames ns ms offset
    → IsCoded ws ms end (with_block offset b.size name bs)
renamed-IsCoded ws ns ms end offset name b bs i found tiled halves its_name others =
    record {
      long = i.long;
      half = omega (arith, halves, i.half);
      front = front-kept ns ms offset (block_at-behind 8 end offset b bs i.tiled found) others
          i.front;
      tiled = tiled;
      coded = renamed-coded ws ns ms end offset name b bs i.tiled found i.coded its_name others;
    }
