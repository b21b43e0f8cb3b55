-- A carrier's units and names after a block was taken out.
use Rattle.std.proofs.Common.{◌≡◌, ℕ, ◌+◌, ◌*◌, ◌/◌, ◌%◌, ◌<◌, ◌≤◌, List, [], ◌∷◌}
use Rattle.std.proofs.Common.{sym, ap, ◌∙◌, subst, inl, inr, arith}
use Rattle.std.specs.Prelude.{Some, true, nat_lt, slice_index}
use Rattle.std.proofs.lemmas.Bool.{cases_eq, cases_lt}
use Rattle.ea_model.specs.declared.carriers.BlockAt.{BlockAt}
use Rattle.ea_model.specs.Content.{gaps, gap_at, gap_up_to, block_at, Tiled}
use Rattle.ea_model.specs.Keyed.{without}
use Rattle.ea_model.proofs.Rising.{without_here, without_past}
use Rattle.ea_laws.proofs.BlockLists.{offset_of, block_at-past, without-behind, Tiled-released}
use Rattle.ea_laws.proofs.Resized.{first_at, none_there, same_block, gap_at-first, gap_at-past}
use Rattle.ea_mbc.specs.Coding.{Unnamed, Coded, IsCoded, Told, Cleared}
use Rattle.ea_mbc.proofs.Beside.{gap_up_to-first}
use Rattle.ea_mbc.proofs.Replacing.{before_past}
use Rattle.ea_mbc.proofs.Frame.{Coded-past, Coded-told, Unnamed-behind, front-kept, first_behind}
use Rattle.ea_mbc.proofs.Frame.{OtherNames, block_at-even, block_at-behind}

some_before : (a b : ℕ) → a < b → true ≡ nat_lt a b
some_before a b lt = grind arith

-- the gap before a block is behind what comes before that gap
gap_up_to-within : (at end offset : ℕ) (b : BlockAt) (bs : List BlockAt) → Tiled at end bs
    → block_at bs offset ≡ Some b → at + gap_up_to (gaps at end bs) offset ≤ offset
gap_up_to-within at end offset b [] t found = absurd (none_there offset b found)
gap_up_to-within at end offset b (x ∷ bs) t found =
    elim (cases_eq x.offset offset) [
      | inl e ↦ omega (arith, t.0, gap_up_to-first at end offset x bs t e)
      | inr n ↦ omega (
        arith,
        t.0,
        before_past at end offset x bs n,
        gap_up_to-within (x.offset + x.size) end offset b bs t.4
            (sym (block_at-past offset x bs n) ∙ found),
      )
    ]

-- where the first block is taken out, no name stands up to the next block or the end
unnamed_here : (ws ns ms : List ℕ) (end at offset : ℕ) (x : BlockAt) (bs : List BlockAt)
    → x.offset ≡ offset → Coded ws ns end at (x ∷ bs) → slice_index ms (offset / 2) ≡ 0
    → OtherNames ns ms offset → Unnamed ms at (first_at end bs)
unnamed_here ws ns ms end at offset x bs begins c gone others = λ k lo hi.
    elim (cases_eq k (offset / 2)) [
      | inl e ↦ ap (slice_index ms) e ∙ gone
      | inr n ↦ others k n
          ∙ (elim (cases_lt (2 * k) x.offset) [
            | inl lt ↦ c.1 k lo lt
            | inr le ↦ Unnamed-behind ws ns end at x bs c k (omega arith) hi
          ])
    ]

-- the first block is taken out
released_here : (ws vs ns ms : List ℕ) (end at offset stop : ℕ) (x : BlockAt) (bs : List BlockAt)
    → Tiled at end (x ∷ bs) → x.offset ≡ offset → first_at end bs ≡ stop
    → Coded ws ns end at (x ∷ bs) → Cleared ws vs ns ms end at offset stop → Coded vs ms end at bs
released_here ws vs ns ms end at offset stop x bs t begins first c cleared =
    let reach = gap_at-first (x.offset + x.size) end bs t.4 in
    Coded-told ws vs ns ms end (x.offset + x.size) at stop bs t.4 first cleared.gap
    (subst (Unnamed ms at) first
    (unnamed_here ws ns ms end at offset x bs begins c cleared.its_name cleared.other_names))
    (subst (Told ws vs end stop) (some_before at stop (omega (arith, t.0, t.2, reach, first)))
    cleared.told) (λ k behind. cleared.kept k (inr behind))
    (λ k behind. cleared.other_names k (λ e. omega (arith, t.2, reach, first, begins))) c.4

released_from : (ws vs ns ms : List ℕ) (end at start offset stop : ℕ) (b : BlockAt)
    (bs : List BlockAt) → Tiled at end bs → block_at bs offset ≡ Some b
    → start + gap_up_to (gaps at end bs) offset ≡ offset
    → stop ≡ offset + b.size + gap_at (gaps at end bs) (offset + b.size) → offset % 2 ≡ 0
    → Coded ws ns end at bs → Cleared ws vs ns ms end start offset stop
    → Coded vs ms end at (without offset_of offset bs)
released_from ws vs ns ms end at start offset stop b [] t found begin is even c cleared =
    absurd (none_there offset b found)
released_from ws vs ns ms end at start offset stop b (x ∷ bs) t found begin is even c cleared =
    elim (cases_eq x.offset offset) [
      | inl e ↦
          let first = first_behind at end offset stop x b bs t e (same_block offset x b bs e found)
          is in
          let front : start ≡ at = omega (arith, begin, t.0, gap_up_to-first at end offset x bs t e)
          in
          subst (Coded vs ms end at)
          (sym (without_here offset_of offset x bs e
          ∙ without-behind (x.offset + x.size) end offset bs t.4 (omega (arith, t.2))))
          (released_here ws vs ns ms end at offset stop x bs t e first c
          (subst (λ n. Cleared ws vs ns ms end n offset stop) front cleared))
      | inr n ↦
          let there : block_at bs offset ≡ Some b = sym (block_at-past offset x bs n) ∙ found in
          let behind = block_at-behind (x.offset + x.size) end offset b bs t.4 there in
          let before = before_past at end offset x bs n in
          let low : x.offset + x.size ≤ start = omega (
            arith,
            before,
            gap_up_to-within (x.offset + x.size) end offset b bs t.4 there,
          ) in
          subst (Coded vs ms end at) (sym (without_past offset_of offset x bs n))
          (Coded-past ws vs ns ms end at x bs (without offset_of offset bs) t
          (λ k lo hi. cleared.kept k (inl (omega arith)))
          (λ k lo hi. cleared.other_names k (λ e. omega arith)) c
          (released_from ws vs ns ms end (x.offset + x.size) start offset stop b bs t.4 there
          (omega arith)
          (omega (arith, gap_at-past at end (offset + b.size) x bs (omega (arith, behind, t.2))))
          even c.4 cleared))
    ]

-- units and names where a block was cleared away stand for the blocks without it
pub released-coded : (ws vs ns ms : List ℕ) (end start offset stop : ℕ) (b : BlockAt)
    (bs : List BlockAt) → Tiled 8 end bs → block_at bs offset ≡ Some b
    → start + gap_up_to (gaps 8 end bs) offset ≡ offset
    → stop ≡ offset + b.size + gap_at (gaps 8 end bs) (offset + b.size) → Coded ws ns end 8 bs
    → Cleared ws vs ns ms end start offset stop → Coded vs ms end 8 (without offset_of offset bs)
released-coded ws vs ns ms end start offset stop b bs t found begin is c cleared =
    released_from ws vs ns ms end 8 start offset stop b bs t found begin is
    (block_at-even 8 end offset b bs t (omega arith) found) c cleared

pub released-IsCoded : (ws vs ns ms : List ℕ) (end start offset stop : ℕ) (b : BlockAt)
    (bs : List BlockAt) → IsCoded ws ns end bs → block_at bs offset ≡ Some b
    → start + gap_up_to (gaps 8 end bs) offset ≡ offset
    → stop ≡ offset + b.size + gap_at (gaps 8 end bs) (offset + b.size)
    → Cleared ws vs ns ms end start offset stop
    → IsCoded vs ms end (without offset_of offset bs)
released-IsCoded ws vs ns ms end start offset stop b bs i found begin is cleared =
    record {
      long = cleared.words ∙ i.long;
      half = omega (arith, cleared.halves, i.half);
      front = front-kept ns ms offset (block_at-behind 8 end offset b bs i.tiled found)
          cleared.other_names i.front;
      tiled = Tiled-released 8 end offset bs i.tiled;
      coded = released-coded ws vs ns ms end start offset stop b bs i.tiled found begin is i.coded
          cleared;
    }
