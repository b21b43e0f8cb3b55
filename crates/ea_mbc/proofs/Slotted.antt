-- The slots of a carrier whose blocks change.
use Rattle.std.proofs.Common.{◌≡◌, ℕ, ◌+◌, ◌-◌, ◌≤◌, List, refl, sym, ◌∙◌, subst}
use Rattle.std.proofs.Common.{arith}
use Rattle.std.specs.Prelude.{IsSome}
use Rattle.ea_model.specs.declared.carriers.BlockAt.{BlockAt}
use Rattle.ea_model.specs.Content.{gaps, gap_at, gap_up_to, gap_before, gap_behind}
use Rattle.ea_model.specs.Content.{block_at, end_of, size_of, inserted, Tiled}
use Rattle.ea_model.specs.Keyed.{without}
use Rattle.ea_laws.proofs.BlockLists.{offset_of, Enters, Tiled-inserted, Tiled-released}
use Rattle.ea_laws.proofs.Resized.{with_block}
use Rattle.ea_mbc.specs.Gaps.{GapTaken, GapsJoined, GapResized}
use Rattle.ea_mbc.specs.Indexed.{Slots, Indexed, IsHeld, HasSlot, put_in, taken_out}
use Rattle.ea_mbc.specs.Layout.{Layout}
use Rattle.ea_mbc.proofs.Indexing.{held-taken, slot-taken, indexed-taken, held-before}
use Rattle.ea_mbc.proofs.Indexing.{held-behind, slot-joined, indexed-joined, held-resized}
use Rattle.ea_mbc.proofs.Indexing.{slot-resized, indexed-resized}
use Rattle.ea_mbc.proofs.Replacing.{placed-GapTaken, released-GapsJoined}
use Rattle.ea_mbc.proofs.Resizing.{with_block-Resizes, renamed-gaps}
use Rattle.ea_mbc.specs.Coding.{blocks_of, IsCoded}
use Rattle.ea_mbc.proofs.Seen.{as_content, BlockRead}

-- the slots have the gaps of the layout
abbrev pub HasSlots : Layout → Slots → Type 0
HasSlots l s = Indexed l.end s (gaps 8 l.end l.blocks)

-- units and slots stand for the blocks that are seen
pub record Stands (words names : List ℕ) (now : Layout) (s : Slots) : Type 0 where
  pub tiled : Tiled 8 now.end now.blocks
  pub slots : HasSlots now s

pub stands : (words names : List ℕ) (end : ℕ) (now : Layout) (s : Slots)
    → (let l : Layout = record { end = end; blocks = blocks_of words names end } in l) ≡ now
    → IsCoded words names end (blocks_of words names end)
    → Indexed end s (gaps 8 end (blocks_of words names end)) → Stands words names now s
stands words names end now s same c i =
    record {
      tiled = subst (λ l. Tiled 8 l.end l.blocks) same c.tiled;
      slots = subst (λ l. HasSlots l s) same i;
    }

-- the slots that were made stand for the blocks that were made
pub slots-made : (end : ℕ) (bs cs : List BlockAt) (now : Layout) (s made : Slots) → end ≡ now.end
    → bs ≡ cs → made ≡ s → Indexed now.end s (gaps 8 now.end cs) → Indexed end made (gaps 8 end bs)
slots-made end bs cs now s made same blocks is i =
    subst (λ n. Indexed n made (gaps 8 n bs)) (sym same)
    (subst (λ xs. Indexed now.end made (gaps 8 now.end xs)) (sym blocks)
    (subst (λ t. Indexed now.end t (gaps 8 now.end cs)) (sym is) i))

-- a block is put at the front of a gap of g units
pub record Entering (now : Layout) (x : BlockAt) (g : ℕ) (s : Slots) : Type 0 where
  pub held : IsHeld x.offset g s
  pub slot : HasSlot (x.offset + x.size) (g - x.size) (taken_out x.offset g s)
  pub indexed : Indexed now.end
      (put_in (x.offset + x.size) (g - x.size) (taken_out x.offset g s))
      (gaps 8 now.end (inserted x now.blocks))

pub entering : (words names : List ℕ) (now : Layout) (x : BlockAt) (g : ℕ) (s : Slots)
    → Stands words names now s → g ≡ gap_at (gaps 8 now.end now.blocks) x.offset → Enters x g
    → Entering now x g s
entering words names now x g s h is into =
    let t = h.tiled in
    let i = h.slots in
    let old = as_content now in
    let new = as_content (record { end = now.end; blocks = inserted x now.blocks }) in
    let u = Tiled-inserted 8 now.end x now.blocks t (subst (Enters x) is into) in
    let r : GapTaken old new x.offset x.size = placed-GapTaken old old x (inserted x now.blocks)
    refl t (omega (arith, into.fits, into.least, is)) refl in
    record {
      held = held-taken old new s t u refl i x.offset x.size g is r;
      slot = slot-taken old new s t u refl i x.offset x.size g is r;
      indexed = indexed-taken old new s t u refl i x.offset x.size g is r;
    }

-- the block at the offset is released, and what is free then goes from `start` up to `stop`
pub record Leaving (now : Layout) (offset size start stop : ℕ) (s : Slots) : Type 0 where
  pub held_before : IsHeld start (offset - start) s
  pub held_after : IsHeld (offset + size) (stop - (offset + size))
      (taken_out start (offset - start) s)
  pub slot : HasSlot start (stop - start)
      (taken_out (offset + size) (stop - (offset + size)) (taken_out start (offset - start) s))
  pub indexed : Indexed now.end (put_in start (stop - start)
      (taken_out (offset + size) (stop - (offset + size)) (taken_out start (offset - start) s)))
      (gaps 8 now.end (without offset_of offset now.blocks))

pub leaving : (words names : List ℕ) (now : Layout) (offset size start stop : ℕ) (s : Slots)
    → Stands words names now s → (r : BlockRead words names now offset) → size ≡ r.b.size
    → start + gap_up_to (gaps 8 now.end now.blocks) offset ≡ offset
    → stop ≡ offset + size_of (block_at now.blocks offset)
    + gap_at (gaps 8 now.end now.blocks) (end_of now.blocks offset)
    → Leaving now offset size start stop s
leaving words names now offset size start stop s h b same first last =
    let t = h.tiled in
    let i = h.slots in
    let before : ℕ = offset - start in
    let after : ℕ = stop - (offset + size) in
    let old = as_content now in
    let new = as_content
    (record { end = now.end; blocks = without offset_of offset now.blocks }) in
    let u = Tiled-released 8 now.end offset now.blocks t in
    let p : before ≡ gap_before old offset = omega arith in
    let q : after ≡ gap_behind old offset = omega (arith, last, same, b.size) in
    let r : GapsJoined old new offset size = subst (GapsJoined old new offset) (sym same)
    (released-GapsJoined old old offset b.b (without offset_of offset now.blocks) refl t b.found refl)
    in
    let front : offset - before ≡ start = omega arith in
    let whole : before + size + after ≡ stop - start = omega (arith, first, last, same, b.size) in
    let left : Slots → Slots = λ x. taken_out (offset + size) after x in
    record {
      held_before = subst (λ n. IsHeld n before s) front
          (held-before old new s t u refl i offset before size after p q r);
      held_after = subst (λ n. IsHeld (offset + size) after (taken_out n before s)) front
          (held-behind old new s t u refl i offset before size after p q r);
      slot = subst (λ n. HasSlot start n (left (taken_out start before s))) whole
          (subst (λ n. HasSlot n (before + size + after) (left (taken_out n before s))) front
          (slot-joined old new s t u refl i offset before size after p q r));
      indexed = subst (λ n. Indexed now.end (put_in start n (left (taken_out start before s)))
          (gaps 8 now.end (without offset_of offset now.blocks))) whole
          (subst (λ n. Indexed now.end
          (put_in n (before + size + after) (left (taken_out n before s)))
          (gaps 8 now.end (without offset_of offset now.blocks))) front
          (indexed-joined old new s t u refl i offset before size after p q r));
    }

-- the block at the offset has `size` units in place of `was`, and what is free behind it goes up to
-- `stop`
pub record Refitting (now : Layout) (offset was size stop name : ℕ) (s : Slots) : Type 0 where
  pub held : IsHeld (offset + was) (stop - (offset + was)) s
  pub slot : HasSlot (offset + size) (stop - (offset + size))
      (taken_out (offset + was) (stop - (offset + was)) s)
  pub indexed : Indexed now.end (put_in (offset + size) (stop - (offset + size))
      (taken_out (offset + was) (stop - (offset + was)) s))
      (gaps 8 now.end (with_block offset size name now.blocks))

pub refitting : (words names : List ℕ) (now : Layout) (offset was size stop name : ℕ) (s : Slots)
    → Stands words names now s → (r : BlockRead words names now offset) → was ≡ r.b.size
    → stop ≡ offset + size_of (block_at now.blocks offset)
    + gap_at (gaps 8 now.end now.blocks) (end_of now.blocks offset) → offset + size ≤ stop
    → Tiled 8 now.end (with_block offset size name now.blocks)
    → Refitting now offset was size stop name s
refitting words names now offset was size stop name s h b same last fits u =
    let t = h.tiled in
    let i = h.slots in
    let after : ℕ = stop - (offset + was) in
    let old = as_content now in
    let new = as_content
    (record { end = now.end; blocks = with_block offset size name now.blocks }) in
    let q : after ≡ gap_behind old offset = omega (arith, last, same, b.size) in
    let r : GapResized old new offset was size = subst (λ n. GapResized old new offset n size)
    (b.size ∙ sym same)
    (with_block-Resizes old old offset size name (with_block offset size name now.blocks) refl t
    (subst IsSome (sym b.found) refl) refl).gap in
    let rest : was + after - size ≡ stop - (offset + size) = omega (arith, last, same, b.size, fits) in
    record {
      held = held-resized old new s t u refl i offset was size after q r;
      slot = subst (λ n. HasSlot (offset + size) n (taken_out (offset + was) after s)) rest
          (slot-resized old new s t u refl i offset was size after q r);
      indexed = subst (λ n. Indexed now.end
          (put_in (offset + size) n (taken_out (offset + was) after s))
          (gaps 8 now.end (with_block offset size name now.blocks))) rest
          (indexed-resized old new s t u refl i offset was size after q r);
    }

-- a block of another name
pub renaming : {words names : List ℕ} (now : Layout) (offset name : ℕ) (s : Slots)
    → Stands words names now s → IsSome (block_at now.blocks offset)
    → Indexed now.end s (gaps 8 now.end
    (with_block offset (size_of (block_at now.blocks offset)) name now.blocks))
renaming now offset name s h some =
    let c = as_content now in
    let cs = with_block offset (size_of (block_at now.blocks offset)) name now.blocks in
    subst (Indexed now.end s) (sym (renamed-gaps c c offset name cs refl h.tiled some refl)) h.slots
