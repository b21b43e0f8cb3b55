-- What a change of the blocks makes of a carrier's figures.
use Rattle.std.proofs.Common.{◌≡◌, ◌≢◌, ℕ, ◌+◌, ◌-◌, ◌%◌, ◌^◌, ◌<◌, ◌≤◌, List, ◌∷◌, [], length, max}
use Rattle.std.proofs.Common.{refl, sym, ap, ◌∙◌, subst, arith}
use Rattle.std.specs.Prelude.{Option, Some, IsSome}
use Rattle.ea_model.specs.declared.carriers.BlockAt.{BlockAt}
use Rattle.ea_model.specs.declared.carriers.Kind.TheVariants.{Multi}
use Rattle.ea_model.specs.Content.{Content, gap, gaps, gaps_of, gap_at, gap_up_to, gap_before}
use Rattle.ea_model.specs.Content.{gap_behind, block_at, end_of, size_of, taken_of, inserted}
use Rattle.ea_model.specs.Content.{allocated, largest, IsGapSize, Tiled}
use Rattle.ea_model.specs.Keyed.{without}
use Rattle.ea_model.proofs.Options.{some_value}
use Rattle.ea_laws.proofs.BlockLists.{offset_of, Enters, gap_at-whole, taken_of-enters}
use Rattle.ea_laws.proofs.BlockLists.{Tiled-inserted, Tiled-released}
use Rattle.ea_laws.proofs.Resized.{with_block, IsBlock, block_at-IsBlock}
use Rattle.ea_laws.proofs.Tiling.{Tiled-allocated, Tiled-length}
use Rattle.ea_mbc.specs.Gaps.{room_at, Replaced, GapsJoined, GapResized}
use Rattle.ea_mbc.specs.Layout.{Layout, HasFigures}
use Rattle.ea_mbc.proofs.Greatest.{placed-largest, released-largest, shrunk-largest}
use Rattle.ea_mbc.proofs.Greatest.{grown-largest, allocated-inserted, length-inserted}
use Rattle.ea_mbc.proofs.Greatest.{allocated-without, length-without, allocated-with_block}
use Rattle.ea_mbc.proofs.Greatest.{length-with_block}
use Rattle.ea_mbc.proofs.Beside.{before-within}
use Rattle.ea_mbc.proofs.Resizing.{with_block-Resizes, grown-kept, renamed-kept, renamed-gaps}
use Rattle.ea_mbc.proofs.Replacing.{placed-GapTaken, released-GapsJoined}

-- a content whose units and blocks are these
abbrev pub content : ℕ → ℕ → ℕ → ℕ → Layout → Content
content number owner base birth l =
    record {
      number = number;
      owner = owner;
      base = base;
      birth = birth;
      units = l.end;
      kind = Multi;
      blocks = l.blocks;
    }

-- these are the units, the blocks and the figures of the content
pub record Known (now : Content) (l : Layout) (most sum number : ℕ) : Type 0 where
  pub end : l.end ≡ now.units
  pub blocks : l.blocks ≡ now.blocks
  pub tiled : Tiled 8 now.units now.blocks
  pub small : now.units < 2 ^ 32
  pub greatest : most ≡ largest (gaps_of now)
  pub taken : sum ≡ allocated now.blocks
  pub many : number ≡ length now.blocks

pub known : (n o b r most sum number : ℕ) (l : Layout) (now : Content) → content n o b r l ≡ now
    → HasFigures l most sum number → Known now l most sum number
known n o b r most sum number l now same h =
    record {
      end = ap (λ (c : Content). c.units) same;
      blocks = ap (λ (c : Content). c.blocks) same;
      tiled = subst (λ c. Tiled 8 c.units c.blocks) same h.tiled;
      small = subst (λ c. c.units < 2 ^ 32) same h.small;
      greatest = h.greatest ∙ ap (λ c. largest (gaps_of c)) same;
      taken = h.taken ∙ ap (λ (c : Content). allocated c.blocks) same;
      many = h.many ∙ ap (λ (c : Content). length c.blocks) same;
    }

-- a block of a gap's front
pub taken-enters : (now : Content) (name offset g need size : ℕ) → Tiled 8 now.units now.blocks
    → gap_at (gaps_of now) offset ≡ g → need ≤ g → need % 2 ≡ 0 → 6 ≤ need → size ≡ taken_of g need
    → Enters (record { name = name; offset = offset; size = size }) g
taken-enters now name offset g need size t is fits even least s =
    taken_of-enters (record { name = name; offset = offset; size = size }) g need fits least even
    (subst IsGapSize is (gap_at-whole 8 now.units offset now.blocks t)) s

-- the new layout has a block more
pub record Placing (now : Content) (m : Layout) (x : BlockAt) : Type 0 where
  pub end : m.end ≡ now.units
  pub blocks : m.blocks ≡ inserted x now.blocks
  pub enters : Enters x (gap_at (gaps_of now) x.offset)
  pub tiled : Tiled 8 now.units (inserted x now.blocks)
  pub taken : Replaced (gaps_of now) (gaps 8 m.end m.blocks)
      (record { offset = x.offset; size = gap_at (gaps_of now) x.offset } ∷ [])
      (gap (x.offset + x.size) (x.offset + gap_at (gaps_of now) x.offset))

pub placing : (most sum number g : ℕ) (l m : Layout) (now : Content) (x : BlockAt)
    → Known now l most sum number → m.end ≡ l.end → m.blocks ≡ inserted x l.blocks
    → gap_at (gaps_of now) x.offset ≡ g → Enters x g → Placing now m x
placing most sum number g l m now x k e bs is enters =
    let into = subst (Enters x) (sym is) enters in
    let now_blocks = bs ∙ ap (inserted x) k.blocks in
    record {
      end = e ∙ k.end;
      blocks = now_blocks;
      enters = into;
      tiled = Tiled-inserted 8 now.units x now.blocks k.tiled into;
      taken = subst (λ n. Replaced (gaps_of now) (gaps 8 n m.blocks)
          (record { offset = x.offset; size = gap_at (gaps_of now) x.offset } ∷ [])
          (gap (x.offset + x.size) (x.offset + gap_at (gaps_of now) x.offset)))
          (sym (e ∙ k.end))
          (placed-GapTaken now now x m.blocks refl k.tiled (omega (arith, into.fits, into.least))
          now_blocks);
    }

-- its figures still fit
pub placing-fits : (most sum number : ℕ) (l m : Layout) (now : Content) (x : BlockAt)
    → Known now l most sum number → Enters x (gap_at (gaps_of now) x.offset)
    → (sum + x.size < 2 ^ 32) × (number + 1 < 2 ^ 32)
placing-fits most sum number l m now x k enters =
    let t = Tiled-inserted 8 now.units x now.blocks k.tiled enters in (
      omega (
        arith,
        k.taken,
        k.small,
        Tiled-allocated 8 now.units (inserted x now.blocks) t,
        allocated-inserted x now.blocks,
      ),
      omega (
        arith,
        k.many,
        k.small,
        Tiled-length 8 now.units (inserted x now.blocks) t,
        length-inserted x now.blocks,
      ),
    )

pub placing-figures : (most sum number next : ℕ) (l m : Layout) (now : Content) (x : BlockAt)
    → Known now l most sum number → Placing now m x → next ≡ largest (gaps 8 m.end m.blocks)
    → HasFigures m next (sum + x.size) (number + 1)
placing-figures most sum number next l m now x k p is =
    record {
      tiled = subst (λ n. Tiled 8 n m.blocks) (sym p.end)
          (subst (Tiled 8 now.units) (sym p.blocks) p.tiled);
      small = subst (λ n. n < 2 ^ 32) (sym p.end) k.small;
      greatest = is;
      taken = omega (arith, k.taken, ap allocated p.blocks, allocated-inserted x now.blocks);
      many = omega
          (arith, k.many, ap (length {A = BlockAt}) p.blocks, length-inserted x now.blocks);
    }

-- the greatest gap is as before where the one that is taken wasn't the greatest
pub placing-largest : (most sum number g : ℕ) (l m : Layout) (now : Content) (x : BlockAt)
    → Known now l most sum number → Placing now m x → gap_at (gaps_of now) x.offset ≡ g → g < most
    → most ≡ largest (gaps 8 m.end m.blocks)
placing-largest most sum number g l m now x k p is lt =
    k.greatest ∙ sym (placed-largest now (content 0 0 0 0 m) x.offset x.size p.taken
    (omega (arith, k.greatest)))

-- a block that is there, with the gaps beside it
pub record BlockKnown (now : Content) (offset n after : ℕ) : Type 0 where
  pub b : BlockAt
  pub found : block_at now.blocks offset ≡ Some b
  pub is : IsBlock now offset b
  pub size : n ≡ b.size
  pub behind : after ≡ gap_behind now offset

pub block-known : (most sum number offset n after : ℕ) (l : Layout) (now : Content)
    → Known now l most sum number → IsSome (block_at now.blocks offset)
    → n ≡ size_of (block_at l.blocks offset)
    → after ≡ gap_at (gaps 8 l.end l.blocks) (end_of l.blocks offset)
    → BlockKnown now offset n after
block-known most sum number offset n after l now k some size behind =
    let block = some_value (block_at now.blocks offset) some in
    record {
      b = block.0;
      found = block.1;
      is = block_at-IsBlock now offset block.0 k.tiled block.1;
      size = size ∙ ap (λ bs. size_of (block_at bs offset)) k.blocks ∙ ap size_of block.1;
      behind = behind ∙ ap (λ bs. gap_at (gaps 8 l.end bs) (end_of bs offset)) k.blocks
          ∙ ap (λ e. gap_at (gaps 8 e now.blocks) (end_of now.blocks offset)) k.end;
    }

-- the block's units are among those of all blocks
pub block-among : (most sum number offset n after : ℕ) (l : Layout) (now : Content)
    → Known now l most sum number → BlockKnown now offset n after
    → (n ≤ sum) × (1 ≤ number) × (sum ≤ now.units)
block-among most sum number offset n after l now k b = (
  omega (
    arith,
    k.taken,
    b.size,
    allocated-without 8 now.units offset b.b now.blocks k.tiled b.found,
  ),
  omega (arith, k.many, length-without 8 now.units offset b.b now.blocks k.tiled b.found),
  omega (arith, k.taken, Tiled-allocated 8 now.units now.blocks k.tiled),
)

-- the new layout has lost the block
pub record Releasing (now : Content) (m : Layout) (offset n : ℕ) : Type 0 where
  pub end : m.end ≡ now.units
  pub blocks : m.blocks ≡ without offset_of offset now.blocks
  pub joined : GapsJoined now (content 0 0 0 0 m) offset n

pub releasing : (most sum number offset n after : ℕ) (l m : Layout) (now : Content)
    → Known now l most sum number → BlockKnown now offset n after → m.end ≡ l.end
    → m.blocks ≡ without offset_of offset l.blocks → Releasing now m offset n
releasing most sum number offset n after l m now k b e bs =
    let now_blocks = bs ∙ ap (without offset_of offset) k.blocks in
    let joined = released-GapsJoined now now offset b.b m.blocks refl k.tiled b.found now_blocks in
    record {
      end = e ∙ k.end;
      blocks = now_blocks;
      joined = subst (λ size. GapsJoined now (content 0 0 0 0 m) offset size) (sym b.size)
          (subst (λ units. GapsJoined now
          (content 0 0 0 0 (record { end = units; blocks = m.blocks })) offset b.b.size)
          (sym (e ∙ k.end)) joined);
    }

pub releasing-figures : (most sum number next offset n before after : ℕ) (l m : Layout)
    (now : Content) → Known now l most sum number → BlockKnown now offset n after
    → Releasing now m offset n → before ≡ gap_before now offset
    → next ≡ max most (before + n + after) → HasFigures m next (sum - n) (number - 1)
releasing-figures most sum number next offset n before after l m now k b r gap is =
    record {
      tiled = subst (λ e. Tiled 8 e m.blocks) (sym r.end)
          (subst (Tiled 8 now.units) (sym r.blocks)
          (Tiled-released 8 now.units offset now.blocks k.tiled));
      small = subst (λ e. e < 2 ^ 32) (sym r.end) k.small;
      greatest = is ∙ ap (λ a. max a (before + n + after)) k.greatest
          ∙ ap (λ a. max (largest (gaps_of now)) (a + n + after)) gap
          ∙ ap (λ a. max (largest (gaps_of now)) (gap_before now offset + n + a)) b.behind
          ∙ sym (released-largest now (content 0 0 0 0 m) offset n r.joined);
      taken = omega (
        arith,
        k.taken,
        b.size,
        ap allocated r.blocks,
        allocated-without 8 now.units offset b.b now.blocks k.tiled b.found,
      );
      many = omega (
        arith,
        k.many,
        ap (length {A = BlockAt}) r.blocks,
        length-without 8 now.units offset b.b now.blocks k.tiled b.found,
      );
    }

-- the new layout has the block with another size and name
pub record Resizing (now : Content) (m : Layout) (offset n size name : ℕ) : Type 0 where
  pub end : m.end ≡ now.units
  pub blocks : m.blocks ≡ with_block offset size name now.blocks
  pub tiled : Tiled 8 m.end m.blocks
  pub begins : block_at m.blocks offset
      ≡ Some (record { name = name; offset = offset; size = size })
  pub others : (at : ℕ) → at ≢ offset → block_at m.blocks at ≡ block_at now.blocks at
  pub known_gap : GapResized now (content 0 0 0 0 m) offset (size_of (block_at now.blocks offset))
      size
  pub gap : GapResized now (content 0 0 0 0 m) offset n size

is_there : (o : Option BlockAt) (b : BlockAt) → o ≡ Some b → IsSome o
is_there o b e = grind arith

pub resizing : (most sum number offset n after size name : ℕ) (l m : Layout) (now : Content)
    → Known now l most sum number → BlockKnown now offset n after → m.end ≡ l.end
    → m.blocks ≡ with_block offset size name l.blocks
    → Tiled 8 l.end (with_block offset size name l.blocks) → Resizing now m offset n size name
resizing most sum number offset n after size name l m now k b e bs tiled =
    let now_blocks = bs ∙ ap (with_block offset size name) k.blocks in
    let w = with_block-Resizes now now offset size name m.blocks refl k.tiled
    (is_there (block_at now.blocks offset) b.b b.found) now_blocks in
    let was : GapResized now (content 0 0 0 0 m) offset (size_of (block_at now.blocks offset))
    size = subst (λ units. GapResized now
    (content 0 0 0 0 (record { end = units; blocks = m.blocks })) offset
    (size_of (block_at now.blocks offset)) size) (sym (e ∙ k.end)) w.gap in
    record {
      end = e ∙ k.end;
      blocks = now_blocks;
      tiled = subst (λ n. Tiled 8 n m.blocks) (sym e) (subst (Tiled 8 l.end) (sym bs) tiled);
      begins = w.begins;
      others = w.others;
      known_gap = was;
      gap = subst (λ a. GapResized now (content 0 0 0 0 m) offset a size)
          (ap size_of b.found ∙ sym b.size) was;
    }

pub resizing-figures : (most sum number next total offset n after size name : ℕ) (l m : Layout)
    (now : Content) → Known now l most sum number → BlockKnown now offset n after
    → Resizing now m offset n size name → total ≡ sum - n + size
    → next ≡ largest (gaps 8 m.end m.blocks) → HasFigures m next total number
resizing-figures most sum number next total offset n after size name l m now k b r is next_is =
    record {
      tiled = r.tiled;
      small = subst (λ e. e < 2 ^ 32) (sym r.end) k.small;
      greatest = next_is;
      taken = omega (
        arith,
        k.taken,
        b.size,
        is,
        ap allocated r.blocks,
        (block-among most sum number offset n after l now k b).0,
        allocated-with_block 8 now.units offset size name b.b now.blocks k.tiled b.found,
      );
      many = omega (
        arith,
        k.many,
        ap (length {A = BlockAt}) r.blocks,
        length-with_block offset size name now.blocks,
      );
    }

pub shrinking-largest : (most sum number next offset n after size name : ℕ) (l m : Layout)
    (now : Content) → Known now l most sum number → BlockKnown now offset n after
    → Resizing now m offset n size name → size ≤ n → next ≡ max most (n + after - size)
    → next ≡ largest (gaps 8 m.end m.blocks)
shrinking-largest most sum number next offset n after size name l m now k b r le is =
    is ∙ ap (λ a. max a (n + after - size)) k.greatest
    ∙ ap (λ a. max (largest (gaps_of now)) (n + a - size)) b.behind
    ∙ sym (shrunk-largest now (content 0 0 0 0 m) offset n size r.gap le)

pub growing-largest : (most sum number offset n after size name : ℕ) (l m : Layout)
    (now : Content) → Known now l most sum number → BlockKnown now offset n after
    → Resizing now m offset n size name → n ≤ size → after < most
    → most ≡ largest (gaps 8 m.end m.blocks)
growing-largest most sum number offset n after size name l m now k b r le lt =
    k.greatest ∙ sym (grown-largest now (content 0 0 0 0 m) offset n size r.gap le
    (omega (arith, k.greatest, b.behind)))

-- the gap before a block
pub before-known : (most sum number offset before : ℕ) (l : Layout) (now : Content)
    → Known now l most sum number → IsSome (block_at now.blocks offset)
    → before ≡ gap_up_to (gaps 8 l.end l.blocks) offset
    → (before ≡ gap_before now offset) × (before ≤ offset)
before-known most sum number offset before l now k some e =
    let block = some_value (block_at now.blocks offset) some in
    let is : before ≡ gap_before now offset = e
    ∙ ap (λ bs. gap_up_to (gaps 8 l.end bs) offset) k.blocks
    ∙ ap (λ n. gap_up_to (gaps 8 n now.blocks) offset) k.end in
    (is, omega (arith, is, before-within 8 now.units offset block.0 now.blocks k.tiled block.1))

-- the units from where the gap before a block begins to where the one after it ends
pub released-most : (most offset before n after : ℕ) → before ≤ offset
    → max most (offset + n + after - (offset - before)) ≡ max most (before + n + after)
released-most most offset before n after le = ap (max most) (omega arith)

pub shrunk-most : (most offset n after size : ℕ)
    → max most (offset + n + after - (offset + size)) ≡ max most (n + after - size)
shrunk-most most offset n after size = ap (max most) (omega arith)

room-even : (now : Content) (offset n after : ℕ) → BlockKnown now offset n after
    → (n + after) % 2 ≡ 0
room-even now offset n after b = omega (arith, b.size, b.behind, b.is.even, b.is.gap.even)

taken-least : (g need : ℕ) → need ≤ g → need ≤ taken_of g need
taken-least g need fits = grind arith

taken-even : (g need : ℕ) → need % 2 ≡ 0 → g % 2 ≡ 0 → taken_of g need % 2 ≡ 0
taken-even g need even whole = grind arith

-- what a block takes of the gap after it
pub record Grown (end all n size : ℕ) (offset name : ℕ) (bs : List BlockAt) : Type 0 where
  pub more : n ≤ size
  pub even : size % 2 ≡ 0
  pub tiled : Tiled 8 end (with_block offset size name bs)
  pub sum : all - n + size ≤ end

pub grown-fits : (most sum number : ℕ) (now : Content) (offset need name n after size : ℕ)
    (l : Layout) {o w u i : ℕ} → content o w u i l ≡ now → Tiled 8 l.end l.blocks
    → Known now l most sum number → BlockKnown now offset n after
    → size_of (block_at now.blocks offset) < need → need % 2 ≡ 0 → need ≤ n + after
    → size ≡ taken_of (n + after) need → Grown l.end sum n size offset name l.blocks
grown-fits most sum number now offset need name n after size l same t k b more even fits is =
    let room : n + after ≡ room_at now offset = omega
    (arith, b.size, b.behind, ap size_of b.found) in
    let there = is_there (block_at now.blocks offset) b.b b.found in
    let grown = grown-kept _ now offset need name same t there more even
    (subst (λ a. need ≤ a) room fits) in
    let sizes : taken_of (room_at now offset) need ≡ size = ap (λ a. taken_of a need) (sym room)
    ∙ sym is in
    let tiled = subst (λ a. Tiled 8 l.end (with_block offset a name l.blocks)) sizes grown in
    record {
      more = omega (arith, more, b.size, ap size_of b.found, taken-least (n + after) need fits, is);
      even = subst (λ a. a % 2 ≡ 0) (sym is)
          (taken-even (n + after) need even (room-even now offset n after b));
      tiled = tiled;
      sum = omega (
        arith,
        k.taken,
        k.end,
        b.size,
        Tiled-allocated 8 l.end _ tiled,
        allocated-with_block 8 l.end offset size name b.b l.blocks t
            (ap (λ bs. block_at bs offset) k.blocks ∙ b.found),
        ap allocated k.blocks,
        (block-among most sum number offset n after l now k b).0,
      );
    }

-- the new layout has the block with another name
pub record Renaming (now : Content) (m : Layout) (most sum number offset name : ℕ) : Type 0 where
  pub figures : HasFigures m most sum number
  pub begins : block_at m.blocks offset
      ≡ Some (record {
        name = name;
        offset = offset;
        size = size_of (block_at now.blocks offset);
      })
  pub others : (at : ℕ) → at ≢ offset → block_at m.blocks at ≡ block_at now.blocks at
  pub gaps : gaps 8 m.end m.blocks ≡ gaps_of now

pub renaming : (most sum number offset name : ℕ) (l m : Layout) (now : Content)
    → Known now l most sum number → IsSome (block_at now.blocks offset) → m.end ≡ l.end
    → m.blocks ≡ with_block offset (size_of (block_at l.blocks offset)) name l.blocks
    → Renaming now m most sum number offset name
renaming most sum number offset name l m now k some e bs =
    let block = some_value (block_at now.blocks offset) some in
    let size : ℕ = size_of (block_at now.blocks offset) in
    let now_blocks : m.blocks ≡ with_block offset size name now.blocks = bs
    ∙ ap (λ xs. with_block offset (size_of (block_at xs offset)) name xs) k.blocks in
    let w = with_block-Resizes now now offset size name m.blocks refl k.tiled some now_blocks in
    let same : gaps 8 m.end m.blocks ≡ gaps_of now = ap (λ n. gaps 8 n m.blocks) (e ∙ k.end)
    ∙ renamed-gaps now now offset name m.blocks refl k.tiled some now_blocks in
    let tiled = renamed-kept now now offset name refl k.tiled some in
    record {
      figures = record {
        tiled = subst (λ n. Tiled 8 n m.blocks) (sym (e ∙ k.end))
            (subst (Tiled 8 now.units) (sym now_blocks) tiled);
        small = subst (λ n. n < 2 ^ 32) (sym (e ∙ k.end)) k.small;
        greatest = k.greatest ∙ ap largest (sym same);
        taken = omega (
          arith,
          k.taken,
          ap allocated now_blocks,
          ap size_of block.1,
          allocated-with_block 8 now.units offset size name block.0 now.blocks k.tiled block.1,
        );
        many = omega (
          arith,
          k.many,
          ap (length {A = BlockAt}) now_blocks,
          length-with_block offset size name now.blocks,
        );
      };
      begins = w.begins;
      others = w.others;
      gaps = same;
    }
