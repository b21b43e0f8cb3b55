-- The units of a carrier whose blocks are known: what is read of them, and what a change makes of
-- them.
use Rattle.std.proofs.Common.{◌≡◌, ℕ, ◌+◌, ◌-◌, ◌*◌, ◌/◌, ◌%◌, ◌<◌, ◌≤◌, Bool, true, false}
use Rattle.std.proofs.Common.{List, [], length, set, replicate, sym, ap, ◌∙◌, subst, inl, inr}
use Rattle.std.proofs.Common.{arith}
use Rattle.std.specs.Prelude.{Some, IsSome, slice_index, nat_lt, ◌==◌}
use Rattle.std.proofs.lemmas.Bool.{cases_Bool}
use Rattle.std.proofs.lemmas.List.{length-set, length-replicate, get_or-replicate}
use Rattle.ea_model.specs.declared.carriers.Kind.TheVariants.{Multi}
use Rattle.ea_model.specs.declared.carriers.BlockAt.{BlockAt}
use Rattle.ea_model.specs.declared.units.TheConstants.{MAX_UNITS}
use Rattle.ea_model.specs.Content.{gaps, gap_at, gap_up_to, block_at, end_of, size_of, inserted}
use Rattle.ea_model.specs.Content.{Content, IsGapSize, Tiled}
use Rattle.ea_model.specs.Keyed.{without}
use Rattle.ea_model.proofs.Options.{some_value}
use Rattle.ea_tags.specs.declared.header.Header.{Header}
use Rattle.ea_tags.specs.Words.{code}
use Rattle.ea_laws.proofs.BlockLists.{offset_of, gap_at-whole}
use Rattle.ea_laws.proofs.Resized.{with_block, end_of-block, block_at-IsBlock, renamed-tiled}
use Rattle.ea_mbc.specs.Coding.{blocks_of, GapCoded, IsCoded, Laid, Cleared}
use Rattle.ea_mbc.specs.Layout.{Layout}
use Rattle.ea_mbc.specs.Walks.{free_of}
use Rattle.ea_mbc.proofs.Finding.{code-injective, BlockThere, block-coded, header-of}
use Rattle.ea_mbc.proofs.Finding.{Behind, behind-coded, GapThere, gap-coded}
use Rattle.ea_mbc.proofs.Finding.{block-stop}
use Rattle.ea_mbc.proofs.Entering.{placed-IsCoded}
use Rattle.ea_mbc.proofs.Leaving.{released-IsCoded}
use Rattle.ea_mbc.proofs.Refitting.{resized-IsCoded, renamed-IsCoded}
use Rattle.ea_mbc.proofs.Writing.{its_name-is, others-are}

-- a content with these blocks
abbrev pub as_content : Layout → Content
as_content l =
    record {
      number = 0;
      owner = 0;
      base = 0;
      birth = 0;
      units = l.end;
      kind = Multi;
      blocks = l.blocks;
    }

-- the units stand for the blocks that are seen
pub record Seen (words names : List ℕ) (end : ℕ) (now : Layout) : Type 0 where
  pub same : end ≡ now.end
  pub coded : IsCoded words names now.end now.blocks
  pub few : now.end ≤ MAX_UNITS

pub seen : (words names : List ℕ) (end : ℕ) (now : Layout)
    → (let l : Layout = record { end = end; blocks = blocks_of words names end } in l) ≡ now
    → IsCoded words names end (blocks_of words names end) × (end ≤ MAX_UNITS)
    → Seen words names end now
seen words names end now same c =
    let ends : end ≡ now.end = ap (λ (l : Layout). l.end) same in
    record {
      same = ends;
      coded = subst (λ l. IsCoded words names l.end l.blocks) same c.0;
      few = subst (λ n. n ≤ MAX_UNITS) ends c.1;
    }

-- what is read at a block
pub record BlockRead (words names : List ℕ) (now : Layout) (offset : ℕ) : Type 0 where
  pub b : BlockAt
  pub found : block_at now.blocks offset ≡ Some b
  pub there : BlockThere words names now.end 8 offset b now.blocks
  pub size : size_of (block_at now.blocks offset) ≡ b.size
  pub ends : end_of now.blocks offset ≡ offset + b.size
  pub inside : offset < length words
  pub half : offset / 2 < length names

pub block-read : (words names : List ℕ) (end : ℕ) (now : Layout) (offset : ℕ)
    → Seen words names end now → IsSome (block_at now.blocks offset)
    → BlockRead words names now offset
block-read words names end now offset s some =
    let block = some_value (block_at now.blocks offset) some in
    let there = block-coded words names now.end offset block.0 now.blocks s.coded.tiled
    s.coded.coded block.1 in
    record {
      b = block.0;
      found = block.1;
      there = there;
      size = ap size_of block.1;
      ends = end_of-block offset block.0 now.blocks block.1
          ∙ ap (λ n. n + block.0.size) there.begins;
      inside = omega (arith, s.coded.long, there.within, there.least);
      half = omega (arith, s.coded.half, there.within, there.least);
    }

-- the header that is read there
pub header-read : (words names : List ℕ) (end : ℕ) (now : Layout) (offset : ℕ) (h : Header)
    → Seen words names end now → (r : BlockRead words names now offset)
    → code h ≡ slice_index words offset → (h.size ≡ r.b.size) × (h.this_free ≡ false)
    × (h.prev_free ≡ nat_lt 0 (gap_up_to (gaps 8 now.end now.blocks) offset))
header-read words names end now offset h s r e =
    header-of words names now.end offset r.b now.blocks s.coded.tiled s.coded.coded r.found h e

-- and the gap before it
pub record BeforeRead (words : List ℕ) (offset free : ℕ) (prev : Bool) : Type 0 where
  pub first : 1 ≤ offset
  pub word : prev ≡ true → slice_index words (offset - 1) ≡ free
  pub none : prev ≡ false → free ≡ 0

some_free : (prev : Bool) (free : ℕ) → prev ≡ nat_lt 0 free → prev ≡ true → 0 < free
some_free prev free e told = grind arith

none_free : (prev : Bool) (free : ℕ) → prev ≡ nat_lt 0 free → prev ≡ false → free ≡ 0
none_free prev free e told = grind arith

pub before-read : (words names : List ℕ) (end : ℕ) (now : Layout) (offset : ℕ) (h : Header)
    → Seen words names end now → BlockRead words names now offset
    → code h ≡ slice_index words offset
    → BeforeRead words offset (gap_up_to (gaps 8 now.end now.blocks) offset) h.prev_free
before-read words names end now offset h s r e =
    let free : ℕ = gap_up_to (gaps 8 now.end now.blocks) offset in
    let prev = (header-read words names end now offset h s r e).2 in
    record {
      first = omega (arith, r.there.room);
      word = λ told. r.there.footer (some_free h.prev_free free prev told);
      none = λ told. none_free h.prev_free free prev told;
    }

-- the free units where a block ends
pub free-read : (words : List ℕ) (end stop free : ℕ) (h : Header) → Behind words end stop free
    → stop < end → code h ≡ slice_index words stop → free_of h ≡ free
free-read words end stop free h behind lt e =
    let there = behind.header lt in
    let is : h ≡ there.0 = code-injective h there.0 (e ∙ there.1.is) in
    ap free_of is
    ∙ elim (cases_Bool there.0.this_free) [
      | inl free ↦ grind (arith, there.1.gap free, free)
      | inr taken ↦ grind (arith, there.1.block taken, taken)
    ]

pub behind-read : (words names : List ℕ) (end : ℕ) (now : Layout) (offset stop : ℕ)
    → Seen words names end now → (r : BlockRead words names now offset) → stop ≡ offset + r.b.size
    → Behind words now.end stop (gap_at (gaps 8 now.end now.blocks) (end_of now.blocks offset))
behind-read words names end now offset stop s r e =
    subst (λ n. Behind words now.end stop (gap_at (gaps 8 now.end now.blocks) n)) (e ∙ sym r.ends)
    (behind-coded words names now.end offset stop r.b now.blocks s.coded.tiled s.coded.coded r.found
    e)

pub gap-read : (words names : List ℕ) (end : ℕ) (now : Layout) (offset : ℕ)
    → Seen words names end now → 0 < gap_at (gaps 8 now.end now.blocks) offset
    → GapThere words now.end 8 offset (gap_at (gaps 8 now.end now.blocks) offset)
gap-read words names end now offset s some =
    gap-coded words names now.end offset now.blocks s.coded.tiled s.coded.coded some

-- a block that enters a gap
pub entered : (ws vs ns ms : List ℕ) (end g : ℕ) (x : BlockAt) (now : Layout)
    → Seen ws ns end now → g ≡ gap_at (gaps 8 now.end now.blocks) x.offset → x.size ≤ g
    → 6 ≤ x.size → x.size % 2 ≡ 0 → IsGapSize (g - x.size)
    → Laid ws vs ns ms end x.offset x.size (x.offset + g) x.name false
    → IsCoded vs ms end (inserted x now.blocks)
entered ws vs ns ms end g x now s is fits least even rest laid =
    subst (λ n. IsCoded vs ms n (inserted x now.blocks)) (sym s.same)
    (placed-IsCoded ws vs ns ms now.end g x now.blocks s.coded is
    (record { fits = fits; least = least; even = even; rest = rest })
    (subst (λ n. Laid ws vs ns ms n x.offset x.size (x.offset + g) x.name false) s.same laid))

-- a block that leaves
pub left : (ws vs ns ms : List ℕ) (end start offset stop : ℕ) (now : Layout)
    → Seen ws ns end now → (r : BlockRead ws ns now offset)
    → start + gap_up_to (gaps 8 now.end now.blocks) offset ≡ offset
    → stop ≡ offset + size_of (block_at now.blocks offset)
    + gap_at (gaps 8 now.end now.blocks) (end_of now.blocks offset)
    → Cleared ws vs ns ms end start offset stop
    → IsCoded vs ms end (without offset_of offset now.blocks)
left ws vs ns ms end start offset stop now s r first last cleared =
    subst (λ n. IsCoded vs ms n (without offset_of offset now.blocks)) (sym s.same)
    (released-IsCoded ws vs ns ms now.end start offset stop r.b now.blocks s.coded r.found first
    (last ∙ ap (λ n. offset + n + gap_at (gaps 8 now.end now.blocks) (end_of now.blocks offset))
    r.size ∙ ap (λ n. offset + r.b.size + gap_at (gaps 8 now.end now.blocks) n) r.ends)
    (subst (λ n. Cleared ws vs ns ms n start offset stop) s.same cleared))

-- a block of another size and name
pub refitted : (ws vs ns ms : List ℕ) (end offset size stop name : ℕ) (prev : Bool) (now : Layout)
    → Seen ws ns end now → (r : BlockRead ws ns now offset)
    → stop ≡ offset + size_of (block_at now.blocks offset)
    + gap_at (gaps 8 now.end now.blocks) (end_of now.blocks offset) → 6 ≤ size
    → offset + size ≤ stop → Tiled 8 now.end (with_block offset size name now.blocks)
    → prev ≡ nat_lt 0 (gap_up_to (gaps 8 now.end now.blocks) offset)
    → Laid ws vs ns ms end offset size stop name prev
    → IsCoded vs ms end (with_block offset size name now.blocks)
refitted ws vs ns ms end offset size stop name prev now s r last least fits tiled free laid =
    subst (λ n. IsCoded vs ms n (with_block offset size name now.blocks)) (sym s.same)
    (resized-IsCoded ws vs ns ms now.end offset size stop name r.b now.blocks s.coded r.found
    (last ∙ ap (λ n. offset + n + gap_at (gaps 8 now.end now.blocks) (end_of now.blocks offset))
    r.size ∙ ap (λ n. offset + r.b.size + gap_at (gaps 8 now.end now.blocks) n) r.ends) least fits
    tiled
    (subst (λ p. Laid ws vs ns ms now.end offset size stop name p) free
    (subst (λ n. Laid ws vs ns ms n offset size stop name prev) s.same laid)))

block_is : (b : BlockAt) (name offset size : ℕ) → b.name ≡ name → b.offset ≡ offset
    → b.size ≡ size → b ≡ record { name = name; offset = offset; size = size }
block_is b name offset size e f g = grind arith

-- the block that is read
pub block-is : (words names : List ℕ) (now : Layout) (offset name size : ℕ)
    → (r : BlockRead words names now offset) → name ≡ slice_index names (offset / 2)
    → size ≡ r.b.size
    → block_at now.blocks offset ≡ Some (record { name = name; offset = offset; size = size })
block-is words names now offset name size r e f =
    r.found
    ∙ ap Some (block_is r.b name offset size (sym (e ∙ r.there.name)) r.there.begins (sym f))

-- where the gap after a block ends
pub stop-read : (words names : List ℕ) (end : ℕ) (now : Layout) (offset stop : ℕ)
    → Seen words names end now → (r : BlockRead words names now offset)
    → stop ≡ offset + size_of (block_at now.blocks offset)
    + gap_at (gaps 8 now.end now.blocks) (end_of now.blocks offset)
    → stop ≤ now.end
stop-read words names end now offset stop s r e =
    block-stop words names now.end offset stop r.b now.blocks s.coded.tiled s.coded.coded r.found
    (e ∙ ap (λ n. offset + n + gap_at (gaps 8 now.end now.blocks) (end_of now.blocks offset))
    r.size ∙ ap (λ n. offset + r.b.size + gap_at (gaps 8 now.end now.blocks) n) r.ends)

-- and where a gap ends
pub gap-end : (words names : List ℕ) (end : ℕ) (now : Layout) (offset g : ℕ)
    → Seen words names end now → 0 < g → g ≡ gap_at (gaps 8 now.end now.blocks) offset
    → offset + g ≤ now.end
gap-end words names end now offset g s some e =
    omega (arith, e, (gap-read words names end now offset s (omega arith)).within)

-- what is left up to the end of the gap after a block is even
pub left-even : (words names : List ℕ) (end : ℕ) (now : Layout) (offset size stop : ℕ)
    → Seen words names end now → (r : BlockRead words names now offset)
    → stop ≡ offset + size_of (block_at now.blocks offset)
    + gap_at (gaps 8 now.end now.blocks) (end_of now.blocks offset) → size % 2 ≡ 0
    → offset + size < stop → offset + size + 2 ≤ stop
left-even words names end now offset size stop s r e even lt =
    let block = block_at-IsBlock (as_content now) offset r.b s.coded.tiled r.found in
    let after = gap_at-whole 8 now.end (end_of now.blocks offset) now.blocks s.coded.tiled in
    omega (arith, block.even, after.even, r.size, r.there.even)

-- a block of another name
pub renamed : (ws ns ms : List ℕ) (end offset name : ℕ) (now : Layout) → Seen ws ns end now
    → (r : BlockRead ws ns now offset) → ms ≡ set ns (offset / 2) name
    → IsCoded ws ms end (with_block offset (size_of (block_at now.blocks offset)) name now.blocks)
renamed ws ns ms end offset name now s r e =
    subst (λ n. IsCoded ws ms n
    (with_block offset (size_of (block_at now.blocks offset)) name now.blocks)) (sym s.same)
    (subst (λ n. IsCoded ws ms now.end (with_block offset n name now.blocks)) (sym r.size)
    (renamed-IsCoded ws ns ms now.end offset name r.b now.blocks s.coded r.found
    (renamed-tiled (as_content now) offset name r.b s.coded.tiled r.found)
    (ap length e ∙ length-set ns (offset / 2) name) (its_name-is ns ms offset name r.half e)
    (others-are ns ms offset name e)))

-- an even carrier without blocks
pub empty-coded : (words names : List ℕ) (end : ℕ) → end % 2 ≡ 0 → 14 ≤ end → length words ≡ end
    → GapCoded words end 8 end → names ≡ replicate (end / 2) 0 → IsCoded words names end []
empty-coded words names end even some long gap e =
    let zero : (k : ℕ) → 2 * k < end → slice_index names k ≡ 0 = λ k lt.
    ap (λ xs. slice_index xs k) e ∙ get_or-replicate (end / 2) k 0 0 (omega arith) in
    record {
      long = long;
      half = omega (arith, ap (length {A = ℕ}) e, length-replicate {A = ℕ} (end / 2) 0);
      front = λ k _ lt. zero k (omega arith);
      tiled = (omega arith, record { even = omega arith; whole = λ _. omega arith });
      coded = (gap, λ k _ lt. zero k lt);
    }

pub gap-size : (words : List ℕ) (end offset g : ℕ) (h : Header) → GapThere words end 8 offset g
    → code h ≡ slice_index words offset → h.size ≡ g
gap-size words end offset g h there e =
    ap (λ (x : Header). x.size)
    (code-injective h (record {
      size = g;
      this_free = true;
      prev_free = false;
      last = (offset + g) == end;
    }) (e ∙ there.header))
