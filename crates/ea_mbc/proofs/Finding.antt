-- What the units of a carrier say where a block or a gap begins.
use Rattle.std.proofs.Common.{◌≡◌, ◌≢◌, ℕ, ◌+◌, ◌-◌, ◌*◌, ◌/◌, ◌%◌, ◌<◌, ◌≤◌, ◌⊎◌, Bool, true}
use Rattle.std.proofs.Common.{false, List, [], ◌∷◌, get_or, refl, sym, ap, ◌∙◌, subst, inl, inr}
use Rattle.std.proofs.Common.{arith}
use Rattle.std.specs.Prelude.{slice_index, nat_lt, ◌==◌, Some, None, IsSome, All}
use Rattle.std.proofs.lemmas.Bool.{cases_lt, cases_eq}
use Rattle.ea_model.specs.declared.carriers.BlockAt.{BlockAt}
use Rattle.ea_model.specs.declared.carriers.Gap.{Gap}
use Rattle.ea_model.specs.Content.{gaps, gap_at, gap_up_to, block_at, IsGapSize, Tiled}
use Rattle.ea_model.proofs.Rising.{item_at-key, item_here, item_at-each}
use Rattle.ea_tags.specs.declared.header.Header.{Header}
use Rattle.ea_tags.specs.Words.{code}
use Rattle.ea_laws.proofs.BlockLists.{offset_of, gap_at-step, only_gap, block_at-past, Tiled-rising}
use Rattle.ea_laws.proofs.Resized.{gap_at-first, gap_at-past, none_there, same_block}
use Rattle.ea_laws.proofs.Chosen.{gaps-Begins}
use Rattle.ea_laws.proofs.Candidates.{gaps_Inside}
use Rattle.ea_laws.proofs.Tiling.{Tiled-allocated}
use Rattle.ea_mbc.specs.Coding.{GapCoded, BlockCoded, Coded, IsCoded}
use Rattle.ea_mbc.proofs.Beside.{gap_up_to-first}
use Rattle.ea_mbc.proofs.Replacing.{before_past}

same_header : (s t : ℕ) (a b c x y z : Bool) → s ≡ t → a ≡ x → b ≡ y → c ≡ z
    → (let h : Header = record { size = s; this_free = a; prev_free = b; last = c } in h)
    ≡ record { size = t; this_free = x; prev_free = y; last = z }
same_header s t a b c x y z e f g h = cc

parts_same : (s t : ℕ) (a b c x y z : Bool)
    → code (record { size = s; this_free = a; prev_free = b; last = c })
    ≡ code (record { size = t; this_free = x; prev_free = y; last = z })
    → (s ≡ t) × (a ≡ x) × (b ≡ y) × (c ≡ z)
parts_same s t a b c x y z e = grind arith

-- a header's word says all of the header
pub code-injective : (h k : Header) → code h ≡ code k → h ≡ k
code-injective h k e =
    let same = parts_same h.size k.size h.this_free h.prev_free h.last k.this_free k.prev_free
    k.last e in
    same_header h.size k.size h.this_free h.prev_free h.last k.this_free k.prev_free k.last same.0
    same.1 same.2 same.3

-- what stands at the block at the offset, of blocks from `at` on
pub record BlockThere (words names : List ℕ) (end at offset : ℕ) (b : BlockAt) (bs : List BlockAt)
    : Type 0 where
  pub begins : b.offset ≡ offset
  pub header : slice_index words offset
      ≡ code (record {
        size = b.size;
        this_free = false;
        prev_free = nat_lt 0 (gap_up_to (gaps at end bs) offset);
        last = (offset + b.size) == end;
      })
  pub name : slice_index names (offset / 2) ≡ b.name
  pub even : offset % 2 ≡ 0
  pub least : 6 ≤ b.size
  pub within : offset + b.size ≤ end
  pub room : at + gap_up_to (gaps at end bs) offset ≤ offset
  pub footer : 0 < gap_up_to (gaps at end bs) offset
      → slice_index words (offset - 1) ≡ gap_up_to (gaps at end bs) offset

-- the same where `before` units are free directly before the block
record Lying (words names : List ℕ) (end at before : ℕ) (b : BlockAt) : Type 0 where
  header : BlockCoded words names end (nat_lt 0 before) b
  even : b.offset % 2 ≡ 0
  least : 6 ≤ b.size
  within : b.offset + b.size ≤ end
  room : at + before ≤ b.offset
  footer : 0 < before → slice_index words (b.offset - 1) ≡ before

some_free : (at offset : ℕ) → at ≤ offset → nat_lt at offset ≡ nat_lt 0 (offset - at)
some_free at offset le = grind arith

lying_here : (words names : List ℕ) (end at : ℕ) (b : BlockAt) (bs : List BlockAt) → at % 2 ≡ 0
    → Tiled at end (b ∷ bs) → Coded words names end at (b ∷ bs)
    → Lying words names end at (b.offset - at) b
lying_here words names end at b bs even t c =
    record {
      header = subst (λ p. BlockCoded words names end p b) (some_free at b.offset t.0) c.2;
      even = omega (arith, even, t.0, t.1.even);
      least = t.2;
      within = omega (arith, Tiled-allocated (b.offset + b.size) end bs t.4);
      room = omega (arith, t.0);
      footer = λ some. (c.0 (omega arith)).1;
    }

-- an earlier begin of the tiling
lying_more : (words names : List ℕ) (end at a before : ℕ) (b : BlockAt) → at ≤ a
    → Lying words names end a before b → Lying words names end at before b
lying_more words names end at a before b le h =
    record {
      header = h.header;
      even = h.even;
      least = h.least;
      within = h.within;
      room = omega (arith, h.room);
      footer = h.footer;
    }

lying : (words names : List ℕ) (end at offset : ℕ) (b : BlockAt) (bs : List BlockAt) → at % 2 ≡ 0
    → Tiled at end bs → Coded words names end at bs → block_at bs offset ≡ Some b
    → Lying words names end at (gap_up_to (gaps at end bs) offset) b
lying words names end at offset b [] even t c h = absurd (none_there offset b h)
lying words names end at offset b (x ∷ bs) even t c h =
    elim (cases_eq x.offset offset) [
      | inl e ↦
          let before : x.offset - at ≡ gap_up_to (gaps at end (x ∷ bs)) offset = omega
          (arith, gap_up_to-first at end offset x bs t e) in
          subst (λ n. Lying words names end at n b) before
          (subst (Lying words names end at (x.offset - at)) (same_block offset x b bs e h)
          (lying_here words names end at x bs even t c))
      | inr n ↦
          subst (λ m. Lying words names end at m b) (sym (before_past at end offset x bs n))
          (lying_more words names end at (x.offset + x.size)
          (gap_up_to (gaps (x.offset + x.size) end bs) offset) b (omega (arith, t.0))
          (lying words names end (x.offset + x.size) offset b bs
          (omega (arith, even, t.0, t.1.even, t.3)) t.4 c.4
          (sym (block_at-past offset x bs n) ∙ h)))
    ]

there : (words names : List ℕ) (end at : ℕ) (b : BlockAt) (bs : List BlockAt)
    → Lying words names end at (gap_up_to (gaps at end bs) b.offset) b
    → BlockThere words names end at b.offset b bs
there words names end at b bs h =
    record {
      begins = refl;
      header = h.header.0;
      name = h.header.1;
      even = h.even;
      least = h.least;
      within = h.within;
      room = h.room;
      footer = h.footer;
    }

-- what the units say of a block that is there
pub block-coded : (words names : List ℕ) (end offset : ℕ) (b : BlockAt) (bs : List BlockAt)
    → Tiled 8 end bs → Coded words names end 8 bs → block_at bs offset ≡ Some b
    → BlockThere words names end 8 offset b bs
block-coded words names end offset b bs t c h =
    let begins = item_at-key offset_of offset b bs h in
    subst (λ n. BlockThere words names end 8 n b bs) begins
    (there words names end 8 b bs
    (subst (λ n. Lying words names end 8 (gap_up_to (gaps 8 end bs) n) b) (sym begins)
    (lying words names end 8 offset b bs refl t c h)))

-- the header of a block that is there
pub header-of : (words names : List ℕ) (end offset : ℕ) (b : BlockAt) (bs : List BlockAt)
    → Tiled 8 end bs → Coded words names end 8 bs → block_at bs offset ≡ Some b → (h : Header)
    → code h ≡ slice_index words offset → (h.size ≡ b.size) × (h.this_free ≡ false)
    × (h.prev_free ≡ nat_lt 0 (gap_up_to (gaps 8 end bs) offset))
header-of words names end offset b bs t c found h e =
    let is = code-injective h (record {
      size = b.size;
      this_free = false;
      prev_free = nat_lt 0 (gap_up_to (gaps 8 end bs) offset);
      last = (offset + b.size) == end;
    }) (e ∙ (block-coded words names end offset b bs t c found).header) in (
      ap (λ (x : Header). x.size) is,
      ap (λ (x : Header). x.this_free) is,
      ap (λ (x : Header). x.prev_free) is,
    )

-- the header of a gap or of a block that stands at `stop`, where `free` units are free, of `end`
-- units
pub record HeaderAt (words : List ℕ) (end stop free : ℕ) (h : Header) : Type 0 where
  pub is : slice_index words stop ≡ code h
  pub least : 6 ≤ h.size
  pub gap : h.this_free ≡ true → free ≡ h.size
  pub block : h.this_free ≡ false → free ≡ 0

-- what stands at `stop`, where a block, a gap or the carrier's header ends; there `free` units are
-- free
pub record Behind (words : List ℕ) (end stop free : ℕ) : Type 0 where
  pub within : stop + free ≤ end
  pub header : stop < end → (h : Header) × HeaderAt words end stop free h

behind_end : (words : List ℕ) (end at free : ℕ) → end ≡ at → free ≡ 0 → Behind words end at free
behind_end words end at free e none =
    record { within = omega arith; header = λ lt. absurd (omega arith) }

behind_gap : (words : List ℕ) (end at to free : ℕ) → at < to → to ≤ end → IsGapSize (to - at)
    → GapCoded words end at to → at + free ≡ to → Behind words end at free
behind_gap words end at to free lt le whole g e =
    record {
      within = omega arith;
      header = λ _. (
        record { size = to - at; this_free = true; prev_free = false; last = to == end },
        record {
          is = (g lt).0;
          least = whole.whole (omega arith);
          gap = λ _. omega arith;
          block = λ f. absurd cc;
        },
      );
    }

behind_block : (words names : List ℕ) (end at free : ℕ) (prev : Bool) (b : BlockAt)
    → b.offset ≡ at → free ≡ 0 → 6 ≤ b.size → b.offset + b.size ≤ end
    → BlockCoded words names end prev b → Behind words end at free
behind_block words names end at free prev b e none least le h =
    record {
      within = omega arith;
      header = λ _. (
        record {
          size = b.size;
          this_free = false;
          prev_free = prev;
          last = (b.offset + b.size) == end;
        },
        record {
          is = ap (slice_index words) (sym e) ∙ h.0;
          least = least;
          gap = λ f. absurd cc;
          block = λ _. none;
        },
      );
    }

-- where the coding begins
pub Behind-first : (words names : List ℕ) (end at : ℕ) (bs : List BlockAt) → Tiled at end bs
    → Coded words names end at bs → Behind words end at (gap_at (gaps at end bs) at)
Behind-first words names end at [] t c =
    let first = gap_at-first at end [] t in
    elim (cases_lt at end) [
      | inl lt ↦ behind_gap words end at end (gap_at (gaps at end []) at) lt (omega arith) t.1 c.0
          first
      | inr le ↦ behind_end words end at (gap_at (gaps at end []) at) (omega (arith, t.0))
          (omega (arith, first, t.0))
    ]
Behind-first words names end at (b ∷ bs) t c =
    let first = gap_at-first at end (b ∷ bs) t in
    let within = Tiled-allocated (b.offset + b.size) end bs t.4 in
    elim (cases_lt at b.offset) [
      | inl lt ↦ behind_gap words end at b.offset (gap_at (gaps at end (b ∷ bs)) at) lt
          (omega (arith, within)) t.1 c.0 first
      | inr le ↦ behind_block words names end at (gap_at (gaps at end (b ∷ bs)) at)
          (nat_lt at b.offset) b (omega (arith, t.0)) (omega (arith, first, t.0)) t.2
          (omega (arith, within)) c.2
    ]

-- where a block ends
behind : (words names : List ℕ) (end at offset stop : ℕ) (b : BlockAt) (bs : List BlockAt)
    → Tiled at end bs → Coded words names end at bs → block_at bs offset ≡ Some b
    → stop ≡ offset + b.size → (at ≤ offset) × Behind words end stop (gap_at (gaps at end bs) stop)
behind words names end at offset stop b [] t c h s = absurd (none_there offset b h)
behind words names end at offset stop b (x ∷ bs) t c h s =
    elim (cases_eq x.offset offset) [
      | inl e ↦
          let size : x.size ≡ b.size = ap (λ (y : BlockAt). y.size) (same_block offset x b bs e h)
          in
          let ends : x.offset + x.size ≡ stop = omega arith in
          let past = gap_at-past at end (x.offset + x.size) x bs (omega (arith, t.2)) in (
            omega (arith, t.0),
            subst (λ n. Behind words end n (gap_at (gaps at end (x ∷ bs)) n)) ends
                (subst (Behind words end (x.offset + x.size)) (sym past)
                (Behind-first words names end (x.offset + x.size) bs t.4 c.4)),
          )
      | inr n ↦
          let more = behind words names end (x.offset + x.size) offset stop b bs t.4 c.4
          (sym (block_at-past offset x bs n) ∙ h) s in
          let past = gap_at-past at end stop x bs (omega (arith, more.0, t.2)) in
          (omega (arith, more.0, t.0), subst (Behind words end stop) (sym past) more.1)
    ]

pub behind-coded : (words names : List ℕ) (end offset stop : ℕ) (b : BlockAt) (bs : List BlockAt)
    → Tiled 8 end bs → Coded words names end 8 bs → block_at bs offset ≡ Some b
    → stop ≡ offset + b.size → Behind words end stop (gap_at (gaps 8 end bs) stop)
behind-coded words names end offset stop b bs t c h s =
    (behind words names end 8 offset stop b bs t c h s).1

-- what stands at a gap of g units, not before `at`
pub record GapThere (words : List ℕ) (end at offset g : ℕ) : Type 0 where
  pub behind : at ≤ offset
  pub even : offset % 2 ≡ 0
  pub least : 6 ≤ g
  pub within : offset + g ≤ end
  pub header : slice_index words offset
      ≡ code (record {
        size = g;
        this_free = true;
        prev_free = false;
        last = (offset + g) == end;
      })
  pub footer : slice_index words (offset + g - 1) ≡ g

gap_whole : (words : List ℕ) (end at g : ℕ) → 0 < g → at + g ≤ end → IsGapSize g → at % 2 ≡ 0
    → GapCoded words end at (at + g) → GapThere words end at at g
gap_whole words end at g some le whole even h =
    let size : at + g - at ≡ g = omega arith in
    let there = h (omega arith) in
    record {
      behind = omega arith;
      even = even;
      least = whole.whole some;
      within = le;
      header = there.0
          ∙ ap (λ n. code (record {
            size = n;
            this_free = true;
            prev_free = false;
            last = (at + g) == end;
          })) size;
      footer = there.1 ∙ size;
    }

gap_here : (words : List ℕ) (end at to offset g : ℕ) → at < to → to ≤ end → IsGapSize (to - at)
    → at % 2 ≡ 0 → GapCoded words end at to → offset ≡ at → g ≡ to - at
    → GapThere words end at offset g
gap_here words end at to offset g lt le whole even h e s =
    let ends : to ≡ at + g = omega arith in
    subst (λ n. GapThere words end at n g) (sym e)
    (gap_whole words end at g (omega arith) (omega arith) (subst IsGapSize (sym s) whole) even
    (subst (GapCoded words end at) ends h))

gap_later : (words : List ℕ) (end at a offset g : ℕ) → at ≤ a → GapThere words end a offset g
    → GapThere words end at offset g
gap_later words end at a offset g le h =
    record {
      behind = omega (arith, h.behind);
      even = h.even;
      least = h.least;
      within = h.within;
      header = h.header;
      footer = h.footer;
    }

gap_there : (words names : List ℕ) (end at offset g : ℕ) (bs : List BlockAt) → at % 2 ≡ 0
    → Tiled at end bs → Coded words names end at bs → 0 < g → g ≡ gap_at (gaps at end bs) offset
    → GapThere words end at offset g
gap_there words names end at offset g [] even t c some e =
    let only = only_gap at end offset t.0 (omega arith) in
    gap_here words end at end offset g (omega arith) (omega arith) t.1 even c.0 only.0
    (e ∙ only.1)
gap_there words names end at offset g (b ∷ bs) even t c some e =
    let within = Tiled-allocated (b.offset + b.size) end bs t.4 in
    elim (gap_at-step at b.offset offset (gaps (b.offset + b.size) end bs)) [
      | inl p ↦ gap_here words end at b.offset offset g p.0 (omega (arith, within)) t.1 even c.0 p.1
          (e ∙ p.2)
      | inr q ↦ gap_later words end at (b.offset + b.size) offset g (omega (arith, t.0))
          (gap_there words names end (b.offset + b.size) offset g bs
          (omega (arith, even, t.0, t.1.even, t.3)) t.4 c.4 some (e ∙ q))
    ]

-- what the units say of a gap
pub gap-coded : (words names : List ℕ) (end offset : ℕ) (bs : List BlockAt) → Tiled 8 end bs
    → Coded words names end 8 bs → 0 < gap_at (gaps 8 end bs) offset
    → GapThere words end 8 offset (gap_at (gaps 8 end bs) offset)
gap-coded words names end offset bs t c some =
    gap_there words names end 8 offset (gap_at (gaps 8 end bs) offset) bs refl t c some refl

-- a block and the gap after it end within the carrier
pub block-stop : (words names : List ℕ) (end offset stop : ℕ) (b : BlockAt) (bs : List BlockAt)
    → Tiled 8 end bs → Coded words names end 8 bs → block_at bs offset ≡ Some b
    → stop ≡ offset + b.size + gap_at (gaps 8 end bs) (offset + b.size) → stop ≤ end
block-stop words names end offset stop b bs t c found s =
    omega (arith, (behind-coded words names end offset (offset + b.size) b bs t c found refl).within)

-- a name that isn't 0 is that of a block
found_past : (offset : ℕ) (b : BlockAt) (bs : List BlockAt) → b.offset ≢ offset
    → IsSome (block_at bs offset) → IsSome (block_at (b ∷ bs) offset)
found_past offset b bs n h = subst IsSome (sym (block_at-past offset b bs n)) h

found_here : (offset : ℕ) (b : BlockAt) (bs : List BlockAt) → b.offset ≡ offset
    → IsSome (block_at (b ∷ bs) offset)
found_here offset b bs e = subst IsSome (sym (item_here offset_of offset b bs e)) refl

half : (offset : ℕ) → offset % 2 ≡ 0 → 2 * (offset / 2) ≡ offset
half offset even = omega arith

named_there : (words names : List ℕ) (end at offset : ℕ) (bs : List BlockAt)
    → Coded words names end at bs → at ≤ offset → offset % 2 ≡ 0 → offset < end
    → slice_index names (offset / 2) ≢ 0 → IsSome (block_at bs offset)
named_there words names end at offset [] c le even lt name =
    absurd (name (c.1 (offset / 2) (omega (arith, half offset even))
    (omega (arith, half offset even))))
named_there words names end at offset (b ∷ bs) c le even lt name =
    elim (cases_lt offset b.offset) [
      | inl early ↦ absurd (name (c.1 (offset / 2) (omega (arith, half offset even))
          (omega (arith, half offset even))))
      | inr late ↦ elim (cases_eq b.offset offset) [
        | inl e ↦ found_here offset b bs e
        | inr n ↦ elim (cases_lt offset (b.offset + b.size)) [
          | inl inside ↦ absurd (name (c.3 (offset / 2) (omega (arith, half offset even))
              (omega (arith, half offset even))))
          | inr past ↦ found_past offset b bs n
              (named_there words names end (b.offset + b.size) offset bs c.4 past even lt name)
        ]
      ]
    ]

pub unnamed-coded : (words names : List ℕ) (end offset : ℕ) (bs : List BlockAt)
    → Coded words names end 8 bs → 8 ≤ offset → offset % 2 ≡ 0 → offset < end
    → slice_index names (offset / 2) ≢ 0 → IsSome (block_at bs offset)
unnamed-coded words names end offset bs c le even lt name =
    named_there words names end 8 offset bs c le even lt name

pub unnamed-IsCoded : (words names : List ℕ) (end offset : ℕ) (bs : List BlockAt)
    → IsCoded words names end bs → offset % 2 ≡ 0 → offset < end
    → slice_index names (offset / 2) ≢ 0 → IsSome (block_at bs offset)
unnamed-IsCoded words names end offset bs c even lt name =
    elim (cases_lt offset 8) [
      | inl front ↦ absurd (name (c.front (offset / 2) (omega arith)
          (omega (arith, half offset even))))
      | inr le ↦ unnamed-coded words names end offset bs c.coded le even lt name
    ]

-- no block begins at an odd offset, before the tiling does, or where it ends
no_block : (at end offset : ℕ) (bs : List BlockAt) → at % 2 ≡ 0 → Tiled at end bs
    → (offset % 2 ≡ 1) ⊎ (offset < at) ⊎ (end ≤ offset) → block_at bs offset ≡ None
no_block at end offset [] even t h = refl
no_block at end offset (b ∷ bs) even t h =
    let within = Tiled-allocated (b.offset + b.size) end bs t.4 in
    block_at-past offset b bs
    (λ e. elim h [
      | inl odd ↦ omega (arith, even, t.0, t.1.even)
      | inr out ↦ elim out
          [ inl low ↦ omega (arith, t.0) | inr high ↦ omega (arith, within, t.2) ]
    ])
    ∙ no_block (b.offset + b.size) end offset bs (omega (arith, even, t.0, t.1.even, t.3)) t.4
    (elim h [
      | inl odd ↦ inl odd
      | inr out ↦ elim out
          [ inl low ↦ inr (inl (omega (arith, t.0))) | inr high ↦ inr (inr high) ]
    ])

pub nothing-there : (end offset : ℕ) (bs : List BlockAt) → Tiled 8 end bs
    → (offset % 2 ≡ 1) ⊎ (offset < 8) ⊎ (end ≤ offset) → block_at bs offset ≡ None
nothing-there end offset bs t h = no_block 8 end offset bs refl t h

-- the units say of each block and of each gap where it begins
pub blocks-tags : (words names : List ℕ) (units : ℕ) (bs : List BlockAt)
    → IsCoded words names units bs
    → All (λ b. slice_index words b.offset
    ≡ code (record {
      size = b.size;
      this_free = false;
      prev_free = nat_lt 0 (gap_up_to (gaps 8 units bs) b.offset);
      last = (b.offset + b.size) == units;
    })) bs
blocks-tags words names units bs c =
    λ i d within. (block-coded words names units (get_or bs i d).offset (get_or bs i d) bs c.tiled
    c.coded (item_at-each offset_of i d bs (Tiled-rising 8 units bs c.tiled) within)).header

gap_tags : (words names : List ℕ) (units : ℕ) (bs : List BlockAt) (g : Gap)
    → IsCoded words names units bs → 1 ≤ g.size → gap_at (gaps 8 units bs) g.offset ≡ g.size
    → (slice_index words g.offset
    ≡ code (record {
      size = g.size;
      this_free = true;
      prev_free = false;
      last = (g.offset + g.size) == units;
    }))
    × (slice_index words (g.offset + g.size - 1) ≡ g.size)
gap_tags words names units bs g c some e =
    let there = subst (GapThere words units 8 g.offset) e
    (gap-coded words names units g.offset bs c.tiled c.coded (omega arith)) in
    (there.header, there.footer)

pub gaps-tags : (words names : List ℕ) (units : ℕ) (bs : List BlockAt)
    → IsCoded words names units bs
    → All (λ g. (slice_index words g.offset
    ≡ code (record {
      size = g.size;
      this_free = true;
      prev_free = false;
      last = (g.offset + g.size) == units;
    }))
    × (slice_index words (g.offset + g.size - 1) ≡ g.size)) (gaps 8 units bs)
gaps-tags words names units bs c =
    λ i d within. gap_tags words names units bs (get_or (gaps 8 units bs) i d) c
    (gaps_Inside 8 units bs c.tiled i d within).some
    (gaps-Begins 8 units bs c.tiled i d within).size
