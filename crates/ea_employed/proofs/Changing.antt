-- What a call makes of one of the carriers.
use Rattle.std.proofs.Common.{◌≡◌, ℕ, ◌+◌, ◌*◌, ◌%◌, ◌<◌, ◌≤◌, List}
use Rattle.std.proofs.Common.{get_or, set, ap, ◌∙◌, subst, refl, sym, arith}
use Rattle.std.specs.Option.{option_and_then}
use Rattle.std.specs.Prelude.{remove, Option, Some, None, IfSome, IsSome, option_map}
use Rattle.ea_model.specs.declared.carriers.BlockAt.{BlockAt}
use Rattle.ea_model.specs.declared.carriers.Candidate.{Candidate}
use Rattle.ea_model.specs.declared.carriers.Kind.{Kind}
use Rattle.ea_model.specs.declared.units.TheConstants.{HEADER_UNITS, MAX_UNITS}
use Rattle.ea_model.specs.declared.units.TheConstants.{MIN_BLOCK, PAGE_UNITS}
use Rattle.ea_model.specs.Content.{Content, block_at, gaps_of, gap_before, gap_behind, largest}
use Rattle.ea_model.specs.Content.{placed, released, resized, size_of, taken_of, Tiled}
use Rattle.ea_model.specs.Instance.{block_in, changed, content_of, without_content}
use Rattle.ea_model.proofs.Options.{some_holds, some_value}
use Rattle.ea_model.proofs.Rising.{item_at-All, item_at-key}
use Rattle.ea_cset.specs.declared.keys.Found.{Found}
use Rattle.ea_mbc.specs.Gaps.{room_at, GapResized, GapTaken, GapsJoined}
use Rattle.ea_mbc.specs.declared.carrier.Freed.{Freed}
use Rattle.ea_mbc.specs.declared.carrier.Placed.{Placed}
use Rattle.ea_mbc.specs.declared.carrier.Resized.{Resized}
use Rattle.ea_laws.specs.Kept.{number_of, IsLaidOut}
use Rattle.ea_laws.proofs.Resized.{block_at-IsBlock, grown-tiled, shrunk-tiled}
use Rattle.ea_employed.specs.declared.choice.Choice.{Choice}
use Rattle.ea_employed.specs.Laid.{AreLaid}
use Rattle.ea_employed.specs.Choices.{IsChoice, IsChosenIn}
use Rattle.ea_employed.specs.Listed.{CarrierList, StandsAmong}
use Rattle.ea_employed.proofs.Changed.{at_choice, block-there, block-within}
use Rattle.ea_employed.proofs.Changed.{choice-same, remove-at, same-item, set_is_changed, IsAt}
use Rattle.ea_employed.proofs.Finding.{found-there, found-within}

-- a block was placed in the gap
pub record IsPlacing (need name : ℕ) (x : Candidate) (p : Placed) (old new : List Content) : Type 0
  where
    pub content : Content
    pub there : content_of old x.number ≡ Some content
    pub chosen : IsChosenIn need content x
    pub is : new ≡ changed (λ c. placed c x.offset need name) x.number old
    pub size : p.size ≡ taken_of x.size need
    pub largest : p.largest ≡ largest (gaps_of (placed content x.offset need name))
    pub taken : GapTaken content (placed content x.offset need name) x.offset p.size

-- the block at the offset, which is at the address, was released
pub record IsReleasing (number offset address : ℕ) (f : Freed) (old new : List Content) : Type 0
  where
    pub content : Content
    pub there : content_of old number ≡ Some content
    pub is : new ≡ changed (λ c. released c offset) number old
    pub block : IsSome (block_at content.blocks offset)
    pub size : f.size ≡ size_of (block_at content.blocks offset)
    pub place : address ≡ PAGE_UNITS * content.base + offset
    pub before : f.before ≡ gap_before content offset
    pub after : f.after ≡ gap_behind content offset
    pub largest : f.largest ≡ largest (gaps_of (released content offset))
    pub joined : GapsJoined content (released content offset) offset f.size

-- the block at the offset, which is at the address, has that many units and this name
pub record IsResized (offset units name address : ℕ) (r : Resized) (old new : Content) : Type 0
  where
    pub block : IsSome (block_at old.blocks offset)
    pub is : new ≡ resized old offset units name
    pub place : address ≡ PAGE_UNITS * old.base + offset
    pub was : r.was ≡ size_of (block_at old.blocks offset)
    pub after : r.after ≡ gap_behind old offset
    pub size : r.size ≡ units
    pub largest : r.largest ≡ largest (gaps_of new)
    pub tiled : Tiled HEADER_UNITS new.units new.blocks
    pub gap : GapResized old new offset r.was r.size

-- the block at the offset of the carrier with the number has this name, and as many units as the
-- carrier gives it
pub record IsResizing (number offset : ℕ) (units : Content → ℕ) (name address : ℕ) (r : Resized)
    (old new : List Content) : Type 0 where
  pub content : Content
  pub there : content_of old number ≡ Some content
  pub is : new ≡ changed (λ c. resized c offset (units c) name) number old
  pub block : IsResized offset (units content) name address r content
      (resized content offset (units content) name)

-- the block at the offset of the carrier with the number has this name, and the gaps stay
pub record IsRenaming (number offset name : ℕ) (old new : List Content) : Type 0 where
  pub content : Content
  pub there : content_of old number ≡ Some content
  pub is : new
      ≡ changed (λ c. resized c offset (size_of (block_at c.blocks offset)) name) number old
  pub gaps : gaps_of (resized content offset (size_of (block_at content.blocks offset)) name)
      ≡ gaps_of content

-- the block at the offset in the carrier with the number, which stands at the index
pub record IsFound (cs : List Content) (number offset i : ℕ) (item : Content) : Type 0 where
  pub at : IsAt cs i number item
  pub laid : AreLaid cs
  pub sound : IsLaidOut item
  pub begins : IsSome (block_at item.blocks offset)
  pub within : offset ≤ item.units

-- the carrier with the number, which is laid out, was taken out
pub record IsTakenOut (number : ℕ) (item : Content) (old new : List Content) : Type 0 where
  pub laid : AreLaid old
  pub there : content_of old number ≡ Some item
  pub sound : IsLaidOut item
  pub rest : new ≡ without_content number old

pub found-at : (l now : CarrierList) (f : Found) (offset : ℕ) (item : Content)
    → l ≡ now → AreLaid now.contents → StandsAmong now.contents f
    → IsSome (block_in now.contents (record { carrier = f.carrier.key.number; offset = offset }))
    → item ≡ get_or l.contents f.index item
    → IsFound l.contents f.carrier.key.number offset f.index item
found-at l now f offset item same laid stands block is =
    let cs = l.contents in
    let number = f.carrier.key.number in
    let here = subst (λ (m : CarrierList). AreLaid m.contents) (sym same) laid in
    let in_list = subst (λ (m : CarrierList). StandsAmong m.contents f) (sym same) stands in
    let there = found-there cs f item here.rising in_list is in
    let begins = block-there (λ b. IsSome b) cs number offset item there
    (subst (λ (m : CarrierList). IsSome (block_in m.contents (record {
      carrier = number;
      offset = offset;
    }))) (sym same) block) in
    let sound = item_at-All number_of IsLaidOut number item cs here.sound there in
    record {
      at = record {
        within = found-within cs f in_list;
        is = is;
        number = item_at-key number_of number item cs there;
        there = there;
      };
      laid = here;
      sound = sound;
      begins = begins;
      within = block-within 8 item.units offset item.blocks sound.tiled begins;
    }

-- what is read of the carrier that was found
module _ (l now : CarrierList) (f : Found) (offset : ℕ) (item carrier : Content) (kind : Kind)
    (same : l ≡ now) (laid : AreLaid now.contents) (stands : StandsAmong now.contents f)
    (is : item ≡ get_or l.contents f.index item) (view : record carrier { kind = kind } ≡ item)
  where
    pub found-content : content_of now.contents f.carrier.key.number
        ≡ Some (record carrier { kind = kind })
    found-content =
        ap (λ (m : CarrierList). content_of m.contents f.carrier.key.number) (sym same)
        ∙ found-there l.contents f item
        (subst (λ (m : CarrierList). AreLaid m.contents) (sym same) laid).rising
        (subst (λ (m : CarrierList). StandsAmong m.contents f) (sym same) stands) is
        ∙ ap Some (sym view)

    pub found-block : block_in now.contents (record {
      carrier = f.carrier.key.number;
      offset = offset;
    }) ≡ block_at carrier.blocks offset
    found-block = ap (option_and_then (λ (c : Content). block_at c.blocks offset)) found-content

-- the carrier that was found is taken out
pub taking-out : (l now : CarrierList) (f : Found) (item : Content) (new : List Content)
    → l ≡ now → AreLaid now.contents → StandsAmong now.contents f
    → item ≡ get_or l.contents f.index item → new ≡ remove l.contents f.index
    → IsTakenOut f.carrier.key.number item l.contents new
taking-out l now f item new same laid stands is gone =
    let cs = l.contents in
    let here = subst (λ (m : CarrierList). AreLaid m.contents) (sym same) laid in
    let in_list = subst (λ (m : CarrierList). StandsAmong m.contents f) (sym same) stands in
    let there = found-there cs f item here.rising in_list is in
    record {
      laid = here;
      there = there;
      sound = item_at-All number_of IsLaidOut f.carrier.key.number item cs here.sound there;
      rest =
          gone ∙ remove-at f.index item cs here.rising (found-within cs f in_list)
          ∙ ap (λ n. without_content n cs) (ap number_of (sym is)
          ∙ item_at-key number_of f.carrier.key.number item cs there);
    }

-- a block placed in the chosen gap
pub placing : (l now : CarrierList) (need name : ℕ) (found : Choice)
    (item carrier next : Content) (kind : Kind) (p : Placed) → l ≡ now → AreLaid now.contents
    → IsChoice need now.contents found → item ≡ get_or l.contents found.index item
    → record carrier { kind = kind } ≡ item
    → next ≡ placed carrier found.candidate.offset need name
    → p.size ≡ taken_of found.candidate.size need → p.largest ≡ largest (gaps_of next)
    → GapTaken carrier next found.candidate.offset p.size
    → IsPlacing need name found.candidate p l.contents
    (set l.contents found.index (record next { kind = kind }))
placing l now need name found item carrier next kind p same laid chosen at seen is size most taken =
    let cs = l.contents in
    let x = found.candidate in
    let rising = (subst (λ (m : CarrierList). AreLaid m.contents) (sym same) laid).rising in
    let choice = subst (λ (m : CarrierList). IsChoice need m.contents found) (sym same) chosen in
    let stands = at_choice need cs found item rising at choice in
    let f : Content → Content = λ m. placed m x.offset need name in
    let made : record next { kind = kind } ≡ f item =
    ap (λ (m : Content). record m { kind = kind }) is ∙ ap f seen in
    record {
      content = item;
      there = stands.there;
      chosen = subst (λ m. IsChosenIn need m x) (choice-same need cs found item at choice)
          choice.chosen;
      is = set_is_changed f cs found.index x.number item (record next { kind = kind }) stands rising
          made;
      size = size;
      largest = most ∙ ap (λ m. largest (gaps_of m)) made;
      taken = subst (λ m. GapTaken m (f item) x.offset p.size) seen
          (subst (λ m. GapTaken (record carrier { kind = kind }) m x.offset p.size) made taken);
    }

with_size : (o : Option BlockAt) (n : ℕ) → option_map (λ b. b.size) o ≡ Some n → n ≡ size_of o
with_size None n is = absurd cc
with_size (Some b) n is = cc

-- a block and the gap behind it lie in their carrier
pub block_and_gap-within : (c : Content) (offset : ℕ) → IsLaidOut c
    → IsSome (block_at c.blocks offset)
    → offset + size_of (block_at c.blocks offset) + gap_behind c offset ≤ c.units
block_and_gap-within c offset laid h =
    let s = some_value (block_at c.blocks offset) h in
    omega (arith, (block_at-IsBlock c offset s.0 laid.tiled s.1).within, ap size_of s.1)

-- what a block takes of room that is enough
pub taken-between : (room need : ℕ) → need ≤ room
    → (need ≤ taken_of room need) × (taken_of room need ≤ room)
taken-between room need le = (grind arith, grind arith)

-- the block and the gap behind it lie in the super carrier
pub resizing-low : (number offset : ℕ) (units : Content → ℕ) (name address : ℕ) (r : Resized)
    (cs new : List Content) → AreLaid cs → IsResizing number offset units name address r cs new
    → address + r.was + r.after ≤ MAX_UNITS
resizing-low number offset units name address r cs new laid w =
    let sound = item_at-All number_of IsLaidOut number w.content cs laid.sound w.there in
    omega (
      arith,
      block_and_gap-within w.content offset sound w.block.block,
      sound.low,
      w.block.place,
      w.block.was,
      w.block.after,
    )

-- the carrier with the number, `item`, becomes `next`, and keeps its kind; `here` is what was read
-- of it before
module _ (l now : CarrierList) (f : Found) (offset : ℕ) (here item : Content)
    (same : l ≡ now) (laid : AreLaid now.contents) (stands : StandsAmong now.contents f)
    (block : IsSome (block_in now.contents (record {
      carrier = f.carrier.key.number;
      offset = offset;
    })))
    (is_here : here ≡ get_or l.contents f.index here)
    (is_item : item ≡ get_or l.contents f.index item) where
  abbrev cs : List Content
  cs = l.contents

  abbrev number : ℕ
  number = f.carrier.key.number

  abbrev i : ℕ
  i = f.index

  was : IsFound cs number offset i here
  was = found-at l now f offset here same laid stands block is_here

  w : IsFound cs number offset i item
  w = found-at l now f offset item same laid stands block is_item

  found-more : (need : ℕ)
      → size_of (block_in now.contents (record { carrier = number; offset = offset })) < need
      → size_of (block_at item.blocks offset) < need
  found-more need more = block-there (λ b. size_of b < need) cs number offset item w.at.there
      (subst (λ (m : CarrierList). size_of (block_in m.contents (record {
        carrier = number;
        offset = offset;
      })) < need) (sym same) more)

  found-fewer : (need : ℕ)
      → need ≤ size_of (block_in now.contents (record { carrier = number; offset = offset }))
      → need ≤ size_of (block_at item.blocks offset)
  found-fewer need fewer = block-there (λ b. need ≤ size_of b) cs number offset item w.at.there
      (subst (λ (m : CarrierList). need ≤ size_of (block_in m.contents (record {
        carrier = number;
        offset = offset;
      }))) (sym same) fewer)

  found-room : (need : ℕ) → IfSome (content_of now.contents number) (λ m. need ≤ room_at m offset)
      → need ≤ room_at item offset
  found-room need fits = some_holds (content_of cs number) item (λ m. need ≤ room_at m offset)
      w.at.there (subst (λ (m : CarrierList). IfSome (content_of m.contents number)
      (λ d. need ≤ room_at d offset)) (sym same) fits)

  module _ (kind : Kind) (carrier next : Content) (view : record carrier { kind = kind } ≡ item)
    where
      placed_at : (address : ℕ) → address ≡ PAGE_UNITS * here.base + offset
          → address ≡ PAGE_UNITS * item.base + offset
      placed_at address is = is ∙ ap (λ (m : Content). PAGE_UNITS * m.base + offset)
          (same-item cs i number here item was.at w.at)

      pub releasing : (address : ℕ) (r : Freed) → address ≡ PAGE_UNITS * here.base + offset
          → next ≡ released carrier offset
          → option_map (λ b. b.size) (block_at carrier.blocks offset) ≡ Some r.size
          → (r.before ≡ gap_before carrier offset) × (r.after ≡ gap_behind carrier offset)
          → r.largest ≡ largest (gaps_of next) → GapsJoined carrier next offset r.size
          → IsReleasing number offset address r cs (set cs i (record next { kind = kind }))
      releasing address r place is size gaps most joined =
          let g : Content → Content = λ m. released m offset in
          let made : record next { kind = kind } ≡ g item =
          ap (λ (m : Content). record m { kind = kind }) is ∙ ap g view in
          record {
            content = item;
            there = w.at.there;
            is = set_is_changed g cs i number item (record next { kind = kind }) w.at w.laid.rising
                made;
            block = w.begins;
            size = with_size (block_at carrier.blocks offset) r.size size
                ∙ ap (λ (m : Content). size_of (block_at m.blocks offset)) view;
            place = placed_at address place;
            before = gaps.0 ∙ ap (λ m. gap_before m offset) view;
            after = gaps.1 ∙ ap (λ m. gap_behind m offset) view;
            largest = most ∙ ap (λ m. largest (gaps_of m)) made;
            joined = subst (λ m. GapsJoined m (g item) offset r.size) view
                (subst (λ m. GapsJoined (record carrier { kind = kind }) m offset r.size) made
                joined);
          }

      pub resizing : (units : Content → ℕ) (name address : ℕ) (r : Resized)
          → address ≡ PAGE_UNITS * here.base + offset
          → next ≡ resized carrier offset (units item) name
          → r.was ≡ size_of (block_at carrier.blocks offset) → r.after ≡ gap_behind carrier offset
          → r.size ≡ units item → r.largest ≡ largest (gaps_of next)
          → Tiled HEADER_UNITS item.units (resized item offset (units item) name).blocks
          → GapResized carrier next offset r.was r.size
          → IsResizing number offset units name address r cs (set cs i (record next {
            kind = kind;
          }))
      resizing units name address r place is size after now most tiled gap =
          let g : Content → Content = λ m. resized m offset (units item) name in
          let made : record next { kind = kind } ≡ g item =
          ap (λ (m : Content). record m { kind = kind }) is ∙ ap g view in
          record {
            content = item;
            there = w.at.there;
            is = set_is_changed (λ m. resized m offset (units m) name) cs i number item
                (record next { kind = kind }) w.at w.laid.rising made;
            block = record {
              block = w.begins;
              is = refl;
              place = placed_at address place;
              was = size ∙ ap (λ (m : Content). size_of (block_at m.blocks offset)) view;
              after = after ∙ ap (λ m. gap_behind m offset) view;
              size = now;
              largest = most ∙ ap (λ m. largest (gaps_of m)) made;
              tiled = tiled;
              gap = subst (λ m. GapResized m (g item) offset r.was r.size) view
                  (subst (λ m. GapResized (record carrier { kind = kind }) m offset r.was r.size)
                  made
                  gap);
            };
          }

      -- with fewer units, or with more
      pub shrinking : (need name address : ℕ) (r : Resized) → address ≡ PAGE_UNITS * here.base +
          offset
          → next ≡ resized carrier offset need name
          → need + MIN_BLOCK
          ≤ size_of (block_in now.contents (record { carrier = number; offset = offset }))
          → need % 2 ≡ 0
          → MIN_BLOCK ≤ need → r.was ≡ size_of (block_at carrier.blocks offset)
          → r.after ≡ gap_behind carrier offset → r.size ≡ need → r.largest ≡ largest (gaps_of next)
          → GapResized carrier next offset (size_of (block_at carrier.blocks offset)) need
          → IsResizing number offset (λ m. need) name address r cs
          (set cs i (record next { kind = kind }))
      shrinking need name address r place is fewer even least size after now most gap =
          let block = some_value (block_at item.blocks offset) w.begins in
          resizing (λ m. need) name address r place is size after now most
          (shrunk-tiled item offset need name block.0 w.sound.tiled block.1
          (omega (arith, found-fewer (need + MIN_BLOCK) fewer, ap size_of block.1)) even least)
          (subst (λ n. GapResized carrier next offset n r.size) (sym size)
          (subst (GapResized carrier next offset (size_of (block_at carrier.blocks offset))) (sym
          now)
          gap))

      pub growing : (need name address : ℕ) (r : Resized) → address ≡ PAGE_UNITS * here.base +
          offset
          → next ≡ resized carrier offset r.size name
          → size_of (block_in now.contents (record { carrier = number; offset = offset })) < need
          → need % 2 ≡ 0
          → IfSome (content_of now.contents number) (λ m. need ≤ room_at m offset) → r.was ≡
          size_of (block_at carrier.blocks offset)
          → r.after ≡ gap_behind carrier offset → r.size ≡ taken_of (room_at carrier offset) need
          → r.largest ≡ largest (gaps_of next) → GapResized carrier next offset r.was r.size
          → IsResizing number offset (λ m. taken_of (room_at m offset) need) name address r cs
          (set cs i (record next { kind = kind }))
      growing need name address r place is more even fits size after now most gap =
          let block = some_value (block_at item.blocks offset) w.begins in
          let units : Content → ℕ = λ m. taken_of (room_at m offset) need in
          let size_now : r.size ≡ units item = now ∙ ap units view in
          let is_size = ap size_of block.1 in
          resizing units name address r place (is ∙ ap (λ n. resized carrier offset n name)
          size_now)
          size after size_now most
          (subst (λ n. Tiled HEADER_UNITS item.units
          (resized item offset (taken_of (n + gap_behind item offset) need) name).blocks) (sym
          is_size)
          (grown-tiled item offset need name block.0 w.sound.tiled block.1
          (omega (arith, found-more need more, is_size)) even
          (omega (arith, found-room need fits, is_size)))) gap

      pub renaming : (name : ℕ)
          → next ≡ resized carrier offset (size_of (block_at carrier.blocks offset)) name
          → gaps_of next ≡ gaps_of carrier
          → IsRenaming number offset name cs (set cs i (record next { kind = kind }))
      renaming name is same =
          let g : Content → Content =
          λ m. resized m offset (size_of (block_at m.blocks offset)) name in
          let made : record next { kind = kind } ≡ g item =
          ap (λ (m : Content). record m { kind = kind }) is ∙ ap g view in
          record {
            content = item;
            there = w.at.there;
            is = set_is_changed g cs i number item (record next { kind = kind }) w.at w.laid.rising
                made;
            gaps = sym (ap gaps_of made) ∙ same ∙ ap gaps_of view;
          }

-- what the block takes is more than it had, and what it had and the gap behind it at most
pub growing-between : (number offset need name address : ℕ) (r : Resized) (l now : CarrierList)
    (new : List Content) → l ≡ now
    → (w : IsResizing number offset (λ m. taken_of (room_at m offset) need) name address r
    l.contents new)
    → size_of (block_in now.contents (record { carrier = number; offset = offset })) < need
    → IfSome (content_of now.contents number) (λ m. need ≤ room_at m offset)
    → (r.was < r.size) × (r.size ≤ r.was + r.after)
growing-between number offset need name address r l now new same w more fits =
    let item = w.content in
    let least = block-there (λ b. size_of b < need) l.contents number offset item w.there
    (subst (λ (m : CarrierList). size_of (block_in m.contents (record {
      carrier = number;
      offset = offset;
    })) < need) (sym same) more) in
    let room = some_holds (content_of l.contents number) item (λ m. need ≤ room_at m offset) w.there
    (subst (λ (m : CarrierList). IfSome (content_of m.contents number)
    (λ d. need ≤ room_at d offset)) (sym same) fits) in
    let between = taken-between (room_at item offset) need room in (
      omega (arith, least, w.block.was, w.block.size, between.0),
      omega (arith, w.block.was, w.block.after, w.block.size, between.1),
    )

-- what the block gives back
pub shrinking-below : (number offset need name address : ℕ) (r : Resized) (l now : CarrierList)
    (new : List Content) → l ≡ now
    → (w : IsResizing number offset (λ m. need) name address r l.contents new)
    → need + MIN_BLOCK
    ≤ size_of (block_in now.contents (record { carrier = number; offset = offset }))
    → r.size + MIN_BLOCK ≤ r.was
shrinking-below number offset need name address r l now new same w fewer =
    omega (
      arith,
      block-there (λ b. need + MIN_BLOCK ≤ size_of b) l.contents number offset w.content w.there
          (subst (λ (m : CarrierList). need + MIN_BLOCK ≤ size_of (block_in m.contents (record {
            carrier = number;
            offset = offset;
          }))) (sym same) fewer),
      w.block.was,
      w.block.size,
    )
