-- Weights of blocks by their names and spots, through each change of their carrier.
use Rattle.std.proofs.Common.{◌≡◌, ◌≢◌, ℕ, ◌+◌, ◌≤◌, get_or, refl, ap, arith}
use Rattle.std.specs.Prelude.{Some, All, AllPairs}
use Rattle.ea_model.specs.declared.carriers.BlockAt.{BlockAt}
use Rattle.ea_model.specs.declared.carriers.Spot.{Spot}
use Rattle.ea_model.specs.declared.reallocation.Decision.{Decision}
use Rattle.ea_model.specs.declared.reallocation.Decision.TheVariants.{Stay, ShrinkHere, GrowHere}
use Rattle.ea_model.specs.declared.reallocation.Decision.TheVariants.{ShrinkCarrier, Move}
use Rattle.ea_model.specs.Content.{Content, block_at, placed, released, resized}
use Rattle.ea_model.specs.Instance.{Instance, content_of, employed}
use Rattle.ea_model.specs.Keyed.{IsBelow}
use Rattle.ea_model.proofs.Merged.{merged-All}
use Rattle.ea_model.proofs.Rising.{item_at-All, item_at-key}
use Rattle.ea_laws.specs.Kept.{number_of, IsOrderly}
use Rattle.ea_laws.proofs.BlockLists.{offset_of}
use Rattle.ea_laws.proofs.Resized.{with_size}
use Rattle.ea_sound.specs.Names.{of_block, of_content, only_at}
use Rattle.ea_sound.specs.Blocks.{spot_at, employed_sum}
use Rattle.ea_sound.proofs.EmployedWeights.{employed_sum-employed}
use Rattle.ea_sound.proofs.KeyedWeights.{item-hit, times, times-once, sum-changed, sum-entered}
use Rattle.ea_sound.proofs.KeyedWeights.{sum-without}
use Rattle.ea_sound.proofs.Laid.{alone-rising, laid-rising}
use Rattle.ea_laws.proofs.Resizing.{content_after}
use Rattle.ea_sound.proofs.Weights.{sum-zero}

-- the blocks of each carrier that is employed stand by rising offset
abbrev pub HasRisingBlocks : Content → Type 0
HasRisingBlocks c = AllPairs (IsBelow offset_of) c.blocks

employed-blocks_rise : (i : Instance) → IsOrderly i → All HasRisingBlocks (employed i)
employed-blocks_rise i order = merged-All number_of HasRisingBlocks i.contents i.singles
    (λ k d within. laid-rising _ (order.laid k d within))
    (λ k d within. alone-rising _ (order.alone k d within))

pub block-rising : (i : Instance) (n : ℕ) (c : Content) → IsOrderly i
    → content_of (employed i) n ≡ Some c → HasRisingBlocks c
block-rising i n c order there = item_at-All number_of HasRisingBlocks n c (employed i)
    (employed-blocks_rise i order) there

module _ (f : ℕ → Spot → ℕ) (c : Content) (offset : ℕ) where
  abbrev here : Spot
  here = spot_at c.number offset

  -- with a block more
  pub sum-placed : (need name : ℕ)
      → of_content f (placed c offset need name) ≡ f name here + of_content f c
  sum-placed need name = sum-entered offset_of (of_block f c.number) _ c.blocks

  module _ (b : BlockAt) (rising : HasRisingBlocks c) (found : block_at c.blocks offset ≡ Some b)
    where
      once : times offset_of offset c.blocks ≤ 1
      once = times-once offset_of offset c.blocks rising

      at_offset : f b.name (spot_at c.number b.offset) ≡ f b.name here
      at_offset = ap (λ n. f b.name (spot_at c.number n))
          (item_at-key offset_of offset b c.blocks found)

      -- without one of them
      pub sum-released : f b.name here + of_content f (released c offset) ≡ of_content f c
      sum-released = omega (
        arith,
        sum-without offset_of (of_block f c.number) offset b c.blocks once found,
        at_offset,
      )

      -- with another name, and whatever units
      sum-resized : (size name : ℕ)
          → f b.name here + of_content f (resized c offset size name)
          ≡ f name here + of_content f c
      sum-resized size name = omega (
        arith,
        sum-changed offset_of (with_size size name) offset (of_block f c.number) b c.blocks once
            found,
        at_offset,
        ap (λ n. f name (spot_at c.number n)) (item_at-key offset_of offset b c.blocks found),
      )

      pub sum-after : (d : Decision) (size name : ℕ) → d ≢ Move
          → f b.name here + of_content f (content_after d offset size name c)
          ≡ f name here + of_content f c
      sum-after Stay size name stays = sum-resized size name
      sum-after ShrinkHere size name stays = sum-resized size name
      sum-after GrowHere size name stays = sum-resized size name
      sum-after (ShrinkCarrier pages) size name stays = sum-resized size name
      sum-after Move size name stays = absurd (stays refl)

-- where a block of this name and spot counts, it stands there
module _ (n : ℕ) (p : Spot) where
  abbrev counts : ℕ → Spot → ℕ
  counts = only_at n p

  pub only_at-itself : only_at n p n p ≡ 1
  only_at-itself = grind arith

  other_offset : (number : ℕ) (b : BlockAt) → b.offset ≢ p.offset
      → of_block counts number b ≡ 0
  other_offset number b other = grind arith

  other_number : (number : ℕ) (b : BlockAt) → number ≢ p.carrier → of_block counts number b ≡ 0
  other_number number b other = grind arith

  its_name : (number : ℕ) (b : BlockAt) → 1 ≤ of_block counts number b → b.name ≡ n
  its_name number b some = grind arith

  -- not in a carrier of another number
  pub other-content : (c : Content) → c.number ≢ p.carrier → of_content counts c ≡ 0
  other-content c other =
      sum-zero (of_block counts c.number) c.blocks
      (λ i d within. other_number c.number (get_or c.blocks i d) other)

  -- but in that carrier
  pub content-hit : (c : Content) → HasRisingBlocks c → 1 ≤ of_content counts c
      → (b : BlockAt) × (block_at c.blocks p.offset ≡ Some b) × (b.name ≡ n)
  content-hit c rising some =
      let hit = item-hit offset_of (of_block counts c.number) p.offset c.blocks
      (λ b other. other_offset c.number b other) (times-once offset_of p.offset c.blocks rising)
      some in
      (hit.0, hit.1, its_name c.number hit.0 hit.2)

  pub employed-hit : (i : Instance) → IsOrderly i → 1 ≤ employed_sum (of_content counts) i
      → (c : Content) × (content_of (employed i) p.carrier ≡ Some c)
      × ((b : BlockAt) × (block_at c.blocks p.offset ≡ Some b) × (b.name ≡ n))
  employed-hit i order some =
      let hit = item-hit number_of (of_content counts) p.carrier (employed i) other-content
      (times-once number_of p.carrier (employed i) order.once)
      (omega (arith, some, employed_sum-employed (of_content counts) i)) in (
        hit.0,
        hit.1,
        content-hit hit.0 (block-rising i p.carrier hit.0 order hit.1) hit.2,
      )
