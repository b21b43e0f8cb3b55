-- Blocks of a name at an instance: each change of it adds one at most, and of the new name alone.
use Rattle.std.proofs.Common.{◌≡◌, ◌≢◌, ℕ, ◌+◌, ◌≤◌, List, [], ◌∷◌, refl, ap, inl, inr, arith}
use Rattle.std.specs.Prelude.{Option, None, Some, ◌==◌}
use Rattle.std.proofs.lemmas.Bool.{cases_eq}
use Rattle.ea_model.specs.declared.carriers.BlockAt.{BlockAt}
use Rattle.ea_model.specs.declared.carriers.CarrierPlan.{CarrierPlan}
use Rattle.ea_model.specs.declared.carriers.Spot.{Spot}
use Rattle.ea_model.specs.declared.reallocation.Decision.{Decision}
use Rattle.ea_model.specs.declared.reallocation.Decision.TheVariants.{Stay, ShrinkHere, GrowHere}
use Rattle.ea_model.specs.declared.reallocation.Decision.TheVariants.{ShrinkCarrier, Move}
use Rattle.ea_model.specs.Content.{Content, block_at, gap_at, gaps_of, released, taken_of}
use Rattle.ea_model.specs.Instance.{Instance, creating, creating_single, decision_at, placing_at}
use Rattle.ea_model.specs.Instance.{releasing_at, resized_to, resizing_at}
use Rattle.ea_model.specs.Keyed.{changed_at}
use Rattle.ea_model.proofs.Rising.{changed_here, changed_past}
use Rattle.ea_laws.specs.Kept.{number_of, IsOrderly}
use Rattle.ea_laws.specs.Spots.{HasGap}
use Rattle.ea_laws.proofs.BlockLists.{offset_of}
use Rattle.ea_laws.proofs.Resized.{with_size}
use Rattle.ea_sound.specs.Contents.{sum_everywhere}
use Rattle.ea_sound.specs.Names.{to_make}
use Rattle.ea_machine.specs.Setup.{Setup}
use Rattle.ea_machine.specs.State.{State}
use Rattle.ea_machine.specs.Sums.{one_if, sum_over}
use Rattle.ea_sound.specs.Blocks.{employed_sum}
use Rattle.ea_sound.proofs.BlockWeights.{HasRisingBlocks, block-rising}
use Rattle.ea_sound.proofs.EmployedWeights.{employed_sum-creating, employed_sum-creating_single}
use Rattle.ea_sound.proofs.EmployedWeights.{employed_sum-placing, employed_sum-resizing}
use Rattle.ea_sound.proofs.KeyedWeights.{changed-missing, sum-changed, sum-entered}
use Rattle.ea_sound.proofs.KeyedWeights.{sum-without_less, times-once}
use Rattle.ea_laws.proofs.Orderly.{stays-employed}
use Rattle.ea_laws.proofs.Resizing.{content_after}

-- a name, and what is counted of its blocks, by the numbers and the bases of their carriers: each
-- once at most
pub record Counting : Type 0 where
  pub name : ℕ
  pub counts : (number base : ℕ) → BlockAt → ℕ
  pub small : (number base : ℕ) (b : BlockAt) → counts number base b ≤ one_if (b.name == name)

-- every block of the name
abbrev pub all_of : ℕ → Counting
all_of n = record {
  name = n;
  counts = λ number base b. one_if (b.name == n);
  small = λ number base b. omega arith;
}

-- what is counted of a carrier, and of an instance
abbrev pub blocks_named : Counting → Content → ℕ
blocks_named n x = sum_over (n.counts x.number x.base) x.blocks

abbrev pub all_named : Counting → Instance → ℕ
all_named n i = employed_sum (blocks_named n) i

-- what is counted everywhere, and the operations that are still to make the name
abbrev pub alive : Setup → Counting → State → ℕ
alive e n w = sum_everywhere e (blocks_named n) w + to_make e n.name w

module _ {A : Type 0} (key_of : A → ℕ) (g : A → A) (key : ℕ) (f : A → ℕ)
    (less : (x : A) → f (g x) ≤ f x) where
  sum-changed_less : (xs : List A) → sum_over f (changed_at key_of g key xs) ≤ sum_over f xs
  sum-changed_less [] = omega arith
  sum-changed_less (x ∷ xs) =
      elim (cases_eq (key_of x) key) [
        | inl e ↦ omega (
          arith,
          ap (sum_over f) (changed_here key_of g key x xs e),
          less x,
          sum-changed_less xs,
        )
        | inr n ↦ omega
            (arith, ap (sum_over f) (changed_past key_of g key x xs n), sum-changed_less xs)
      ]

module _ (n : Counting) where
  pub released-fewer : (x : Content) (offset : ℕ)
      → blocks_named n (released x offset) ≤ blocks_named n x
  released-fewer x offset = sum-without_less offset_of (n.counts x.number x.base) offset x.blocks

  pub releasing-fewer : (i : Instance) (spot : Spot)
      → all_named n (releasing_at i spot) ≤ all_named n i
  releasing-fewer i spot =
      let f : Content → Content = λ x. released x spot.offset in
      let less = λ (x : Content). released-fewer x spot.offset in
      omega (
        arith,
        sum-changed_less number_of f spot.carrier (blocks_named n) less i.contents,
        sum-changed_less number_of f spot.carrier (blocks_named n) less i.singles,
      )

  pub placing-fewer : (i : Instance) (spot : Spot) (need name : ℕ) → IsOrderly i
      → HasGap need spot.carrier spot.offset i.contents
      → all_named n (placing_at i spot need name) ≤ one_if (name == n.name) + all_named n i
  placing-fewer i spot need name order gap =
      let c = gap.0 in
      let b : BlockAt = record {
        name = name;
        offset = spot.offset;
        size = taken_of (gap_at (gaps_of c) spot.offset) need;
      } in
      omega (
        arith,
        employed_sum-placing (blocks_named n) i spot need name c order gap.1,
        sum-entered offset_of (n.counts c.number c.base) b c.blocks,
        n.small c.number c.base b,
      )

  pub creating-fewer : (i : Instance) (p : CarrierPlan)
      → all_named n (creating i p) ≤ all_named n i
  creating-fewer i p = omega (arith, employed_sum-creating (blocks_named n) i p)

  pub creating_single-fewer : (i : Instance) (p : CarrierPlan) (need name : ℕ)
      → all_named n (creating_single i p need name) ≤ one_if (name == n.name) + all_named n i
  creating_single-fewer i p need name =
      omega (
        arith,
        employed_sum-creating_single (blocks_named n) i p need name,
        n.small p.number p.base (record { name = name; offset = 8; size = need }),
      )

  -- a block gets the name
  module _ (x : Content) (offset size name : ℕ) where
    abbrev counted : BlockAt → ℕ
    counted b = n.counts x.number x.base b

    in_blocks : HasRisingBlocks x → (o : Option BlockAt) → block_at x.blocks offset ≡ o
        → sum_over counted (changed_at offset_of (with_size size name) offset x.blocks)
        ≤ one_if (name == n.name) + sum_over counted x.blocks
    in_blocks rising None none = omega (
      arith,
      ap (sum_over counted)
          (changed-missing offset_of (with_size size name) offset x.blocks none),
    )
    in_blocks rising (Some b) found = omega (
      arith,
      sum-changed offset_of (with_size size name) offset counted b x.blocks
          (times-once offset_of offset x.blocks rising) found,
      n.small x.number x.base (with_size size name b),
    )

    after-fewer : (d : Decision) → HasRisingBlocks x → d ≢ Move
        → blocks_named n (content_after d offset size name x)
        ≤ one_if (name == n.name) + blocks_named n x
    after-fewer Stay rising stays = in_blocks rising (block_at x.blocks offset) refl
    after-fewer ShrinkHere rising stays = in_blocks rising (block_at x.blocks offset) refl
    after-fewer GrowHere rising stays = in_blocks rising (block_at x.blocks offset) refl
    after-fewer (ShrinkCarrier pages) rising stays =
        in_blocks rising (block_at x.blocks offset) refl
    after-fewer Move rising stays = absurd (stays refl)

  pub resizing-fewer : (i : Instance) (spot : Spot) (need name : ℕ) → IsOrderly i
      → decision_at i spot need ≢ Move
      → all_named n (resizing_at i spot need name) ≤ one_if (name == n.name) + all_named n i
  resizing-fewer i spot need name order stays =
      let (c, there) = stays-employed i spot need order stays in
      omega (
        arith,
        employed_sum-resizing i spot need name c order there (blocks_named n),
        after-fewer c spot.offset (resized_to i spot need) name (decision_at i spot need)
            (block-rising i spot.carrier c order there) stays,
      )
