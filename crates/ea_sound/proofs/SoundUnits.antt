-- Blocks, gaps and headers are all units, and each name that stands has the units of its block.
use Rattle.std.proofs.Common.{◌≡◌, refl, ◌≢◌, ℕ, ◌+◌, ◌<◌, ◌∙◌, length, sym, ap, inl, inr, arith}
use Rattle.std.proofs.Common.{get_or}
use Rattle.std.specs.Prelude.{AllPairs, if◌then◌else◌, ◌==◌}
use Rattle.ea_model.specs.declared.carriers.BlockAt.{BlockAt}
use Rattle.ea_model.specs.declared.carriers.Spot.{Spot}
use Rattle.ea_model.specs.Content.{Content, allocated, block_at, free_units, gaps_of, size_of}
use Rattle.ea_model.specs.Keyed.{IsBelow}
use Rattle.ea_model.proofs.Rising.{item_at-each}
use Rattle.ea_laws.proofs.BlockLists.{offset_of}
use Rattle.ea_sound.specs.Contents.{sum_everywhere}
use Rattle.ea_sound.specs.Names.{of_block, of_content}
use Rattle.ea_sound.specs.Ranges.{IsLaidOutAsKind}
use Rattle.ea_machine.specs.Setup.{Setup}
use Rattle.ea_machine.specs.State.{State}
use Rattle.ea_sound.specs.Units.{SumsUnits, size_at, size_in}
use Rattle.ea_sound.specs.Blocks.{spot_at}
use Rattle.ea_sound.specs.Present.{Rule}
use Rattle.ea_sound.specs.Rule.{Kept}
use Rattle.ea_sound.proofs.Anywhere.{everywhere}
use Rattle.ea_sound.proofs.Counted.{Counts, counts-only}
use Rattle.ea_sound.proofs.Global.{IsOf}
use Rattle.ea_sound.proofs.Laid.{alone-rising, alone-units, laid-rising, laid-units}
use Rattle.ea_sound.proofs.SoundNames.{standing-allocated}
use Rattle.ea_sound.proofs.SoundOwners.{number-once}
use Rattle.ea_sound.proofs.SumParts.{AreParts, sum-parts}
use Rattle.ea_sound.proofs.Weights.{sum-same, sum_by-sum_over}

-- the units at a spot count in carriers of its number alone, and there they are those of its block
pub size-of : (p : Spot) → IsOf p.carrier (size_in p)
size-of p x other = by x.number other where
  by : (n : ℕ) → n ≢ p.carrier
      → (if n == p.carrier then size_of (block_at x.blocks p.offset) else 0) ≡ 0
  by n other = grind (arith, other)

pub size-here : (n c size : ℕ) → n ≡ c → (if n == c then size else 0) ≡ size
size-here n c size is = grind (arith, is)

as-rising : (x : Content) → IsLaidOutAsKind x → AllPairs (IsBelow offset_of) x.blocks
as-rising x laid = elim laid [ inl many ↦ laid-rising x many | inr one ↦ alone-rising x one ]

pub as-units : (x : Content) → IsLaidOutAsKind x
    → 8 + allocated x.blocks + free_units (gaps_of x) ≡ x.units
as-units x laid = elim laid [ inl many ↦ laid-units x many | inr one ↦ alone-units x one ]

module _ (e : Setup) (w : State) (k : Kept e w) where
  module _ (x : Content) (laid : IsLaidOutAsKind x) (counts : Counts e w x) where
    block-size : (j : ℕ) (d : BlockAt) → j < length x.blocks
        → of_block (size_at e w) x.number (get_or x.blocks j d) ≡ (get_or x.blocks j d).size
    block-size j d within =
        let b = get_or x.blocks j d in
        counts-only e w x counts (number-once e w k x.number)
        (size_in (spot_at x.number b.offset)) (size-of (spot_at x.number b.offset))
        ∙ size-here x.number x.number (size_of (block_at x.blocks b.offset))
        refl
        ∙ ap size_of (item_at-each offset_of j d x.blocks (as-rising x laid) within)

    names-units : of_content (size_at e w) x ≡ allocated x.blocks
    names-units = sum-same (of_block (size_at e w) x.number) (λ b. b.size) x.blocks block-size
        ∙ sym (sum_by-sum_over (λ (b : BlockAt). b.size) x.blocks)

    content-units : 8 + of_content (size_at e w) x + free_units (gaps_of x) ≡ x.units
    content-units = omega (arith, names-units, as-units x laid)

  -- headers, the units of all names of blocks, and gaps
  all-units : sum_everywhere e (λ x. 8) w + sum_everywhere e (of_content (size_at e w)) w
      + sum_everywhere e (λ x. free_units (gaps_of x)) w ≡ sum_everywhere e (λ x. x.units) w
  all-units =
      let header : Content → ℕ = λ x. 8 in
      let gaps : Content → ℕ = λ x. free_units (gaps_of x) in
      let units : Content → ℕ = λ x. x.units in
      sum-parts header (of_content (size_at e w)) gaps units e w
      (everywhere e w k (AreParts header (of_content (size_at e w)) gaps units)
      (λ i x belongs laid counts. content-units x laid counts))

pub sound-sums : (e : Setup) (w : State) → Rule e w → SumsUnits e w
sound-sums e w rule =
    omega (arith, standing-allocated e w rule (size_at e w), all-units e w rule.kept)
