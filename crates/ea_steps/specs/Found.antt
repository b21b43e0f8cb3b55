-- What is asked of the blocks that a step may release: before it, which block begins at the spot of
-- each; after it, whether a block of the name still begins there.
-- This simulator's own: the sources do not speak of it.
use Rattle.std.specs.Prelude.{Bool, false, not, ◌&&◌, ◌==◌, List, Option, filter, flat_map}
use Rattle.std.specs.Prelude.{option_map}
use Rattle.std.specs.Option.{option_and_then, option_map_or}
use Rattle.ea_model.specs.declared.carriers.BlockAt.{BlockAt}
use Rattle.ea_model.specs.declared.carriers.Spot.{Spot}
use Rattle.ea_model.specs.Content.{block_at}
use Rattle.ea_model.specs.Keyed.{item_at}
use Rattle.ea_machine.specs.declared.nodes.Named.{Named}
use Rattle.ea_machine.specs.Outcome.{present}
use Rattle.ea_machine.specs.Setup.{Setup}
use Rattle.ea_machine.specs.State.{State}
use Rattle.ea_steps.specs.declared.placed.PlacedBlock.{PlacedBlock}
use Rattle.ea_steps.specs.Changes.{by_name, is_renamed}
use Rattle.ea_steps.specs.Steps.{Step}
use Rattle.ea_steps.specs.Touched.{as_list, touched_in}

-- where a block begins
abbrev pub spot_of : PlacedBlock → Spot
spot_of x = record { carrier = x.carrier; offset = x.block.offset }

module _ (setup : Setup) where
  -- the block that begins at a spot
  abbrev pub block_there : State → Spot → Option BlockAt
  block_there w spot = option_and_then (λ p. block_at p.content.blocks spot.offset)
      (item_at (λ p. p.content.number) (present setup w) spot.carrier)

  -- the block that begins at the spot of a name
  abbrev pub placed_at : State → Named → Option PlacedBlock
  placed_at w hand = option_map (λ b. record { carrier = hand.spot.carrier; block = b })
      (block_there w hand.spot)

  -- the blocks that a step may release, as they are before it
  abbrev pub found_before : Step → List PlacedBlock
  found_before s = flat_map (λ n. as_list (placed_at s.before n)) (touched_in setup s)

  -- whether a block of the same name begins at the spot of the block
  abbrev pub is_there : State → PlacedBlock → Bool
  is_there w x = option_map_or (λ b. b.name == x.block.name) (block_there w (spot_of x)) false

  -- whether none does after the step, and the block has no other name
  abbrev pub is_gone : Step → PlacedBlock → Bool
  is_gone s x = not (is_there s.after x) && not (is_renamed s x.block.name)

  -- those of the blocks found before the step that are gone, by rising name
  abbrev pub gone_blocks : Step → List PlacedBlock
  gone_blocks s = by_name (filter (is_gone s) (found_before s))
