-- Which of the blocks that a step could release are gone, by the state after it and by the entries
-- that it added to its scheduler's log, as the log keeps them.
-- This simulator's own: the sources do not speak of it.
use Rattle.std.specs.Prelude.{ℕ, Bool, not, ◌&&◌, List, [], filter, flat_map, map}
use Rattle.std.specs.List.{list_any}
use Rattle.ea_model.specs.declared.entries.Entry as declared
use Rattle.ea_model.specs.Entries.{told}
use Rattle.ea_machine.specs.Setup.{Setup}
use Rattle.ea_machine.specs.State.{State}
use Rattle.ea_steps.specs.declared.placed.PlacedBlock.{PlacedBlock}
use Rattle.ea_steps.specs.Changes.{renames}
use Rattle.ea_steps.specs.Found.{is_there}
use Rattle.ea_steps.specs.Text.{released_text}

-- whether one of the entries gives the block of that name a new one, whatever reports they have
abbrev pub is_renamed : List (declared.Entry ℕ) → ℕ → Bool
is_renamed entries name = list_any (renames name) (map (told []) entries)

module _ (setup : Setup) (w : State) (entries : List (declared.Entry ℕ)) where
  -- whether none of its name begins at the spot of the block, and the block has no other name
  abbrev pub is_gone : PlacedBlock → Bool
  is_gone x = not (is_there setup w x) && not (is_renamed entries x.block.name)

  -- the lines of those of the blocks that are gone
  abbrev pub gone_lines : List PlacedBlock → List ℕ
  gone_lines blocks = flat_map released_text (filter is_gone blocks)
