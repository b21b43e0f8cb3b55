-- What a step did: which blocks it released, which carriers went, were made, or have fewer pages,
-- and what it added to its scheduler's log.
-- This simulator's own: the sources do not speak of it.
use Rattle.std.specs.Prelude.{ℕ, ◌/◌, Bool, false, not, ◌&&◌, nat_lt, ◌==◌, List, drop, filter}
use Rattle.std.specs.Prelude.{◌++◌, [], flat_map, length, map}
use Rattle.std.specs.List.{list_any}
use Rattle.ea_model.specs.declared.entries.Entry.TheVariants as entry
use Rattle.ea_model.specs.declared.units.TheConstants.{PAGE_UNITS}
use Rattle.ea_model.specs.Content.{Content}
use Rattle.ea_model.specs.Entries.{Entry}
use Rattle.ea_model.specs.Keyed.{merged}
use Rattle.ea_machine.specs.Outcome.{present}
use Rattle.ea_machine.specs.Setup.{Setup}
use Rattle.ea_machine.specs.State.{State}
use Rattle.ea_machine.specs.Stops.{less, stop_at}
use Rattle.ea_steps.specs.declared.placed.PlacedBlock.{PlacedBlock}
use Rattle.ea_steps.specs.Steps.{Step}

-- the blocks of a carrier
abbrev pub blocks_in : Content → List PlacedBlock
blocks_in x = map (λ b. record { carrier = x.number; block = b }) x.blocks

-- the blocks by rising name
abbrev pub by_name : List PlacedBlock → List PlacedBlock
by_name blocks = merged (λ x. x.block.name) blocks []

-- whether the two are one carrier: where one goes, and another is made under its number, their
-- births differ
abbrev pub same_carrier : Content → Content → Bool
same_carrier x y = (x.number == y.number) && (x.birth == y.birth)

abbrev pub pages_of : Content → ℕ
pages_of x = x.units / PAGE_UNITS

-- whether the entry is that of a reallocation in place, by which the block of the old name has a
-- new one
abbrev pub renames : ℕ → Entry → Bool
renames name (entry.ReallocHere old fresh place) = old == name
renames name (entry.Alloc fresh place) = false
renames name (entry.AllocFail fresh need looked why) = false
renames name (entry.Free old) = false
renames name (entry.FreeQueued old to) = false
renames name (entry.FreeSkipped old) = false
renames name (entry.ReallocMoved old fresh place) = false
renames name (entry.ReallocQueued old fresh place to) = false
renames name (entry.ReallocFail old fresh need looked why) = false
renames name (entry.ReallocSkipped old fresh) = false
renames name (entry.Give given to) = false
renames name (entry.GiveSkipped given to) = false
renames name (entry.Take taken) = false
renames name (entry.TakeAbsent taken tries) = false
renames name (entry.Info reports) = false
renames name entry.Idle = false
renames name (entry.Stopped steps) = false

-- what the step adds to its scheduler's log, but for a stop
abbrev pub added : Step → List Entry
added s = drop (length (s.before.actors s.scheduler).log) (s.after.actors s.scheduler).log

-- whether the step gives the block of that name a new one
abbrev pub is_renamed : Step → ℕ → Bool
is_renamed s name = list_any (renames name) (added s)

module _ (setup : Setup) where
  -- the contents of the carriers that are there, by number
  abbrev pub contents : State → List Content
  contents w = map (λ p. p.content) (present setup w)

  abbrev pub has_carrier : State → Content → Bool
  has_carrier w x = list_any (same_carrier x) (contents w)

  -- the blocks that are there, in whatever content
  abbrev pub blocks : State → List PlacedBlock
  blocks w = flat_map blocks_in (contents w)

  abbrev pub has_block : State → ℕ → Bool
  has_block w name = list_any (λ x. x.block.name == name) (blocks w)

  -- whether the name of a block before the step has none after it, and the block has no other name
  abbrev pub is_released : Step → PlacedBlock → Bool
  is_released s x = not (has_block s.after x.block.name) && not (is_renamed s x.block.name)

  -- the blocks that the step released, by rising name, as they were before it
  abbrev pub released : Step → List PlacedBlock
  released s = by_name (filter (is_released s) (blocks s.before))

  -- the carriers that were there before the step and aren't after it, by rising number
  abbrev pub gone : Step → List Content
  gone s = filter (λ x. not (has_carrier s.after x)) (contents s.before)

  -- whether the carrier was there before the step with more pages
  abbrev pub is_shrunk : Step → Content → Bool
  is_shrunk s x = list_any (λ y. same_carrier x y && nat_lt (pages_of x) (pages_of y))
      (contents s.before)

  -- the carriers that the step left with fewer pages, by rising number, as they are after it
  abbrev pub shrunk : Step → List Content
  shrunk s = filter (is_shrunk s) (contents s.after)

  -- the carriers that are there after the step and weren't before it, by rising number
  abbrev pub made : Step → List Content
  made s = filter (λ x. not (has_carrier s.before x)) (contents s.after)

  -- what the scheduler's log says of a stop by this step
  abbrev pub stopped : Step → List Entry
  stopped s = stop_at (s.after.actors s.scheduler).stage (setup.stops s.scheduler)
      (less (setup.stops s.scheduler) s.own)

  -- all that the step adds to its scheduler's log
  abbrev pub logged : Step → List Entry
  logged s = added s ++ stopped s
