-- Schedulers in a state in which nobody steps, and what is printed then (`IsOutcome`). `IsOutcome`
-- speaks of all turns after which the schedulers stand so; the outcome of all is one.
use Rattle.std.specs.Prelude.{◌≡◌, ℕ, ◌+◌, ◌-◌, ◌*◌, ◌≤◌, nat_le, Bool, true, false, ◌&&◌}
use Rattle.std.specs.Prelude.{List, [], ◌∷◌, Option, None, Some, All, AllPairs, flat_map, is_some}
use Rattle.std.specs.Prelude.{length, map, option_map, slice_get, sum_by}
use Rattle.std.specs.List.{range_with_len}
use Rattle.std.specs.Option.{option_and_then, option_or}
use Rattle.ea_model.specs.declared.carriers.BlockAt.{BlockAt}
use Rattle.ea_model.specs.declared.carriers.CarrierLine.{CarrierLine}
use Rattle.ea_model.specs.declared.carriers.Spot.{Spot}
use Rattle.ea_model.specs.declared.carriers.Standing.{Standing}
use Rattle.ea_model.specs.declared.carriers.Standing.TheVariants as standing
use Rattle.ea_model.specs.declared.carriers.Totals.{Totals}
use Rattle.ea_model.specs.declared.outcome.Outcome.{Outcome}
use Rattle.ea_model.specs.declared.settings.Config.{Config}
use Rattle.ea_model.specs.declared.trace.Trace.{Trace}
use Rattle.ea_model.specs.declared.units.TheConstants.{HEADER_UNITS, MAX_SCHEDULERS, NUMBERS}
use Rattle.ea_model.specs.declared.units.TheConstants.{PAGE_UNITS}
use Rattle.ea_model.specs.Content.{Content, block_at, size_of}
use Rattle.ea_model.specs.Instance.{content_of, employed, owner_of}
use Rattle.ea_model.specs.Keyed.{IsBelow}
use Rattle.ea_model.specs.Outcome.{plain_outcome}
use Rattle.ea_machine.specs.declared.nodes.Named.{Named}
use Rattle.ea_machine.specs.Machine.{run}
use Rattle.ea_machine.specs.Nodes.{name_of}
use Rattle.ea_machine.specs.Outcome as machine
use Rattle.ea_machine.specs.Outcome.{Present, line_of, settling_at}
use Rattle.ea_machine.specs.Owners.{CarrierAt, Absent, Employed, Pooled, Busy, Returning}
use Rattle.ea_machine.specs.Setup.{migration, setup_of}
use Rattle.ea_machine.specs.Stops.{stop_of}
use Rattle.ea_machine.specs.Statistics.{leaving_at}
use Rattle.ea_sched.specs.declared.state.Scheduler.{Scheduler}
use Rattle.ea_sched.specs.Acting.{actor_of, stop_line}

-- given names stand by rising name, from 1 up to the greatest
pub record AreGiven (greatest : ℕ) (given : List Named) : Type 0 where
  pub rising : AllPairs (IsBelow name_of) given
  pub within : All (λ n. (1 ≤ n.name) × (n.name ≤ greatest)) given

-- where the carrier of a number is; where carriers don't migrate, it can only be with its owner
abbrev pub place_by : Bool → (ℕ → CarrierAt) → ℕ → CarrierAt
place_by true places number = places number
place_by false places number = Employed (owner_of number)

-- the content of a carrier that a scheduler employs: one that is about to leave is in its hand
abbrev pub employed_by : ℕ → Scheduler → Option Content
employed_by number s = option_or (content_of (leaving_at s.stage) number)
    (content_of (employed s.instance) number)

-- a carrier that is there with its content
abbrev pub found : Standing → ℕ → Option Content → Option Present
found word i o = option_map (λ x. record { content = x; word = word; employer = i }) o

module _ (schedulers : List Scheduler) where
  -- what f finds with the scheduler of that number
  abbrev pub with_scheduler : (Scheduler → Option Content) → ℕ → Option Content
  with_scheduler f i = option_and_then f (slice_get schedulers (i - 1))

  -- the carrier of the number, if it is there, by where it is
  abbrev pub carrier_at : ℕ → CarrierAt → Option Present
  carrier_at number Absent = None
  carrier_at number (Employed i) =
      found standing.Employed i (with_scheduler (employed_by number) i)
  carrier_at number (Pooled i largest x) = found standing.Pooled i (Some x)
  carrier_at number (Busy i) =
      found standing.Busy i (with_scheduler (λ s. settling_at s.stage) i)
  carrier_at number (Returning i x) = found standing.Returning i (Some x)

-- as a list of at most one
abbrev pub lines_if : Option Present → List CarrierLine
lines_if None = []
lines_if (Some p) = line_of p ∷ []

-- schedulers that share these places, by whether carriers migrate
module _ (migrates : Bool) (places : ℕ → CarrierAt) (schedulers : List Scheduler) where
  -- the carrier of the number, if it is there
  abbrev pub carrier_of : ℕ → Option Present
  carrier_of number = carrier_at schedulers number (place_by migrates places number)

  -- the lines of the carriers of the first numbers
  abbrev pub first_lines : ℕ → List CarrierLine
  first_lines n = flat_map (λ number. lines_if (carrier_of number)) (range_with_len 1 n)

  -- the block at a spot, where its carrier is
  abbrev pub block_by : Spot → Option BlockAt
  block_by spot = option_and_then (λ p. block_at p.content.blocks spot.offset)
      (carrier_of spot.carrier)

  -- whether the spot has a block in a carrier with a number
  abbrev pub has_block : Spot → Bool
  has_block spot = nat_le 1 spot.carrier
      && (nat_le spot.carrier (NUMBERS * length schedulers) && is_some (block_by spot))

  abbrev pub HasBlock : Spot → Type 0
  HasBlock spot = has_block spot ≡ true

  -- each of the names has its block
  abbrev pub HaveBlocks : List Named → Type 0
  HaveBlocks names = All (λ n. HasBlock n.spot) names

  -- the units of the block at a spot, or 0
  abbrev pub units_at : Spot → ℕ
  units_at spot = size_of (block_by spot)

  -- those of the blocks of names
  abbrev pub units_named : List Named → ℕ
  units_named names = sum_by (λ n. units_at n.spot) names

  -- of the names that schedulers hold, and of those that are given
  abbrev pub live_units : List Named → ℕ
  live_units given = sum_by (λ s. units_named s.names.held) schedulers + units_named given

  -- each of these names has its block
  pub record AreLive (named : List Named) : Type 0 where
    pub held : All (λ s. HaveBlocks s.names.held) schedulers
    pub given : HaveBlocks named

-- the totals of carriers with these lines, with that many live units: blocks that no name has are
-- on their way to be released
abbrev pub totals_by : List CarrierLine → ℕ → Totals
totals_by lines live =
    let units = sum_by (λ l. PAGE_UNITS * l.pages) lines in
    let allocated = sum_by (λ l. l.allocated) lines in
    let header = HEADER_UNITS * length lines in
    record {
      carriers = length lines;
      units = units;
      live = live;
      queued = allocated - live;
      free = units - header - allocated;
      header = header;
    }

-- live blocks are among all, blocks and headers have no more than all units, and the carriers are
-- few
pub record HaveParts (lines : List CarrierLine) (live : ℕ) : Type 0 where
  pub among : live ≤ sum_by (λ l. l.allocated) lines
  pub rest : sum_by (λ l. l.allocated) lines + HEADER_UNITS * length lines
      ≤ sum_by (λ l. PAGE_UNITS * l.pages) lines
  pub few : length lines ≤ NUMBERS * MAX_SCHEDULERS

module _ (c : Config) (t : Trace) (schedulers : List Scheduler) (places : ℕ → CarrierAt)
    (named : List Named) where
  -- the schedulers are those of the state after these turns, in order, and so are their stops, and
  -- the names are those given there; if carriers migrate, they are at these places there
  pub record StandIn (turns : List ℕ) : Type 0 where
    pub actors : map actor_of schedulers
        ≡ machine.actors_of (setup_of c t) (run (setup_of c t) turns)
    pub stops : map stop_line schedulers
        ≡ map (stop_of (setup_of c t) (run (setup_of c t) turns) turns)
        (range_with_len 1 c.schedulers)
    pub told : migration (setup_of c t) ≡ true → (number : ℕ)
        → places number ≡ (run (setup_of c t) turns).shared.places number
    pub given : named ≡ (run (setup_of c t) turns).shared.given

  -- there are such turns
  abbrev pub Stand : Type 0
  Stand = (turns : List ℕ) × StandIn turns

  -- it is what is printed after all such turns
  abbrev pub IsOutcome : Outcome → Type 0
  IsOutcome outcome = (turns : List ℕ) → StandIn turns
      → plain_outcome outcome ≡ machine.outcome (setup_of c t) turns
