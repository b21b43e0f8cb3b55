-- How a block finds its place. It defines where a place is sought first, and where next.
-- Source: Erlang/OTP, 'Carrier Migration', section 'Searching the pool': the order. The rest is
-- this simulator's own.
use Rattle.std.specs.Prelude.{ℕ, Bool, true, false, Option, None, Some, Result, Ok, Err}
use Rattle.ea_model.specs.declared.carriers.Place.{Place}
use Rattle.ea_model.specs.declared.carriers.Spot.{Spot}
use Rattle.ea_model.specs.declared.carriers.CarrierPlan.{CarrierPlan}
use Rattle.ea_model.specs.declared.entries.NoCarrier.{NoCarrier}
use Rattle.ea_model.specs.Entries.{Entry}
use Rattle.ea_model.specs.declared.entries.Entry.TheVariants as entry
use Rattle.ea_model.specs.Content.{Content}
use Rattle.ea_model.specs.Instance.{chosen_spot, creating, creating_single, is_alone, place_at}
use Rattle.ea_model.specs.Instance.{placing_at, plan, refilled, single_place}
use Rattle.ea_machine.specs.declared.owners.OwnerWord.{OwnerWord}
use Rattle.ea_machine.specs.Nodes.{with_name}
use Rattle.ea_machine.specs.declared.nodes.Named.{Named}
use Rattle.ea_machine.specs.Setup.{Setup, greatest_number, migration}
use Rattle.ea_machine.specs.declared.stages.Stage.TheVariants.{Creating, Fetching, Searching}
use Rattle.ea_machine.specs.declared.parts.Part.{Part}
use Rattle.ea_machine.specs.Lists.{unlisted}
use Rattle.ea_machine.specs.Searches.{Search, fits, goes_on, looked_in, new_search, passed}
use Rattle.ea_machine.specs.Searches.{with_counted}
use Rattle.ea_machine.specs.Actor.{Actor}
use Rattle.ea_machine.specs.declared.tasks.Task.TheVariants.{Moving}
use Rattle.ea_machine.specs.declared.asks.Ask.{Ask}
use Rattle.ea_machine.specs.Rows.{Answer, Saw, Won, Lost}
use Rattle.ea_model.specs.Employment.{employing}
use Rattle.ea_machine.specs.Tasks.{halted, hands_over, logged}

-- the name is held, with its block at the spot
abbrev pub holding : ℕ → Spot → Actor → Actor
holding name spot a = record a { held = with_name (record { name = name; spot = spot }) a.held }

-- where the block of a place begins
abbrev pub spot_of_place : Place → Spot
spot_of_place p = record { carrier = p.carrier; offset = p.offset }

-- what the log says if no carrier was found or created
abbrev pub failed : Ask → ℕ → NoCarrier → Option Named → Entry
failed ask looked why None = entry.AllocFail ask.name ask.need looked why
failed ask looked why (Some old) = entry.ReallocFail old.name ask.name ask.need looked why

-- the instance employs a carrier that it fetched, which is in none of its lists now
abbrev pub fetches : ℕ → Content → Actor → Actor
fetches at x a = record a {
  instance = employing a.instance x;
  lists = unlisted at a.lists;
}

-- the count of its instance is as great as can be
abbrev pub refills : Actor → Actor
refills a = record a { instance = refilled a.instance }

module _ (setup : Setup) (me : ℕ) where
  -- the block is placed: an allocation is over, and of a reallocation the old block goes
  abbrev pub stands : ℕ → Place → Option Named → Actor → Actor
  stands name place None a = logged (entry.Alloc name place) a
  stands name place (Some old) a = hands_over setup me (Moving old.name name place) old a

  -- the block is placed at a spot
  abbrev pub placed_at : Ask → Actor → Spot → Actor
  placed_at ask a spot = stands ask.name (place_at a.instance spot ask.need) ask.old
      (holding ask.name spot
      (record a { instance = placing_at a.instance spot ask.need ask.name }))

  -- the block is placed at the chosen spot; there is always one
  abbrev pub placed_by : Ask → Actor → Option Spot → Actor
  placed_by ask a None = halted a
  placed_by ask a (Some spot) = placed_at ask a spot

  -- the block is placed where the strategy chooses, once there is a carrier for it
  abbrev pub placed_in_choice : Ask → Actor → Actor
  placed_in_choice ask a = placed_by ask a (chosen_spot a.instance ask.need)

  -- a carrier was created, and whether it is a singleblock carrier: the block is placed in it, or
  -- where the strategy chooses with the new carrier among the others
  abbrev pub created_by : Ask → CarrierPlan → Actor → Bool → Actor
  created_by ask p a true = stands ask.name (single_place p ask.need) ask.old
      (holding ask.name (spot_of_place (single_place p ask.need))
      (record a { instance = creating_single a.instance p ask.need ask.name }))
  created_by ask p a false = placed_in_choice ask (record a { instance = creating a.instance p })

  -- the carrier of the plan was created, and the block is placed
  abbrev pub created : Ask → CarrierPlan → Actor → Actor
  created ask p a = created_by ask p a p.single

  -- whether carriers migrate: only then is it a step to create one
  abbrev pub making : Ask → CarrierPlan → Actor → Bool → Actor
  making ask p a true = record a { stage = Creating ask p }
  making ask p a false = created ask p a

  -- a carrier is created as planned, or the operation fails
  abbrev pub new_carrier_by : Ask → ℕ → Actor → Result CarrierPlan NoCarrier → Actor
  new_carrier_by ask looked a (Ok p) = making ask p a (migration setup)
  new_carrier_by ask looked a (Err why) = logged (failed ask looked why ask.old) a

  -- a new carrier is planned, after a search that counted that many words
  abbrev pub new_carrier : Ask → ℕ → Actor → Actor
  new_carrier ask looked a = new_carrier_by ask looked a (plan a.instance ask.need)

  -- whether the search looks at one more number
  abbrev pub searched_by : Ask → Search → Actor → Bool → Actor
  searched_by ask x a true = record a { stage = Searching ask x.at x.part }
  searched_by ask x a false = new_carrier ask (looked_in x.part) a

  -- the search looks at its next number, if there is one, and a new carrier is planned else. It
  -- leaves the lists as they are now
  abbrev pub search_on : Ask → Search → Actor → Actor
  search_on ask x a = searched_by ask x (record a { lists = x.lists }) (goes_on x.part)

  -- whether carriers migrate: then one is searched for
  abbrev pub search_if : Ask → Actor → Bool → Actor
  search_if ask a true = search_on ask (new_search (greatest_number setup) a.lists) a
  search_if ask a false = new_carrier ask 0 a

  -- the block is placed at the chosen spot, if there is one
  abbrev pub chosen_by : Ask → Actor → Option Spot → Actor
  chosen_by ask a (Some spot) = placed_at ask a spot
  chosen_by ask a None = search_if ask (refills a) (migration setup)

  -- whether the block has a carrier of its own
  abbrev pub seek_by : Ask → Actor → Bool → Actor
  seek_by ask a true = new_carrier ask 0 (refills a)
  seek_by ask a false = chosen_by ask a (chosen_spot a.instance ask.need)

  -- a block is to be placed: above the singleblock threshold in a carrier of its own, else where
  -- the strategy chooses among the employed carriers, or in one that a search fetches, or in a new
  -- one
  abbrev pub seek : Ask → Actor → Actor
  seek ask a = seek_by ask a (is_alone a.instance ask.need)

  -- the search goes past the number, whose carrier it doesn't get
  abbrev pub pass : Ask → ℕ → Part → Actor → OwnerWord → Actor
  pass ask at part a w = search_on ask (passed (greatest_number setup) a.lists at part w) a

  -- whether the word that was seen fits
  abbrev pub saw_by : Ask → ℕ → Part → Actor → OwnerWord → Bool → Actor
  saw_by ask at part a w true = record a { stage = Fetching ask at part w }
  saw_by ask at part a w false = pass ask at part a w

  -- the search looked at a number
  abbrev pub searched : Ask → ℕ → Part → Actor → Answer → Actor
  searched ask at part a (Saw w) = saw_by ask at (with_counted w part) a w (fits ask.need w)
  searched ask at part a _ = halted a

  -- the carrier was fetched, and the block is placed; or another scheduler was faster, and the
  -- search goes on
  abbrev pub fetched : Ask → ℕ → Part → Actor → Answer → Actor
  fetched ask at part a (Won x) = placed_in_choice ask (fetches at x a)
  fetched ask at part a (Lost w) = pass ask at part a w
  fetched ask at part a _ = halted a
