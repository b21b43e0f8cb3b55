-- What is printed of a state.
use Rattle.std.specs.Prelude.{ℕ, Bool, true, false, List, [], ◌∷◌, ◌++◌, Option, None, Some}
use Rattle.std.specs.Prelude.{flat_map, map, sum_by}
use Rattle.std.specs.List.{range_with_len}
use Rattle.ea_model.specs.declared.carriers.Spot.{Spot}
use Rattle.ea_model.specs.declared.carriers.CarrierLine.{CarrierLine}
use Rattle.ea_model.specs.declared.carriers.Totals.{Totals}
use Rattle.ea_model.specs.declared.carriers.Standing.{Standing}
use Rattle.ea_model.specs.declared.carriers.Standing.TheVariants as standing
use Rattle.ea_model.specs.Entries.{Entry}
use Rattle.ea_model.specs.declared.outcome.Outcome.{Outcome}
use Rattle.ea_model.specs.declared.trace.Trace.{Trace}
use Rattle.ea_model.specs.declared.settings.Config.{Config}
use Rattle.ea_model.specs.Content.{Content, size_of}
use Rattle.ea_model.specs.Trace.{listed}
use Rattle.ea_model.specs.Instance.{block_in, carrier_line, content_of, is_used, totals, owner_of}
use Rattle.ea_machine.specs.declared.nodes.Node.{Node}
use Rattle.ea_machine.specs.declared.nodes.Node.TheVariants.{Block, Carrier}
use Rattle.ea_machine.specs.Nodes.{Mark}
use Rattle.ea_machine.specs.Owners.{CarrierAt, Absent, Employed, Pooled, Busy, Returning}
use Rattle.ea_machine.specs.Owners.{employed_if}
use Rattle.ea_machine.specs.Setup.{Setup, greatest_number, migration, setup_of}
use Rattle.ea_machine.specs.declared.stages.Stage.{Stage}
use Rattle.ea_machine.specs.declared.stages.Route.{Route}
use Rattle.ea_machine.specs.declared.stages.Route.TheVariants.{Looking, Trying, Settling}
use Rattle.ea_machine.specs.declared.stages.Route.TheVariants.{Abandoning, Sending, Clearing}
use Rattle.ea_machine.specs.declared.stages.Route.TheVariants.{Pushing, Linking}
use Rattle.ea_machine.specs.Actor.{Actor, on_route}
use Rattle.ea_machine.specs.State.{State}
use Rattle.ea_machine.specs.Stops.{stop_of}
use Rattle.ea_machine.specs.Completion.{course_of}
use Rattle.ea_machine.specs.Machine.{run}
use Rattle.ea_machine.specs.Statistics.{employed_multis, employed_singles}

-- the content in the hand of a carrier that was made busy
abbrev pub settling_on : Route Content → Option Content
settling_on (Looking hand) = None
settling_on (Trying hand seen) = None
settling_on (Settling x) = Some x
settling_on (Abandoning x) = None
settling_on (Sending x) = None
settling_on (Clearing x) = None
settling_on (Pushing node to) = None
settling_on (Linking node to) = None

-- the same, by where the scheduler is
abbrev pub settling_at : Stage Content → Option Content
settling_at stage = on_route None settling_on stage

-- a carrier that is there: its content, and where it is
pub record Present : Type 0 where
  pub content : Content
  pub word : Standing
  pub employer : ℕ

-- its line
abbrev pub line_of : Present → CarrierLine
line_of p = record (carrier_line p.employer p.content) { word = p.word }

-- as a list of at most one
abbrev pub present_if : Option Content → Standing → ℕ → List Present
present_if None word i = []
present_if (Some x) word i = record { content = x; word = word; employer = i } ∷ []

-- the block of a node
abbrev pub block_of : Node → List Spot
block_of (Block name spot) = spot ∷ []
block_of (Carrier number) = []

-- the block in the hand on a route; once it was pushed it is in a queue
abbrev pub hand_on : Route Content → List Spot
hand_on (Looking hand) = hand.spot ∷ []
hand_on (Trying hand seen) = hand.spot ∷ []
hand_on (Settling x) = []
hand_on (Abandoning x) = []
hand_on (Sending x) = []
hand_on (Clearing x) = []
hand_on (Pushing node to) = block_of node
hand_on (Linking node to) = []

-- the block in a scheduler's hand
abbrev pub hand_at : Stage Content → List Spot
hand_at stage = on_route [] hand_on stage

-- the blocks of the nodes of a queue or a walk
abbrev pub marked : List Mark → List Spot
marked ms = flat_map (λ m. block_of m.node) ms

-- the units of the blocks at these spots
abbrev pub units_at : List Content → List Spot → ℕ
units_at xs spots = sum_by (λ p. size_of (block_in xs p)) spots

module _ (setup : Setup) (w : State) where
  -- the carrier of the number, by where it is
  abbrev pub present_at : ℕ → CarrierAt → List Present
  present_at number Absent = []
  present_at number (Employed i) = present_if
      (content_of (employed_multis (w.actors i) ++ employed_singles (w.actors i)) number)
      standing.Employed i
  present_at number (Pooled i g x) = present_if (Some x) standing.Pooled i
  present_at number (Busy i) = present_if (settling_at (w.actors i).stage) standing.Busy i
  present_at number (Returning i x) = present_if (Some x) standing.Returning i

  -- by whether carriers migrate
  abbrev pub place_in : Bool → ℕ → CarrierAt
  place_in true number = w.shared.places number
  place_in false number = employed_if
      (is_used number (w.actors (owner_of number)).instance.own) (owner_of number)

  -- where a carrier is; where carriers don't migrate, its owner employs it while it is there
  abbrev pub place_of : ℕ → CarrierAt
  place_of number = place_in (migration setup) number

  -- all carriers that are there, by number
  abbrev pub present : List Present
  present = flat_map (λ number. present_at number (place_of number))
      (range_with_len 1 (greatest_number setup))

  -- the schedulers
  abbrev pub actors_of : List Actor
  actors_of = map (λ i. w.actors i) (range_with_len 1 setup.schedulers)

  -- the blocks of held and of given names
  abbrev pub live_spots : List Spot
  live_spots = flat_map (λ a. map (λ n. n.spot) a.held) actors_of
      ++ map (λ n. n.spot) w.shared.given

  -- the blocks in a queue, a walk or a hand
  abbrev pub queued_spots : List Spot
  queued_spots = flat_map (λ i. marked (w.shared.queues i) ++ marked (w.shared.rests i))
      (range_with_len 1 setup.schedulers)
      ++ flat_map (λ a. flat_map block_of a.passed ++ hand_at a.stage) actors_of

  -- the sums over these contents, which are all
  abbrev pub totals_of : List Content → Totals
  totals_of xs = record (totals xs) {
    live = units_at xs live_spots;
    queued = units_at xs queued_spots;
  }

  -- the sums over all carriers that are there
  abbrev pub sums : Totals
  sums = totals_of (map (λ p. p.content) present)

  -- what is printed of the state, if the logs say this of stops
  abbrev pub outcome_with : (ℕ → List Entry) → Outcome
  outcome_with stop = record {
    logs = listed (map (λ i. listed ((w.actors i).log ++ stop i))
        (range_with_len 1 setup.schedulers));
    carriers = listed (map line_of present);
    totals = sums;
  }

-- what is printed of a run once these turns are taken
abbrev pub outcome : Setup → List ℕ → Outcome
outcome setup turns =
    let w = run setup turns in outcome_with setup w (stop_of setup w turns)

-- what is printed of the run of a trace that has a schedule or is generated
abbrev pub outcome_of : Config → Trace → Outcome
outcome_of c t = outcome (setup_of c t) (course_of (setup_of c t) t.mode)
