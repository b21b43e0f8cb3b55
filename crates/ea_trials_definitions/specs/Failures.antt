-- Words of tests: the items that fail at the moments of a run.
use Rattle.std.specs.Prelude.{ℕ, suc, Bool, true, false, List, [], ◌∷◌, ◌++◌, ◌&&◌, Option, map}
use Rattle.std.specs.Prelude.{option_map}
use Rattle.ea_model.specs.declared.carriers.OwnCarrier.{OwnCarrier}
use Rattle.ea_machine.specs.declared.nodes.Node.{Node}
use Rattle.ea_machine.specs.declared.nodes.Node.TheVariants as node
use Rattle.ea_machine.specs.Nodes.{block_node}
use Rattle.ea_machine.specs.Setup.{Setup, greatest_number}
use Rattle.ea_machine.specs.State.{State}
use Rattle.ea_trials_definitions.specs.Counts.{Seen, counts_carriers, counts_links, counts_names}
use Rattle.ea_trials_definitions.specs.Counts.{counts_nodes, counts_own, counts_units, lays_out}
use Rattle.ea_trials_definitions.specs.Counts.{lists_carriers}
use Rattle.ea_trials_definitions.specs.Counts.{prints_sums, stay_with_owners, records_gaps}
use Rattle.ea_trials_definitions.specs.Courses.{Course, states_of}

-- what is counted in a state
pub data Item : Type 0 where
  -- blocks and carriers lie apart
  Ranges : Item
  -- each carrier is in one place, main and singleblock carriers with their owners
  Carriers : Item
  -- each instance owns the carriers that it created and that are there
  Own : Item
  -- it lists those of them, by number, that are away from it
  Lists : Item
  -- each name is in one place, and those that stand are the blocks
  Names : Item
  -- a pooled carrier's largest gap is recorded
  Gaps : Item
  -- all units are accounted for
  Units : Item
  -- and printed
  Prints : Item
  -- a carrier that returns has one node
  Nodes : Item
  -- a node that isn't linked is about to be
  Links : Item

-- an item fails at a moment, the moments counted from 0 on
pub record Failure : Type 0 where
  pub moment : ℕ
  pub item : Item

-- the item, if it doesn't hold
abbrev pub failed : ℕ → Bool → Item → List Failure
failed k true item = []
failed k false item = record { moment = k; item = item } ∷ []

-- the numbers of the carriers, 0 and one above all numbers
abbrev pub numbers_in : Setup → Seen → List ℕ
numbers_in setup seen = 0 ∷ suc (greatest_number setup)
    ∷ map (λ (o : OwnCarrier). o.number) seen.own

-- the nodes that may stand
abbrev pub nodes_in : Setup → Seen → List Node
nodes_in setup seen = map block_node seen.names
    ++ map (λ number. node.Carrier number) (numbers_in setup seen)

-- the items that fail in a state
abbrev pub failures_at : Setup → Seen → ℕ → State → List Failure
failures_at setup seen k state = let numbers = numbers_in setup seen in
    failed k (lays_out setup state) Ranges
    ++ failed k (counts_carriers setup state numbers && stay_with_owners setup state) Carriers
    ++ failed k (counts_own setup state seen.own) Own
    ++ failed k (lists_carriers setup state numbers) Lists
    ++ failed k (counts_names setup state seen.names) Names
    ++ failed k (records_gaps setup state numbers) Gaps
    ++ failed k (counts_units setup state) Units
    ++ failed k (prints_sums setup state) Prints
    ++ failed k (counts_nodes setup state numbers) Nodes
    ++ failed k (counts_links setup state (nodes_in setup seen)) Links

-- in states that follow one another
abbrev pub failures_in : Setup → Seen → ℕ → List State → List Failure
failures_in setup seen k [] = []
failures_in setup seen k (state ∷ states) = failures_at setup seen k state
    ++ failures_in setup seen (suc k) states

-- at all moments of a course, but for those within a search of the pool
abbrev pub failures : Seen → Option Course → Option (List Failure)
failures seen course = option_map (λ c. failures_in c.moment.setup seen 0 (states_of c)) course
