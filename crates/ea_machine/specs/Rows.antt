-- The rows of the table of atomic steps. Each reads or writes one word that is shared: an owner
-- word, the head of a queue, a link, or whether a name is given. That a step reads or writes one
-- word is this simulator's own, and so are names that are given and taken.
-- Source of what is done: Erlang/OTP, 'Carrier Migration', sections 'Migration' and 'Carrier Pool'.
-- Source of what is done to queues: Erlang/OTP, 'Delayed Dealloc', section 'Functionality Used to
-- Address This problem'.
use Rattle.std.specs.Prelude.{ℕ, Option}
use Rattle.ea_model.specs.declared.carriers.Spot.{Spot}
use Rattle.ea_model.specs.Content.{Content}
use Rattle.ea_machine.specs.declared.nodes.Node.{Node}
use Rattle.ea_machine.specs.declared.owners.OwnerWord.{OwnerWord}
use Rattle.ea_machine.specs.declared.nodes.Named.{Named}

-- what a scheduler does to what is shared, in one step
pub data Row : Type 0 where
  -- take the whole of its own queue, to walk it
  TakeAll : Row
  -- read the link of the walk's next node, and pass the node if it is linked
  TakeLink : Row
  -- read a carrier's owner word
  Look : (number : ℕ) → Row
  -- put a node in front of an instance's queue
  Push : (node : Node) (to : ℕ) → Row
  -- link that node to the older ones
  Link : (node : Node) (to : ℕ) → Row
  -- make its own pooled carrier busy, if the owner word is still the one seen
  BusyTry : (number : ℕ) (seen : OwnerWord) → Row
  -- put the busy carrier back into the pool, or employ it where it is empty
  Settle : (content : Content) → Row
  -- put an employed carrier into the pool
  Abandon : (content : Content) → Row
  -- employ a pooled carrier, if the owner word is still the one seen
  FetchTry : (number : ℕ) (seen : OwnerWord) → Row
  -- employ a new carrier
  Create : (number : ℕ) → Row
  -- mark an empty carrier of another owner as returning
  SendHome : (content : Content) → Row
  -- deallocate an empty carrier of its own
  Clear : (number : ℕ) → Row
  -- give a name to whoever takes it
  Give : (given : Named) → Row
  -- take a name, if it is given
  TakeTry : (name : ℕ) → Row
  -- nothing: its text is done
  Nothing : Row

-- what a scheduler learns by a row
pub data Answer : Type 0 where
  -- that it is done
  Done : Answer
  -- the node that was newest in the queue
  Head : (node : Option Node) → Answer
  -- that the walk's next node isn't linked yet
  Rests : Answer
  -- that it is passed, and which node is next
  Passes : (next : Option Node) → Answer
  -- the owner word
  Saw : (seen : OwnerWord) → Answer
  -- that the try was won: the carrier's content comes into its hand
  Won : (content : Content) → Answer
  -- that the try was lost: the present owner word
  Lost : (present : OwnerWord) → Answer
  -- the content that the cleared carrier had at home, if it was returning
  Home : (content : Option Content) → Answer
  -- where the given name's block begins, if it is given
  Got : (spot : Option Spot) → Answer
