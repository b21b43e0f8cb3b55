-- What schedulers share: where each carrier is, the queues, what is left of walks, and the names
-- that are given.
-- Source: Erlang/OTP, 'Delayed Dealloc', section 'Functionality Used to Address This problem': the
-- queues. The rest is this simulator's own.
use Rattle.std.specs.Prelude.{ℕ, ◌==◌, if◌then◌else◌, List}
use Rattle.ea_machine.specs.Nodes.{Mark}
use Rattle.ea_machine.specs.declared.nodes.Named.{Named}
use Rattle.ea_machine.specs.Owners.{CarrierAt}

-- what schedulers share
pub record Shared : Type 0 where
  -- where each carrier is, by its number
  pub places : ℕ → CarrierAt
  -- each instance's queue, newest first
  pub queues : ℕ → List Mark
  -- what is left of each instance's walk through the queue that it took, newest first
  pub rests : ℕ → List Mark
  -- the names that are given and not yet taken, by rising name
  pub given : List Named

-- the map with v at k
abbrev pub put : {A : Type 0} → (ℕ → A) → ℕ → A → ℕ → A
put f k v n = if n == k then v else f n

-- the carrier is at that place now
abbrev pub at_place : ℕ → CarrierAt → Shared → Shared
at_place number place s = record s { places = put s.places number place }
