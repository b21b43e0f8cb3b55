-- What plain memory tells of what schedulers share.
use Rattle.std.specs.Prelude.{ℕ, Bool, List, None, Some}
use Rattle.ea_machine.specs.declared.nodes.Named.{Named}
use Rattle.ea_machine.specs.Nodes.{Mark}
use Rattle.ea_machine.specs.Owners.{CarrierAt}
use Rattle.ea_machine.specs.Shared.{Shared}
use Rattle.ea_shared.specs.AtRest.{SharedAtRest}
use Rattle.ea_shared.specs.Calls.{Told}
use Rattle.ea_queues.specs.Chains.{marks_of}
use Rattle.ea_mem_shared.specs.Places.{place_at}

-- the queues, and what is left of walks, of instances by their number, with none at 0, each newest
-- first; the names that are given, by rising name; where carriers are, by their number; how many
-- schedulers share them, the greatest name, and whether carriers migrate
pub record Sharing : Type 0 where
  pub queues : List (List Mark)
  pub rests : List (List Mark)
  pub given : List Named
  pub places : List CarrierAt
  pub schedulers : ℕ
  pub greatest : ℕ
  pub migrates : Bool

-- what is shared in the memory
abbrev pub shared_of : Sharing → Shared
shared_of m = record {
  places = place_at m.places;
  queues = marks_of m.queues;
  rests = marks_of m.rests;
  given = m.given;
}

-- what it tells: what is shared, and no caller
abbrev pub told_of : Sharing → Told
told_of m = record {
  schedulers = m.schedulers;
  greatest = m.greatest;
  migrates = m.migrates;
  shared = Some (shared_of m);
  caller = None;
}

-- what it tells where nobody steps
abbrev pub at_rest : Sharing → SharedAtRest
at_rest m = record {
  schedulers = m.schedulers;
  greatest = m.greatest;
  migrates = m.migrates;
  places = place_at m.places;
  named = m.given;
}
