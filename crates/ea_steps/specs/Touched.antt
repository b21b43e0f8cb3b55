-- What a step can release, and which carriers it can take away, make or resize, by the state before
-- it and the answer of its row: a few blocks and carriers, however many there are. No other is
-- different after the step.
-- This simulator's own: the sources do not speak of it.
use Rattle.std.specs.Prelude.{ℕ, Bool, true, false, List, [], ◌∷◌, ◌++◌, Option, None, Some}
use Rattle.std.specs.Prelude.{flat_map, map}
use Rattle.ea_model.specs.declared.carriers.Place.{Place}
use Rattle.ea_model.specs.declared.entries.Entry.TheVariants as entry
use Rattle.ea_model.specs.declared.operations.Op.{Op}
use Rattle.ea_model.specs.declared.operations.Op.TheVariants as op
use Rattle.ea_model.specs.Content.{Content}
use Rattle.ea_model.specs.Entries.{Entry}
use Rattle.ea_machine.specs.declared.nodes.Named.{Named}
use Rattle.ea_machine.specs.declared.nodes.Node.{Node}
use Rattle.ea_machine.specs.declared.nodes.Node.TheVariants.{Block, Carrier}
use Rattle.ea_machine.specs.declared.stages.Route.{Route}
use Rattle.ea_machine.specs.declared.stages.Route.TheVariants.{Looking, Trying, Settling}
use Rattle.ea_machine.specs.declared.stages.Route.TheVariants.{Abandoning, Sending, Clearing}
use Rattle.ea_machine.specs.declared.stages.Route.TheVariants.{Pushing, Linking}
use Rattle.ea_machine.specs.declared.stages.Stage.{Stage}
use Rattle.ea_machine.specs.declared.stages.Stage.TheVariants.{Begin, Routed, Collecting, Searching}
use Rattle.ea_machine.specs.declared.stages.Stage.TheVariants.{Fetching, Creating, Giving, Taking}
use Rattle.ea_machine.specs.declared.stages.Stage.TheVariants.{Ended, Ready}
use Rattle.ea_machine.specs.declared.tasks.Task.{Task}
use Rattle.ea_machine.specs.declared.tasks.Task.TheVariants.{Freeing, Moving}
use Rattle.ea_machine.specs.declared.tasks.Why.{Why}
use Rattle.ea_machine.specs.declared.tasks.Why.TheVariants.{Walk, For}
use Rattle.ea_machine.specs.Actor.{Actor, on_route}
use Rattle.ea_machine.specs.Nodes.{named_at}
use Rattle.ea_machine.specs.Rows.{Answer, Done, Head, Rests, Passes, Saw, Won, Lost, Home, Got, Row}
use Rattle.ea_machine.specs.Rows.{TakeAll, TakeLink, Look, Push, Link, BusyTry, Settle, Abandon}
use Rattle.ea_machine.specs.Rows.{FetchTry, Create, SendHome, Clear, Give, TakeTry, Nothing}
use Rattle.ea_machine.specs.Setup.{Setup, migration}
use Rattle.ea_machine.specs.Walks.{with_passed}
use Rattle.ea_steps.specs.Changes.{added}
use Rattle.ea_steps.specs.Steps.{Step, answer_of, row_of}

abbrev pub as_list : {A : Type 0} → Option A → List A
as_list None = []
as_list (Some x) = x ∷ []

-- the block in the hand on a route that may release it by its next row
abbrev pub hand_on : Route Content → List Named
hand_on (Looking hand) = hand ∷ []
hand_on (Trying hand seen) = hand ∷ []
hand_on (Settling x) = []
hand_on (Abandoning x) = []
hand_on (Sending x) = []
hand_on (Clearing x) = []
hand_on (Pushing node to) = []
hand_on (Linking node to) = []

-- the block of a node
abbrev pub block_of : Node → List Named
block_of (Block name spot) = record { name = name; spot = spot } ∷ []
block_of (Carrier number) = []

abbrev pub blocks_of : List Node → List Named
blocks_of nodes = flat_map block_of nodes

-- the name whose block an operation frees, or gives a new size
abbrev pub freed_by : Op → List ℕ
freed_by (op.Alloc name bytes) = []
freed_by (op.Free name) = name ∷ []
freed_by (op.Realloc old fresh bytes) = old ∷ []
freed_by (op.Give name to) = []
freed_by (op.Take name tries) = []
freed_by op.Info = []
freed_by op.Idle = []

abbrev pub first_freed : List Op → List ℕ
first_freed [] = []
first_freed (o ∷ ops) = freed_by o

-- the block that the present operation frees, or gives a new size, if its scheduler holds the name
abbrev pub of_operation : Actor → List Named
of_operation a = flat_map (λ name. as_list (named_at name a.held)) (first_freed a.todo)

-- of a scheduler at the begin of an operation whose carriers don't migrate: where its walk ends by
-- this answer, all blocks that it passed, and that of the operation; where it rests, or there is
-- none, that of the operation
abbrev pub at_begin : Actor → Answer → List Named
at_begin a (Head None) = of_operation a
at_begin a (Head (Some newest)) = []
at_begin a Rests = of_operation a
at_begin a (Passes None) = blocks_of (with_passed a.next a.passed) ++ of_operation a
at_begin a (Passes (Some older)) = []
at_begin a Done = []
at_begin a (Saw seen) = []
at_begin a (Won content) = []
at_begin a (Lost present) = []
at_begin a (Home content) = []
at_begin a (Got spot) = []

-- once a node of the walk was sent on: all others that it passed, and that of the operation
abbrev pub after_node : Actor → Why → List Named
after_node a Walk = blocks_of a.passed ++ of_operation a
after_node a (For task) = []

-- by the route
abbrev pub at_route : Actor → Why → Route Content → List Named
at_route a why (Looking hand) = []
at_route a why (Trying hand seen) = []
at_route a why (Settling x) = []
at_route a why (Abandoning x) = []
at_route a why (Sending x) = []
at_route a why (Clearing x) = []
at_route a why (Pushing node to) = []
at_route a why (Linking node to) = after_node a why

-- by where the scheduler is, if carriers don't migrate
abbrev pub at_stage : Actor → Answer → Stage Content → List Named
at_stage a r Begin = at_begin a r
at_stage a r (Routed route why gone) = at_route a why route
at_stage a r (Collecting number) = []
at_stage a r (Searching ask at part) = []
at_stage a r (Fetching ask at part seen) = []
at_stage a r (Creating ask p) = []
at_stage a r (Giving given to) = []
at_stage a r (Taking name tries left) = []
at_stage a r Ended = []
at_stage a r Ready = []

-- the blocks that a step may release, by whether carriers migrate
abbrev pub touched : Bool → Actor → Answer → List Named
touched true a r = on_route [] hand_on a.stage
touched false a r = at_stage a r a.stage

-- the carrier that a row deallocates
abbrev pub cleared_by : Row → List ℕ
cleared_by TakeAll = []
cleared_by TakeLink = []
cleared_by (Look number) = []
cleared_by (Push node to) = []
cleared_by (Link node to) = []
cleared_by (BusyTry number seen) = []
cleared_by (Settle x) = []
cleared_by (Abandon x) = []
cleared_by (FetchTry number seen) = []
cleared_by (Create number) = []
cleared_by (SendHome x) = []
cleared_by (Clear number) = number ∷ []
cleared_by (Give given) = []
cleared_by (TakeTry name) = []
cleared_by Nothing = []

-- the carrier that a row creates
abbrev pub created_by : Row → List ℕ
created_by TakeAll = []
created_by TakeLink = []
created_by (Look number) = []
created_by (Push node to) = []
created_by (Link node to) = []
created_by (BusyTry number seen) = []
created_by (Settle x) = []
created_by (Abandon x) = []
created_by (FetchTry number seen) = []
created_by (Create number) = number ∷ []
created_by (SendHome x) = []
created_by (Clear number) = []
created_by (Give given) = []
created_by (TakeTry name) = []
created_by Nothing = []

-- the carriers in which blocks of these names lie
abbrev pub carriers_of : List Named → List ℕ
carriers_of names = map (λ n. n.spot.carrier) names

-- the carriers that a step may take away
abbrev pub may_go : Bool → Actor → Row → Answer → List ℕ
may_go migrates a row r = cleared_by row ++ carriers_of (touched migrates a r)

-- the carriers whose pages a step may change
abbrev pub may_shrink : Actor → List ℕ
may_shrink a = carriers_of (of_operation a)

-- where an entry says that a block lies now
abbrev pub placed_by : Entry → List Place
placed_by (entry.Alloc name p) = p ∷ []
placed_by (entry.AllocFail name need looked why) = []
placed_by (entry.Free name) = []
placed_by (entry.FreeQueued name to) = []
placed_by (entry.FreeSkipped name) = []
placed_by (entry.ReallocHere old fresh p) = p ∷ []
placed_by (entry.ReallocMoved old fresh p) = p ∷ []
placed_by (entry.ReallocQueued old fresh p to) = p ∷ []
placed_by (entry.ReallocFail old fresh need looked why) = []
placed_by (entry.ReallocSkipped old fresh) = []
placed_by (entry.Give name to) = []
placed_by (entry.GiveSkipped name to) = []
placed_by (entry.Take name) = []
placed_by (entry.TakeAbsent name tries) = []
placed_by (entry.Info reports) = []
placed_by entry.Idle = []
placed_by (entry.Stopped steps) = []

-- where the new block lies of a reallocation whose old one is on its way
abbrev pub moved_by : Task → List Place
moved_by (Freeing name) = []
moved_by (Moving old fresh p) = p ∷ []

abbrev pub moved_for : Why → List Place
moved_for Walk = []
moved_for (For task) = moved_by task

abbrev pub moved_at : Stage Content → List Place
moved_at Begin = []
moved_at (Routed route why gone) = moved_for why
moved_at (Collecting number) = []
moved_at (Searching ask at part) = []
moved_at (Fetching ask at part seen) = []
moved_at (Creating ask p) = []
moved_at (Giving given to) = []
moved_at (Taking name tries left) = []
moved_at Ended = []
moved_at Ready = []

-- where a block lies that the step placed
abbrev pub placed : Step → List Place
placed s = moved_at (s.after.actors s.scheduler).stage ++ flat_map placed_by (added s)

-- the carriers that a step may make, by what it came to and logged
abbrev pub may_come : Step → List ℕ
may_come s = created_by (row_of s) ++ map (λ p. p.carrier) (placed s)

module _ (setup : Setup) where
  -- the same of a step
  abbrev pub touched_in : Step → List Named
  touched_in s = touched (migration setup) (s.before.actors s.scheduler) (answer_of s)

  abbrev pub may_go_in : Step → List ℕ
  may_go_in s = may_go (migration setup) (s.before.actors s.scheduler) (row_of s) (answer_of s)

  abbrev pub may_shrink_in : Step → List ℕ
  may_shrink_in s = may_shrink (s.before.actors s.scheduler)
